use Rattle.std.proofs.Common.{◌≡◌, [], ◌∷◌, ◌++◌, ◌∙◌}
use Rattle.sheet.specs.Fields.{high_first, written}
use Rattle.sheet.specs.Records.{tariff_record}
use Rattle.sheet.proofs.Bytes.{to_be_bytes_high_first}
use Rattle.sheet.proofs.records.write_tariff.Goals as goal

pub returns-clause-after : goal.returns-clause-after
unfolding tariff_record
returns-clause-after c =
    let terms = c.args.terms.now in
    let unit : c.to_be_bytes.result ≡ high_first 4 terms.unit = c.to_be_bytes.ensures ∙ to_be_bytes_high_first 4 terms.unit in
    let rate : c.to_be_bytes-2.result ≡ high_first 4 terms.rate = c.to_be_bytes-2.ensures ∙ to_be_bytes_high_first 4 terms.rate in
    let threshold : c.to_be_bytes-3.result ≡ high_first 4 terms.threshold = c.to_be_bytes-3.ensures ∙ to_be_bytes_high_first 4 terms.threshold in
    let offset : c.to_be_bytes-4.result ≡ high_first 4 terms.offset = c.to_be_bytes-4.ensures ∙ to_be_bytes_high_first 4 terms.offset in
    let minimum : c.to_be_bytes-5.result ≡ high_first 4 terms.minimum = c.to_be_bytes-5.ensures ∙ to_be_bytes_high_first 4 terms.minimum in
    let most : c.to_be_bytes-6.result ≡ high_first 4 terms.«cap» = c.to_be_bytes-6.ensures ∙ to_be_bytes_high_first 4 terms.«cap» in
    let vat : c.to_be_bytes-7.result ≡ high_first 2 terms.vat = c.to_be_bytes-7.ensures ∙ to_be_bytes_high_first 2 terms.vat in
    c.put_all.ensures.after
    ∙ λ i. written 0 ((2 ∷ c.args.number ∷ terms.measure ∷ []) ++ (unit i ++ (rate i ++ ((terms.rounding ∷ []) ++ (threshold i ++ (offset i ++ (minimum i ++ (most i ++ (vat i ++ (terms.vat_rounding ∷ [])))))))))) c.args.space.now

use Rattle.std.proofs.Common.{◌≡◌, [], ◌∷◌, ◌++◌, ◌∙◌}
use Rattle.std.proofs.lemmas.List.{append-nil}
use Rattle.sheet.specs.Fields.{high_first, written}
use Rattle.sheet.specs.Records.{line_record}
use Rattle.sheet.proofs.Bytes.{to_be_bytes_high_first}
use Rattle.sheet.proofs.records.write_line.Goals as goal

pub returns-clause-after : goal.returns-clause-after
unfolding line_record
returns-clause-after c =
    let line = c.args.line.now in
    let number : c.to_be_bytes.result ≡ high_first 2 c.args.number = c.to_be_bytes.ensures ∙ to_be_bytes_high_first 2 c.args.number in
    let vehicles : c.to_be_bytes-2.result ≡ high_first 8 line.vehicles.0 = c.to_be_bytes-2.ensures ∙ to_be_bytes_high_first 8 line.vehicles.0 in
    let times : c.to_be_bytes-3.result ≡ high_first 8 line.times.0 = c.to_be_bytes-3.ensures ∙ to_be_bytes_high_first 8 line.times.0 in
    let locations : c.to_be_bytes-4.result ≡ high_first 8 line.locations.0 = c.to_be_bytes-4.ensures ∙ to_be_bytes_high_first 8 line.locations.0 in
    let users : c.to_be_bytes-5.result ++ [] ≡ high_first 8 line.users.0 = append-nil c.to_be_bytes-5.result ∙ c.to_be_bytes-5.ensures ∙ to_be_bytes_high_first 8 line.users.0 in
    c.put_all.ensures.after
    ∙ λ i. written 0 ((3 ∷ []) ++ (number i ++ ((line.tariff ∷ []) ++ (vehicles i ++ (times i ++ (locations i ++ users i)))))) c.args.space.now

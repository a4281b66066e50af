use Rattle.std.proofs.Common.{◌≡◌, ◌-◌, length, get_or, take, drop, sym, ap, ◌∙◌, arith}
use Rattle.std.proofs.lemmas.List.{take_rest}
use Rattle.sheet.specs.Records.{kind_coded}
use Rattle.sheet.specs.Reading.{read_on, kind_taken}
use Rattle.sheet.specs.Refusals.{fault_numbered, left_by}
use Rattle.sheet.proofs.Walk.{NextTaken, next_refused, next_taken, read_end}
use Rattle.sheet.proofs.reading.read_sheet.Goals as goal

taken : (c : goal.In-Ok) → NextTaken c.loop-rest.draft c.take_record.new.self (length c.args.bytes.now) c.loop-rest.rest.now c.in-Ok.after.now
taken c =
    let d = c.loop-rest.draft in
    let bytes = c.loop-rest.rest.now in
    let behind = take (length bytes - 1) (drop 1 bytes) in
    let next = kind_taken d (kind_coded (get_or bytes 0 0)) behind in
    let q = c.in-Ok.ensures.answer in
    next_taken d c.take_record.new.self (length c.args.bytes.now) bytes behind c.in-Ok.after.now c.in-len1-up.len_at_least c.loop-rest.invariant.within (take_rest bytes 1) q.0 (c.in-Ok.ensures.after ∙ ap (λ w. left_by w d next) q.0) q.1

pub loop-rest-preserved : goal.loop-rest-preserved
loop-rest-preserved c =
    let t = taken c in
    record { within = omega (arith, t.fewer, c.loop-rest.invariant.within); outcome = t.same ∙ c.loop-rest.invariant.outcome }

pub returns-in-Err : goal.returns-in-Err
returns-in-Err c =
    let bytes = c.loop-rest.rest.now in
    sym (next_refused c.loop-rest.draft (length c.args.bytes.now - length bytes) bytes (take (length bytes - 1) (drop 1 bytes)) (fault_numbered c.in-Err.fault) c.in-len1-up.len_at_least (take_rest bytes 1) c.in-Err.ensures.answer)
    ∙ c.loop-rest.invariant.outcome

pub returns : goal.returns
returns c =
    let end = length c.args.bytes.now in
    let bytes = c.loop-rest.rest.now in
    let none : length bytes ≡ 0 = omega arith in
    let place : end ≡ end - length bytes = omega arith in
    c.finish.ensures ∙ sym (read_end c.loop-rest.draft end bytes none) ∙ ap (λ p. read_on c.loop-rest.draft p 0 bytes) place ∙ c.loop-rest.invariant.outcome

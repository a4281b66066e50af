use Rattle.std.proofs.Common.{vec_items, length, take, drop, refl, ap, ◌∙◌}
use Rattle.std.proofs.lemmas.List.{take_at}
use Rattle.std.proofs.lemmas.Result.{err_from_is_err_and}
use Rattle.sheet.specs.Writing.{write_refusal, sheet_of}
use Rattle.law.specs.Histories.{done, at_price, wrote, write_call, answer_to}
use Rattle.journal.proofs.Telling.{accepted_step, refused_step, unchanged}
use Rattle.journal.proofs.Writing.{sheet_front}
use Rattle.journal.proofs.runs.answer_in.Goals as goal
use Rattle.journal.proofs.runs.answer_in.Goals.{in-Open+in_ok-open-in-Open, in-Put+in_ok-put-in-Put, in-Add+in_ok-add-in-Add, in-Withdraw+in_ok-withdraw-in-Withdraw, in-Restore+in_ok-restore-in-Restore, in-Strike+in_ok-strike-in-Strike, in-Reopen+in_ok-reopen-in-Reopen}

pub returns-in_err-add-in-Add : goal.returns-in_err-add-in-Add
returns-in_err-add-in-Add g c =
    let p = err_from_is_err_and c.from_residual-in_err-add-in-Add.result c.from_residual-in_err-add-in-Add.ensures.1 in
    rw (p.1, p.2, c.in-Add.is) (refused_step (λ _. done) tt _ refl c.in_err-add-in-Add.ensures.answer c.add.ensures.after tt)

pub returns-in-Price : goal.returns-in-Price
returns-in-Price g c = rw c.in-Price.is (accepted_step at_price _ _ refl c.in_ok-price-in-Price.ensures.answer (unchanged _ _) tt)

pub returns-in-Write : goal.returns-in-Write
returns-in-Write g c =
    let b = c.args.book.now.contents in
    let space = c.deref_mut.result.now in
    let after = c.write.new.space in
    let call = c.args.call.now in
    let same_length = c.deref_mut.ensures.len ∙ c.requires c.in-Write.field-0 c.in-Write.is in
    let items = c.truncate.ensures.items ∙ ap (take c.in_ok-end-in-Write.end) (take_at after (drop (length after) (vec_items c.args.space)) c.args.space.len (c.write.auto.space ∙ c.deref_mut.ensures.len)) in
    rw c.in-Write.is (record {
      answer =
          ap wrote items
          ∙ sheet_front (write_refusal b (length space)) (sheet_of b) space after c.in_ok-end-in-Write.end c.in_ok-end-in-Write.ensures.answer c.in_ok-end-in-Write.ensures.after
          ∙ ap (λ n. answer_to b (write_call n)) same_length;
      contents = unchanged _ _;
      bytes = tt;
    })

pub returns : goal.returns
returns g c =
    elim c.match-call.branch [
      | in-Open+in_ok-open-in-Open w ↦ rw (w.book-is, w.in-Open.is) (accepted_step (λ _. done) tt tt refl w.in_ok-open-in-Open.ensures.answer w.open.ensures.after tt)
      | in-Put+in_ok-put-in-Put w ↦ rw (w.book-is, w.in-Put.is) (accepted_step (λ _. done) tt tt refl w.in_ok-put-in-Put.ensures.answer w.put.ensures.after tt)
      | in-Add+in_ok-add-in-Add w ↦ rw (w.book-is, w.in-Add.is) (accepted_step (λ _. done) tt tt refl w.in_ok-add-in-Add.ensures.answer w.add.ensures.after tt)
      | in-Withdraw+in_ok-withdraw-in-Withdraw w ↦ rw (w.book-is, w.in-Withdraw.is) (accepted_step (λ _. done) tt tt refl w.in_ok-withdraw-in-Withdraw.ensures.answer w.withdraw.ensures.after tt)
      | in-Restore+in_ok-restore-in-Restore w ↦ rw (w.book-is, w.in-Restore.is) (accepted_step (λ _. done) tt tt refl w.in_ok-restore-in-Restore.ensures.answer w.restore.ensures.after tt)
      | in-Strike+in_ok-strike-in-Strike w ↦ rw (w.book-is, w.in-Strike.is) (accepted_step (λ _. done) tt tt refl w.in_ok-strike-in-Strike.ensures.answer w.strike.ensures.after tt)
      | in-Reopen+in_ok-reopen-in-Reopen w ↦ rw (w.book-is, w.in-Reopen.is) (accepted_step (λ _. done) tt tt refl w.in_ok-reopen-in-Reopen.ensures.answer w.reopen.ensures.after tt)
    ]

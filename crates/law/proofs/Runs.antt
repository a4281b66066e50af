-- The plain book stays sound along a history of its own answers, and so every entry of it is lawful.
use Rattle.std.proofs.Common.{◌≡◌, ℕ, true, List, [], ◌∷◌, ◌++◌, Some, None, Option, sym, refl, ap, ◌∙◌, subst}
use Rattle.contents.specs.declared.contents.Contents.{Contents}
use Rattle.contents.specs.Contents.{new_contents}
use Rattle.contents.specs.Calls.{Refused, settled}
use Rattle.book.specs.Sound.{Sound}
use Rattle.book.proofs.Keeps.{settled_sound, new_sound, open_sound, put_sound, add_sound, withdraw_sound, restore_sound, strike_sound, issue_sound, reopen_sound}
use Rattle.book.proofs.FromSheets.{read_sound}
use Rattle.sheet.specs.Acceptable.{Acceptable}
use Rattle.law.specs.Histories.{Asked, open_call, put_call, add_call, withdraw_call, restore_call, strike_call, issue_call, reopen_call, price_call, read_call, write_call, ReadsBytes, Told, is_acceptance, refusal_of, acceptance_of, told_by, answer_to, after_call, plain_step, Entry, History, after_entry, plain_book_from, AnsweredFrom, Answered, entry_of, history_from, history_of}
use Rattle.law.specs.Law.{LawfulEntry, EveryRunIsLawful, AnsweredIsLawful}
use Rattle.law.proofs.Answering.{acceptance_accepts, accepted_exactly, add_named, restore_named, issue_answered, price_answered, read_answered}

-- an accepted call leaves a sound book sound
call-sound : (b : Contents) (a : Asked) → Sound b → refusal_of b a ≡ None → Sound (after_call b a)
call-sound b (open_call counts) s = open_sound b counts s
call-sound b (put_call n terms) s = put_sound b n terms s
call-sound b (add_call n l) s = add_sound b n l s
call-sound b (withdraw_call n) s = withdraw_sound b n s
call-sound b (restore_call n) s = restore_sound b n s
call-sound b (strike_call n) s = strike_sound b n s
call-sound b issue_call s = issue_sound b s
call-sound b reopen_call s = reopen_sound b s
call-sound b (price_call d u) s = λ _. s
call-sound b (read_call bytes) s = read_sound b bytes
call-sound b (write_call space) s = λ _. s

-- the plain book after the call's own answer is what the call leaves
settled_by : (r : Option Refused) (t : Told) (b : Contents) (a : Asked) → is_acceptance t ≡ true → plain_step b a (is_acceptance (told_by r t)) ≡ settled r b (after_call b a)
settled_by (Some x) t b a accepts = refl
settled_by None t b a accepts = ap (plain_step b a) accepts

pub step_settled : (b : Contents) (e : Entry) → e.told ≡ answer_to b e.asked → after_entry b e ≡ settled (refusal_of b e.asked) b (after_call b e.asked)
step_settled b e told = ap (λ t. plain_step b e.asked (is_acceptance t)) told ∙ settled_by (refusal_of b e.asked) (acceptance_of b e.asked) b e.asked (acceptance_accepts b e.asked)

pub step_sound : (b : Contents) (e : Entry) → Sound b → e.told ≡ answer_to b e.asked → Sound (after_entry b e)
step_sound b e s told = subst Sound (sym (step_settled b e told)) (settled_sound (refusal_of b e.asked) b (after_call b e.asked) s (call-sound b e.asked s))

-- an entry that has read a sheet leaves what the sheet holds
entry_read : (b : Contents) (e : Entry) (bytes : List ℕ) → e.told ≡ answer_to b e.asked → e.asked ≡ read_call bytes → ReadsBytes e.asked → is_acceptance e.told ≡ true → Acceptable bytes (after_entry b e)
entry_read b e bytes told asks small accepts =
    let here : e.told ≡ answer_to b (read_call bytes) = told ∙ ap (answer_to b) asks in
    let same : after_entry b e ≡ plain_step b (read_call bytes) (is_acceptance (answer_to b (read_call bytes))) = λ i. plain_step b (asks i) (is_acceptance (here i)) in
    subst (Acceptable bytes) (sym same) (read_answered b bytes (subst ReadsBytes asks small) (sym (ap is_acceptance here) ∙ accepts))

-- an entry that is answered by a sound plain book is lawful
pub entry_lawful : (b : Contents) (e : Entry) → Sound b → e.told ≡ answer_to b e.asked → LawfulEntry b e
entry_lawful b e s told =
    let as_asked : (a : Asked) → e.asked ≡ a → e.told ≡ answer_to b a = λ a same. told ∙ ap (answer_to b) same in
    record {
      accepted = λ bytes. rw told (accepted_exactly b e.asked s bytes);
      at_most_one = s.apart;
      issuing = λ asks draft below. rw (as_asked issue_call asks) (issue_answered b draft below);
      pricing = λ d u asks accepts. rw (as_asked (price_call d u) asks) (price_answered b d u s (rw (as_asked (price_call d u) asks) at accepts));
      adding = λ n l m asks named. add_named b n l m s (sym (as_asked (add_call n l) asks) ∙ named);
      restoring = λ n l m asks at named. restore_named b n l m s at (sym (as_asked (restore_call n) asks) ∙ named);
      reading = λ bytes asks small accepts. entry_read b e bytes told asks small accepts;
      answer = told;
    }

cut_lawful : (b : Contents) → Sound b → (before : History) (e : Entry) (after : History) → AnsweredFrom b (before ++ (e ∷ after)) → LawfulEntry (plain_book_from b before) e
cut_lawful b s [] e after told = entry_lawful b e s told.0
cut_lawful b s (x ∷ before) e after told = cut_lawful (after_entry b x) (step_sound b x s told.0) before e after told.1

pub answered_lawful : AnsweredIsLawful
answered_lawful h told before e after cut = cut_lawful new_contents new_sound before e after (subst Answered cut told)

-- the history of some calls has the answers of the plain book
history_answered : (b : Contents) (calls : List Asked) → AnsweredFrom b (history_from b calls)
history_answered b [] = tt
history_answered b (a ∷ calls) = (refl, history_answered (after_entry b (entry_of b a)) calls)

pub every_run_lawful : EveryRunIsLawful
every_run_lawful calls = answered_lawful (history_of calls) (history_answered new_contents calls)

-- a history that grows by one entry at its end
pub book_push : (b : Contents) (h : History) (e : Entry) → plain_book_from b (h ++ (e ∷ [])) ≡ after_entry (plain_book_from b h) e
book_push b [] e = refl
book_push b (x ∷ h) e = book_push (after_entry b x) h e

pub answered_push : (b : Contents) (h : History) (e : Entry) → AnsweredFrom b h → e.told ≡ answer_to (plain_book_from b h) e.asked → AnsweredFrom b (h ++ (e ∷ []))
answered_push b [] e told here = (here, tt)
answered_push b (x ∷ h) e told here = (told.0, answered_push (after_entry b x) h e told.1 here)

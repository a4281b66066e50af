-- A run so far: every call has the answer of the plain book as it then stood, and the book is the plain book after them.
use Rattle.std.proofs.Common.{◌≡◌, ℕ, ◌+◌, ◌<◌, ◌≤◌, List, [], ◌∷◌, ◌++◌, map, length, get_or, take, sym, refl, ap, ◌∙◌, subst, arith}
use Rattle.std.specs.Prelude.{All}
use Rattle.std.proofs.lemmas.List.Elements.{All-push}
use Rattle.std.proofs.lemmas.List.{length_push, map-append, map_more, take_all}
use Rattle.contents.specs.declared.contents.Contents.{Contents}
use Rattle.contents.specs.Contents.{new_contents}
use Rattle.law.specs.Histories.{Asked, ReadsBytes, Told, answer_to, entry_of, after_entry, plain_book_from, plain_book, history_from, history_of}
use Rattle.law.specs.Law.{Lawful}
use Rattle.law.proofs.Runs.{step_settled, book_push, every_run_lawful}
use Rattle.journal.specs.Asked.{OneStep}
use Rattle.journal.specs.Replays.{entries}

pub record Running (calls : List Asked) (answers : List Told) (b : Contents) : Type 0 where
  pub many : length answers ≡ length calls
  pub history : entries calls answers ≡ history_of calls
  pub book : b ≡ plain_book (history_of calls)
  pub bytes : All ReadsBytes calls

-- a history that grows by one call at its end
history_push : (b : Contents) (calls : List Asked) (a : Asked) → history_from b (calls ++ (a ∷ [])) ≡ history_from b calls ++ (entry_of (plain_book_from b (history_from b calls)) a ∷ [])
history_push b [] a = refl
history_push b (x ∷ calls) a = ap (λ h. entry_of b x ∷ h) (history_push (after_entry b (entry_of b x)) calls a)

entries_push : (calls : List Asked) (answers : List Told) (a : Asked) (t : Told) → length answers ≡ length calls → entries (calls ++ (a ∷ [])) (answers ++ (t ∷ [])) ≡ entries calls answers ++ (record { asked = a; told = t } ∷ [])
entries_push [] [] a t many = refl
entries_push [] (y ∷ answers) a t many = absurd (omega arith)
entries_push (x ∷ calls) [] a t many = absurd (omega arith)
entries_push (x ∷ calls) (y ∷ answers) a t many = ap (λ h. record { asked = x; told = y } ∷ h) (entries_push calls answers a t (omega arith))

pub running_none : Running [] [] new_contents
running_none = record { many = refl; history = refl; book = refl; bytes = λ k d within. absurd (omega arith) }

-- one call more
pub running_more : (calls : List Asked) (answers : List Told) (b : Contents) (a : Asked) (t : Told) (after : Contents) → Running calls answers b → OneStep b a t after → Running (calls ++ (a ∷ [])) (answers ++ (t ∷ [])) after
running_more calls answers b a t after so_far step =
    let plain : Contents = plain_book (history_of calls) in
    let told : t ≡ answer_to plain a = step.answer ∙ ap (λ x. answer_to x a) so_far.book in
    let same : record { asked = a; told = t } ≡ entry_of plain a = ap (λ x. record { asked = a; told = x }) told in
    record {
      many = length_push answers t ∙ ap (λ n. n + 1) so_far.many ∙ sym (length_push calls a);
      history = entries_push calls answers a t so_far.many ∙ ap (λ h. h ++ (record { asked = a; told = t } ∷ [])) so_far.history ∙ ap (λ e. history_of calls ++ (e ∷ [])) same ∙ sym (history_push new_contents calls a);
      book = step.contents ∙ sym (step_settled b (entry_of b a) refl) ∙ ap (λ x. after_entry x (entry_of x a)) so_far.book ∙ sym (book_push new_contents (history_of calls) (entry_of plain a)) ∙ ap plain_book (sym (history_push new_contents calls a));
      bytes = All-push ReadsBytes calls a so_far.bytes step.bytes;
    }

-- the next of some calls, where ask and tell give what is asked and told
pub running_next : {X Y : Type 0} (ask : X → Asked) (tell : Y → Told) (xs : List X) (i : ℕ) (x : X) (ys : List Y) (y : Y) (b after : Contents) → i < length xs → x ≡ get_or xs i x → Running (map ask (take i xs)) (map tell ys) b → OneStep b (ask x) (tell y) after → Running (map ask (take (i + 1) xs)) (map tell (ys ++ (y ∷ []))) after
running_next ask tell xs i x ys y b after within here so_far step =
    let more : map ask (take (i + 1) xs) ≡ map ask (take i xs) ++ (ask x ∷ []) = map_more ask xs i x within ∙ ap (λ z. map ask (take i xs) ++ (ask z ∷ [])) (sym here) in
    rw (more, map-append) (running_more _ _ b (ask x) (tell y) after so_far step)

-- all calls
pub running_all : {X : Type 0} (ask : X → Asked) (xs : List X) (i : ℕ) (answers : List Told) (b : Contents) → length xs ≤ i → Running (map ask (take i xs)) answers b → Running (map ask xs) answers b
running_all ask xs i answers b past so_far = subst (λ calls. Running (map ask calls) answers b) (take_all i xs past) so_far

pub running_lawful : {calls : List Asked} {answers : List Told} {b : Contents} → Running calls answers b → Lawful (entries calls answers)
running_lawful {calls} so_far = subst Lawful (sym so_far.history) (every_run_lawful calls)

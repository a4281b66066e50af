-- What an acceptable sheet holds is written back as the same bytes.
use Rattle.std.proofs.Common.{◌≡◌, ℕ, zero, suc, ◌+◌, ◌-◌, ◌<◌, ◌≤◌, true, leb, ◌≢◌, List, [], ◌∷◌, ◌++◌, length, get_or, set, is_some, Some, None, Option, sym, refl, ap, ◌∙◌, subst, arith}
use Rattle.std.proofs.lemmas.List.{append_assoc, append-nil, length-set, length-replicate, get_or-set_other, get_or-replicate}
use Rattle.std.proofs.lemmas.Bool.{and_parts, leb-true, false≢true}
use Rattle.tariff.specs.declared.terms.Tariff.{Tariff}
use Rattle.tariff.specs.declared.terms.Terms.{Terms}
use Rattle.tariff.specs.Ranges.{checked, numbers_of}
use Rattle.tariff.proofs.Ranges.{checked_exact}
use Rattle.lines.specs.declared.states.Line.{Line}
use Rattle.lines.specs.declared.states.LineState.TheVariants.{Free, Live}
use Rattle.contents.specs.declared.contents.Contents.{Contents}
use Rattle.contents.specs.declared.contents.Phase.TheVariants.{Draft}
use Rattle.contents.specs.Contents.{in_phase, new_contents, with_version, with_tariff, tariff_number, line_number}
use Rattle.contents.specs.Calls.{opened, stored, added}
use Rattle.contents.proofs.Refused.{passed}
use Rattle.sheet.specs.Acceptable.{tariff_records, line_records, RisingFrom, PutInTurn, AddedInTurn, Acceptable}
use Rattle.sheet.specs.Records.{opening_record, tariff_record, line_record, end_record}
use Rattle.sheet.specs.Writing.{tariff_bytes, line_bytes, table_bytes, sheet_of}

-- a table has no record from a place on
abbrev EmptyFrom : {A : Type 0} → (A → ℕ → List ℕ) → ℕ → List A → Type 0
EmptyFrom {A} bytes k xs = (j m : ℕ) (d : A) → k ≤ j → j < length xs → bytes (get_or xs j d) m ≡ []

module _ {A : Type 0} (bytes : A → ℕ → List ℕ) where
  table_none : (n : ℕ) (xs : List A) → EmptyFrom bytes 0 xs → table_bytes bytes n xs ≡ []
  table_none n [] none = refl
  table_none n (x ∷ xs) none =
      ap (λ front. front ++ table_bytes bytes (n + 1) xs) (none 0 n x (omega arith) (omega arith))
      ∙ table_none (n + 1) xs (λ j m d low within. none (suc j) m d (omega arith) (omega arith))

  -- a record put where the records end comes last
  table_set : (n j : ℕ) (x : A) (xs : List A) → j < length xs → EmptyFrom bytes j xs → table_bytes bytes n (set xs j x) ≡ table_bytes bytes n xs ++ bytes x (n + j)
  table_set n j x [] within none = absurd (omega arith)
  table_set n zero x (y ∷ ys) within none =
      let rest = table_none (n + 1) ys (λ i m d low inside. none (suc i) m d (omega arith) (omega arith)) in
      let here = none 0 n y (omega arith) (omega arith) in
      ap (λ tail. bytes x n ++ tail) rest ∙ append-nil (bytes x n) ∙ ap (bytes x) (omega arith)
      ∙ sym (ap (λ front. (front ++ table_bytes bytes (n + 1) ys) ++ bytes x (n + 0)) here ∙ ap (λ tail. tail ++ bytes x (n + 0)) rest)
  table_set n (suc j) x (y ∷ ys) within none =
      ap (λ tail. bytes y n ++ tail) (table_set (n + 1) j x ys (omega arith) (λ i m d low inside. none (suc i) m d (omega arith) (omega arith)))
      ∙ ap (λ k. bytes y n ++ (table_bytes bytes (n + 1) ys ++ bytes x k)) (omega arith)
      ∙ sym (append_assoc (bytes y n) (table_bytes bytes (n + 1) ys) (bytes x (n + suc j)))

  empty_after : (j k : ℕ) (x : A) (xs : List A) → EmptyFrom bytes k xs → k ≤ j → EmptyFrom bytes (j + 1) (set xs j x)
  empty_after j k x xs none below i m d low within =
      let other : i ≢ j = λ e. omega arith in
      ap (λ y. bytes y m) (get_or-set_other xs j i x d other) ∙ none i m d (omega arith) (omega (arith, length-set xs j x))

-- the tariffs that were put are listed after those that were there
tariffs_listed : (tariffs : List (ℕ × Terms)) (b after : Contents) (low : ℕ) → RisingFrom low tariffs → EmptyFrom tariff_bytes (low - 1) b.tariffs → length b.tariffs ≡ 64 → PutInTurn b tariffs after → table_bytes tariff_bytes 1 after.tariffs ≡ table_bytes tariff_bytes 1 b.tariffs ++ tariff_records tariffs
tariffs_listed [] b after low rise none size puts = ap (λ x. table_bytes tariff_bytes 1 x.tariffs) (sym puts) ∙ sym (append-nil (table_bytes tariff_bytes 1 b.tariffs))
tariffs_listed (e ∷ rest) b after low rise none size puts =
    let phase = passed (in_phase Draft b) (1, []) _ puts.0 in
    let number = passed (tariff_number e.0) (3, []) _ phase.1 in
    let range = and_parts (leb 1 e.0) (leb e.0 64) number.0 in
    let made = passed (is_some (checked e.1)) (4, []) None number.1 in
    by (leb-true 1 e.0 range.0) (leb-true e.0 64 range.1) (checked e.1) refl made.0
    (λ t at. tariffs_listed rest (with_tariff e.0 t b) after (e.0 + 1) rise.1)
    puts.1
  where
    n : ℕ
    n = e.0

    Rest : Tariff → Type 0
    Rest t = EmptyFrom tariff_bytes (n + 1 - 1) (set b.tariffs (n - 1) (Some t)) → length (set b.tariffs (n - 1) (Some t)) ≡ 64 → PutInTurn (with_tariff n t b) rest after → table_bytes tariff_bytes 1 after.tariffs ≡ table_bytes tariff_bytes 1 (set b.tariffs (n - 1) (Some t)) ++ tariff_records rest

    by : 1 ≤ n → n ≤ 64 → (o : Option Tariff) → checked e.1 ≡ o → is_some o ≡ true → ((t : Tariff) → checked e.1 ≡ Some t → Rest t) → PutInTurn (stored n o b) rest after → table_bytes tariff_bytes 1 after.tariffs ≡ table_bytes tariff_bytes 1 b.tariffs ++ (tariff_record n e.1 ++ tariff_records rest)
    by one high None at h on then = absurd (false≢true h)
    by one high (Some t) at h on then =
        let within : n - 1 < length b.tariffs = omega (arith, size) in
        let below : EmptyFrom tariff_bytes (n - 1) b.tariffs = λ j m d from inside. none j m d (omega (arith, rise.0)) inside in
        let one_more = table_set tariff_bytes 1 (n - 1) (Some t) b.tariffs within below in
        let same : tariff_record (1 + (n - 1)) (numbers_of t) ≡ tariff_record n e.1 = ap (λ k. tariff_record k (numbers_of t)) (omega arith) ∙ ap (tariff_record n) (checked_exact e.1 t at).1 in
        let shifted : EmptyFrom tariff_bytes (n + 1 - 1) (set b.tariffs (n - 1) (Some t)) = λ j m d from inside. empty_after tariff_bytes (n - 1) (n - 1) (Some t) b.tariffs below (omega arith) j m d (omega arith) inside in
        on t at shifted (length-set b.tariffs (n - 1) (Some t) ∙ size) then
        ∙ ap (λ xs. xs ++ tariff_records rest) (one_more ∙ ap (λ xs. table_bytes tariff_bytes 1 b.tariffs ++ xs) same)
        ∙ append_assoc (table_bytes tariff_bytes 1 b.tariffs) (tariff_record n e.1) (tariff_records rest)

-- the lines that were added are listed after those that were there
lines_listed : (lines : List (ℕ × Line)) (b after : Contents) (low : ℕ) → RisingFrom low lines → EmptyFrom line_bytes (low - 1) b.lines.states → length b.lines.states ≡ 256 → AddedInTurn b lines after → table_bytes line_bytes 1 after.lines.states ≡ table_bytes line_bytes 1 b.lines.states ++ line_records lines
lines_listed [] b after low rise none size adds = ap (λ x. table_bytes line_bytes 1 x.lines.states) (sym adds) ∙ sym (append-nil (table_bytes line_bytes 1 b.lines.states))
lines_listed (e ∷ rest) b after low rise none size adds =
    let n = e.0 in
    let states = b.lines.states in
    let phase = passed (in_phase Draft b) (1, []) _ adds.0 in
    let number = passed (line_number n) (5, []) _ phase.1 in
    let range = and_parts (leb 1 n) (leb n 256) number.0 in
    let one = leb-true 1 n range.0 in
    let high = leb-true n 256 range.1 in
    let within : n - 1 < length states = omega (arith, size) in
    let below : EmptyFrom line_bytes (n - 1) states = λ j m d from inside. none j m d (omega (arith, rise.0)) inside in
    let one_more = table_set line_bytes 1 (n - 1) (Live e.1) states within below in
    let same : line_record (1 + (n - 1)) e.1 ≡ line_record n e.1 = ap (λ k. line_record k e.1) (omega arith) in
    let shifted : EmptyFrom line_bytes (n + 1 - 1) (set states (n - 1) (Live e.1)) = λ j m d from inside. empty_after line_bytes (n - 1) (n - 1) (Live e.1) states below (omega arith) j m d (omega arith) inside in
    lines_listed rest (added n e.1 b) after (n + 1) rise.1 shifted (length-set states (n - 1) (Live e.1) ∙ size) adds.1
    ∙ ap (λ xs. xs ++ line_records rest) (one_more ∙ ap (λ xs. table_bytes line_bytes 1 states ++ xs) same)
    ∙ append_assoc (table_bytes line_bytes 1 states) (line_record n e.1) (line_records rest)

-- put changes tariffs alone, and add changes lines alone
record PutsKeep (b after : Contents) : Type 0 where
  version : after.version ≡ b.version
  counts : after.counts ≡ b.counts
  lines : after.lines ≡ b.lines

one_put : (n : ℕ) (o : Option Tariff) (b : Contents) → PutsKeep b (stored n o b)
one_put n None b = record { version = refl; counts = refl; lines = refl }
one_put n (Some t) b = record { version = refl; counts = refl; lines = refl }

puts_keep : (tariffs : List (ℕ × Terms)) (b after : Contents) → PutInTurn b tariffs after → PutsKeep b after
puts_keep [] b after puts = record { version = ap (λ x. x.version) (sym puts); counts = ap (λ x. x.counts) (sym puts); lines = ap (λ x. x.lines) (sym puts) }
puts_keep (e ∷ rest) b after puts =
    let first = one_put e.0 (checked e.1) b in
    let others = puts_keep rest (stored e.0 (checked e.1) b) after puts.1 in
    record { version = others.version ∙ first.version; counts = others.counts ∙ first.counts; lines = others.lines ∙ first.lines }

record AddsKeep (b after : Contents) : Type 0 where
  version : after.version ≡ b.version
  counts : after.counts ≡ b.counts
  tariffs : after.tariffs ≡ b.tariffs

adds_keep : (lines : List (ℕ × Line)) (b after : Contents) → AddedInTurn b lines after → AddsKeep b after
adds_keep [] b after adds = record { version = ap (λ x. x.version) (sym adds); counts = ap (λ x. x.counts) (sym adds); tariffs = ap (λ x. x.tariffs) (sym adds) }
adds_keep (e ∷ rest) b after adds =
    let others = adds_keep rest (added e.0 e.1 b) after adds.1 in
    record { version = others.version; counts = others.counts; tariffs = others.tariffs }

-- an acceptable sheet is written back byte for byte
pub acceptable_rewritten : (bytes : List ℕ) (b : Contents) → Acceptable bytes b → sheet_of b ≡ bytes
unfolding sheet_of
acceptable_rewritten bytes b a =
    let start : Contents = with_version a.version (opened a.counts new_contents) in
    let put = puts_keep a.tariffs start a.with_tariffs a.puts in
    let add = adds_keep a.lines a.with_tariffs b a.adds in
    let no_tariffs : EmptyFrom tariff_bytes 0 start.tariffs = λ j m d low within. ap (λ o. tariff_bytes o m) (get_or-replicate 64 j None d (omega (arith, length-replicate {A = Option Tariff} 64 None))) in
    let no_lines : EmptyFrom line_bytes 0 start.lines.states = λ j m d low within. ap (λ s. line_bytes s m) (get_or-replicate 256 j Free d (omega (arith, length-replicate 256 Free))) in
    let tariffs : table_bytes tariff_bytes 1 b.tariffs ≡ tariff_records a.tariffs =
    ap (table_bytes tariff_bytes 1) add.tariffs
    ∙ tariffs_listed a.tariffs start a.with_tariffs 0 a.tariffs_rise no_tariffs (length-replicate {A = Option Tariff} 64 None) a.puts
    ∙ ap (λ xs. xs ++ tariff_records a.tariffs) (table_none tariff_bytes 1 start.tariffs no_tariffs) in
    let still_none : EmptyFrom line_bytes 0 a.with_tariffs.lines.states = subst (λ t. EmptyFrom line_bytes 0 t.states) (sym put.lines) no_lines in
    let lines : table_bytes line_bytes 1 b.lines.states ≡ line_records a.lines =
    lines_listed a.lines a.with_tariffs b 0 a.lines_rise still_none (ap (λ t. length t.states) put.lines ∙ length-replicate 256 Free) a.adds
    ∙ ap (λ xs. xs ++ line_records a.lines) (table_none line_bytes 1 a.with_tariffs.lines.states still_none) in
    (λ i. opening_record ((add.version ∙ put.version) i) ((add.counts ∙ put.counts) i) ++ (tariffs i ++ (lines i ++ end_record)))
    ∙ sym a.sheet

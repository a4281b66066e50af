-- How long records are, and writes of whole records.
use Rattle.std.proofs.Common.{◌≡◌, ℕ, ◌+◌, ◌-◌, ◌*◌, ◌<◌, ◌≤◌, leb, List, [], ◌∷◌, ◌++◌, length, get_or, take, drop, Some, None, Option, sym, refl, ap, ◌∙◌, arith}
use borrow.Rule.Slice.PartMut.{put_mid}
use Rattle.std.proofs.lemmas.List.{append-nil, take-append-drop, length-append, drop_more, drop_all, drop-drop}
use Rattle.tariff.specs.declared.terms.Tariff.{Tariff}
use Rattle.tariff.specs.declared.terms.Terms.{Terms}
use Rattle.tariff.specs.Ranges.{numbers_of}
use Rattle.lines.specs.declared.states.Line.{Line}
use Rattle.lines.specs.declared.states.LineState.{LineState}
use Rattle.lines.specs.declared.states.LineState.TheVariants.{Free, Live, Withdrawn}
use Rattle.contents.specs.declared.contents.Contents.{Contents}
use Rattle.std.specs.List.{sum_by}
use Rattle.std.proofs.lemmas.List.Sums.{sum_by-cons, sum_by-le}
use Rattle.sheet.specs.Writing.{tariff_bytes, tariff_size, line_bytes, line_size, table_bytes, sheet_of, write_refusal}
use Rattle.contents.specs.declared.contents.Phase.{Phase}
use Rattle.contents.specs.declared.contents.Phase.TheVariants.{Blank, Draft, Issued}
use Rattle.contents.specs.Calls.{unless}
use Rattle.std.proofs.lemmas.Bool.{le-leb}
use Rattle.sheet.specs.Fields.{written}
use Rattle.sheet.specs.Records.{tariff_record, line_record, end_record}
use Rattle.sheet.proofs.Bytes.{length_high_first}

pub length_tariff_record : (n : ℕ) (p : Terms) → length (tariff_record n p) ≡ 31
unfolding tariff_record
length_tariff_record n p = simp (length-append, length_high_first)

pub length_line_record : (n : ℕ) (l : Line) → length (line_record n l) ≡ 36
unfolding line_record
length_line_record n l = simp (length-append, length_high_first)

-- nothing written
pub written_nothing : (p : ℕ) (space : List ℕ) → written p [] space ≡ space
unfolding written
written_nothing p space = ap (λ n. take p space ++ drop n space) (omega arith) ∙ take-append-drop p space

-- the record of the next number of a table, and the records behind it
pub table_more : {A : Type 0} (bytes : A → ℕ → List ℕ) (n i : ℕ) (xs : List A) (x : A) → i < length xs → x ≡ get_or xs i x → table_bytes bytes n (drop i xs) ≡ bytes x n ++ table_bytes bytes (n + 1) (drop (i + 1) xs)
table_more bytes n i xs x within here =
    ap (table_bytes bytes n) (drop_more xs i x within) ∙ ap (λ y. bytes y n ++ table_bytes bytes (n + 1) (drop (i + 1) xs)) (sym here)

pub table_all : {A : Type 0} (bytes : A → ℕ → List ℕ) (n i : ℕ) (xs : List A) → length xs ≤ i → table_bytes bytes n (drop i xs) ≡ []
table_all bytes n i xs past = ap (table_bytes bytes n) (drop_all i xs past)

-- a write to the front of a part that was lent is a write from its place on
pub written_part : (p : ℕ) (a part after space : List ℕ) → part ≡ drop p space → after ≡ written 0 a part → put_mid p (length space - p) space after ≡ written p a space
unfolding written
written_part p a part after space lent wrote =
    ap (λ xs. take p space ++ (after ++ xs)) (drop-drop (length space - p) p space ∙ drop_all (p + (length space - p)) space (omega arith))
    ∙ ap (λ xs. take p space ++ xs) (append-nil after ∙ wrote ∙ ap (λ xs. a ++ drop (0 + length a) xs) lent ∙ ap (λ xs. a ++ xs) (drop-drop (0 + length a) p space ∙ ap (λ n. drop n space) (omega arith)))

-- the length of a sheet, part by part
pub length_sheet : (b : Contents) → length (sheet_of b) ≡ 6 + (length (table_bytes tariff_bytes 1 b.tariffs) + (length (table_bytes line_bytes 1 b.lines.states) + 1))
unfolding sheet_of
length_sheet b =
    let tariffs = table_bytes tariff_bytes 1 b.tariffs in
    let lines = table_bytes line_bytes 1 b.lines.states in
    omega (arith, length-append tariffs (lines ++ end_record), length-append lines end_record)

-- a record is as long as its size
tariff_sized : (o : Option Tariff) (n : ℕ) → length (tariff_bytes o n) ≡ tariff_size o
tariff_sized None n = refl
tariff_sized (Some t) n = length_tariff_record n (numbers_of t)

line_sized : (s : LineState) (n : ℕ) → length (line_bytes s n) ≡ line_size s
line_sized Free n = refl
line_sized (Live l) n = length_line_record n l
line_sized (Withdrawn l) n = refl

table_sized : {A : Type 0} (bytes : A → ℕ → List ℕ) (size : A → ℕ) → ((x : A) (n : ℕ) → length (bytes x n) ≡ size x) → (n : ℕ) (xs : List A) → length (table_bytes bytes n xs) ≡ sum_by size xs
table_sized bytes size sized n [] = refl
table_sized bytes size sized n (x ∷ xs) =
    omega (arith, length-append (bytes x n) (table_bytes bytes (n + 1) xs), sized x n, table_sized bytes size sized (n + 1) xs, sum_by-cons size x xs)

tariff_size_most : (o : Option Tariff) → tariff_size o ≤ 31
tariff_size_most None = omega arith
tariff_size_most (Some t) = omega arith

line_size_most : (s : LineState) → line_size s ≤ 36
line_size_most Free = omega arith
line_size_most (Live l) = omega arith
line_size_most (Withdrawn l) = omega arith

pub tariffs_most : (tariffs : List (Option Tariff)) → sum_by tariff_size tariffs ≤ length tariffs * 31
tariffs_most tariffs = sum_by-le tariff_size 31 tariffs (λ k d within. tariff_size_most (get_or tariffs k d))

pub lines_most : (states : List LineState) → sum_by line_size states ≤ length states * 36
lines_most states = sum_by-le line_size 36 states (λ k d within. line_size_most (get_or states k d))

-- the length of a sheet by the sizes of its records
pub sheet_sized : (b : Contents) → length (sheet_of b) ≡ 6 + (sum_by tariff_size b.tariffs + (sum_by line_size b.lines.states + 1))
sheet_sized b =
    omega (arith, length_sheet b, table_sized tariff_bytes tariff_size tariff_sized 1 b.tariffs, table_sized line_bytes line_size line_sized 1 b.lines.states)

-- a book that is not blank is written where there is room
pub write_taken : (b : Contents) (space : ℕ) → (b.phase ≡ Blank → ⊥) → length (sheet_of b) ≤ space → write_refusal b space ≡ None
unfolding sheet_of
write_taken b space other fits = by b.phase refl
  where
    room : unless (leb (length (sheet_of b)) space) (21, []) None ≡ None
    room = ap (λ t. unless t (21, []) None) (le-leb (length (sheet_of b)) space fits)

    by : (p : Phase) → b.phase ≡ p → write_refusal b space ≡ None
    by Blank at = absurd (other at)
    by Draft at = rw at room
    by Issued at = rw at room

-- Call by call: there is no refusal exactly when the call may be made.
use Rattle.std.proofs.Common.{◌≡◌, ℕ, List, [], ◌∷◌, length, None, Option, refl, ap, subst, arith}
use Rattle.std.proofs.lemmas.Bool.Decides.{Decides-eqb, Decides-ltb}
use Rattle.classes.specs.declared.refusal.Classes.{Classes}
use Rattle.classes.specs.declared.usage.Usage.{Usage}
use Rattle.tariff.specs.declared.terms.Terms.{Terms}
use Rattle.lines.specs.declared.sets.Counts.{Counts}
use Rattle.lines.specs.declared.states.Line.{Line}
use Rattle.lines.specs.declared.states.LineState.{LineState}
use Rattle.lines.specs.declared.states.LineState.TheVariants.{Withdrawn}
use Rattle.contents.specs.declared.contents.Contents.{Contents}
use Rattle.contents.specs.declared.contents.Phase.TheVariants.{Blank, Draft, Issued}
use Rattle.contents.specs.Contents.{tariff_at, line_at}
use Rattle.contents.specs.Calls.{Refused, open_refusal, put_refusal, add_refusal, withdraw_refusal, restore_refusal, strike_refusal, issue_refusal, reopen_refusal}
use Rattle.classes.specs.Determinants.{Meanings}
use Rattle.charging.specs.Prices.{classes_of, count_refusal, class_refusal, price_refusal}
use Rattle.book.specs.Sound.{Sound}
use Rattle.law.specs.Conditions.{Clear, SameCounts, Classed, MayOpen, MayPut, MayAdd, MayWithdraw, MayRestore, MayStrike, MayIssue, MayReopen, MayPrice, MayRead, MayWrite, May}
use Rattle.law.specs.Histories.{Asked, open_call, put_call, add_call, withdraw_call, restore_call, strike_call, issue_call, reopen_call, price_call, read_call, write_call, ReadsBytes, refusal_of}
use Rattle.law.proofs.Overlaps.{draft_counts, clear_tested, way_tested, gap_tested}
use Rattle.law.proofs.Rows.{NoRefusal, then, last, only}
use Rattle.sheet.specs.Acceptable.{Acceptable}
use Rattle.sheet.specs.Reading.{refused_in, sheet_outcome, read_refusal}
use Rattle.sheet.specs.Writing.{sheet_of, write_refusal}
use Rattle.sheet.proofs.Accepted.{acceptable_accepted}
use Rattle.sheet.proofs.Remaining.{accepted_acceptable}
use Rattle.classes.specs.Outcomes.{Outcome, accepted, refusal}
use Rattle.classes.proofs.Clash.{clash}
use Rattle.std.specs.Int.Digits.{AllBelowBase}
use Rattle.law.proofs.Tests.{phase_tested, other_phase_tested, at_most_tested, within_tested, counts_tested, terms_tested, free_tested, live_tested, withdrawn_tested, some_tested, line_tested, amounts_tested}

pub may_open : (b : Contents) (c : Counts) → NoRefusal (open_refusal b c) (MayOpen b c)
may_open b c =
    then _ (1, []) _ (phase_tested Blank b) (λ m. m.blank) (λ blank.
    last _ (only _ (2, []) (counts_tested c)) (λ m. m.counts) (λ counts.
    record { blank = blank; counts = counts }))

pub may_put : (b : Contents) (n : ℕ) (terms : Terms) → NoRefusal (put_refusal b n terms) (MayPut b n terms)
may_put b n terms =
    then _ (1, []) _ (phase_tested Draft b) (λ m. m.draft) (λ draft.
    then _ (3, []) _ (within_tested 1 64 n) (λ m. m.number) (λ number.
    last _ (only _ (4, []) (terms_tested terms)) (λ m. m.in_range) (λ in_range.
    record { draft = draft; number = number; in_range = in_range })))

pub may_add : (b : Contents) (n : ℕ) (l : Line) → Sound b → NoRefusal (add_refusal b n l) (MayAdd b n l)
may_add b n l s =
    then _ (1, []) _ (phase_tested Draft b) (λ m. m.draft) (λ draft.
    then _ (5, []) _ (within_tested 1 256 n) (λ m. m.number) (λ number.
    then _ (6, []) _ (free_tested (line_at b n)) (λ m. m.free) (λ free.
    then _ (3, []) _ (within_tested 1 64 l.tariff) (λ m. m.tariff_number) (λ tariff_number.
    then _ (9, []) _ (some_tested (tariff_at b l.tariff)) (λ m. m.put) (λ put.
    then _ (10, []) _ (line_tested b.counts l) (λ m. m.fits) (λ fits.
    last _ (clear_tested b l (draft_counts b s draft) ((line_tested b.counts l).1 fits)) (λ m. m.clear) (λ clear.
    record { draft = draft; number = number; free = free; tariff_number = tariff_number; put = put; fits = fits; clear = clear })))))))

pub may_withdraw : (b : Contents) (n : ℕ) → NoRefusal (withdraw_refusal b n) (MayWithdraw b n)
may_withdraw b n =
    then _ (1, []) _ (phase_tested Draft b) (λ m. m.draft) (λ draft.
    then _ (5, []) _ (within_tested 1 256 n) (λ m. m.number) (λ number.
    last _ (only _ (7, []) (live_tested (line_at b n))) (λ m. m.live) (λ live.
    record { draft = draft; number = number; live = live })))

-- one line is withdrawn under a number
same_line : (s : LineState) (x y : Line) → s ≡ Withdrawn x → s ≡ Withdrawn y → x ≡ y
same_line s x y ex ey = cc

pub may_restore : (b : Contents) (n : ℕ) → Sound b → NoRefusal (restore_refusal b n) (MayRestore b n)
may_restore b n s =
    then _ (1, []) _ (phase_tested Draft b) (λ m. m.draft) (λ draft.
    then _ (5, []) _ (within_tested 1 256 n) (λ m. m.number) (λ number.
    then _ (8, []) _ (withdrawn_tested (line_at b n)) (λ m. (m.line, m.withdrawn)) (λ was.
    last _ (way_tested b n was.0 s draft was.1) (λ m. subst (Clear b) (same_line (line_at b n) m.line was.0 m.withdrawn was.1) m.clear) (λ clear.
    record { draft = draft; number = number; line = was.0; withdrawn = was.1; clear = clear }))))

pub may_strike : (b : Contents) (n : ℕ) → NoRefusal (strike_refusal b n) (MayStrike b n)
may_strike b n =
    then _ (1, []) _ (phase_tested Draft b) (λ m. m.draft) (λ draft.
    then _ (5, []) _ (within_tested 1 256 n) (λ m. m.number) (λ number.
    last _ (only _ (8, []) (withdrawn_tested (line_at b n))) (λ m. m.withdrawn) (λ withdrawn.
    record { draft = draft; number = number; withdrawn = withdrawn })))

pub may_issue : (b : Contents) → NoRefusal (issue_refusal b) (MayIssue b)
may_issue b =
    then _ (1, []) _ (phase_tested Draft b) (λ m. m.draft) (λ draft.
    then _ (13, []) _ (Decides-ltb b.version 255) (λ m. m.not_last) (λ not_last.
    last _ (gap_tested b) (λ m. m.whole) (λ whole.
    record { draft = draft; not_last = not_last; whole = whole })))

pub may_reopen : (b : Contents) → NoRefusal (reopen_refusal b) (MayReopen b)
may_reopen b = last _ (only _ (1, []) (phase_tested Issued b)) (λ m. m.issued) (λ issued. record { issued = issued })

-- the counts of the determinants, with the tests behind them
counts_then : {R : Type 0} (d : Meanings) (c : Counts) (rest : Option Refused) → (R → SameCounts d c) → (SameCounts d c → NoRefusal rest R) → NoRefusal (count_refusal c d rest) R
counts_then d c rest part next =
    then _ (14, 1 ∷ []) _ (Decides-eqb d.vehicle.count c.vehicles) (λ r. (part r).vehicle) (λ vehicle.
    then _ (14, 2 ∷ []) _ (Decides-eqb d.time.count c.times) (λ r. (part r).time) (λ time.
    then _ (14, 3 ∷ []) _ (Decides-eqb d.location.count c.locations) (λ r. (part r).location) (λ location.
    then _ (14, 4 ∷ []) _ (Decides-eqb d.user.count c.users) (λ r. (part r).user) (λ user.
    next (record { vehicle = vehicle; time = time; location = location; user = user })))))

classes_tested : (k : Classes) → NoRefusal (class_refusal k) (Classed k)
classes_tested k =
    then _ (16, 1 ∷ []) _ (Decides-ltb 0 k.vehicle) (λ m. m.vehicle) (λ vehicle.
    then _ (16, 2 ∷ []) _ (Decides-ltb 0 k.time) (λ m. m.time) (λ time.
    then _ (16, 3 ∷ []) _ (Decides-ltb 0 k.location) (λ m. m.location) (λ location.
    last _ (only _ (16, 4 ∷ []) (Decides-ltb 0 k.user)) (λ m. m.user) (λ user.
    record { vehicle = vehicle; time = time; location = location; user = user }))))

pub may_price : (b : Contents) (d : Meanings) (u : Usage) → NoRefusal (price_refusal b d u) (MayPrice b d u)
may_price b d u =
    then _ (1, []) _ (phase_tested Issued b) (λ m. m.issued) (λ issued.
    counts_then d b.counts _ (λ m. m.counts) (λ counts.
    then _ (15, []) _ (amounts_tested u) (λ m. m.amounts) (λ amounts.
    last _ (classes_tested (classes_of d u)) (λ m. m.classes) (λ classes.
    record { issued = issued; counts = counts; amounts = amounts; classes = classes }))))

-- there is no refusal in a sheet exactly when it is acceptable
sheet_tested : (bytes : List ℕ) → AllBelowBase 256 bytes → NoRefusal (refused_in (sheet_outcome bytes)) ((held : Contents) × Acceptable bytes held)
sheet_tested bytes small = (by (sheet_outcome bytes) refl, λ a. ap refused_in (acceptable_accepted bytes a.0 a.1))
  where
    by : (o : Outcome Contents) → sheet_outcome bytes ≡ o → refused_in o ≡ None → (held : Contents) × Acceptable bytes held
    by (accepted b) at none = (b, accepted_acceptable bytes b small at)
    by (refusal r) at none = clash cc

pub may_read : (b : Contents) (bytes : List ℕ) → AllBelowBase 256 bytes → NoRefusal (read_refusal b bytes) (MayRead b bytes)
may_read b bytes small =
    then _ (1, []) _ (phase_tested Blank b) (λ m. m.blank) (λ blank.
    last _ (sheet_tested bytes small) (λ m. (m.held, m.acceptable)) (λ sheet.
    record { blank = blank; held = sheet.0; acceptable = sheet.1 }))

pub may_write : (b : Contents) (space : ℕ) → NoRefusal (write_refusal b space) (MayWrite b space)
may_write b space =
    then _ (1, []) _ (other_phase_tested Blank b) (λ m. m.not_blank) (λ not_blank.
    last _ (only _ (21, []) (at_most_tested (length (sheet_of b)) space)) (λ m. m.room) (λ room.
    record { not_blank = not_blank; room = room }))

-- a call has no refusal exactly when it may be made
pub may_tested : (b : Contents) (a : Asked) → Sound b → ReadsBytes a → NoRefusal (refusal_of b a) (May b a)
may_tested b (open_call counts) s bytes = may_open b counts
may_tested b (put_call n terms) s bytes = may_put b n terms
may_tested b (add_call n l) s bytes = may_add b n l s
may_tested b (withdraw_call n) s bytes = may_withdraw b n
may_tested b (restore_call n) s bytes = may_restore b n s
may_tested b (strike_call n) s bytes = may_strike b n
may_tested b issue_call s bytes = may_issue b
may_tested b reopen_call s bytes = may_reopen b
may_tested b (price_call d u) s bytes = may_price b d u
may_tested b (read_call sheet) s bytes = may_read b sheet bytes
may_tested b (write_call space) s bytes = may_write b space

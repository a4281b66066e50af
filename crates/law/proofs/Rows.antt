-- A row of tests: there is no refusal exactly when the fact behind each test holds.
use Rattle.std.proofs.Common.{◌≡◌, Bool, None, Decides, Option, refl}
use Rattle.contents.specs.Calls.{Refused, unless}
use Rattle.contents.proofs.Refused.{passed}

-- there is no refusal exactly when the fact holds
abbrev pub NoRefusal : Option Refused → Type 0 → Type 0
NoRefusal r P = (r ≡ None → P) × (P → r ≡ None)

-- a test for a part of the fact, and the tests behind it
pub then : {P R : Type 0} (b : Bool) (x : Refused) (rest : Option Refused) → Decides b P → (R → P) → (P → NoRefusal rest R) → NoRefusal (unless b x rest) R
then b x rest test part next = (
  λ e. let through = passed b x rest e in (next (test.0 through.0)).0 through.1,
  λ r. rw (test.1 (part r)) ((next (part r)).1 r),
)

-- the last part of the fact
pub last : {P R : Type 0} (r : Option Refused) → NoRefusal r P → (R → P) → (P → R) → NoRefusal r R
last r test part whole = (λ e. whole (test.0 e), λ f. test.1 (part f))

-- one test
pub only : {P : Type 0} (b : Bool) (x : Refused) → Decides b P → NoRefusal (unless b x None) P
only b x test = (λ e. test.0 (passed b x None e).0, λ f. rw (test.1 f) refl)

-- From an answer to its refusal, and from a refusal to the test that failed.
use Rattle.std.proofs.Common.{◌≡◌, ℕ, Bool, true, false, List, [], Some, None, Option, refl, ap, arith}
use Rattle.classes.specs.declared.refusal.Classes.{Classes}
use Rattle.classes.specs.Outcomes.{accepted, refusal}
use Rattle.classes.proofs.Clash.{clash}
use Rattle.contents.specs.Calls.{Refused, unless, answered, gap_with}

pub answered_refused : {A : Type 0} (r : Option Refused) (x : A) (y : Refused) → answered r x ≡ refusal y → r ≡ Some y
answered_refused (Some z) x y e = cc
answered_refused None x y e = clash cc

pub answered_accepted : {A : Type 0} (r : Option Refused) (x y : A) → answered r x ≡ accepted y → (r ≡ None) × (x ≡ y)
answered_accepted (Some z) x y e = clash cc
answered_accepted None x y e = let same : x ≡ y = cc in (refl, same)

-- a test that is passed, and the tests behind it
pub passed : (b : Bool) (x : Refused) (rest : Option Refused) → unless b x rest ≡ None → (b ≡ true) × (rest ≡ None)
passed true x rest e = (refl, e)
passed false x rest e = clash cc

-- equal refusals have equal numbers and values
pub same_refusal : (m n : ℕ) (xs ys : List ℕ) → ◌≡◌ {A = Option Refused} (Some (m, xs)) (Some (n, ys)) → (m ≡ n) × (xs ≡ ys)
same_refusal m n xs ys e = (ap (λ r. r.0) same, ap (λ r. r.1) same)
  where
    out : Option Refused → Refused
    out (Some r) = r
    out None = (0, [])

    same : ◌≡◌ {A = Refused} (m, xs) (n, ys)
    same = ap out e

-- a refusal with another number comes from the tests behind
pub behind : (b : Bool) (m n : ℕ) (xs ys : List ℕ) (rest : Option Refused) → (m ≡ n → ⊥) → unless b (m, xs) rest ≡ Some (n, ys) → (b ≡ true) × (rest ≡ Some (n, ys))
behind true m n xs ys rest ne e = (refl, e)
behind false m n xs ys rest ne e = absurd (ne (same_refusal m n xs ys e).0)

-- where no gap is refused there is none
pub without_gap : (o : Option Classes) → gap_with o ≡ None → o ≡ None
without_gap None none = refl
without_gap (Some k) none = clash cc

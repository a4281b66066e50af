-- What a call leaves in a book is sound.
use Rattle.std.proofs.Common.{◌≡◌, ℕ, None, Option, sym, subst}
use Rattle.std.proofs.Math.Logic.{∥∥₁_map}
use Rattle.tariff.specs.declared.terms.Terms.{Terms}
use Rattle.tariff.specs.Ranges.{checked}
use Rattle.lines.specs.declared.sets.Counts.{Counts}
use Rattle.lines.specs.declared.states.Line.{Line}
use Rattle.contents.specs.declared.contents.Contents.{Contents}
use Rattle.contents.specs.Contents.{new_contents}
use Rattle.contents.specs.Calls.{Refused, settled, open_refusal, opened, put_refusal, stored, add_refusal, added, withdraw_refusal, withdrawn, restore_refusal, restored, strike_refusal, struck, issue_refusal, issued, reopen_refusal, reopened}
use Rattle.book.specs.Sound.{Sound}
use Rattle.book.proofs.Keeps.{new_sound, settled_sound, open_sound, put_sound, add_sound, withdraw_sound, restore_sound, strike_sound, issue_sound, reopen_sound}

-- what a call leaves is sound: it was, and an accepted call keeps it so
left_sound : (r : Option Refused) (before after held : Contents) → held ≡ settled r before after → ∥ Sound before ∥₁ → (Sound before → r ≡ None → Sound after) → ∥ Sound held ∥₁
left_sound r before after held e was keeps = ∥∥₁_map was (λ s. subst Sound (sym e) (settled_sound r before after s (keeps s)))

-- so is what a new book holds
pub new_left : (held : Contents) → held ≡ new_contents → ∥ Sound held ∥₁
new_left held e = ∣ subst Sound (sym e) new_sound ∣₁

module _ (b held : Contents) where
  pub open_left : (c : Counts) → held ≡ settled (open_refusal b c) b (opened c b) → ∥ Sound b ∥₁ → ∥ Sound held ∥₁
  open_left c e was = left_sound _ _ _ held e was (open_sound b c)

  pub put_left : (n : ℕ) (t : Terms) → held ≡ settled (put_refusal b n t) b (stored n (checked t) b) → ∥ Sound b ∥₁ → ∥ Sound held ∥₁
  put_left n t e was = left_sound _ _ _ held e was (put_sound b n t)

  pub add_left : (n : ℕ) (l : Line) → held ≡ settled (add_refusal b n l) b (added n l b) → ∥ Sound b ∥₁ → ∥ Sound held ∥₁
  add_left n l e was = left_sound _ _ _ held e was (add_sound b n l)

  pub withdraw_left : (n : ℕ) → held ≡ settled (withdraw_refusal b n) b (withdrawn n b) → ∥ Sound b ∥₁ → ∥ Sound held ∥₁
  withdraw_left n e was = left_sound _ _ _ held e was (withdraw_sound b n)

  pub restore_left : (n : ℕ) → held ≡ settled (restore_refusal b n) b (restored n b) → ∥ Sound b ∥₁ → ∥ Sound held ∥₁
  restore_left n e was = left_sound _ _ _ held e was (restore_sound b n)

  pub strike_left : (n : ℕ) → held ≡ settled (strike_refusal b n) b (struck n b) → ∥ Sound b ∥₁ → ∥ Sound held ∥₁
  strike_left n e was = left_sound _ _ _ held e was (strike_sound b n)

  pub issue_left : held ≡ settled (issue_refusal b) b (issued b) → ∥ Sound b ∥₁ → ∥ Sound held ∥₁
  issue_left e was = left_sound _ _ _ held e was (issue_sound b)

  pub reopen_left : held ≡ settled (reopen_refusal b) b (reopened b) → ∥ Sound b ∥₁ → ∥ Sound held ∥₁
  reopen_left e was = left_sound _ _ _ held e was (reopen_sound b)

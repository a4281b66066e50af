use Rattle.std.proofs.Common.{sym}
use Rattle.book.proofs.FromSheets.{sheet_sound}
use Rattle.book.proofs.book.Book.take_sheet.Goals as goal

pub invariant_of-self : goal.invariant_of-self
invariant_of-self c = record { sound = ∣ sheet_sound c.args.bytes.now c.in_ok-self.field-0 (sym c.in_ok-self.ensures) ∣₁ }

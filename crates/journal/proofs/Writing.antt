-- The space that a sheet was written into, cut to the length of the sheet, is the sheet.
use Rattle.std.proofs.Common.{◌≡◌, ℕ, ◌+◌, List, length, take, drop, Some, None, Option, ap, ◌∙◌, arith}
use Rattle.std.proofs.lemmas.List.{take-append-le, take_all}
use Rattle.classes.specs.Outcomes.{accepted}
use Rattle.classes.proofs.Clash.{clash}
use Rattle.contents.specs.Calls.{Refused, answered}
use Rattle.sheet.specs.Refusals.{left_by}
use Rattle.sheet.specs.Fields.{written}
use Rattle.law.specs.Histories.{wrote, told_by}

front : (bytes space : List ℕ) → take (length bytes) (written 0 bytes space) ≡ bytes
unfolding written
front bytes space = take-append-le (length bytes) bytes (drop (0 + length bytes) space) (omega arith) ∙ take_all (length bytes) bytes (omega arith)

pub sheet_front : (r : Option Refused) (sheet before after : List ℕ) (end : ℕ) → accepted end ≡ answered r (length sheet) → after ≡ left_by r before (written 0 sheet before) → wrote (take end after) ≡ told_by r (wrote sheet)
sheet_front (Some x) sheet before after end answers left = clash cc
sheet_front None sheet before after end answers left =
    let ends : end ≡ length sheet = cc in
    ap wrote (rw (left, ends) (front sheet before))

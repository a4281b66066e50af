use Rattle.std.proofs.Common.{arith}
use Rattle.sheet.proofs.Lengths.{sheet_sized}
use Rattle.sheet.proofs.writing.sheet_length.Goals as goal

pub returns-clause-value : goal.returns-clause-value
returns-clause-value c = let size = sheet_sized c.args.contents.now in omega arith

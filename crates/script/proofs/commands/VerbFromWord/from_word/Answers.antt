use Rattle.std.proofs.Common.{sym, ap, arith, rules}
use Rattle.std.specs.Prelude.{codes}
use Rattle.std.proofs.lemmas.Slice.Eq.{text_from_reads}
use Rattle.script.specs.Commands.{verb_of}
use Rattle.script.proofs.commands.VerbFromWord.from_word.Goals as goal

pub returns-in-withdraw : goal.returns-in-withdraw
returns-in-withdraw c = ap verb_of (sym (text_from_reads c.args.word.now (codes "withdraw") (omega arith) (search rules)))

pub returns-in-restore : goal.returns-in-restore
returns-in-restore c = ap verb_of (sym (text_from_reads c.args.word.now (codes "restore") (omega arith) (search rules)))

pub returns-in-strike : goal.returns-in-strike
returns-in-strike c = ap verb_of (sym (text_from_reads c.args.word.now (codes "strike") (omega arith) (search rules)))

pub returns-in-reopen : goal.returns-in-reopen
returns-in-reopen c = ap verb_of (sym (text_from_reads c.args.word.now (codes "reopen") (omega arith) (search rules)))

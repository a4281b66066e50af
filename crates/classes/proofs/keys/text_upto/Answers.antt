use Rattle.std.proofs.Common.{rules}
use Rattle.classes.proofs.Ranks.{texts_upto}
use Rattle.classes.proofs.keys.text_upto.Goals as goal

pub returns : goal.returns
returns c = texts_upto c.args.a c.args.b _ _ (search rules) (search rules) (λ i. search rules) (λ i. search rules) c.from_be_bytes.ensures c.from_be_bytes-2.ensures

use Rattle.std.proofs.Common.{◌≡◌, ℕ, arith}
use Rattle.std.proofs.lemmas.Result.{err_from_is_err_and}
use Rattle.classes.specs.Determinants.{Meanings, meanings_of}
use Rattle.classes.proofs.Clash.{clash}
use Rattle.book.proofs.OneLine.{price_refused, price_missing, price_answer, price_line}
use Rattle.book.proofs.book.Book.price.Goals as goal

pub unreachable-requires : goal.unreachable-requires
unreachable-requires g c =
    let d : Meanings = meanings_of g.V.Determinant.meaning g.T.Determinant.meaning g.L.Determinant.meaning g.U.Determinant.meaning c.args.determinants.now in
    price_missing c.args.self.now.contents d c.args.usage.now c.in_ok-classes.classes c.amounts_of.result c.args.self.now.sound c.in_ok-classes.ensures c.amounts_of.ensures c.in-None.ensures

pub returns : goal.returns
returns g c =
    let d : Meanings = meanings_of g.V.Determinant.meaning g.T.Determinant.meaning g.L.Determinant.meaning g.U.Determinant.meaning c.args.determinants.now in
    record {
      answer = price_answer c.args.self.now.contents d c.args.usage.now c.in_ok-classes.classes c.amounts_of.result c.args.self.now.sound c.in_ok-classes.ensures c.amounts_of.ensures c.in-Some.price c.in-Some.ensures;
      one = λ q e. price_line c.args.self.now.contents d c.args.usage.now c.in_ok-classes.classes c.amounts_of.result c.args.self.now.sound c.in_ok-classes.ensures c.amounts_of.ensures c.in-Some.price q c.in-Some.ensures e;
    }

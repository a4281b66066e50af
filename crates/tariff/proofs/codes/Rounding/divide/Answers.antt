use Rattle.std.proofs.Common.{◌<◌, sym, arith}
use Rattle.tariff.proofs.Quotients.{by_zero, by_remainder, means}
use Rattle.tariff.proofs.codes.Rounding.divide.Goals as goal

pub returns-then-divisor-eq0 : goal.returns-then-divisor-eq0
returns-then-divisor-eq0 c = record { value = by_zero _ _ _ (omega arith); meaning = λ h. absurd (omega arith) }

pub returns-then-raises : goal.returns-then-raises
returns-then-raises c =
    let some : 0 < c.args.divisor = omega arith in
    let e = (by_remainder _ _ some c.args.self).0 (sym c.if-raises.ensures) in
    record { value = e; meaning = means _ _ _ _ e }

pub returns-else-raises : goal.returns-else-raises
returns-else-raises c =
    let some : 0 < c.args.divisor = omega arith in
    let e = (by_remainder _ _ some c.args.self).1 (sym c.if-raises.ensures) in
    record { value = e; meaning = means _ _ _ _ e }

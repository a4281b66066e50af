use Rattle.std.proofs.Common.{sym}
use Rattle.tariff.proofs.Ranges.{coded, made}
use Rattle.tariff.proofs.terms.TariffTryFromTerms.try_from.Goals as goal

pub returns : goal.returns
returns c =
    let sums = sym c.if-not-sums_in_range.ensures in
    let m = coded _ _ c.in_ok-try_from.ensures in
    let k = coded _ _ c.in_ok-try_from-2.ensures in
    let v = coded _ _ c.in_ok-try_from-3.ensures in
    made c.args.terms _ _ _ sums m k v

use Rattle.std.proofs.Common.{◌+◌, ◌^◌, ◌<◌, arith, rules}
use Rattle.tariff.proofs.Fees.{base_room}
use Rattle.tariff.proofs.terms.Tariff.fee.Goals as goal

pub overflow_add-base : goal.overflow_add-base
overflow_add-base c =
    let t = c.args.self.now in
    let room = base_room t c.args.amount t.offset (search rules) (search rules) (search rules) in
    let below : c.base-base.result + c.from-2.result < 2 ^ 64 = omega (arith, room, c.base-base.ensures, c.from-2.ensures) in
    search rules

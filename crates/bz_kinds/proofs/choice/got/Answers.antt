use Rattle.std.proofs.Common.{◌≡◌, ◌+◌, suc, arith}
use Rattle.bz_kinds.proofs.ChoiceOnward.{got-sure}
use Rattle.bz_kinds.proofs.choice.got.Goals as goal

pub returns-clause-sure : goal.returns-clause-sure
returns-clause-sure c =
    let one : c.args.i + 1 ≡ suc c.args.i = omega arith in
    rw (c.set-2.ensures, c.set.ensures, c.out.ensures, one) (got-sure c.args.mix.now c.args.size c.args.i c.args.ports.now c.requires.place)

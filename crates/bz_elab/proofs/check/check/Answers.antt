use Rattle.std.proofs.Common.{inr}
use Rattle.bz_elab.proofs.Checking.{refuses_recursive, refuses_deep}
use Rattle.bz_elab.proofs.check.check.Goals as goal

pub returns-in-Some-2-clause-err : goal.returns-in-Some-2-clause-err
returns-in-Some-2-clause-err c =
    let first = rw (c.as_slice-in-None.ensures.value, c.in-Some-2.is) at c.in_ok-recursive-in-None.ensures in
    inr (refuses_recursive c.args.parts.now c.in_ok-marks.marks.items c.args.number c.args.part.now _ c.requires.part_is c.requires.first c.in_ok-marks.ensures first)

pub returns-clause-err : goal.returns-clause-err
returns-clause-err c =
    let first = rw (c.as_slice-in-None.ensures.value, c.in-None-2.is) at c.in_ok-recursive-in-None.ensures in
    inr (refuses_deep c.args.parts.now c.in_ok-marks.marks.items c.args.number c.args.part.now c.requires.part_is c.requires.first c.in_ok-marks.ensures first c.in-None.ensures.none)

use Rattle.std.proofs.Common.{arith, ◌≤◌, Some, None, inl, inr}
use Rattle.bz_elab.specs.Order.{order}
use Rattle.bz_elab.proofs.Checking.{refuses_fault, refuses_big, passes, sound_below}
use Rattle.bz_elab.proofs.Looking.{read_reached}
use Rattle.bz_elab.proofs.check.check_parts.Goals as goal

pub returns-then-order-lt8-clause-err : goal.returns-then-order-lt8-clause-err
returns-then-order-lt8-clause-err c =
    let least = rw c.in-Some.is at c.in_ok-least.ensures.ok in
    inr (rw c.error.ensures (refuses_fault c.args.parts.now c.args.marks.now c.args.number c.args.part.now c.args.total c.in-Some.found c.requires.part_is c.requires.first c.requires.marks c.requires.total c.requires.within
    least (inl (omega (arith, c.if-order-lt8.true, c.order.ensures)))))

pub returns-then-is_big-clause-err : goal.returns-then-is_big-clause-err
returns-then-is_big-clause-err c =
    let least = rw c.in-Some.is at c.in_ok-least.ensures.ok in
    let late : 8 ≤ order c.in-Some.found.fault = omega (arith, c.if-order-lt8.false, c.order.ensures) in
    inr (refuses_big c.args.parts.now c.args.marks.now c.args.number c.args.part.now c.args.total (Some c.in-Some.found) c.requires.part_is c.requires.first c.requires.marks c.requires.total c.requires.within
    least late (c.is_too_big-is_big.ensures.big c.if-is_big.true c.args.parts.now c.requires.total c.requires.within))

pub returns-else-is_big-clause-err : goal.returns-else-is_big-clause-err
returns-else-is_big-clause-err c =
    let least = rw c.in-Some.is at c.in_ok-least.ensures.ok in
    inr (rw c.error-in-Some.ensures (refuses_fault c.args.parts.now c.args.marks.now c.args.number c.args.part.now c.args.total c.in-Some.found c.requires.part_is c.requires.first c.requires.marks c.requires.total c.requires.within
    least (inr (c.is_too_big-is_big.ensures.fits c.if-is_big.false c.args.parts.now c.requires.total c.requires.within))))

pub returns-then-is_big-2-clause-err : goal.returns-then-is_big-2-clause-err
returns-then-is_big-2-clause-err c =
    let least = rw c.in-None.is at c.in_ok-least.ensures.ok in
    inr (refuses_big c.args.parts.now c.args.marks.now c.args.number c.args.part.now c.args.total None c.requires.part_is c.requires.first c.requires.marks c.requires.total c.requires.within
    least tt (c.is_too_big-is_big.ensures.big c.if-is_big-2.true c.args.parts.now c.requires.total c.requires.within))

pub returns-else-is_big-2-clause-sound : goal.returns-else-is_big-2-clause-sound
returns-else-is_big-2-clause-sound c =
    let least = rw c.in-None.is at c.in_ok-least.ensures.ok in
    sound_below c.args.parts.now c.args.marks.now c.args.number c.args.part.now c.args.total c.requires.part_is c.requires.marks c.requires.total c.requires.within least

pub returns-else-is_big-2-clause-ok : goal.returns-else-is_big-2-clause-ok
returns-else-is_big-2-clause-ok c =
    let least = rw c.in-None.is at c.in_ok-least.ensures.ok in
    passes c.args.parts.now c.args.marks.now c.args.number c.args.part.now c.args.total c.requires.part_is c.requires.first c.requires.marks c.requires.total c.requires.within
    least (c.is_too_big-is_big.ensures.fits c.if-is_big-2.false c.args.parts.now c.requires.total c.requires.within)

pub returns-else-is_big-2-clause-read : goal.returns-else-is_big-2-clause-read
returns-else-is_big-2-clause-read c = read_reached c.args.parts.now c.args.marks.now c.args.number _ c.requires.marks (c.in_ok-least.ensures.read c.in-None.is)

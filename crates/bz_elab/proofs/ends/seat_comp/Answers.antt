use Rattle.std.proofs.Common.{arith, ◌≡◌, inl, inr, length, subst, ◌∙◌}
use Rattle.bz_flat.specs.Flats.{site_of}
use Rattle.bz_elab.specs.Seats.{Seated, Passed}
use Rattle.bz_elab.proofs.Seating.{end_here, seated_next}
use Rattle.bz_elab.proofs.ends.seat_comp.Goals as goal
use Rattle.bz_elab.proofs.ends.seat_comp.Goals.{then-seat, else-seat}

pub loop-i-preserved : goal.loop-i-preserved
loop-i-preserved c sites here s =
    let end = end_here sites c.args.number (site_of c.args.comp.now) c.loop-i.i here c.requires.number_from (omega arith) in
    let at = c.requires.within c.loop-i.i (omega arith) in
    let before = c.loop-i.invariant sites here s in
    let seats = rw (c.deref-chan-items.ensures.value, c.is_passive.ensures) at c.seat.ensures in
    seated_next sites _ _ _ _ _ _ _ _ _ before seats at.0 end (elim c.if-seat.branch [
      | then-seat w ↦ inl (w.if-seat.true, w.least-is ∙ rw c.deref-chan-items.ensures.value at w.min-least.ensures)
      | else-seat w ↦ inr (w.if-seat.false, w.least-is)
    ])

pub returns : goal.returns
returns c sites here s =
    let all : c.loop-i.i ≡ length c.args.comp.now.chans.items = omega arith in
    subst (λ n. Seated sites (Passed c.args.number n) c.loop-i.ends c.loop-i.least) all (c.loop-i.invariant sites here s)

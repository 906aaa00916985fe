use Rattle.std.proofs.Common.{arith, ◌≡◌, ◌+◌, ◌++◌, length, add-one, take, drop, subst, refl, replicate, ap, ◌∙◌}
use Rattle.std.proofs.lemmas.List.{take_at, length-replicate}
use Rattle.std.proofs.lemmas.Grind.{common_steps}
use Rattle.bz_flat.specs.Wires.{no_ends}
use Rattle.bz_flat.specs.Flats.{sites_of}
use Rattle.bz_elab.specs.Seats.{Seated, Passed}
use Rattle.bz_elab.proofs.Seating.{passed_all, seated_none}
use Rattle.bz_elab.proofs.Sites.{here_at, fits_at}
use Rattle.bz_elab.proofs.ends.table.Goals as goal

pub seat_comp-least-requires-clause-few : goal.seat_comp-least-requires-clause-few
seat_comp-least-requires-clause-few c = (fits_at c.args.comps.now c.args.chans c.loop-i.i c.get-comp.result.now c.requires (omega arith) (rw c.at.ensures at c.get-comp.ensures)).0

pub seat_comp-least-requires-clause-within : goal.seat_comp-least-requires-clause-within
seat_comp-least-requires-clause-within c =
    let fit = (fits_at c.args.comps.now c.args.chans c.loop-i.i c.get-comp.result.now c.requires (omega arith) (rw c.at.ensures at c.get-comp.ensures)).1 in
    let n : length c.as_mut_slice.result.now ≡ c.args.chans = cc in
    rw n fit

pub loop-i-preserved : goal.loop-i-preserved
loop-i-preserved c =
    let n = c.loop-i.ends in
    let d = c.seat_comp-least.new.ends in
    let here = rw (← add-one) at (here_at c.args.comps.now c.loop-i.i c.get-comp.result.now (omega arith) (rw c.at.ensures at c.get-comp.ensures)) in
    let back : take n.len (d ++ drop (length d) n.items) ≡ d = take_at _ _ _ (omega arith) in
    let before = rw c.as_mut_slice.ensures.value at c.seat_comp-least.ensures in
    rw back (record { len = cc; seated = passed_all _ _ _ _ _ _ here refl (before (sites_of c.args.comps.now) here c.loop-i.invariant.seated) })

pub returns-clause-ok : goal.returns-clause-ok
returns-clause-ok c =
    let all : c.loop-i.i ≡ length c.args.comps.now = omega arith in
    (c.loop-i.invariant.len, subst (λ k. Seated (sites_of c.args.comps.now) (Passed (k + 1) 0) c.loop-i.ends.items c.loop-i.least) all c.loop-i.invariant.seated)

pub loop-i-init : goal.loop-i-init
loop-i-init c =
    let is : c.in_ok-ends.ends.items ≡ replicate c.args.chans no_ends = grind (arith, common_steps) in
    record { len = ap length is ∙ length-replicate c.args.chans no_ends; seated = rw is (seated_none (sites_of c.args.comps.now) c.args.chans) }

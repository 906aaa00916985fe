use Rattle.std.proofs.Common.{arith, ◌≡◌, ◌+◌, ◌++◌, ◌∙◌, length, add-one, take, drop, refl, subst}
use Rattle.std.proofs.lemmas.List.{take_at}
use Rattle.bz_flat.specs.Flats.{sites_of}
use Rattle.bz_elab.specs.Seats.{Passed}
use Rattle.bz_elab.specs.EndFaults.{AreMarked}
use Rattle.bz_elab.proofs.Ending.{marked_all}
use Rattle.bz_elab.proofs.Sites.{here_at, fits_at}
use Rattle.bz_elab.proofs.ends.doubled.Goals as goal

pub mark_doubled-requires-clause-few : goal.mark_doubled-requires-clause-few
mark_doubled-requires-clause-few c = (fits_at c.args.comps.now (length c.args.ends.now) c.loop-i.i c.get.result.now c.requires.fit (omega arith) (rw c.at.ensures at c.get.ensures)).0

pub mark_doubled-requires-clause-within : goal.mark_doubled-requires-clause-within
mark_doubled-requires-clause-within c = (fits_at c.args.comps.now (length c.args.ends.now) c.loop-i.i c.get.result.now c.requires.fit (omega arith) (rw c.at.ensures at c.get.ensures)).1

pub loop-i-preserved : goal.loop-i-preserved
loop-i-preserved c =
    let n = c.loop-i.marks in
    let d = c.mark_doubled.new.marks in
    let value = c.deref_mut.ensures.value in
    let here = rw (← add-one) at (here_at c.args.comps.now c.loop-i.i c.get.result.now (omega arith) (rw c.at.ensures at c.get.ensures)) in
    let same : length d ≡ length n.items = rw value at c.mark_doubled.ensures.same in
    let back : take n.len (d ++ drop (length d) n.items) ≡ d = take_at _ _ _ (omega (arith, same)) in
    let before = rw value at c.mark_doubled.ensures.doubled in
    let marked = rw value at c.mark_doubled.ensures.all in
    rw back (record {
      len = same ∙ c.loop-i.invariant.len;
      doubled = before (sites_of c.args.comps.now) here c.requires.stand c.loop-i.invariant.doubled;
      all = marked_all (sites_of c.args.comps.now) c.args.ends.now d _ _ _ here refl (marked (sites_of c.args.comps.now) here c.loop-i.invariant.all);
    })

pub returns-clause-all : goal.returns-clause-all
returns-clause-all c =
    let all : c.loop-i.i ≡ length c.args.comps.now = omega arith in
    subst (λ k. AreMarked (sites_of c.args.comps.now) (Passed (k + 1) 0) c.args.ends.now c.loop-i.marks.items) all c.loop-i.invariant.all

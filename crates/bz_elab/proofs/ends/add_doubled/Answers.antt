use Rattle.std.proofs.Common.{◌≡◌, ◌+◌, ◌-◌, length, arith}
use Rattle.bz_flat.specs.declared.error.ElabError.TheVariants.{TwoEnds}
use Rattle.bz_elab.specs.EndFaults.{TwoAt}
use Rattle.bz_elab.proofs.Ending.{two_within}
use Rattle.bz_elab.proofs.Gathering.{adds_end, adds_none, adds_not, adds_this}
use Rattle.bz_elab.proofs.ends.add_doubled.Goals as goal
use Rattle.bz_elab.proofs.ends.add_doubled.Goals.{then-is_doubled+in_ok-push, else-is_doubled}

pub loop-k-init : goal.loop-k-init
loop-k-init c = adds_none TwoEnds (TwoAt c.args.doubled.now) 0 _ (λ k two. two.0)

pub loop-k-preserved : goal.loop-k-preserved
loop-k-preserved c =
    let z : c.loop-k.k + 1 - 1 ≡ c.loop-k.k = omega arith in elim c.if-is_doubled.branch [
      | then-is_doubled+in_ok-push w ↦
          rw (w.faults-is, w.in_ok-push.ensures.items) (adds_this TwoEnds (TwoAt c.args.doubled.now) c.loop-k.k _ _ c.loop-k.invariant (omega arith, rw z w.if-is_doubled.true))
      | else-is_doubled w ↦ rw w.faults-is (adds_not TwoEnds (TwoAt c.args.doubled.now) c.loop-k.k _ _ c.loop-k.invariant (λ two. let marked = rw z at two.1 in let not_marked = w.if-is_doubled.false in cc))
    ]

pub returns : goal.returns
returns c =
    let all : c.loop-k.k ≡ length c.args.doubled.now = omega arith in
    adds_end TwoEnds (TwoAt c.args.doubled.now) c.loop-k.k _ _ (λ k two. let lt = two_within c.args.doubled.now k two in omega (arith, all, lt)) c.loop-k.invariant

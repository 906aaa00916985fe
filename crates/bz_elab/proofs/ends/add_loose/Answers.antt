use Rattle.std.proofs.Common.{◌≤◌, length, arith}
use Rattle.bz_flat.specs.declared.error.ElabError.TheVariants.{LooseEnd}
use Rattle.bz_elab.specs.EndFaults.{OneAt}
use Rattle.bz_elab.proofs.Ending.{even_there, odd_there, one_within}
use Rattle.bz_elab.proofs.Gathering.{adds_end, adds_none, adds_not, adds_this}
use Rattle.bz_elab.proofs.ends.add_loose.Goals as goal
use Rattle.bz_elab.proofs.ends.add_loose.Goals.{then-is_some+in_ok-push, else-is_some}

pub loop-k-init : goal.loop-k-init
loop-k-init c = adds_none LooseEnd (OneAt c.args.ports c.args.ends.now) c.args.ports _ (λ k one. one.0)

pub loop-k-preserved : goal.loop-k-preserved
loop-k-preserved c =
    let P = OneAt c.args.ports c.args.ends.now in elim c.if-is_some.branch [
      | then-is_some+in_ok-push w ↦
          let odd = odd_there c.args.ends.now c.loop-k.k _ _ _ (omega arith) c.is_some.ensures c.is_some-in-loop-k.ensures w.if-is_some.true in
          rw (w.faults-is, w.in_ok-push.ensures.items) (adds_this LooseEnd P c.loop-k.k _ _ c.loop-k.invariant (omega (arith, c.loop-k.auto.k), odd))
      | else-is_some w ↦
          let even = even_there c.args.ends.now c.loop-k.k _ _ _ (omega arith) c.is_some.ensures c.is_some-in-loop-k.ensures w.if-is_some.false in
          rw w.faults-is (adds_not LooseEnd P c.loop-k.k _ _ c.loop-k.invariant (λ one. one.1 even))
    ]

pub returns : goal.returns
returns c =
    let all : length c.args.ends.now ≤ c.loop-k.k = omega arith in
    adds_end LooseEnd (OneAt c.args.ports c.args.ends.now) c.loop-k.k _ _ (λ k one. let to = one_within c.args.ends.now k one.1 in omega (arith, all, to)) c.loop-k.invariant

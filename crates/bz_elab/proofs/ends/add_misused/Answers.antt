use Rattle.std.proofs.Common.{◌+◌, ◌≡◌, length, map, not, sym, ◌∙◌, ap, arith}
use Rattle.std.proofs.lemmas.List.{length-map}
use Rattle.bz_model.specs.Names.{external}
use Rattle.bz_flat.specs.declared.error.ElabError.TheVariants.{PortSense}
use Rattle.bz_flat.specs.Wires.{end_at}
use Rattle.bz_elab.specs.EndFaults.{HostAt}
use Rattle.bz_elab.proofs.Ending.{none_there, stands_there}
use Rattle.bz_elab.proofs.Gathering.{adds_end, adds_none, adds_not, adds_this}
use Rattle.bz_elab.proofs.Verdicts.{port_at}
use Rattle.bz_elab.proofs.ends.add_misused.Goals as goal
use Rattle.bz_elab.proofs.ends.add_misused.Goals.{then-is_some+in_ok-push, else-is_some}

pub loop-k-init : goal.loop-k-init
loop-k-init c = adds_none PortSense (HostAt (map external c.args.ports.now) c.args.ends.now) 0 _ (λ k host. host.0)

pub loop-k-preserved : goal.loop-k-preserved
loop-k-preserved c =
    let ends = c.args.ends.now in
    let ports = c.args.ports.now in
    let k = c.loop-k.k in
    let P = HostAt (map external ports) ends in
    let all : length (map external ports) ≡ length ports = length-map ports external in
    let sense = port_at ports k c.index-ports-k.result (omega arith) c.index-ports-k.is in
    let host = c.at_host.ensures ∙ ap (λ s. end_at ends (k + 1) (not s)) (sym sense) in elim c.if-is_some.branch [
      | then-is_some+in_ok-push w ↦
          let stands = stands_there _ _ c.is_some.ensures w.if-is_some.true in
          rw (w.faults-is, w.in_ok-push.ensures.items)
          (adds_this PortSense P k _ _ c.loop-k.invariant (omega arith, omega (arith, all), λ none. stands (host ∙ none)))
      | else-is_some w ↦
          let free = none_there _ _ c.is_some.ensures w.if-is_some.false in
          rw w.faults-is (adds_not PortSense P k _ _ c.loop-k.invariant (λ p. p.2 (sym host ∙ free)))
    ]

pub returns : goal.returns
returns c =
    let ports = c.args.ports.now in
    let all : c.loop-k.k ≡ length ports = omega arith in
    let same : length (map external ports) ≡ length ports = length-map ports external in
    adds_end PortSense (HostAt (map external ports) c.args.ends.now) c.loop-k.k _ _ (λ k host. let to = host.1 in omega (arith, all, same, to)) c.loop-k.invariant

use Rattle.std.proofs.Common.{arith, ◌≡◌, length, map, inl, inr}
use Rattle.std.proofs.lemmas.List.{length-map}
use Rattle.bz_model.specs.Names.{external}
use Rattle.bz_elab.proofs.Seating.{table_ends}
use Rattle.bz_elab.proofs.Verdicts.{table_of, least_two, no_two, loose_least, misused_least, no_loose, odd_at, host_at}
use Rattle.bz_elab.proofs.ends.wire.Goals as goal
use Rattle.bz_elab.proofs.ends.wire.Goals.{then-port, else-port}

pub returns-then-least-clause-err : goal.returns-then-least-clause-err
returns-then-least-clause-err c =
    let t = table_of c.args.comps.now _ _ c.in_ok-ends.ensures.ok.1 in
    least_two _ c.args.chans _ _ c.requires.fit t (omega arith)

pub returns-then-is_some-clause-err : goal.returns-then-is_some-clause-err
returns-then-is_some-clause-err c =
    let t = table_of c.args.comps.now _ _ c.in_ok-ends.ensures.ok.1 in
    let max = rw c.if-least.false at t in
    let n = c.in_ok-ends.ensures.ok.0 in
    let ports : length (map external c.args.ports.now) ≡ length c.args.ports.now = length-map c.args.ports.now external in
    let odd = odd_at c.in_ok-ends.ends.items c.loop-k.k c.index.result.now _ _ c.index.ensures (omega (arith, n)) c.is_some.ensures c.is_some-in-loop-k.ensures c.if-is_some.true in (
      no_two _ c.args.chans _ c.requires.fit max,
      loose_least _ (map external c.args.ports.now) c.args.chans _ _ c.loop-k.k c.requires.fit max (omega (arith, ports, c.loop-k.auto.k))
          (λ j beyond to. c.loop-k.invariant j (omega (arith, ports, beyond)) to) odd,
    )

pub returns-then-is_some-2-clause-err : goal.returns-then-is_some-2-clause-err
returns-then-is_some-2-clause-err c =
    let t = table_of c.args.comps.now _ _ c.in_ok-ends.ensures.ok.1 in
    let max = rw c.if-least.false at t in
    let n = c.in_ok-ends.ensures.ok.0 in
    let ports : length (map external c.args.ports.now) ≡ length c.args.ports.now = length-map c.args.ports.now external in (
      no_two _ c.args.chans _ c.requires.fit max,
      no_loose _ (map external c.args.ports.now) c.args.chans _ _ c.requires.fit max (λ j beyond to. c.loop-k.invariant j (omega (arith, ports, beyond)) (omega (arith, to, n))),
      misused_least _ (map external c.args.ports.now) c.args.chans _ _ c.loop-k-2.k c.requires.fit max (omega (arith, ports)) c.loop-k-2.invariant
          (host_at c.in_ok-ends.ends.items c.loop-k-2.k c.index-pair.result.now c.args.ports.now c.index-ports-k.result _ _ c.index-ports-k.is (omega arith) c.index-pair.ensures (omega (arith, n))
          c.is_some-in-loop-k-2.ensures c.if-is_some-2.true (elim c.if-port.branch [
            | then-port w ↦ inl (w.if-port.true, w.at_host-is)
            | else-port w ↦ inr (w.if-port.false, w.at_host-is)
          ])),
    )

pub returns-clause-ok : goal.returns-clause-ok
returns-clause-ok c =
    let t = table_of c.args.comps.now _ _ c.in_ok-ends.ensures.ok.1 in
    let max = rw c.if-least.false at t in
    let n = c.in_ok-ends.ensures.ok.0 in
    let ports : length (map external c.args.ports.now) ≡ length c.args.ports.now = length-map c.args.ports.now external in (
      n,
      table_ends _ (map external c.args.ports.now) c.args.chans _ c.requires.fit (omega (arith, ports, c.requires.ports_to)) max
          (λ k beyond to. c.loop-k.invariant k (omega (arith, ports, beyond)) (omega (arith, to, n)))
          (λ k from to. c.loop-k-2.invariant k from (omega (arith, ports, from, to))),
    )

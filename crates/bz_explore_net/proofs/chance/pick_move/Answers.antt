use Rattle.std.proofs.Common.{◌∙◌, ◌%◌, ℕ, ap}
use Rattle.std.proofs.lemmas.Result.{err_from_is_err_and, IfOk-weaker}
use Rattle.bz_model.specs.Runs.{CanStep, Rest}
use Rattle.bz_net.specs.Keeping.{IsMarked}
use Rattle.bz_net.specs.Replies.{IsPicked}
use Rattle.bz_explore_net.specs.Picking.{after, drawn, IsPickedEntry}
use Rattle.bz_explore_net.proofs.Moving.{rested}
use Rattle.bz_explore_net.proofs.Picked.{fired_picked, members_along, place_along, rest_picked, wants_place}
use Rattle.bz_explore_net.proofs.chance.pick_move.Goals as goal

pub returns-in_default-clause-picked : goal.returns-in_default-clause-picked
returns-in_default-clause-picked c =
    let net = c.args.net.now in let who = c.args.who in let g = c.args.picker.now.state in
    let rest : Rest net.wiring.sites net.state = λ comp can. absurd (c.in_default.ensures.none comp ((c.requires.movers.exact comp).marks can)) in
    IfOk-weaker c.step.result (IsPicked net who 1) (IsPickedEntry net who g g) (λ e. rest_picked net who g e rest) c.step.ensures.picked

pub returns-in_default-clause-movers : goal.returns-in_default-clause-movers
returns-in_default-clause-movers c =
    let net = c.args.net.now in
    let rest : Rest net.wiring.sites net.state = λ comp can. absurd (c.in_default.ensures.none comp ((c.requires.movers.exact comp).marks can)) in
    rested c.args.who net c.step.new.self c.args.movers.now c.step.result rest c.step.ensures.picked c.step.ensures.adds c.step.ensures.err c.requires.movers

pub pick_port-port-requires : goal.pick_port-port-requires
pick_port-port-requires c =
    let is = c.in-Some.ensures.comp.2.0 in record { can = (c.requires.movers.exact c.in-Some.comp).marked is }

pub returns-in_err-entry-clause-cause : goal.returns-in_err-entry-clause-cause
returns-in_err-entry-clause-cause c =
    let p = err_from_is_err_and c.from_residual.result c.from_residual.ensures.1 in
    rw (p.1, p.2) (wants_place c.args.net.now c.in-Some.comp c.pick_port-port.result c.in_err-entry.field-0.0 c.pick_port-port.ensures.port.2.0 c.in_err-entry.ensures.cause)

pub returns-clause-picked : goal.returns-clause-picked
returns-clause-picked c =
    let net = c.args.net.now in
    let comp = c.in-Some.ensures in let port = c.pick_port-port.ensures in
    let g = c.args.picker.now.state in let row = c.args.movers.now in
    let to : (k : ℕ) → IsMarked row k → CanStep net.wiring.sites net.state k = λ k is. (c.requires.movers.exact k).marked is in
    let back : (k : ℕ) → CanStep net.wiring.sites net.state k → IsMarked row k = λ k can. (c.requires.movers.exact k).marks can in
    let able = CanStep net.wiring.sites net.state in
    fired_picked net c.args.who g c.pick_port-port.new.picker.state c.in-Some.comp c.pick_port-port.result c.in_ok-entry.entry
    (record {
      comps = comp.comp.0;
      ports = port.port.0;
      comps_are = members_along (IsMarked row) able to back comp.comp.0 comp.comp.1;
      comp_is = place_along (IsMarked row) able to back (drawn g % comp.comp.0) c.in-Some.comp comp.comp.2;
      ports_are = port.port.1;
      port_is = rw comp.state at port.port.2;
    })
    (port.state ∙ ap after comp.state) c.in_ok-entry.ensures.fired

use Rattle.std.proofs.Common.{sym, ap, subst, ◌∙◌}
use Rattle.bz_waits.specs.declared.wait.Wait.{Wait}
use Rattle.bz_model.specs.declared.channel.Move.TheVariants.{Got, Take}
use Rattle.bz_waits.specs.Adding.{AddsAll, AddsComp}
use Rattle.bz_waits.specs.Waiting.{IsDue, IsWait}
use Rattle.bz_waits.proofs.Ends.{if_ok}
use Rattle.bz_waits.proofs.Gathered.{adds_gets, adds_halted, adds_idle, adds_ready, adds_takes, halted_wait}
use Rattle.bz_waits.proofs.Passed.{none_found, some_found}
use Rattle.bz_waits.proofs.graph.add_comp.Goals as goal

pub returns-then-is_ready : goal.returns-then-is_ready
returns-then-is_ready c =
    let n = c.args.core.now in
    adds_ready n.wiring.sites n.state c.args.comp c.args.waits.now.items c.requires.each c.if-is_ready.ensures

pub returns-then-is_some : goal.returns-then-is_some
returns-then-is_some c =
    let n = c.args.core.now in let old = c.args.waits.now.items in let new = c.add_due.new.waits.items in
    let got = some_found (IsDue n.wiring.sites n.state c.args.comp Got) 0 c.next_due.result c.next_due.ensures (sym c.is_some.ensures ∙ c.if-is_some.true) in
    if_ok (AddsAll n.wiring.sites n.state c.args.comp Got old new) (AddsComp n.wiring.sites n.state c.args.comp old new) c.add_due.result c.add_due.ensures
    (adds_gets n.wiring.sites n.state c.args.comp old new got.0 got.1)

pub returns-in_default : goal.returns-in_default
returns-in_default c =
    let n = c.args.core.now in
    let gets = none_found (IsDue n.wiring.sites n.state c.args.comp Got) c.next_due.result c.next_due.ensures (sym c.is_some.ensures ∙ c.if-is_some.false) (λ p due. due.0.port_from) in
    adds_idle n.wiring.sites n.state c.args.comp c.args.waits.now.items c.requires.each gets c.in_default.ensures

pub returns-then-is_some-2 : goal.returns-then-is_some-2
returns-then-is_some-2 c =
    let n = c.args.core.now in let old = c.args.waits.now.items in let new = c.add_due-then-is_some-2.new.waits.items in
    let gets = none_found (IsDue n.wiring.sites n.state c.args.comp Got) c.next_due.result c.next_due.ensures (sym c.is_some.ensures ∙ c.if-is_some.false) (λ p due. due.0.port_from) in
    let take = some_found (IsDue n.wiring.sites n.state c.args.comp Take) 0 c.next_due-2.result c.next_due-2.ensures (sym c.is_some-2.ensures ∙ c.if-is_some-2.true) in
    if_ok (AddsAll n.wiring.sites n.state c.args.comp Take old new) (AddsComp n.wiring.sites n.state c.args.comp old new) c.add_due-then-is_some-2.result c.add_due-then-is_some-2.ensures
    (adds_takes n.wiring.sites n.state c.args.comp old new take.0 gets take.1)

pub returns : goal.returns
returns c =
    let n = c.args.core.now in let old = c.args.waits.now.items in
    let gets = none_found (IsDue n.wiring.sites n.state c.args.comp Got) c.next_due.result c.next_due.ensures (sym c.is_some.ensures ∙ c.if-is_some.false) (λ p due. due.0.port_from) in
    let takes = none_found (IsDue n.wiring.sites n.state c.args.comp Take) c.next_due-2.result c.next_due-2.ensures (sym c.is_some-2.ensures ∙ c.if-is_some-2.false) (λ p due. due.0.port_from) in
    let wait = halted_wait n.wiring.sites n.state c.args.comp c.in-Some.chan c.if-is_ready.ensures gets takes c.in-Some.ensures in
    rw c.in_ok-push.ensures.items
    (adds_halted n.wiring.sites n.state c.args.comp old c.requires.each c.halted.result (subst (IsWait n.wiring.sites n.state) (sym c.halted.ensures) wait) (ap (λ (w : Wait). w.comp) c.halted.ensures) gets takes)

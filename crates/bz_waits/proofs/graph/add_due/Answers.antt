use Rattle.std.proofs.Common.{Global, Vec, ◌≡◌, ◌+◌, length, sym, subst, ◌∙◌, arith}
use Rattle.bz_model.specs.Nets.{site_at}
use Rattle.bz_waits.specs.declared.wait.Place.{Place}
use Rattle.bz_waits.specs.declared.wait.Wait.{Wait}
use Rattle.bz_waits.specs.Adding.{AddsUpTo}
use Rattle.bz_waits.specs.Waiting.{IsPlace}
use Rattle.bz_waits.proofs.Ends.{place_goes_on}
use Rattle.bz_waits.proofs.Gathered.{adds_all, adds_none, adds_one}
use Rattle.bz_waits.proofs.graph.add_due.Goals as goal
use Rattle.bz_waits.proofs.graph.add_due.Goals.{then-is_due+in_ok-push, else-is_due}

pub loop-before-preserved : goal.loop-before-preserved
loop-before-preserved c =
    let n = c.args.core.now in let comp = c.args.comp in let due = c.args.due in let old = c.args.waits.now.items in
    let before = c.loop-before.before in let so = c.loop-before.invariant in
    elim c.if-is_due.branch [
      | then-is_due+in_ok-push w ↦ record {
        place =
            subst (λ (x : Place). IsPlace n.wiring.sites n.state comp due x) (sym (w.place-is ∙ w.next-place.ensures))
            (place_goes_on n.wiring.sites n.state comp due c.loop-before.place so.place);
        adds =
            subst (λ (v : Vec Wait Global). AddsUpTo n.wiring.sites n.state comp due (before + 1) old v.items) (sym w.waits-is) (rw w.in_ok-push.ensures.items
            (adds_one n.wiring.sites n.state comp due before old c.loop-before.waits.items so.adds w.at_port.result w.at_port.ensures.wait w.at_port.ensures.comp w.at_port.ensures.chan));
      }
      | else-is_due w ↦ record {
        place = subst (λ (x : Place). IsPlace n.wiring.sites n.state comp due x) (sym w.place-is) so.place;
        adds =
            subst (λ (v : Vec Wait Global). AddsUpTo n.wiring.sites n.state comp due (before + 1) old v.items) (sym w.waits-is)
            (adds_none n.wiring.sites n.state comp due before old c.loop-before.waits.items so.adds w.if-is_due.ensures);
      }
    ]

pub returns : goal.returns
returns c =
    let n = c.args.core.now in
    let all : c.loop-before.before ≡ length (site_at n.wiring.sites c.args.comp).chans = (let ports = c.port_count-before-end.ensures in let end = c.loop-before-test.false in let to = c.loop-before.auto.before-end in omega (arith, ports, end, to)) in
    adds_all n.wiring.sites n.state c.args.comp c.args.due c.loop-before.before c.args.waits.now.items c.loop-before.waits.items c.loop-before.invariant.adds all

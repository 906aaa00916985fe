use Rattle.std.proofs.Common.{◌≡◌, ◌+◌, ◌-◌, ◌<◌, ℕ, suc, [], subst, sym, arith}
use Rattle.bz_model.specs.declared.event.Who.{Who}
use Rattle.bz_model.specs.declared.event.Entry.{Entry}
use Rattle.bz_model.specs.declared.event.Entry.TheVariants.{Fired, Host, Rested}
use Rattle.bz_model.specs.Runs.{CanStep, IsLowest, IsNext, Rest}
use Rattle.bz_net.specs.Progress.{Progress, Enters, with_journal}
use Rattle.bz_net.specs.Replies.{IsFiring, IsPicked}
use Rattle.bz_net.proofs.Entering.{enters_rested, progress}
use Rattle.bz_net.proofs.play.Play.step_after.Goals as goal
use Rattle.bz_net.proofs.play.Play.step_after.Goals.{in-Some, in-None+in-Some-next_past}

picked : (v : Progress) (who : Who) (from c p : ℕ) (e : Entry) → IsNext (CanStep v.wiring.sites v.state) from c → IsLowest v.wiring.sites v.state c p → IsFiring who c p e → IsPicked (with_journal v []) who from e
picked v who from c p (Fired who' c' p' k mv value) next lowest f = (f.0, rw f.1 next, rw (f.1, f.2) lowest)
picked v who from c p (Host who' verb port value answer) next lowest f = absurd f
picked v who from c p (Rested who') next lowest f = absurd f

pub returns-in-None-next_past-clause-enters : goal.returns-in-None-next_past-clause-enters
returns-in-None-next_past-clause-enters c =
    let n = c.self.inside in
    let rests : Rest n.core.wiring.sites n.core.state = rw c.in-None-next_past.is at c.next_past.ensures in
    let has : 0 < n.left = subst (λ (v : Progress). 0 < v.left) (sym c.self.view_is) c.requires.place in
    let one : n.left ≡ (n.left - 1) + 1 = omega (arith, has) in
    subst (λ (v : Progress). Enters v (Rested c.args.who) (progress n.core.wiring n.core.state n.noted (n.left - 1))) c.self.view_is
    (enters_rested n.core.wiring n.core.state n.noted n.left (n.left - 1) c.args.who one rests)

pub fire-requires-clause-may : goal.fire-requires-clause-may
fire-requires-clause-may c =
    let n = c.self.inside in let comp = c.match-next_after.comp in
    let next : IsNext (CanStep n.core.wiring.sites n.core.state) (suc c.args.last) comp = elim c.match-next_after.branch [
      | in-Some w ↦ rw w.comp-is (rw w.in-Some.is at c.next_after.ensures.some)
      | in-None+in-Some-next_past w ↦ rw w.comp-is (rw w.in-Some-next_past.is at w.next_past.ensures)
    ] in
    subst (λ (v : Progress). CanStep v.wiring.sites v.state comp) c.self.view_is next.is_in

pub returns-clause-picked : goal.returns-clause-picked
returns-clause-picked c =
    let n = c.self.inside in let comp = c.match-next_after.comp in
    let next : IsNext (CanStep n.core.wiring.sites n.core.state) (suc c.args.last) comp = elim c.match-next_after.branch [
      | in-Some w ↦ rw w.comp-is (rw w.in-Some.is at c.next_after.ensures.some)
      | in-None+in-Some-next_past w ↦ rw w.comp-is (rw w.in-Some-next_past.is at w.next_past.ensures)
    ] in
    let (p, lowest, firing, sole) = c.fire.ensures.fired in
    picked c.args.self.now c.args.who (suc c.args.last) comp p c.fire.result
    (subst (λ (v : Progress). IsNext (CanStep v.wiring.sites v.state) (suc c.args.last) comp) c.self.view_is next)
    lowest firing

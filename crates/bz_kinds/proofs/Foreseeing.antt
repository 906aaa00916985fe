-- What is due at a port can be made where its channel lets it be, and nothing else can.
use Rattle.std.proofs.Common.{◌≡◌, ◌∙◌, ℕ, Option, Some, List, IsTrue, get_or, map, refl, ap, subst}
use Rattle.bz_model.specs.declared.channel.Chan.{Chan}
use Rattle.bz_model.specs.declared.channel.Phase.{Phase}
use Rattle.bz_model.specs.Heads.{Component, Proc, CanMove, Moves, after_head, carried}
use Rattle.bz_model.specs.Phases.{allows, incoming}
use Rattle.bz_model.specs.Terms.{Store}
use Rattle.bz_kinds.specs.declared.ports.PortState.{PortState}
use Rattle.bz_kinds.specs.declared.ports.PortState.TheVariants.{Closed}
use Rattle.bz_kinds.specs.declared.row.Plan.{Plan}
use Rattle.bz_kinds.specs.Comp.{IsAt, plan_due, todo_of}
use Rattle.bz_kinds.specs.Row.{Due, due_of, is_open}
use Rattle.bz_kinds.proofs.PlanLaws.{due-is-head, head-on-due}

module _ (plan : Plan) (n left : ℕ) (w : List PortState) (s : Store) (chans : List Chan) (c : Component) (view : record { proc = record { todo = todo_of plan n left w; store = s }; chans = chans; open_ports = map is_open w } ≡ c) (ok : IsAt plan n left w s) where
  pub foreseen : (p : ℕ) (phase : Phase) (d : Due) (value came : Option ℕ) → plan_due plan n left p (get_or w p Closed) ≡ Some d → IsTrue (allows phase d.mv) → came ≡ incoming phase d.mv → value ≡ carried d.mv d.gives s came → (rest : Proc) × Moves c.proc p phase d.mv value rest
  foreseen p phase d value came e may in_is v =
      let (h, on, same) = due-is-head plan n left w s ok p d e in
      let v' : value ≡ carried h.move h.gives s (incoming phase h.move) = v ∙ ap (λ came. carried d.mv d.gives s came) in_is ∙ ap (λ (d : Due). carried d.mv d.gives s (incoming phase d.mv)) same in
      let proc : Proc = record { todo = todo_of plan n left w; store = s } in
      subst (λ (c : Component). (rest : Proc) × Moves c.proc p phase d.mv value rest) view
      (after_head proc h (incoming phase h.move), record { head = h; on = on; move_is = ap (λ (d : Due). d.mv) same; allowed = may; value_is = v'; leaves = refl })

  pub unforeseen : (p : ℕ) (phase : Phase) → ((d : Due) → plan_due plan n left p (get_or w p Closed) ≡ Some d → IsTrue (allows phase d.mv) → ⊥) → CanMove c.proc p phase → ⊥
  unforeseen p phase none (h, on, may) = none (due_of h) (head-on-due plan n left w s chans c view ok p h on) may

use Rattle.std.proofs.Common.{arith, ◌≡◌, ◌≤◌, List, ℕ, length, take, refl}
use Rattle.std.proofs.lemmas.List.{append-nil, take_all}
use Rattle.std.proofs.lemmas.List.Elements.{All-push, All-head, All-tail}
use Rattle.bz_model.specs.declared.kind.TheConstants.{MAX_MEMBERS}
use Rattle.bz_elab.proofs.Slots.{lists-take, lists-drop}
use Rattle.bz_elab.proofs.component.has_members.Goals as goal
use Rattle.bz_elab.proofs.component.has_members.Goals.{in-One, in-Many+else-len}

pub returns-then-len : goal.returns-then-len
returns-then-len c = (
  λ h. cc,
  λ all.
      let here = rw c.in-Many.is at (lists-drop c.args.entries.now c.loop-entry.entry-index c.entry-item.result (omega arith) c.entry-item.is) in
      let left = rw here at (c.loop-entry.invariant.left all) in
      absurd (let small = All-head (λ (m : List ℕ). length m ≤ MAX_MEMBERS) _ _ left in omega (arith, small)),
)

pub loop-entry-preserved : goal.loop-entry-preserved
loop-entry-preserved c =
    let more = lists-take c.args.entries.now c.loop-entry.entry-index c.entry-item.result (omega arith) c.entry-item.is in
    let rest = lists-drop c.args.entries.now c.loop-entry.entry-index c.entry-item.result (omega arith) c.entry-item.is in
    let P : List ℕ → Type 0 = λ m. length m ≤ MAX_MEMBERS in
    elim c.match-entry.branch [
      | in-One w ↦
          let more' = rw (w.in-One.is, append-nil) at more in
          let rest' = rw w.in-One.is at rest in
          record { passed = rw more' c.loop-entry.invariant.passed; left = λ all. rw rest' at (c.loop-entry.invariant.left all) }
      | in-Many+else-len w ↦
          let more' = rw w.in-Many.is at more in
          let rest' = rw w.in-Many.is at rest in
          record {
            passed = rw more' (All-push P _ _ c.loop-entry.invariant.passed (omega arith));
            left = λ all. All-tail P _ _ (rw rest' at (c.loop-entry.invariant.left all));
          }
    ]

pub returns : goal.returns
returns c =
    let whole : take c.loop-entry.entry-index c.args.entries.now ≡ c.args.entries.now = take_all _ _ (omega arith) in
    (λ h. rw whole at c.loop-entry.invariant.passed, λ all. refl)

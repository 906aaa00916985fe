use Rattle.std.proofs.Common.{arith, ◌≡◌, ℕ, subst, true, false, sym, ◌∙◌, inl, inr}
use Rattle.std.proofs.lemmas.Bool.Decides.{leb_tells, eqb_tells}
use Rattle.bz_elab.specs.Numbers.{is_marked, IsBelow}
use Rattle.bz_elab.proofs.Reaching.{same_read}
use Rattle.bz_elab.proofs.reach.first_recursive.Goals as goal
use Rattle.bz_elab.proofs.reach.first_recursive.Goals.{then-is_marked+then-not-is_ruled_out+in_ok-below+else-index, then-is_marked+else-not-is_ruled_out, else-is_marked}

pub returns-then-index : goal.returns-then-index
returns-then-index c =
    let place = c.loop-place.place in
    let marks = c.in_ok-below.ensures in
    let here : is_marked c.args.marks.now place ≡ true = same_read c.args.marks.now place _ _ (omega arith) ∙ c.if-is_marked.true in
    let below : is_marked c.in_ok-below.below.items place ≡ true =
    same_read c.in_ok-below.below.items place _ _ (omega (arith, marks.len, c.requires)) ∙ (sym c.index.ensures ∙ c.if-index.true) in (
      here,
      marks.sound place below,
      λ m marked is. elim (leb_tells place m) [
        | inl h ↦ h.1
        | inr h ↦ absurd (c.loop-place.invariant m h.1 marked is)
      ],
    )

pub loop-place-preserved : goal.loop-place-preserved
loop-place-preserved c m lt marked is = elim (eqb_tells m c.loop-place.place) [
  | inr d ↦ c.loop-place.invariant m (omega (arith, lt, d.1)) marked is
  | inl e ↦
      let place = c.loop-place.place in
      let here = subst (λ (n : ℕ). IsBelow c.args.parts.now n n) e.1 is in
      let it = rw e.1 at marked in
      elim c.if-is_marked.branch [
        | then-is_marked+then-not-is_ruled_out+in_ok-below+else-index w ↦
            let marks = w.in_ok-below.ensures in
            let no : is_marked w.in_ok-below.below.items place ≡ false =
            same_read w.in_ok-below.below.items place _ _ (omega (arith, marks.len, c.requires)) ∙ (sym w.index.ensures ∙ w.if-index.false) in
            let yes = marks.whole place here in
            let clash = rw no at yes in
            cc
        | then-is_marked+else-not-is_ruled_out w ↦ w.is_ruled_out.ensures w.if-not-is_ruled_out.false here
        | else-is_marked w ↦
            let no : is_marked c.args.marks.now place ≡ false = same_read c.args.marks.now place _ _ (omega arith) ∙ w.if-is_marked.false in
            let clash = rw no at it in
            cc
      ]
]

use Rattle.std.proofs.Common.{◌≡◌, ℕ, ◌+◌, map, ◌∷◌, ◌++◌, [], sym, ap, ◌∙◌, subst, arith, IsPermutation}
use Rattle.std.proofs.lemmas.List.{map-append}
use Rattle.std.proofs.lemmas.List.Sorted.{IsPermutation-map}
use Rattle.bz_draw.specs.Drawn.{alone}
use Rattle.bz_draw.proofs.NodeLaws.{alone_more, alone_same}
use Rattle.bz_draw.proofs.drawing.comps_of.Goals as goal
use Rattle.bz_draw.proofs.drawing.comps_of.Goals.{then-is_alone+in_ok-push, else-is_alone}

pub loop-i-preserved : goal.loop-i-preserved
loop-i-preserved c =
    let boxes = c.args.folding.now.boxes.items in
    let snd : ℕ × ℕ → ℕ = λ n. n.1 in
    let test = rw c.as_slice.ensures.value at c.is_alone.ensures in
    elim c.if-is_alone.branch [
      | then-is_alone+in_ok-push w ↦
          rw w.comps-is (ap (map snd) w.in_ok-push.ensures.items ∙ map-append snd c.loop-i.comps.items _
          ∙ ap (λ xs. xs ++ (c.loop-i.i + 1) ∷ []) c.loop-i.invariant ∙ sym (alone_more boxes c.loop-i.i (sym test ∙ w.if-is_alone.true)))
      | else-is_alone w ↦ rw w.comps-is (c.loop-i.invariant ∙ sym (alone_same boxes c.loop-i.i (sym test ∙ w.if-is_alone.false)))
    ]

pub returns : goal.returns
returns c =
    let boxes = c.args.folding.now.boxes.items in
    let snd : ℕ × ℕ → ℕ = λ n. n.1 in
    let all : c.loop-i.i ≡ c.args.count = omega (arith, c.loop-i-test.false, c.loop-i.auto.i-end) in
    subst (λ xs. IsPermutation xs (map snd c.sort.new.self.items)) (c.loop-i.invariant ∙ ap (alone boxes) all)
    (IsPermutation-map snd c.loop-i.comps.items c.sort.new.self.items c.sort.ensures.permutation)

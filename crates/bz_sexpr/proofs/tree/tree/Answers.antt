use Rattle.std.proofs.Common.{◌≡◌, ◌-◌, ◌++◌, ◌∷◌, [], take, drop, reverse, ap, ap₂, sym, ◌∙◌, rules, arith}
use Rattle.std.specs.Option.{option_map}
use Rattle.bz_sexpr.specs.Data.{leaf}
use Rattle.bz_sexpr.specs.Views.{datum_view}
use Rattle.bz_sexpr.specs.Forms.{leaf_view}
use Rattle.bz_sexpr.specs.Nodes.{leaf_in, span_at}
use Rattle.bz_sexpr.specs.declared.datum.Datum.{Items}
use Rattle.bz_sexpr.proofs.Trees.{leaf_made, list_made}
use Rattle.bz_sexpr.proofs.tree.tree.Goals as goal
use Rattle.bz_sexpr.proofs.tree.tree.Goals.{in-Some+in_ok-datum-in-Some, in-None+in_ok-taken-in-None}

pub loop-left-preserved : goal.loop-left-preserved
loop-left-preserved c =
    let n = c.node_at-node.result in
    let whole = c.args.forest.now.text.now in
    let left = c.loop-left.left in
    let made = c.loop-left.made.items in
    let piece = ap leaf_in (sym c.piece.ensures) ∙ sym c.of_piece.ensures in
    elim c.match-of_piece.branch [
      | in-Some+in_ok-datum-in-Some w ↦ (
          let l = leaf_view w.in-Some.leaf in
          let view : datum_view c.match-of_piece.datum ≡ leaf l (span_at n) = ap datum_view w.datum-is ∙ w.in_ok-datum-in-Some.ensures ∙ ap (leaf l) w.span.ensures in
          let pushed = c.in_ok-push.ensures.items ∙ ap (λ v. v.items ++ c.match-of_piece.datum ∷ []) w.made-is in
          record {
            within = omega (arith, c.loop-left.invariant.within);
            behind = leaf_made whole _ left (left - 1) n made l _ _ (omega (arith, c.loop-left-test.true)) c.loop-left.invariant.within (search rules) c.loop-left.invariant.behind (piece ∙ ap (option_map leaf_view) w.in-Some.is) view pushed;
          }
          )
      | in-None+in_ok-taken-in-None w ↦ (
          let v = w.in_ok-taken-in-None.field-0 in
          let inner : v.items ≡ take n.count (reverse made) = w.in_ok-taken-in-None.ensures.taken ∙ ap (λ k. take k (reverse made)) w.inside.ensures in
          let others = w.in_ok-taken-in-None.ensures.left ∙ ap (λ k. drop k (reverse made)) w.inside.ensures in
          let pushed = c.in_ok-push.ensures.items ∙ ap₂ (λ m d. m.items ++ d ∷ []) w.made-is (w.datum-is ∙ ap (Items v) w.span-in-None.ensures) in
          record {
            within = omega (arith, c.loop-left.invariant.within);
            behind = list_made whole _ left (left - 1) n made v _ _ (omega (arith, c.loop-left-test.true)) c.loop-left.invariant.within (search rules) c.loop-left.invariant.behind (piece ∙ ap (option_map leaf_view) w.in-None.is) inner others pushed;
          }
          )
    ]

use Rattle.std.proofs.Common.{arith, refl, inl, inr, ap, ◌∙◌, length}
use Rattle.std.proofs.lemmas.Result.{MatchResult-weaker, on_ok_weaker}
use Rattle.std.proofs.lemmas.List.{length-map}
use Rattle.bz_elab.specs.Growth.{net_number}
use Rattle.bz_elab.proofs.walk.add_leaf.Goals as goal

pub returns-clause-ok : goal.returns-clause-ok
returns-clause-ok c =
    let are = rw c.as_slice.ensures.value at c.in_ok-chans.ensures in
    let kind = c.in_ok-kind.ensures in
    on_ok_weaker c.push_comp.result (λ (push, ends). record {
      added = record { kind = c.in_ok-kind.kind; sizes = c.args.named.now.sizes; chans = c.in_ok-chans.chans };
      on = are;
      kind_is = kind;
      sizes_are = refl;
      chans_are = c.push_comp.ensures.chans;
      comps_are = push;
      ends_are = ends;
    }) c.push_comp.ensures.ok

pub returns-clause-err : goal.returns-clause-err
returns-clause-err c =
    let are = rw c.as_slice.ensures.value at c.in_ok-chans.ensures in
    let same = ap length are ∙ length-map c.args.named.now.chans.items (net_number c.args.levels.now) in
    MatchResult-weaker c.push_comp.result c.push_comp.ensures.err (λ u h. h) (λ e h. elim h [
      | inl m ↦ inl m
      | inr (big, inl comps) ↦ inr (big, inl comps)
      | inr (big, inr many) ↦ inr (big, inr (omega (arith, many, same)))
    ])

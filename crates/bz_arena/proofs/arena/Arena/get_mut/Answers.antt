use Rattle.std.proofs.Common.{ℕ, get_or, set, refl, ap, ◌∙◌}
use Rattle.bz_arena.proofs.Ends.{get_front, get_back, set_front, set_back}
use Rattle.bz_arena.proofs.arena.Arena.get_mut.Goals as goal

pub returns-then-index-start : goal.returns-then-index-start
returns-then-index-start g c =
    let i = c.index-index.result in let xs = c.self.inside.full in let ys = c.self.inside.last in let all = c.args.self.now in let n = c.len-start.result in
    let at = c.index-index.ensures in let x = c.get_mut.result.now in (
      (refl, λ w. set_front xs ys all c.self.view_is n c.len-start.ensures.nodes i w c.if-index-start.true ∙ ap (λ (k : ℕ). set all k w) at),
      record {
        writes_back = tt;
        value = c.get_mut.ensures.value ∙ get_front xs ys all c.self.view_is n c.len-start.ensures.nodes i x c.if-index-start.true ∙ ap (λ (k : ℕ). get_or all k x) at;
      },
    )

pub returns : goal.returns
returns g c =
    let i = c.index-index.result in let xs = c.self.inside.full in let ys = c.self.inside.last in let all = c.args.self.now in let n = c.len-start.result in
    let at = c.index-index.ensures in let x = c.get_mut-2.result.now in (
      (refl, λ w. set_back xs ys all c.self.view_is n c.len-start.ensures.nodes i w c.if-index-start.false ∙ ap (λ (k : ℕ). set all k w) at),
      record {
        writes_back = tt;
        value = c.get_mut-2.ensures.value ∙ get_back xs ys all c.self.view_is n c.len-start.ensures.nodes i x c.if-index-start.false ∙ ap (λ (k : ℕ). get_or all k x) at;
      },
    )

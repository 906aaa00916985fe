use Rattle.std.proofs.Common.{arith, ap, length, refl, inl, inr}
use Rattle.std.proofs.lemmas.Result.{err_from_is_err_and}
use Rattle.bz_elab.proofs.Growing.{whole_net, top_fits, top_length}
use Rattle.bz_elab.proofs.Failing.{top_big, top_fails}
use Rattle.bz_elab.proofs.Items.{own_whole}
use Rattle.bz_elab.proofs.walk.net_of.Goals as goal

pub returns-in_err-enter-clause-err : goal.returns-in_err-enter-clause-err
returns-in_err-enter-clause-err c =
    let p = err_from_is_err_and c.from_residual.result c.from_residual.ensures.1 in
    rw (p.1, p.2) (elim c.in_err-enter.ensures.err [
      | inl memory ↦ inl memory
      | inr (big, many) ↦ inr (rw big (top_big c.args.parts.now c.args.part.now _ (ap length c.new.ensures) many))
    ])

pub flatten_top-requires-clause-levels : goal.flatten_top-requires-clause-levels
flatten_top-requires-clause-levels c = top_fits c.args.part.now _ (top_length _ _ c.args.part.now c.new.ensures c.in_ok-enter.ensures.ok)

pub returns-in_err-flatten_top-clause-err : goal.returns-in_err-flatten_top-clause-err
returns-in_err-flatten_top-clause-err c =
    let p = err_from_is_err_and c.from_residual-in_err-flatten_top.result c.from_residual-in_err-flatten_top.ensures.1 in
    let entered = c.in_ok-enter.ensures.ok in
    rw (p.1, p.2) (top_fails c.args.parts.now c.args.part.now _ _ _ c.new-2.ensures c.new.ensures refl entered c.in_err-flatten_top.ensures.err)

pub returns-in-Some-clause-ok : goal.returns-in-Some-clause-ok
returns-in-Some-clause-ok c =
    own_whole c.args.parts.now c.args.number c.args.part.now _ _ _ _ _ _ c.requires.part_is c.requires.read c.requires.short c.in-Some.ensures.own c.new.ensures c.new-2.ensures refl c.in_ok-enter.ensures.ok refl refl refl

pub returns-clause-ok : goal.returns-clause-ok
returns-clause-ok c =
    let entered = c.in_ok-enter.ensures.ok in
    whole_net c.args.parts.now c.args.part.now _ _ _ c.new.ensures c.new-2.ensures refl entered c.in_ok-flatten_top.ensures.ok c.in_ok-flatten_top.ensures.counted

pub returns-in_err-enter-clause-early : goal.returns-in_err-enter-clause-early
returns-in_err-enter-clause-early c =
    let p = err_from_is_err_and c.from_residual.result c.from_residual.ensures.1 in
    rw (p.1, p.2) (elim c.in_err-enter.ensures.err [
      | inl memory ↦ rw memory (omega arith)
      | inr (big, many) ↦ rw big (omega arith)
    ])

pub returns-in_err-flatten_top-clause-early : goal.returns-in_err-flatten_top-clause-early
returns-in_err-flatten_top-clause-early c =
    let p = err_from_is_err_and c.from_residual-in_err-flatten_top.result c.from_residual-in_err-flatten_top.ensures.1 in
    rw (p.1, p.2) c.in_err-flatten_top.ensures.early

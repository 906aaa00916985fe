use Rattle.std.proofs.Common.{◌≡◌, arith, sym, ◌∙◌}
use Rattle.std.proofs.lemmas.List.{take_all}
use Rattle.std.proofs.lemmas.Slice.Eq.{bytes_eq-Decides}
use Rattle.bz_kind_rows.proofs.naming.are_alike_near.Goals as goal

pub returns : goal.returns
returns c =
    let name = c.args.name.now in
    let text = c.args.text.now in
    let place = c.loop-place.place in
    let same : name ≡ text = sym (take_all place name (omega (arith, c.loop-place-test.false))) ∙ c.loop-place.invariant ∙ take_all place text (omega (arith, c.loop-place-test.false, c.requires)) in
    sym ((bytes_eq-Decides name text).1 same)

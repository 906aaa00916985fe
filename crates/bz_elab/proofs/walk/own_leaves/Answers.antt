use Rattle.std.proofs.Common.{arith, ◌≡◌, [], ◌++◌, Some, length, map, slice_get, refl, ◌∙◌, ap}
use Rattle.std.proofs.lemmas.List.{append-nil, nil_from_length}
use Rattle.std.proofs.lemmas.Option.{slice_get_read}
use Rattle.bz_elab.specs.declared.reading.Item.TheVariants.{Leaf}
use Rattle.bz_elab.proofs.Soundness.{same_some}
use Rattle.bz_elab.proofs.walk.own_leaves.Goals as goal

pub returns-clause-own : goal.returns-clause-own
returns-clause-own c =
    let readings = c.args.readings.now.items in
    let n = c.args.number in
    let here = c.swap_remove.result in
    let there = c.index-top.result.now in
    let at : slice_get readings n ≡ Some here = slice_get_read readings (length readings) n here refl (omega (arith, c.requires)) c.swap_remove.ensures.value in
    let seen : slice_get readings n ≡ Some there = slice_get_read readings (length readings) n there refl (omega (arith, c.requires)) c.index-top.ensures in
    let same : here ≡ there = same_some seen at in
    let empty : length there.items.items ≡ 0 = let e : there.items.len ≡ 0 = grind (arith, c.is_empty.ensures, c.if-not-is_empty.false) in omega (arith, e, there.items.ok.0) in
    let none : here.items.items ≡ [] = rw same (nil_from_length there.items.items empty) in
    let found = c.in_ok-ends.ensures in
    record {
      reading = here;
      stands = at;
      all = ap (λ xs. map Leaf here.leaves ++ xs) none ∙ append-nil (map Leaf here.leaves);
      ends_are = rw same found.0;
      few = rw same found.2;
      few_ends = found.1;
    }

use Rattle.std.proofs.Common.{arith, map}
use Rattle.std.proofs.lemmas.List.{length-map}
use Rattle.std.proofs.lemmas.Bool.Decides.{nat_tests}
use Rattle.bz_kind_rows.specs.Table.{seen}
use Rattle.bz_elab.proofs.Slots.{length-split, count-split}
use Rattle.bz_elab.proofs.component.has_entries.Goals as goal

pub returns-then-listed-arrays : goal.returns-then-listed-arrays
returns-then-listed-arrays c =
    let es = length-split c.args.entries.now in
    let rs = count-split (map seen c.args.rows.now) in
    let n = length-map c.args.rows.now seen in
    grind (arith, nat_tests, es, rs, n)

pub returns-else-listed-arrays : goal.returns-else-listed-arrays
returns-else-listed-arrays c =
    let es = length-split c.args.entries.now in
    let rs = count-split (map seen c.args.rows.now) in
    let n = length-map c.args.rows.now seen in
    grind (arith, nat_tests, es, rs, n)

use Rattle.std.proofs.Common.{◌≡◌, List, [], map, drop, sym, ap, ◌∙◌, arith}
use Rattle.std.proofs.Math.ListN.{drop_of_length-le}
use Rattle.bz_model.specs.Rows.{KindRow, all_names}
use Rattle.bz_kind_rows.specs.declared.rows.KindRow as table
use Rattle.bz_kind_rows.specs.Table.{seen_row}
use Rattle.bz_kind_rows.proofs.Names.{found, found_named, is_named}
use Rattle.bz_kind_rows.proofs.naming.kind_named.Goals as goal

-- the likely kind has the name that its row has
pub returns-then-is : goal.returns-then-is
returns-then-is c =
    let name = c.args.name.now in
    let own = ap (λ (r : KindRow). r.name) c.row_named.ensures in
    sym (is_named name c.likely-likely.result (cc own))

-- no row has it
pub returns : goal.returns
returns c =
    let name = c.args.name.now in
    let none : drop c.loop-row.row-index c.kind_rows-row-items.result.now ≡ [] = drop_of_length-le c.kind_rows-row-items.result.now (omega arith) in
    sym (ap (λ (rs : List table.KindRow). found name (map seen_row rs)) none) ∙ c.loop-row.invariant ∙ ap (found name) c.kind_rows-row-items.ensures ∙ found_named all_names name

use Rattle.std.proofs.Common.{rules, of_calls, ◌∙◌, map, sym, slice_get}
use Rattle.std.proofs.lemmas.List.Sorted.{IsPartitionPoint-from_clause}
use Rattle.bz_model.specs.NameRows.{comes_before}
use Rattle.bz_model.proofs.NameRows.{parted, found, missed, past}
use Rattle.bz_model.proofs.name_row.place_in.Goals as goal

pub returns-in-Some : goal.returns-in-Some
returns-in-Some c =
    let names = map (λ n. n.items) c.args.names.now in
    let name = c.args.name.now in
    let row = c.args.row.now in
    let point = IsPartitionPoint-from_clause (λ p. comes_before (slice_get names p) name) _ _ c.partition_point-at.ensures.partitioned (parted names name row c.requires) (λ a r q k. search (rules, of_calls)) in
    found names name row c.requires c.partition_point-at.result point c.in-Some.place.now c.in-Some.ensures.lookup.3.0 c.in-Some.ensures.lookup.1 (sym c.is_name.ensures ∙ c.if-is_name.true)

pub returns-in_default : goal.returns-in_default
returns-in_default c =
    let names = map (λ n. n.items) c.args.names.now in
    let name = c.args.name.now in
    let row = c.args.row.now in
    let point = IsPartitionPoint-from_clause (λ p. comes_before (slice_get names p) name) _ _ c.partition_point-at.ensures.partitioned (parted names name row c.requires) (λ a r q k. search (rules, of_calls)) in
    missed names name row c.requires c.partition_point-at.result point c.in-Some.place.now c.in-Some.ensures.lookup.3.0 c.in-Some.ensures.lookup.1 (sym c.is_name.ensures ∙ c.if-is_name.false)

pub returns-in_default-2 : goal.returns-in_default-2
returns-in_default-2 c =
    let names = map (λ n. n.items) c.args.names.now in
    let name = c.args.name.now in
    let row = c.args.row.now in
    let point = IsPartitionPoint-from_clause (λ p. comes_before (slice_get names p) name) _ _ c.partition_point-at.ensures.partitioned (parted names name row c.requires) (λ a r q k. search (rules, of_calls)) in
    past names name row c.requires c.partition_point-at.result point (rw c.in_default.is at c.get.ensures.lookup).3

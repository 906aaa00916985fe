use Rattle.std.proofs.Common.{ltb, rules, arith}
use Rattle.std.proofs.lemmas.List.Sorted.{IsPartitionPoint-from_clause, IsPartitionedBy-ltb}
use Rattle.bz_model.specs.declared.spans.Span.{Span}
use Rattle.bz_model.proofs.Halves.{ends_rise, found, missed, past}
use Rattle.bz_model.proofs.spans.set_by_halves.Goals as goal

pub returns-in-Some : goal.returns-in-Some
returns-in-Some c =
    let spans = c.args.spans.now in
    let v = c.args.value in
    let parted = IsPartitionedBy-ltb (λ (s : Span). s.to) spans v (ends_rise spans c.requires) in
    let point = IsPartitionPoint-from_clause (λ (s : Span). ltb s.to v) _ _ c.partition_point-place.ensures.partitioned parted (λ a r q k. search rules) in
    found c.args.none v spans c.requires c.partition_point-place.result point c.in-Some.span.now c.in-Some.ensures.lookup.3.0 c.in-Some.ensures.lookup.1 c.if-span-value.true

pub returns-in_default : goal.returns-in_default
returns-in_default c =
    let spans = c.args.spans.now in
    let v = c.args.value in
    let parted = IsPartitionedBy-ltb (λ (s : Span). s.to) spans v (ends_rise spans c.requires) in
    let point = IsPartitionPoint-from_clause (λ (s : Span). ltb s.to v) _ _ c.partition_point-place.ensures.partitioned parted (λ a r q k. search rules) in
    missed c.args.none v spans c.requires c.partition_point-place.result point c.in-Some.span.now c.in-Some.ensures.lookup.1 (omega (arith, c.if-span-value.false))

pub returns-in_default-2 : goal.returns-in_default-2
returns-in_default-2 c =
    let spans = c.args.spans.now in
    let v = c.args.value in
    let parted = IsPartitionedBy-ltb (λ (s : Span). s.to) spans v (ends_rise spans c.requires) in
    let point = IsPartitionPoint-from_clause (λ (s : Span). ltb s.to v) _ _ c.partition_point-place.ensures.partitioned parted (λ a r q k. search rules) in
    past c.args.none v spans c.requires c.partition_point-place.result point (rw c.in_default.is at c.get.ensures.lookup).3

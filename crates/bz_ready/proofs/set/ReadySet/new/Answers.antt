use Rattle.std.proofs.Common.{◌+◌, length, ap, ◌∙◌}
use Rattle.std.proofs.lemmas.List.FromFn.{length-range_with_len}
use Rattle.bz_ready.proofs.Sets.{nothing_in}
use Rattle.bz_ready.proofs.set.ReadySet.new.Goals as goal

pub invariant_of-result : goal.invariant_of-result
invariant_of-result g c =
    rw c.in_ok-row.ensures (nothing_in c.in_ok-order.order (c.args.limit + 1) c.in_ok-order.ensures.each (ap length c.in_ok-order.ensures.order ∙ length-range_with_len 0 (c.args.limit + 1)) c.requires)

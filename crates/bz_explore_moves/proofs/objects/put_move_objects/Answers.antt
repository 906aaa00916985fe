use Rattle.std.proofs.Common.{arith}
use Rattle.bz_explore_moves.proofs.Listed.{listed_all, listed_more}
use Rattle.bz_explore_moves.specs.Objects.{move_object}
use Rattle.bz_explore_moves.proofs.objects.put_move_objects.Goals as goal

pub loop-offer-preserved : goal.loop-offer-preserved
loop-offer-preserved c = listed_more (move_object c.args.net.now.wiring.sites) _ c.loop-offer.offer-index _ _ _ _ _ c.loop-offer.invariant c.put.ensures c.put_move_object-in-loop-offer.ensures (omega arith)

pub returns-after-loop-offer : goal.returns-after-loop-offer
returns-after-loop-offer c =
    listed_all (move_object c.args.net.now.wiring.sites) c.args.offers.now _ c.loop-offer.offer-index _ _ _ c.in-len1-up.len_at_least c.put_move_object.ensures c.loop-offer.invariant c.loop-offer-test.false

use Rattle.std.proofs.Common.{arith}
use Rattle.bz_explore_moves.specs.Moves.{IsMoveLine}
use Rattle.bz_view.proofs.Lines.{turn_all, turn_more, turn_none}
use Rattle.bz_explore_moves.proofs.moves.put_offers.Goals as goal

pub loop-offer-init : goal.loop-offer-init
loop-offer-init c = turn_none IsMoveLine c.args.offers.now _

pub loop-offer-preserved : goal.loop-offer-preserved
loop-offer-preserved c = turn_more IsMoveLine c.args.offers.now c.loop-offer.offer-index _ _ _ _ (omega arith) c.loop-offer.invariant c.put_offer.ensures

pub returns : goal.returns
returns c = turn_all IsMoveLine c.args.offers.now c.loop-offer.offer-index _ _ (omega arith) c.loop-offer.invariant

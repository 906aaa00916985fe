use Rattle.std.proofs.Common.{take}
use Rattle.bz_text.specs.Growing.{GrowsBy}
use Rattle.bz_view.specs.Lines.{InTurn}
use Rattle.bz_explore_moves.specs.Moves.{IsMoveLine}
use Rattle.bz_explore_moves.proofs.moves.put_offers.Given as goal

abbrev pub invariant-loop-offer : goal.invariant-loop-offer
invariant-loop-offer l = GrowsBy (InTurn IsMoveLine (take l.offer-index l.offers)) l.initial.text l.text

use Rattle.bz_laws.proofs.Turns as turns
use Rattle.bz_laws.proofs.kinds.sequence_asks_in_order.Goals as goal

pub returns : goal.returns
returns c = turns.in_order

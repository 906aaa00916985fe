use Rattle.bz_laws.proofs.Choices as choices
use Rattle.bz_laws.proofs.kinds.arbiter_calls_one_side_at_a_time.Goals as goal

pub returns : goal.returns
returns c = choices.one_side

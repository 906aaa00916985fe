use Rattle.bz_cover.proofs.Ports.{own_requests}
use Rattle.bz_cover.proofs.laws.ports_count_their_own.Goals as goal

pub returns : goal.returns
returns c = own_requests

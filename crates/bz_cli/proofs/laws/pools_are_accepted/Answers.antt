use Rattle.std.specs.Io.KnownBytes.{Appends}
use Rattle.bz_cli.proofs.Accepted.{pool_accepted}
use Rattle.bz_cli.proofs.laws.pools_are_accepted.Goals as goal

pub returns : goal.returns
returns c = λ t lists workers ends old new play few hands limit. pool_accepted t lists workers ends (Appends old new) play few hands limit

use Rattle.std.proofs.Common.{sym, ◌∙◌, arith}
use Rattle.bz_cli_source.proofs.Lines.{host_some, host_none}
use Rattle.bz_cli_source.proofs.listing.host_holds.Goals as goal

pub returns-then-place-count : goal.returns-then-place-count
returns-then-place-count c = c.is_other.ensures ∙ sym (host_some c.args.ports.now c.args.place c.index-ports-place.result c.args.passive (omega arith) c.index-ports-place.is)

pub returns-else-place-count : goal.returns-else-place-count
returns-else-place-count c = sym (host_none c.args.ports.now c.args.place c.args.passive (omega arith))

use Rattle.std.proofs.Common.{sym}
use Rattle.bz_elab.specs.Entries.{lists}
use Rattle.bz_elab.proofs.Slots.{no_size}
use Rattle.bz_elab.proofs.component.size_at.Goals as goal

pub returns-in-None : goal.returns-in-None
returns-in-None c = sym (no_size (lists c.args.entries.now) c.args.place (sym c.in-None.ensures))

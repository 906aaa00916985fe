use Rattle.bz_waits.proofs.Linking.{LinksUpTo}
use Rattle.bz_waits.proofs.rings.close.Given as goal

abbrev pub invariant-loop-place : goal.invariant-loop-place
invariant-loop-place l = LinksUpTo l.core.wiring l.core.state l.members l.comps l.place l.links.items

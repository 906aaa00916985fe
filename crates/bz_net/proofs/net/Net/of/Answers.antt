use Rattle.bz_net.proofs.Kept.{keeps_played}
use Rattle.bz_net.proofs.net.Net.of.Goals as goal

pub invariant_of-result : goal.invariant_of-result
invariant_of-result c =
    let parts = c.into_parts-core.ensures in
    keeps_played c.args.play _ _ c.args.journal.items c.args.limit _ _ parts.core.0 parts.core.1 parts.noted c.into_listed-noted.ensures parts.keeps c.requires.told c.requires.unbroken c.requires.within

use Rattle.std.proofs.Common.{refl}
use Rattle.bz_complete.proofs.Refusals.{refused}
use Rattle.bz_complete.proofs.refusing.refuse.Goals as goal

pub returns : goal.returns
returns c =
    let way = c.args.way in
    (refl, refused c.args.net.now way.comp way.port way.due c.journal.ensures.wired c.journal.ensures.run c.requires.end c.requires.quiet (c.in_ok-has_sent.ensures c.if-branch.false))

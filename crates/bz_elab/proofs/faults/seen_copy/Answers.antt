use Rattle.std.proofs.Common.{arith}
use Rattle.bz_elab.proofs.Soundness.{part_read}
use Rattle.bz_elab.proofs.Totaling.{empty_told}
use Rattle.bz_elab.proofs.faults.seen_copy.Goals as goal

pub returns-then-is_bare : goal.returns-then-is_bare
returns-then-is_bare c =
    let part = c.index-list-inner.result in
    let read = part_read c.args.parts.now _ c.args.inner part c.list.ensures.value c.requires.inner c.index-list-inner.is in (
      part,
      read,
      record {
        no_own = omega (arith, c.if-len.true);
        bare = empty_told c.args.parts.now c.args.totals.now c.args.inner part _ c.requires.totals read (c.is_bare.ensures.0 c.if-is_bare.true);
      },
    )

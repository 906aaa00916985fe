use Rattle.std.proofs.Common.{arith, sym, subst}
use Rattle.bz_waits.specs.Holding.{AllIn, IsKept}
use Rattle.bz_waits.proofs.looking.is_kept.Goals as goal

pub returns-then-is_inner : goal.returns-then-is_inner
returns-then-is_inner c =
    let w = c.args.core.now.wiring in
    let row = c.args.members.now in
    let chan = c.chan_at-chan.ensures in (
      λ yes. subst (IsKept w row) chan (c.if-is_inner.ensures, c.are_in.ensures.0 yes),
      λ kept. c.are_in.ensures.1 (subst (AllIn w.sites row) (sym chan) kept.1),
    )

pub returns-else-is_inner : goal.returns-else-is_inner
returns-else-is_inner c =
    let chan = c.chan_at-chan.ensures in
    let outer = c.if-is_inner.ensures in
    (λ yes. cc, λ kept. absurd (let far = kept.0 in omega (arith, far, chan, outer)))

pub are_in-requires-clause-to : goal.are_in-requires-clause-to
are_in-requires-clause-to c =
    let n = c.args.core.now in
    let to = c.names.ensures.wired.chan_to c.args.comp c.args.port c.requires in
    let chan = c.chan_at-chan.ensures in
    omega (arith, to, chan)

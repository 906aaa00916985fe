use Rattle.std.proofs.Common.{arith}
use Rattle.bz_since.proofs.Halves.{met_none, met_one}
use Rattle.bz_since.proofs.since.found_at.Goals as goal

pub returns-then-to-entries : goal.returns-then-to-entries
returns-then-to-entries c =
    let past = c.if-to-entries.true in
    λ es last alike run. met_none c.args.entries.now c.args.bounds c.requires.between c.requires.met es last alike (omega (arith, past))

pub returns : goal.returns
returns c =
    let in_range = c.if-to-entries.false in
    let led = rw c.into_low-net.ensures at c.in_ok-play.ensures in
    λ es last alike run. met_one c.args.entries.now c.args.bounds c.requires.between c.requires.met es last alike _ run (omega (arith, in_range)) led

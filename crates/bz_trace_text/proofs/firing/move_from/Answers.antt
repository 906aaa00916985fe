use Rattle.std.proofs.Common.{drop, ◌+◌, arith}
use Rattle.bz_model.specs.declared.channel.Move.TheVariants as move
use Rattle.bz_trace_text.proofs.LineLaws.{move_again}
use Rattle.bz_trace_text.proofs.Firings.{five, six}
use Rattle.bz_trace_text.proofs.firing.move_from.Goals as goal

pub returns-then-has_four-clause-reads : goal.returns-then-has_four-clause-reads
returns-then-has_four-clause-reads c =
    rw (c.has_four.ensures c.if-has_four.true) (move_again move.Ask (drop (c.args.from + 4) c.args.text.now))

pub returns-then-has_four-2-clause-reads : goal.returns-then-has_four-2-clause-reads
returns-then-has_four-2-clause-reads c =
    rw (c.has_four-else-has_four.ensures c.if-has_four-2.true) (move_again move.Got (drop (c.args.from + 4) c.args.text.now))

pub returns-then-text-from-eq32-clause-reads : goal.returns-then-text-from-eq32-clause-reads
returns-then-text-from-eq32-clause-reads c =
    let there = five c.args.text.now c.args.from 116 97 107 101 32 (omega (arith, c.requires)) (c.has_four-else-has_four-2.ensures c.if-has_four-3.true) c.if-text-from-eq32.true in
    rw there (move_again move.Take (drop (c.args.from + 5) c.args.text.now))

pub returns-then-text-from-eq32-2-clause-reads : goal.returns-then-text-from-eq32-2-clause-reads
returns-then-text-from-eq32-2-clause-reads c =
    let there = six c.args.text.now c.args.from 114 101 112 108 121 32 (omega (arith, c.requires)) (c.has_four-else-has_four-3.ensures c.if-has_four-4.true) c.if-text-from-eq121.true c.if-text-from-eq32-2.true in
    rw there (move_again move.Reply (drop (c.args.from + 6) c.args.text.now))

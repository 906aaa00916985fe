use Rattle.std.proofs.Common.{[]}
use Rattle.bz_trace.proofs.Along.{behind_start}
use Rattle.bz_trace.proofs.Showing.{shown_opened}
use Rattle.bz_trace.proofs.Streams.{counted_of, first_of, leaves_of, only_of, right_of, said_opened}
use Rattle.bz_trace.proofs.reading.check_read.Goals as goal

pub read_text-requires-clause-stands : goal.read_text-requires-clause-stands
read_text-requires-clause-stands g c = ([], behind_start c.args.net.now c.requires.opened)

pub returns-clause-right : goal.returns-clause-right
returns-clause-right g c = right_of c.args.to_first c.args.net.now.wiring _ c.read_text.new.net c.read_text.result (said_opened c.args.to_first c.args.net.now _ c.read_text.new.net c.read_text.result c.requires.opened c.read_text.ensures.concludes)

pub returns-clause-only : goal.returns-clause-only
returns-clause-only g c = only_of c.args.to_first c.args.net.now.wiring _ c.read_text.new.net c.read_text.result c.read_text.ensures.wired (said_opened c.args.to_first c.args.net.now _ c.read_text.new.net c.read_text.result c.requires.opened c.read_text.ensures.concludes)

pub returns-clause-counted : goal.returns-clause-counted
returns-clause-counted g c = counted_of c.args.to_first c.args.net.now.wiring _ c.read_text.new.net c.read_text.result (said_opened c.args.to_first c.args.net.now _ c.read_text.new.net c.read_text.result c.requires.opened c.read_text.ensures.concludes)

pub returns-clause-leaves : goal.returns-clause-leaves
returns-clause-leaves g c = leaves_of c.args.to_first c.args.net.now.wiring _ c.read_text.new.net c.read_text.result (said_opened c.args.to_first c.args.net.now _ c.read_text.new.net c.read_text.result c.requires.opened c.read_text.ensures.concludes)

pub returns-clause-first : goal.returns-clause-first
returns-clause-first g c = first_of c.args.to_first c.args.net.now.wiring _ c.read_text.new.net c.read_text.result (said_opened c.args.to_first c.args.net.now _ c.read_text.new.net c.read_text.result c.requires.opened c.read_text.ensures.concludes)

pub returns-clause-shows : goal.returns-clause-shows
returns-clause-shows g c = shown_opened g.S.Watch.behind c.args.net.now.wiring c.args.net.now c.args.watch.now _ c.read_text.result c.read_text.new.watch (behind_start c.args.net.now c.requires.opened) c.read_text.ensures.shows

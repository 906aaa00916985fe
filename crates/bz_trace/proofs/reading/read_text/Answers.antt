use Rattle.bz_trace.proofs.Streams.{begins_badly, long_behind, said_behind}
use Rattle.bz_trace.specs.Pieces.{IsBehind}
use Rattle.bz_trace.specs.Reading.{ConcludesPieceTo}
use Rattle.bz_trace.proofs.Showing.{never_shown, shown_text}
use Rattle.bz_trace.proofs.reading.read_text.Goals as goal

pub returns-clause-concludes : goal.returns-clause-concludes
returns-clause-concludes g c = begins_badly c.args.to_first c.args.is_last _ _ c.args.net.now.wiring c.args.net.now (record { fired = 0; host = 0; rests = 0 }) c.new-held.result.items c.read_more.new.held.items c.as_slice.result.now c.in_ok-read_more.field-0 c.new-held.ensures.items c.in_ok-read_more.ensures.more c.as_slice.ensures.value c.in-None.ensures

pub returns-in-Some-clause-concludes : goal.returns-in-Some-clause-concludes
returns-in-Some-clause-concludes g c =
    said_behind (IsBehind c.args.net.now.wiring c.args.net.now) (λ past text said. ConcludesPieceTo c.args.to_first c.args.is_last c.args.net.now.wiring past text c.check_lines_of.new.net said) _ _ c.new-held.result.items c.read_more.new.held.items c.as_slice.result.now c.in-Some.lines.now c.in_ok-front-in-Some.front.items c.in-Some.version _ c.in_ok-read_more.field-0 c.check_lines_of.result
    c.new-held.ensures.items c.in_ok-read_more.ensures.more c.as_slice.ensures.value c.in-Some.ensures c.in_ok-front-in-Some.ensures.items
    c.check_lines_of.ensures.concludes

pub returns-in-Some-clause-long : goal.returns-in-Some-clause-long
returns-in-Some-clause-long g c =
    long_behind c.args.net.now.wiring _ _ c.new-held.result.items c.read_more.new.held.items c.as_slice.result.now c.in-Some.lines.now c.in_ok-front-in-Some.front.items c.in-Some.version _ c.in_ok-read_more.field-0 c.check_lines_of.result
    c.new-held.ensures.items c.in_ok-read_more.ensures.more c.as_slice.ensures.value c.in-Some.ensures c.in_ok-front-in-Some.ensures.items
    c.check_lines_of.ensures.long

pub returns-in-Some-clause-shows : goal.returns-in-Some-clause-shows
returns-in-Some-clause-shows g c =
    shown_text g.S.Watch.behind c.args.net.now.wiring c.args.net.now c.args.watch.now _ _ c.new-held.result.items c.read_more.new.held.items c.as_slice.result.now c.in-Some.lines.now c.in_ok-front-in-Some.front.items c.in-Some.version _ c.in_ok-read_more.field-0 c.check_lines_of.result c.check_lines_of.new.watch
    c.new-held.ensures.items c.in_ok-read_more.ensures.more c.as_slice.ensures.value c.in-Some.ensures c.in_ok-front-in-Some.ensures.items
    c.check_lines_of.ensures.shows

pub returns-clause-shows : goal.returns-clause-shows
returns-clause-shows g c past behind has = never_shown _ _ (λ is. let e = is in cc)

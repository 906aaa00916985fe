use Rattle.bz_trace.proofs.Along.{led, line_of_net}
use Rattle.bz_trace.proofs.lines.follow_front.Goals as goal

pub follow_one-requires-clause-has_line : goal.follow_one-requires-clause-has_line
follow_one-requires-clause-has_line g c =
    let (w, past, before, f) = c.requires.is in
    line_of_net c.args.names.now w past c.args.net.now before c.args.text.now c.args.followed.now f c.in-Some.line c.in-Some.after.now c.in-Some.ensures

pub follow_one-requires-clause-led : goal.follow_one-requires-clause-led
follow_one-requires-clause-led g c =
    let (w, past, before, f) = c.requires.is in
    led c.args.names.now w past c.args.net.now before c.args.text.now c.args.followed.now f

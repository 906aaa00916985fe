use Rattle.bz_model.specs.declared.event.Entry.TheVariants.{Fired}
use Rattle.bz_model.specs.declared.event.Who.TheVariants.{Worker}
use Rattle.bz_trace.proofs.Along.{led, line_of_net}
use Rattle.bz_trace.proofs.Stopping.{none_of, plays_first}
use Rattle.bz_trace.proofs.foretelling.follow_foretold.Goals as goal

pub follow_told-requires-clause-has_line : goal.follow_told-requires-clause-has_line
follow_told-requires-clause-has_line g c =
    let (w, past, before, f) = c.requires.is in let t = c.in_ok-told.told in
    line_of_net c.args.names.now w past c.args.net.now before c.args.text.now c.args.followed.now f (Fired (Worker 1) t.comp 0 t.chan t.mv c.in_ok-value.value) c.in_ok-value.after.now c.in_ok-value.ensures (none_of c.args.followed.now.stop (let is = c.is_some.ensures in let not = c.if-is_some.false in cc))

pub follow_told-requires-clause-led : goal.follow_told-requires-clause-led
follow_told-requires-clause-led g c =
    let (w, past, before, f) = c.requires.is in
    led c.args.names.now w past c.args.net.now before c.args.text.now c.args.followed.now f (none_of c.args.followed.now.stop (let is = c.is_some.ensures in let not = c.if-is_some.false in cc))

pub returns-clause-some : goal.returns-clause-some
returns-clause-some g c =
    let t = c.in_ok-told.told in
    let line = Fired (Worker 1) t.comp 0 t.chan t.mv c.in_ok-value.value in
    let plays = plays_first c.args.net.now c.follow_told.new.net line _ _ _ (none_of c.args.followed.now.stop (let is = c.is_some.ensures in let not = c.if-is_some.false in cc)) c.count_line.ensures.stop
    (c.follow_told.ensures.goes c.if-not-follow_told.false) in
    (line, c.in_ok-value.ensures, record { counted = c.count_line.ensures.counted; count_is = c.count_line.ensures.count; plays = plays })

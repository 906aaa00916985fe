use Rattle.std.proofs.Common.{◌≡◌, ◌∙◌, ◌+◌, subst, sym, ap, drop, arith, Some}
use Rattle.std.proofs.lemmas.List.{take_rest}
use Rattle.bz_model.specs.declared.event.Who.TheVariants as who
use Rattle.bz_model.specs.declared.event.Entry.TheVariants as entry
use Rattle.bz_model.specs.Entries.{carries_at}
use Rattle.bz_trace_text.specs.Reading.{carried_at}
use Rattle.bz_trace_text.proofs.Compared.{first_fires, move_there, number_there}
use Rattle.bz_trace_text.proofs.Firings.{fired_there}
use Rattle.bz_trace_text.proofs.foretold.foretold_at.Goals as goal

pub returns : goal.returns
returns c =
    let t = c.args.text.now in let net = c.args.names.now in let mv = c.args.mv in let chan = c.args.chan in let value = c.in_ok-value.value in
    let a = c.in_ok-at.at in let b = c.in_ok-at-2.at in let d = c.in_ok-at-3.at in let f = c.in_ok-value.at in
    let long = c.if-text-lt-LONGEST.false in
    let a_in = c.in_ok-at.ensures.ends in let b_in = c.in_ok-at-2.ensures.ends in let d_in = c.in_ok-at-3.ensures.ends in let f_in = c.in_ok-value.ensures.ends in
    let carried : c.carried.result ≡ carries_at net.chans chan mv = grind arith in
    let moves = move_there mv t a b (omega (arith, long, a_in)) c.in_ok-at-2.ensures.there in
    let read = fired_there net 1 c.args.comp chan a b d f mv value t (first_fires net t (drop 8 t) (c.begins_with.ensures c.if-not-begins_with.false))
    (number_there c.args.comp t 8 a (omega (arith, c.ranges.comp.fits)) c.in_ok-at.ensures.there) (omega (arith, long, a_in)) moves.0 moves.1
    (number_there chan t b d (omega (arith, c.ranges.chan.fits)) c.in_ok-at-3.ensures.there)
    c.in_ok-value.ensures.before (λ ends. subst (λ x. carried_at x (drop d t) ≡ Some (value, drop f t)) carried (c.in_ok-value.ensures.reads ends))
    (omega (arith, long, a_in, b_in, d_in, f_in)) c.if-text-at-ne10.false in
    read ∙ ap (λ r. Some (entry.Fired (who.Worker 1) c.args.comp 0 chan mv value, r)) (sym (take_rest t (f + 1)))

use Rattle.std.proofs.Common.{◌≡◌, ◌∙◌, ◌+◌, subst, sym, ap, drop, arith, Some}
use Rattle.std.proofs.lemmas.List.{take_rest}
use Rattle.bz_model.specs.declared.event.Who.TheVariants as who
use Rattle.bz_model.specs.declared.event.Entry.TheVariants as entry
use Rattle.bz_model.specs.Entries.{carries_at}
use Rattle.bz_trace_text.specs.Reading.{carried_at}
use Rattle.bz_trace_text.proofs.Firings.{fired_there}
use Rattle.bz_trace_text.proofs.firing.firing_at.Goals as goal

pub returns : goal.returns
returns c =
    let carried : c.carried.result ≡ carries_at c.args.names.now.chans c.in_ok-chan.chan c.in_ok-mv.mv = grind arith in
    let read = fired_there c.args.names.now c.in_ok-worker.worker c.in_ok-comp.comp c.in_ok-chan.chan c.in_ok-comp.at c.in_ok-mv.at c.in_ok-chan.at c.in_ok-value.at c.in_ok-mv.mv c.in_ok-value.value c.args.text.now
    (c.in_ok-worker.ensures c.args.names.now) c.in_ok-comp.ensures.reads (omega (arith, c.if-text-lt-LONGEST.false, c.in_ok-comp.ensures.ends)) c.if-text-at-ne32.false c.in_ok-mv.ensures.reads c.in_ok-chan.ensures.reads c.in_ok-value.ensures.before (λ ends. subst (λ b. carried_at b (drop c.in_ok-chan.at c.args.text.now) ≡ Some (c.in_ok-value.value, drop c.in_ok-value.at c.args.text.now)) carried (c.in_ok-value.ensures.reads ends))
    (omega (arith, c.if-text-lt-LONGEST.false, c.in_ok-comp.ensures.ends, c.in_ok-mv.ensures.ends, c.in_ok-chan.ensures.ends, c.in_ok-value.ensures.ends)) c.if-text-at-ne10.false in
    read ∙ ap (λ r. Some (entry.Fired (who.Worker c.in_ok-worker.worker) c.in_ok-comp.comp 0 c.in_ok-chan.chan c.in_ok-mv.mv c.in_ok-value.value, r)) (sym (take_rest c.args.text.now (c.in_ok-value.at + 1)))

use Rattle.std.proofs.Common.{◌≡◌, ◌≢◌, ◌∙◌, refl, ap, sym, rules}
use Rattle.bz_model.specs.Hosts.{reply_to}
use Rattle.bz_model.specs.Nets.{State, phase_at}
use Rattle.bz_trace.proofs.Stopping.{command_refused, replied_otherwise, replied_so}
use Rattle.bz_trace.proofs.following.follow_command.Goals as goal

pub returns-then-ne : goal.returns-then-ne
returns-then-ne c =
    let a = c.args in
    let looked : c.reply.result ≡ reply_to a.verb (phase_at a.net.now.state a.port) = c.reply.ensures ∙ ap (λ (s : State). reply_to a.verb (phase_at s a.port)) c.core.ensures.state in
    let differ : c.reply.result ≢ a.reply = search rules in
    (replied_otherwise a.net.now a.net.now a.who a.verb a.port a.value a.reply (λ same. differ (looked ∙ same)), refl)

pub returns-in-Ok : goal.returns-in-Ok
returns-in-Ok c =
    let a = c.args in
    let looked : c.reply.result ≡ reply_to a.verb (phase_at a.net.now.state a.port) = c.reply.ensures ∙ ap (λ (s : State). reply_to a.verb (phase_at s a.port)) c.core.ensures.state in
    let same : c.reply.result ≡ a.reply = search rules in
    replied_so a.net.now c.host_at.new.self a.who a.verb a.port a.value a.reply c.in-Ok.field-0 (sym looked ∙ same) c.in-Ok.ensures.enters

pub returns-in-Err : goal.returns-in-Err
returns-in-Err c =
    let a = c.args in
    (command_refused a.net.now c.host_at.new.self a.who a.verb a.port a.value a.reply c.in-Err.field-0 c.requires.place c.in-Err.ensures.cause, c.in-Err.ensures.err)

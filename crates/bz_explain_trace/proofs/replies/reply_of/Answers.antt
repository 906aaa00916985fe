use Rattle.std.proofs.Common.{◌≡◌, [], Result, Ok, Err, ap}
use Rattle.std.specs.Prelude.{IfOk, OnErr}
use Rattle.bz_model.specs.declared.event.NetError.{NetError}
use Rattle.bz_model.specs.declared.event.Entry.{Entry}
use Rattle.bz_model.specs.declared.event.Reply.{Reply}
use Rattle.bz_net.specs.Progress.{Enters, Progress}
use Rattle.bz_explain_trace.proofs.replies.reply_of.Goals as goal

-- a command leaves the wiring, also where it is refused
stays : (answer : Result Reply NetError) (old new : Progress) (entry : Reply → Entry) → IfOk answer (λ reply. Enters old (entry reply) new) → OnErr answer (new ≡ old) → new.wiring ≡ old.wiring
stays (Ok reply) old new entry enters same = (enters.adds []).wiring
stays (Err e) old new entry enters same = ap (λ n. n.wiring) same

pub returns : goal.returns
returns c = stays c.host_at.result _ _ _ c.host_at.ensures.enters c.host_at.ensures.err

-- Which replies answer a host command, so that the one who waits for an answer need wait no longer.
use Rattle.std.specs.Prelude.{ℕ, Bool, true, false}
use Rattle.bz_model.specs.declared.event.Verb.{Verb}
use Rattle.bz_model.specs.declared.event.Reply.{Reply}
use Rattle.bz_model.specs.declared.event.Reply.TheVariants.{Done, Value, NotYet, Busy, NotTaken, Watched}
use Rattle.bz_model.specs.Nets.{State, phase_at}
use Rattle.bz_model.specs.Hosts.{reply_to}

-- all but busy, not yet and not taken
abbrev pub is_answer : Reply → Bool
is_answer Done = true
is_answer (Value v) = true
is_answer NotYet = false
is_answer (Busy phase) = false
is_answer (NotTaken phase) = false
is_answer (Watched phase) = true

-- whether a command at an external port would be answered in this state
abbrev pub would_answer : State → Verb → ℕ → Bool
would_answer s verb port = is_answer (reply_to verb (phase_at s port))

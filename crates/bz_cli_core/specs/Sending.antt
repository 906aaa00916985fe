-- How the trace of a play goes out in pieces.
use Rattle.std.specs.Prelude.{◌≡◌, ℕ, ◌+◌, Bool, true, false, Option, List, [], ◌++◌, length, Result, Ok, Err}
use Rattle.std.specs.Io.KnownBytes.{Appends}
use Rattle.bz_model.specs.declared.event.Cmd.{Cmd}
use Rattle.bz_model.specs.declared.event.Entry.{Entry}
use Rattle.bz_model.specs.Names.{External}
use Rattle.bz_trace_text.specs.declared.outgoing.Outgoing.{Outgoing}
use Rattle.bz_trace_text.specs.Writing.{HasLines, IsGone, first_lines}
use Rattle.bz_net.specs.Progress.{Progress, IsToldBy, LeadsOn, with_journal}
use Rattle.bz_net.specs.Simulation.{Simulation}
use Rattle.bz_cli_core.specs.declared.pending.Pending.{Pending}
use Rattle.bz_cli_core.specs.declared.playing.End.{End}
use Rattle.bz_cli_core.specs.declared.playing.Halt.{Halt}
use Rattle.bz_cli_core.specs.declared.run.Played.{Played}
use Rattle.bz_cli_input.specs.declared.fault.Fault.{Fault}
use Rattle.bz_cli_core.specs.Running.{IsPlayed}
use Rattle.bz_cli_input.specs.Stopping.{AppendsSome}

-- Of these entries of a play, all but those that are held have their lines in the writer since `start`. Where it failed, a
-- front of the lines went out.
abbrev pub SentUp : List External → Option (List ℕ) → List Entry → Option (List ℕ) → Bool → List Entry → Type 0
SentUp ports start played now false held = (written : List Entry) × (played ≡ written ++ held) × HasLines ports start now written
SentUp ports start played now true held = AppendsSome start now (first_lines ports played)

abbrev pub IsSent : List External → Option (List ℕ) → List Entry → Option (List ℕ) → Pending → Type 0
IsSent ports start played now pending = SentUp ports start played now pending.failed pending.entries.items

-- all of the text went out at Ok, a front of it at Err
abbrev pub PutsOut : {A E : Type 0} → Option (List ℕ) → Option (List ℕ) → Result A E → List ℕ → Type 0
PutsOut old new (Ok u) text = Appends old new text
PutsOut old new (Err e) text = AppendsSome old new text

-- Events were made, and their entries are on their way: those that came before have been sent as far as was said of the old
-- writer and buffer, and so are they with these behind.
pub record GoesOut (old new : Progress) (old_now : Option (List ℕ)) (before : Pending) (new_now : Option (List ℕ)) (after : Pending) (Made : Simulation → Simulation → Type 0) : Type 0 where
  pub entries : List Entry
  pub made : (journal : List Entry) → Made (with_journal old journal) (with_journal new (journal ++ entries))
  pub leads : LeadsOn old entries new
  pub sent : (start : Option (List ℕ)) (played : List Entry) → IsSent old.wiring.ports start played old_now before → IsSent old.wiring.ports start (played ++ entries) new_now after

-- The same of a run whose lines go out as they come: what comes before them has gone out, but for what waits on a page.
pub record RunsOut (old new : Progress) (old_now : Option (List ℕ)) (before : Outgoing) (new_now : Option (List ℕ)) (after : Outgoing) (Made : Simulation → Simulation → Type 0) : Type 0 where
  pub entries : List Entry
  pub made : (journal : List Entry) → Made (with_journal old journal) (with_journal new (journal ++ entries))
  pub leads : LeadsOn old entries new
  pub gone : (ports : List External) (start : Option (List ℕ)) (played : List Entry) → IsGone start old_now before (first_lines ports played) → IsGone start new_now after (first_lines ports (played ++ entries))

-- The words were played from the opening on, to their end, up to where they halt, or up to where they stop, and so their entries
-- are on their way.
pub record PlaysOut (old new : Progress) (old_now : Option (List ℕ)) (before : Pending) (new_now : Option (List ℕ)) (after : Pending) (strict : Bool) (cmds : List Cmd) (end : End) : Type 0 where
  pub entries : List Entry
  pub plays : IsPlayed new.wiring old.left strict cmds end entries
  pub told : IsToldBy new entries
  pub sent : (start : Option (List ℕ)) → IsSent new.wiring.ports start [] old_now before → IsSent new.wiring.ports start entries new_now after
  pub wiring : new.wiring ≡ old.wiring
  pub left : length entries + new.left ≡ old.left

-- what a play that was lent its net answers, with the net
abbrev pub with_net : Progress → Result (Option Halt) Fault → Result Played Fault
with_net net (Ok halt) = Ok (record { net = net; halt = halt })
with_net net (Err fault) = Err fault

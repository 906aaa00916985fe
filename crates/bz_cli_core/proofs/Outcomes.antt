-- What went out of a play, from what was played and what was written.
use Rattle.std.proofs.Common.{◌≡◌, ◌≢◌, ◌≤◌, ℕ, Bool, Option, None, Some, Result, Err, List, length, map, inr, refl, subst}
use Rattle.std.specs.Prelude.{IfSome}
use Rattle.std.specs.Io.KnownBytes.{Appends}
use Rattle.bz_model.specs.declared.event.NetError.{NetError}
use Rattle.bz_model.specs.declared.event.NetError.TheVariants as net
use Rattle.bz_cli_input.specs.declared.fault.Fault.{Fault}
use Rattle.bz_words.specs.Words.{command_of}
use Rattle.bz_cli_input.specs.declared.fault.Fault.TheVariants.{Memory, Write}
use Rattle.bz_model.specs.declared.event.Cmd.{Cmd}
use Rattle.bz_cli_core.specs.declared.playing.End.{End}
use Rattle.bz_cli_core.specs.declared.playing.End.TheVariants as end
use Rattle.bz_cli_core.specs.declared.run.Played.{Played}
use Rattle.bz_model.specs.Nets.{Wiring}
use Rattle.bz_cli_core.specs.Running.{AreCommands, PlaysNet, RunsText, Runs, WritesTrace, fault_for}
use Rattle.bz_cli_input.specs.Stopping.{AppendsSome}
use Rattle.bz_cli_input.specs.Limits.{input_limit}

-- the fault of a play that stopped
pub told : (w : Wiring) (limit : ℕ) (strict : Bool) (cmds : List Cmd) (old new : Option (List ℕ)) (word : ℕ) (e : NetError) → WritesTrace w limit strict cmds (end.Stop (record { word = word; error = e })) (Appends old new) → PlaysNet w limit strict cmds old new (Err (fault_for word e))
told w limit strict cmds old new word net.UnknownPort p = p
told w limit strict cmds old new word net.WrongSide p = p
told w limit strict cmds old new word net.ValueMissing p = p
told w limit strict cmds old new word net.ValueUnwanted p = p
told w limit strict cmds old new word net.TooLarge p = p
told w limit strict cmds old new word net.NotEnabled p = p
told w limit strict cmds old new word net.JournalFull p = p
told w limit strict cmds old new word net.Memory p = (word, p)

-- what is no want of memory isn't told as one
pub fault_wants : (word : ℕ) (e : NetError) → e ≢ net.Memory → fault_for word e ≢ Memory
fault_wants word net.UnknownPort none = λ is. cc is
fault_wants word net.WrongSide none = λ is. cc is
fault_wants word net.ValueMissing none = λ is. cc is
fault_wants word net.ValueUnwanted none = λ is. cc is
fault_wants word net.TooLarge none = λ is. cc is
fault_wants word net.NotEnabled none = λ is. cc is
fault_wants word net.JournalFull none = λ is. cc is
fault_wants word net.Memory none = absurd (none refl)

-- the writer failed
pub cut_short : (w : Wiring) (limit : ℕ) (strict : Bool) (cmds : List Cmd) (old new : Option (List ℕ)) (fault : Fault) → fault ≡ Write → (end : End) → WritesTrace w limit strict cmds end (AppendsSome old new) → PlaysNet w limit strict cmds old new (Err fault)
cut_short w limit strict cmds old new fault is end p = rw is (end, p)

-- what the reader had is the text
pub runs_on : (known : Option (List ℕ)) (items : List ℕ) (words : List (List ℕ)) (asked : Option (List ℕ)) (limit : ℕ) (strict : Bool) (cmds : List Cmd) (old new : Option (List ℕ)) (answer : Result Played Fault) → IfSome known (λ xs. items ≡ xs) → length items ≤ input_limit → AreCommands words (map command_of cmds) → RunsText items asked limit strict cmds old new answer
    → IfSome known (λ text. Runs text words asked limit strict old new answer)
runs_on None items words asked limit strict cmds old new answer whole fits are plays = tt
runs_on (Some xs) items words asked limit strict cmds old new answer whole fits are plays =
    inr (cmds, are, inr (subst (λ text. (length text ≤ input_limit) × RunsText text asked limit strict cmds old new answer) whole (fits, plays)))

-- One word played on a net.
use Rattle.std.specs.Prelude.{◌≡◌, Option, Some, None, List, [], ◌∷◌, ◌++◌, length}
use Rattle.bz_model.specs.declared.event.Entry.{Entry}
use Rattle.bz_model.specs.declared.event.Cmd.{Cmd}
use Rattle.bz_model.specs.declared.event.Cmd.TheVariants as word
use Rattle.bz_model.specs.declared.event.HostCmd.{HostCmd}
use Rattle.bz_model.specs.declared.event.Reply.{Reply}
use Rattle.bz_model.specs.declared.event.NetError.{NetError}
use Rattle.bz_model.specs.declared.event.NetError.TheVariants.{JournalFull}
use Rattle.bz_model.specs.Plays.{PlaysWord, PlaysWords, StopsWord}
use Rattle.bz_model.specs.Nets.{opening}
use Rattle.bz_net.specs.Simulation.{Simulation}
use Rattle.bz_cli_core.specs.Running.{NoneRefused, refusal_in}

-- Which reply among the entries of a word is a refusal, if one is: then the word is a host command, and this is its one entry.
abbrev pub Refuses : Cmd → List Entry → Option Reply → Type 0
Refuses cmd entries None = NoneRefused entries
Refuses cmd entries (Some reply) = (host : HostCmd) × (cmd ≡ word.Host host) × ((last : Entry) × (entries ≡ last ∷ []) × (refusal_in last ≡ Some reply))

-- the word was played to its end
pub record PlaysOne (old new : Simulation) (cmd : Cmd) (refusal : Option Reply) : Type 0 where
  pub entries : List Entry
  pub journal : new.journal ≡ old.journal ++ entries
  pub plays : PlaysWord old.wiring old.state cmd entries new.state
  pub refuses : Refuses cmd entries refusal
  pub wiring : new.wiring ≡ old.wiring
  pub limit : new.limit ≡ old.limit

-- an event of the word was refused
pub record StopsOne (old new : Simulation) (cmd : Cmd) (e : NetError) : Type 0 where
  pub entries : List Entry
  pub journal : new.journal ≡ old.journal ++ entries
  pub stops : StopsWord old.wiring old.state cmd e entries
  pub none : NoneRefused entries
  pub wiring : new.wiring ≡ old.wiring
  pub limit : new.limit ≡ old.limit
  pub full : e ≡ JournalFull → length new.journal ≡ new.limit

-- the words were all played to their end, since the opening
pub record Playing (old new : Simulation) (cmds : List Cmd) : Type 0 where
  pub plays : PlaysWords new.wiring (opening new.wiring) cmds new.journal new.state
  pub wiring : new.wiring ≡ old.wiring
  pub limit : new.limit ≡ old.limit

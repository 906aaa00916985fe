-- Words of sessions that have host commands alone.
use Rattle.std.specs.Prelude.{◌≡◌, ℕ, ◌+◌, ⊤, Option, Result, Ok, Err, List, ◌∷◌, ◌++◌, length, map, codes}
use Rattle.std.specs.declared.alloc.Global.{Global}
use Rattle.std.specs.declared.vec.Vec.{Vec}
use Rattle.bz_model.specs.declared.event.HostCmd.{HostCmd}
use Rattle.bz_model.specs.declared.event.Verb.{Verb}
use Rattle.bz_words.specs.Limits.{max_sessions}
use Rattle.bz_words.specs.declared.words.SessionError.{SessionError}
use Rattle.bz_words.specs.declared.words.SessionError.TheVariants.{BadWord, Event, Memory}
use Rattle.bz_words.specs.Words.{Command, host, IsWord, Spell}

abbrev pub of_host : HostCmd → Command
of_host c = host c.verb c.port.items c.value

abbrev pub hosts_of : Vec HostCmd Global → List Command
hosts_of s = map of_host s.items

-- Word number `at`, from 1, is the first that does not belong there: those before it spell sessions of host commands, but
-- it spells no host command, nor is it a `/` with room for one session more.
pub record IsFirstUnfit (words : List (List ℕ)) (at : ℕ) : Type 0 where
  pub earlier : List (List ℕ)
  pub word : List ℕ
  pub later : List (List ℕ)
  pub words_are : words ≡ earlier ++ word ∷ later
  pub at_is : at ≡ length earlier + 1
  pub sessions : List (Vec HostCmd Global)
  pub spelt : Spell earlier (map hosts_of sessions)
  pub no_host : (verb : Verb) (name : List ℕ) (value : Option ℕ) → IsWord word (host verb name value) → ⊥
  pub no_room : word ≡ codes "/" → length sessions ≡ max_sessions

-- What an answer says: the sessions that the words spell, or the first word that is unfit. A want of memory says nothing.
abbrev pub SpellsHosts : List (List ℕ) → Result (Vec (Vec HostCmd Global) Global) SessionError → Type 0
SpellsHosts words (Ok v) = Spell words (map hosts_of v.items)
SpellsHosts words (Err (BadWord at)) = IsFirstUnfit words at
SpellsHosts words (Err (Event e)) = ⊥
SpellsHosts words (Err Memory) = ⊤

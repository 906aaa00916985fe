-- The words of the command line, and the commands that they spell.
use Rattle.std.specs.Prelude.{◌≡◌, ◌≢◌, ℕ, ◌+◌, ◌*◌, ◌<◌, ◌≤◌, ◌^◌, Bool, true, false, Option, Some, None, Result, Ok, Err, List, [], ◌∷◌, ◌++◌, length, map, codes}
use Rattle.std.specs.Char.{digit_value}
use Rattle.std.specs.Str.Parse.{IsNumeral, digits_value}
use Rattle.std.specs.Borrow.{Bor}
use Rattle.std.specs.declared.alloc.Global.{Global}
use Rattle.std.specs.declared.vec.Vec.{Vec}
use Rattle.bz_model.specs.declared.event.Cmd.{Cmd}
use Rattle.bz_model.specs.declared.event.Cmd.TheVariants as cmd
use Rattle.bz_model.specs.declared.event.Verb.{Verb}
use Rattle.bz_model.specs.declared.event.Verb.TheVariants.{Offer, Answer}
use Rattle.bz_model.specs.Traces.{verb_text}
use Rattle.bz_model.specs.Limits.{max_width}
use Rattle.bz_words.specs.Limits.{max_sessions}
use Rattle.bz_words.specs.declared.words.SessionError.{SessionError}
use Rattle.bz_words.specs.declared.words.SessionError.TheVariants.{BadWord, Event, Memory}

-- the bytes of each word
abbrev pub texts : List (Bor (List ℕ)) → List (List ℕ)
texts words = map (λ word. word.now) words

abbrev pub percent : ℕ
percent = 37

abbrev pub colon : ℕ
colon = 58

-- A command: what a host does at the port of a name, with a value or without, or so many firings.
pub data Command : Type 0 where
  host : Verb → List ℕ → Option ℕ → Command
  run : ℕ → Command

abbrev pub command_of : Cmd → Command
command_of (cmd.Host c) = host c.verb c.port.items c.value
command_of (cmd.Run n) = run n

-- The verbs that may bring a value.
abbrev pub takes_value : Verb → Bool
takes_value Offer = true
takes_value Answer = true
takes_value verb = false

-- Bytes of a name are spelt one by one: any byte but `%` and `:` stands for itself, and `%` with two hexadecimal digits,
-- each of either case, for the byte of that number.
pub data SpellsBytes : List ℕ → List ℕ → Type 0 where
  nothing : SpellsBytes [] []
  itself : {b : ℕ} {form name : List ℕ} → b ≢ percent → b ≢ colon
      → SpellsBytes form name → SpellsBytes (b ∷ form) (b ∷ name)
  by_number : {p high low b : ℕ} {form name : List ℕ} → p ≡ percent
      → digit_value high < 16 → digit_value low < 16 → b ≡ digit_value high * 16 + digit_value low
      → SpellsBytes form name → SpellsBytes (p ∷ high ∷ low ∷ form) (b ∷ name)

-- The form of a name. The empty one is `%`.
abbrev pub IsName : List ℕ → List ℕ → Type 0
IsName form [] = form ≡ percent ∷ []
IsName form (b ∷ bs) = SpellsBytes form (b ∷ bs)

-- Decimal digits, one or more, of a number below 2 ^ bits. Zeros may lead.
pub record IsNumber (bits : ℕ) (digits : List ℕ) (n : ℕ) : Type 0 where
  pub numeral : IsNumeral 10 digits
  pub value : n ≡ digits_value 10 digits
  pub fits : n < 2 ^ bits

-- What stands behind the colon of a verb: a name, or a name, a colon and a value.
abbrev pub AreOperands : List ℕ → Verb → List ℕ → Option ℕ → Type 0
AreOperands operands verb name None = IsName operands name
AreOperands operands verb name (Some v) =
    (form digits : List ℕ) × (operands ≡ form ++ colon ∷ digits)
    × IsName form name × (takes_value verb ≡ true) × IsNumber max_width digits v

-- A word that spells a command: `VERB:NAME`, `VERB:NAME:VALUE` or `run:COUNT`.
abbrev pub IsWord : List ℕ → Command → Type 0
IsWord word (host verb name value) =
    (operands : List ℕ) × (word ≡ verb_text verb ++ colon ∷ operands)
    × AreOperands operands verb name value
IsWord word (run n) = (digits : List ℕ) × (word ≡ codes "run" ++ colon ∷ digits) × IsNumber 64 digits n

-- Sessions: the commands that words spell, with a `/` between one session and the next.
pub data AreSessions : List (List ℕ) → List (List Command) → Type 0 where
  none : AreSessions [] ([] ∷ [])
  command : {word : List ℕ} {words : List (List ℕ)} {c : Command} {session : List Command} {sessions : List (List Command)}
      → IsWord word c → AreSessions words (session ∷ sessions) → AreSessions (word ∷ words) ((c ∷ session) ∷ sessions)
  separator : {word : List ℕ} {words : List (List ℕ)} {sessions : List (List Command)}
      → word ≡ codes "/" → AreSessions words sessions → AreSessions (word ∷ words) ([] ∷ sessions)

pub record Spell (words : List (List ℕ)) (sessions : List (List Command)) : Type 0 where
  pub are : AreSessions words sessions
  pub few : length sessions ≤ max_sessions

-- Word number `at`, from 1, is the first bad one: those before it spell sessions, but it spells no command, nor is it a
-- `/` with room for one session more.
pub record IsFirstBad (words : List (List ℕ)) (at : ℕ) : Type 0 where
  pub earlier : List (List ℕ)
  pub word : List ℕ
  pub later : List (List ℕ)
  pub words_are : words ≡ earlier ++ word ∷ later
  pub at_is : at ≡ length earlier + 1
  pub sessions : List (List Command)
  pub spelt : Spell earlier sessions
  pub no_command : (c : Command) → IsWord word c → ⊥
  pub no_room : word ≡ codes "/" → length sessions ≡ max_sessions

-- What words come to.
pub data Outcome : Type 0 where
  sessions_are : List (List Command) → Outcome
  bad_word : ℕ → Outcome

abbrev pub ComesTo : List (List ℕ) → Outcome → Type 0
ComesTo words (sessions_are sessions) = Spell words sessions
ComesTo words (bad_word at) = IsFirstBad words at

abbrev pub session_of : Vec Cmd Global → List Command
session_of s = map command_of s.items

-- What an answer says. A want of memory says nothing. An event is never told of words: no word has the number 0.
abbrev pub outcome_of : Result (Vec (Vec Cmd Global) Global) SessionError → Option Outcome
outcome_of (Ok v) = Some (sessions_are (map session_of v.items))
outcome_of (Err (BadWord at)) = Some (bad_word at)
outcome_of (Err (Event e)) = Some (bad_word 0)
outcome_of (Err Memory) = None

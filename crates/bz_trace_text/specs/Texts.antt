-- Texts that are traces, of either version, and the first bad line of those that are not.
use Rattle.std.specs.Prelude.{◌≡◌, ◌≢◌, ◌⊎◌, ℕ, ◌+◌, ◌≤◌, Option, Some, None, Result, Ok, Err, List, [], ◌++◌, length, map, codes}
use Rattle.std.specs.List.{flat_map, AllByRecursion}
use Rattle.std.specs.declared.alloc.Global.{Global}
use Rattle.std.specs.declared.vec.Vec.{Vec}
use Rattle.bz_model.specs.declared.event.Entry.{Entry}
use Rattle.bz_model.specs.Names.{Outside, External}
use Rattle.bz_model.specs.Traces.{line_text, clash_text}
use Rattle.bz_trace_text.specs.declared.text.Version.{Version}
use Rattle.bz_trace_text.specs.declared.text.Version.TheVariants.{One, Two}
use Rattle.bz_trace_text.specs.declared.text.TraceError.{TraceError}
use Rattle.bz_trace_text.specs.declared.text.TraceError.TheVariants.{Bad, Memory}
use Rattle.bz_model.specs.Limits.{max_entries}
use Rattle.bz_model.specs.Entries.{HasLine, IsNumber32, told}

abbrev pub first_line : Version → List ℕ
first_line One = codes "trace 1\n"
first_line Two = codes "trace 2\n"

abbrev pub lines : List External → List Entry → List ℕ
lines ports entries = flat_map (line_text ports) entries

abbrev pub clash_lines : List ℕ → List ℕ
clash_lines clashes = flat_map clash_text clashes

-- what a trace tells: entries, and in version 2 the components at which requests have clashed
pub record Trace : Type 0 where
  pub version : Version
  pub entries : List Entry
  pub clashes : List ℕ

-- its text: the first line, a line for each entry, and a line for each clash
abbrev pub spelling : List External → Trace → List ℕ
spelling ports t = first_line t.version ++ (lines ports t.entries ++ clash_lines t.clashes)

-- each entry has a line, there are not too many, and version 1 has no clashes
pub record HasText (net : Outside) (t : Trace) : Type 0 where
  pub each : AllByRecursion (HasLine net) t.entries
  pub few : length t.entries ≤ max_entries
  pub numbers : AllByRecursion IsNumber32 t.clashes
  pub without : t.version ≡ One → t.clashes ≡ []

-- behind n entries no further one stands here: no entry's line does, or n are the most
abbrev pub NoEntry : Outside → ℕ → List ℕ → Type 0
NoEntry net n rest = (e : Entry) (after : List ℕ) → HasLine net e → rest ≡ line_text net.ports e ++ after → n ≡ max_entries

abbrev pub NoClash : Version → List ℕ → Type 0
NoClash version rest = (comp : ℕ) (after : List ℕ) → IsNumber32 comp → rest ≡ clash_text comp ++ after → version ≡ One

-- Line number `line` is the first bad one. Before it the text is that of a trace, and behind that comes something, but no
-- further entry, nor a clash; entries stand before clashes.
pub record IsLaterBad (net : Outside) (text : List ℕ) (line : ℕ) : Type 0 where
  pub before : Trace
  pub has_text : HasText net before
  pub rest : List ℕ
  pub text_is : text ≡ spelling net.ports before ++ rest
  pub line_is : line ≡ length before.entries + length before.clashes + 2
  pub some_rest : rest ≢ []
  pub no_entry : before.clashes ≡ [] → NoEntry net (length before.entries) rest
  pub no_clash : NoClash before.version rest

-- the first line of the text is that of no version
abbrev pub IsFirstBad : List ℕ → ℕ → Type 0
IsFirstBad text line = (line ≡ 1) × ((version : Version) (rest : List ℕ) → text ≡ first_line version ++ rest → ⊥)

-- clash lines, and behind them something else or the end
pub record Skips (text : List ℕ) (first line : ℕ) (rest : List ℕ) : Type 0 where
  pub clashes : List ℕ
  pub numbers : AllByRecursion IsNumber32 clashes
  pub text_is : text ≡ clash_lines clashes ++ rest
  pub line_is : line ≡ first + length clashes
  pub no_clash : NoClash Two rest

-- clash lines, to the end
abbrev pub ClashesFrom : Version → List ℕ → Type 0
ClashesFrom version text = (clashes : List ℕ) × AllByRecursion IsNumber32 clashes × (version ≡ One → clashes ≡ []) × (text ≡ clash_lines clashes)

-- clash lines, and then something else
pub record OtherFrom (version : Version) (text : List ℕ) (first line : ℕ) : Type 0 where
  pub clashes : List ℕ
  pub numbers : AllByRecursion IsNumber32 clashes
  pub without : version ≡ One → clashes ≡ []
  pub rest : List ℕ
  pub text_is : text ≡ clash_lines clashes ++ rest
  pub line_is : line ≡ first + length clashes
  pub some_rest : rest ≢ []
  pub no_clash : NoClash version rest

-- What a text comes to.
pub data Outcome : Type 0 where
  entries_are : List Entry → Outcome
  bad_line : ℕ → Outcome

abbrev pub Spells : Outside → List ℕ → List Entry → Type 0
Spells net text entries = (t : Trace) × HasText net t × (text ≡ spelling net.ports t) × (entries ≡ map told t.entries)

abbrev pub IsBad : Outside → List ℕ → ℕ → Type 0
IsBad net text line = IsFirstBad text line ⊎ IsLaterBad net text line

abbrev pub ComesTo : Outside → List ℕ → Outcome → Type 0
ComesTo net text (entries_are entries) = Spells net text entries
ComesTo net text (bad_line line) = IsBad net text line

-- What an answer says. A want of memory says nothing.
abbrev pub outcome_of : Result (Vec Entry Global) TraceError → Option Outcome
outcome_of (Ok v) = Some (entries_are v.items)
outcome_of (Err (Bad line)) = Some (bad_line line)
outcome_of (Err Memory) = None

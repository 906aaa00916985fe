-- What a call that writes lines of a trace leaves in a writer.
use Rattle.std.specs.Prelude.{◌≡◌, ℕ, Bool, true, false, List, ◌++◌, codes, decimal, Option, Result, Ok, Err}
use Rattle.std.specs.List.{flat_map}
use Rattle.std.specs.Io.KnownBytes.{Appends}
use Rattle.bz_model.specs.declared.channel.Move.{Move}
use Rattle.bz_model.specs.declared.event.Entry.{Entry}
use Rattle.bz_model.specs.Names.{External}
use Rattle.bz_model.specs.Traces.{line_text, move_text}
use Rattle.bz_text.specs.Writing.{AppendsFront, Writes}
use Rattle.bz_trace_text.specs.declared.outgoing.Outgoing.{Outgoing}

-- The text was put after what a page had, `before`. At Ok some of all this went out, and the rest is what it has now,
-- `after`; at Err only a front of it went out.
abbrev pub Composes : {A E : Type 0} → Option (List ℕ) → Option (List ℕ) → List ℕ → List ℕ → Result A E → List ℕ → Type 0
Composes old new before after (Ok u) text = (sent : List ℕ) × (before ++ text ≡ sent ++ after) × Appends old new sent
Composes old new before after (Err e) text = AppendsFront old new (before ++ text)

-- the first line of a trace, and the lines of these entries
abbrev pub first_lines : List External → List Entry → List ℕ
first_lines ports entries = codes "trace 2\n" ++ flat_map (line_text ports) entries

-- these went out since `start`
abbrev pub HasLines : List External → Option (List ℕ) → Option (List ℕ) → List Entry → Type 0
HasLines ports start now entries = Appends start now (first_lines ports entries)

-- at Ok they have gone out since `start`, and only a front of them at Err
abbrev pub WritesLines : {A E : Type 0} → List External → Option (List ℕ) → Option (List ℕ) → Result A E → List Entry → Type 0
WritesLines ports start new answer entries = Writes start new answer (first_lines ports entries)

-- The text has gone out since `start`, but for what waits. Where the writer has failed, a front of it went out.
abbrev pub GoneBut : Option (List ℕ) → Option (List ℕ) → Bool → List ℕ → List ℕ → Type 0
GoneBut start now false waits text = (sent : List ℕ) × (text ≡ sent ++ waits) × Appends start now sent
GoneBut start now true waits text = (front rest : List ℕ) × (text ≡ front ++ rest) × Appends start now front

-- the same of what waits on a page
abbrev pub IsGone : Option (List ℕ) → Option (List ℕ) → Outgoing → List ℕ → Type 0
IsGone start now outgoing text = GoneBut start now outgoing.failed outgoing.page text

-- the line of a firing up to its channel, by the text of who it is
abbrev pub move_line : List ℕ → ℕ → Move → ℕ → List ℕ
move_line who comp mv chan = who ++ (codes " fire " ++ (decimal comp ++ (codes " " ++ (move_text mv ++ (codes " " ++ decimal chan)))))

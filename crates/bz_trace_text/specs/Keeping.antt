-- Lines of firings that are kept.
use Rattle.std.specs.Prelude.{◌≡◌, ℕ, ◌+◌, ◌*◌, ◌<◌, List, ◌++◌, take, length, get_or, codes, decimal}
use Rattle.bz_model.specs.declared.channel.Move.{Move}
use Rattle.bz_model.specs.declared.channel.Move.TheVariants as move
use Rattle.bz_model.specs.Traces.{move_text}
use Rattle.bz_trace_text.specs.declared.kept_line.KeptLine.{KeptLine}

-- the line of a firing without a value, from its component on
abbrev pub told_line : ℕ → Move → ℕ → List ℕ
told_line comp mv chan = decimal comp ++ (codes " " ++ (move_text mv ++ (codes " " ++ (decimal chan ++ codes "\n"))))

-- what a kept line tells
abbrev pub kept_text : KeptLine → List ℕ
kept_text line = take line.len (line.first ++ line.second)

-- the four moves of a channel, in their order
abbrev pub move_place : Move → ℕ
move_place move.Ask = 0
move_place move.Take = 1
move_place move.Reply = 2
move_place move.Got = 3

-- a line that is kept for a move of a channel is that of its component
abbrev pub IsKept : KeptLine → Move → ℕ → Type 0
IsKept line mv chan = line.comp < 4294967296 → kept_text line ≡ told_line line.comp mv chan

-- each line is kept in the place of its channel and move
abbrev pub AreKept : List KeptLine → Type 0
AreKept lines = (mv : Move) (chan : ℕ) (none : KeptLine) → 4 * chan + move_place mv < length lines → IsKept (get_or lines (4 * chan + move_place mv) none) mv chan

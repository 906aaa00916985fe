-- Why a text is no short trace.
use Rattle.std.specs.Prelude.{⊤, ℕ, List}
use Rattle.bz_complete.specs.Named.{ChanTable}
use Rattle.bz_complete.specs.ShortTexts.{GoesTo}
use Rattle.bz_complete.specs.declared.reading.ShortFault.{ShortFault}
use Rattle.bz_complete.specs.declared.reading.ShortFault.TheVariants.{Bad, Memory}

-- the lines before the bad one spell moves
abbrev pub StopsShort : ChanTable → List ℕ → ShortFault → Type 0
StopsShort names text (Bad line) = GoesTo names text line
StopsShort names text Memory = ⊤

-- What a run exercises, counted entry by entry.
use Rattle.std.specs.Prelude.{List, Option, IfSome}
use Rattle.bz_model.specs.declared.event.Entry.{Entry}
use Rattle.bz_model.specs.Nets.{Wiring}
use Rattle.bz_cover.specs.Counts.{AreCounts, HasPlaces, Tallies}

-- there is a place for each component and each channel, and these entries were counted; or there was no memory for that
abbrev pub AreCounted : Wiring → List Entry → Option Tallies → Type 0
AreCounted w entries now = IfSome now (λ tallies. HasPlaces w tallies × AreCounts tallies entries)

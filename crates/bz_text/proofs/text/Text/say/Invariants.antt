use denote.Text.{Utf8}
use denote.Shadow.{shadow}
use Rattle.std.specs.List.{AllPass}
use Rattle.bz_text.specs.Growing.{GrowsBy}
use Rattle.bz_text.proofs.Said.{Spoken}
use Rattle.bz_text.proofs.text.Text.say.Given as goal

abbrev pub invariant-loop-piece : goal.invariant-loop-piece
invariant-loop-piece g l =
    shadow (Utf8 l.rest) × (AllPass g.P.Put.is_told l.pieces → GrowsBy (Spoken g.P.Put.adds l.fn.form l.pieces l.piece-index l.rest) l.initial.self l.self)

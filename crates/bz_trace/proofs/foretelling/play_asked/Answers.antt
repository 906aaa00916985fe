use Rattle.std.proofs.Common.{inl, refl}
use Rattle.bz_trace.proofs.foretelling.play_asked.Goals as goal

pub returns-then-guess-gt0-clause-gets_on : goal.returns-then-guess-gt0-clause-gets_on
returns-then-guess-gt0-clause-gets_on g c = inl (refl, refl)

pub returns-then-guess-gt0-clause-shows : goal.returns-then-guess-gt0-clause-shows
returns-then-guess-gt0-clause-shows g c w past before s = s

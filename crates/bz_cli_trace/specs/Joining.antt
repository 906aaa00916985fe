-- The pieces of one run, each checked as it goes on where the one before ended.
use Rattle.std.specs.Prelude.{◌≡◌, ℕ, Bool, true, false, List}
use Rattle.bz_model.specs.declared.event.Entry.{Entry}
use Rattle.bz_model.specs.Nets.{Wiring}
use Rattle.bz_net.specs.Progress.{Progress}
use Rattle.bz_trace.specs.Pieces.{GoesOver, JudgesPieceTo, StopsInFrontBehind}
use Rattle.bz_trace.specs.declared.checking.Verdict.TheVariants as verdict
use Rattle.bz_cli_trace.specs.Judging.{TellsRest}
use Rattle.bz_cli_trace.specs.declared.finding.Finding.{Finding}

-- This is what was found of a piece behind those of these entries, and where the net is left.
pub record IsPieceFound (to_first to_rest last : Bool) (w : Wiring) (past : List Entry) (text : List ℕ) (net : Progress) (found : Finding) : Type 0 where
  pub wiring : net.wiring ≡ w
  pub judged : JudgesPieceTo found.early last w past text found.verdict
  pub goes_on : found.verdict ≡ verdict.Run → GoesOver last w past text net found.counts
  pub whole : to_first ≡ false → found.early ≡ false
  pub first : to_first ≡ true → (line : ℕ) → StopsInFrontBehind w past text line → (found.early ≡ true) × (found.verdict ≡ verdict.Not line)
  pub rests : TellsRest to_rest found.verdict net found.unrested

-- What is found of a piece.
use Rattle.std.proofs.Common.{◌≡◌, ℕ, Bool, true, false, List, Option, Some, None}
use Rattle.std.specs.Prelude.{IfSome}
use Rattle.bz_model.specs.declared.event.Entry.{Entry}
use Rattle.bz_model.specs.Nets.{Wiring}
use Rattle.bz_net.specs.Progress.{Progress}
use Rattle.bz_trace.specs.Pieces.{GoesOver, JudgesPieceTo, StopsInFrontBehind}
use Rattle.bz_trace.specs.declared.checking.Verdict.TheVariants as verdict
use Rattle.bz_cli_trace.specs.Judging.{TellsRest}
use Rattle.bz_cli_trace.specs.Joining.{IsPieceFound}
use Rattle.bz_cli_trace.specs.declared.finding.Finding.{Finding}

pub piece_found : (to_first to_rest last : Bool) (w : Wiring) (past : List Entry) (net : Progress) (found : Finding) (had : Option (List ℕ)) → net.wiring ≡ w → IfSome had (λ text. JudgesPieceTo found.early last w past text found.verdict)
    → (found.verdict ≡ verdict.Run → IfSome had (λ text. GoesOver last w past text net found.counts)) → (to_first ≡ false → found.early ≡ false)
    → (to_first ≡ true → IfSome had (λ text. (line : ℕ) → StopsInFrontBehind w past text line → (found.early ≡ true) × (found.verdict ≡ verdict.Not line)))
    → TellsRest to_rest found.verdict net found.unrested → IfSome had (λ text. IsPieceFound to_first to_rest last w past text net found)
piece_found to_first to_rest last w past net found None same judged goes whole first rests = tt
piece_found to_first to_rest last w past net found (Some text) same judged goes whole first rests = record {
  wiring = same;
  judged = judged;
  goes_on = goes;
  whole = whole;
  first = first;
  rests = rests;
}

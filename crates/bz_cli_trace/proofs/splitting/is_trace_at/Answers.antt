use Rattle.std.proofs.Common.{ℕ, List, MatchBool, subst}
use Rattle.bz_cli_trace.specs.Splitting.{BeginsTrace}
use Rattle.bz_cli_trace.proofs.Splits.{match_as, rest_is}
use Rattle.bz_cli_trace.proofs.splitting.is_trace_at.Goals as goal

pub returns-then-begins_line : goal.returns-then-begins_line
returns-then-begins_line c = match_as c.begins_trace.result (λ begins. (c.requires, c.if-begins_line.ensures, begins)) (λ at. at.2) (subst (λ (s : List ℕ). MatchBool c.begins_trace.result (BeginsTrace s) (BeginsTrace s → ⊥)) (rest_is c.args.text.now c.args.place) c.begins_trace.ensures)

pub returns : goal.returns
returns c = λ at. c.if-begins_line.ensures at.1

use Rattle.std.proofs.Common.{◌≡◌, ℕ, true, List, subst}
use Rattle.std.specs.Prelude.{IfSome}
use Rattle.bz_model.specs.declared.event.Entry.{Entry}
use Rattle.bz_net.specs.Progress.{Progress}
use Rattle.bz_trace.specs.Pieces.{GoesOver, IsBehind, JudgesPieceTo, StopsInFrontBehind}
use Rattle.bz_trace.specs.Reading.{IsEarly}
use Rattle.bz_trace.specs.Watching.{ShowsTrace}
use Rattle.bz_trace.specs.declared.checking.Verdict.TheVariants as verdict
use Rattle.bz_trace.proofs.Streams.{first_behind, goes_behind, right_behind}
use Rattle.bz_trace.proofs.joined.Joined.check.Goals as goal

pub returns-in-Ok-clause-right : goal.returns-in-Ok-clause-right
returns-in-Ok-clause-right g c =
    subst (λ (v : Progress). (past : List Entry) → IsBehind v.wiring v past → IfSome (g.R.Read.remaining c.args.input.now) (λ text. JudgesPieceTo c.in-Ok.said.early c.args.is_last v.wiring past text c.in-Ok.said.verdict)) c.self.view_is
    (right_behind c.args.to_first c.args.is_last _ _ _ c.read_text.new.net c.in-Ok.said c.in-Ok.ensures.concludes)

pub returns-in-Ok-clause-goes_on : goal.returns-in-Ok-clause-goes_on
returns-in-Ok-clause-goes_on g c =
    subst (λ (v : Progress). c.in-Ok.said.verdict ≡ verdict.Run → (past : List Entry) → IsBehind v.wiring v past → IfSome (g.R.Read.remaining c.args.input.now) (λ text. GoesOver c.args.is_last v.wiring past text c.read_text.new.net c.in-Ok.said.counts)) c.self.view_is
    (goes_behind c.args.to_first c.args.is_last _ _ _ c.read_text.new.net c.in-Ok.said c.in-Ok.ensures.concludes)

pub returns-in-Ok-clause-first : goal.returns-in-Ok-clause-first
returns-in-Ok-clause-first g c =
    subst (λ (v : Progress). c.args.to_first ≡ true → (past : List Entry) → IsBehind v.wiring v past → IfSome (g.R.Read.remaining c.args.input.now) (λ text. (line : ℕ) → StopsInFrontBehind v.wiring past text line → IsEarly line c.in-Ok.said)) c.self.view_is
    (first_behind c.args.to_first c.args.is_last _ _ _ c.read_text.new.net c.in-Ok.said c.in-Ok.ensures.concludes)

pub returns-in-Ok-clause-shows : goal.returns-in-Ok-clause-shows
returns-in-Ok-clause-shows g c =
    subst (λ (v : Progress). (past : List Entry) → IsBehind v.wiring v past → g.S.Watch.behind v.wiring past c.args.watch.now → IfSome (g.R.Read.remaining c.args.input.now) (λ text. c.in-Ok.said.verdict ≡ verdict.Run → ShowsTrace g.S.Watch.behind v.wiring past text c.read_text.new.watch)) c.self.view_is
    c.in-Ok.ensures.shows

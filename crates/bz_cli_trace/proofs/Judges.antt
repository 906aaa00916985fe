-- What is found of a trace that is judged.
use Rattle.std.proofs.Common.{◌≡◌, ℕ, Bool, true, false, List, [], Option, Some, None, subst, sym}
use Rattle.std.specs.Prelude.{IfSome, MatchOption, is_some}
use Rattle.bz_model.specs.declared.event.Entry.{Entry}
use Rattle.bz_model.specs.Nets.{Site, State, Wiring}
use Rattle.bz_model.specs.Runs.{CanStep, IsNext, Rest}
use Rattle.bz_flat.specs.Wires.{WellWired}
use Rattle.bz_net.specs.Progress.{Progress}
use Rattle.bz_trace.specs.declared.checking.Verdict.{Verdict}
use Rattle.bz_trace.specs.declared.checking.Verdict.TheVariants as verdict
use Rattle.bz_trace.specs.Reading.{JudgesTo, LeavesTo, StopsInFront}
use Rattle.bz_trace.specs.Verdicts.{CountsRun}
use Rattle.bz_trace.specs.Watching.{ShowsTrace}
use Rattle.bz_cli_input.specs.Opening.{Denotes}
use Rattle.bz_cli_source.specs.Surveys.{IsRead}
use Rattle.bz_cli_trace.specs.Judging.{IsCase, IsFound, TellsRest}
use Rattle.bz_cli_trace.specs.declared.case.Case.{Case}
use Rattle.bz_cli_trace.specs.declared.judged.Judged.{Judged}

-- whether some component can move where a run ends
pub rest_told : (to_rest : Bool) (v : Verdict) (net : Progress) (sites : List Site) (s : State) (next : Option ℕ) → to_rest ≡ true → v ≡ verdict.Run → MatchOption next (Rest sites s) (IsNext (CanStep sites s) 1) → sites ≡ net.wiring.sites → s ≡ net.state
    → TellsRest to_rest v net (is_some next)
rest_told to_rest v net sites s None so run none a b = λ x y. subst (λ t. Rest net.wiring.sites t) b (subst (λ l. Rest l s) a none)
rest_told to_rest v net sites s (Some c) so run next a b = (so, run, (c, subst (λ t. CanStep net.wiring.sites t c) b (subst (λ l. CanStep l s c) a next.is_in)))

-- of what the reader had all hold
pub found_read : (to_first to_rest : Bool) (w : Wiring) (t : Judged) (had : Option (List ℕ)) → WellWired w → t.net.wiring ≡ w → IfSome had (λ text. JudgesTo t.found.early w text t.found.verdict) → (to_first ≡ false → t.found.early ≡ false)
    → (to_first ≡ true → IfSome had (λ text. (line : ℕ) → StopsInFront w text line → (t.found.early ≡ true) × (t.found.verdict ≡ verdict.Not line)))
    → IfSome had (λ text. t.found.verdict ≡ verdict.Run → CountsRun w text t.found.counts) → IfSome had (λ text. LeavesTo t.found.early w text t.net t.found.verdict) → TellsRest to_rest t.found.verdict t.net t.found.unrested
    → IfSome had (λ text. IsFound to_first to_rest w text t)
found_read to_first to_rest w t None wired same judges whole first counted leaves rests = tt
found_read to_first to_rest w t (Some text) wired same judges whole first counted leaves rests = record {
  wired = wired;
  wiring = same;
  judges = judges;
  whole = whole;
  first = first;
  counted = counted;
  leaves = leaves;
  rests = rests;
}

-- on the net of a netlist, whose wiring is the one that was opened
case_of : (to_first to_rest : Bool) (netlist text : List ℕ) (asked : Option (List ℕ)) (w : Wiring) (c : Case) → Denotes netlist asked w → IsRead netlist asked c.part.items w c.source.parts c.source.lines.items → IsFound to_first to_rest w text c.judged
    → IsCase to_first to_rest netlist text asked c
case_of to_first to_rest netlist text asked w c net read found = record {
  net = subst (Denotes netlist asked) (sym found.wiring) net;
  read = subst (λ v. IsRead netlist asked c.part.items v c.source.parts c.source.lines.items) (sym found.wiring) read;
  found = subst (λ v. IsFound to_first to_rest v text c.judged) (sym found.wiring) found;
}

pub case_read : (to_first to_rest : Bool) (netlist : List ℕ) (asked : Option (List ℕ)) (w : Wiring) (c : Case) (had : Option (List ℕ)) → Denotes netlist asked w → IsRead netlist asked c.part.items w c.source.parts c.source.lines.items → IfSome had (λ text. IsFound to_first to_rest w text c.judged)
    → IfSome had (λ text. IsCase to_first to_rest netlist text asked c)
case_read to_first to_rest netlist asked w c None net read found = tt
case_read to_first to_rest netlist asked w c (Some text) net read found = case_of to_first to_rest netlist text asked w c net read found

-- what was shown of the trace of a run
pub shown_read : {A : Type 0} (behind : Wiring → List Entry → A → Type 0) (to_first to_rest : Bool) (w : Wiring) (t : Judged) (had : Option (List ℕ)) (now : A) → IfSome had (λ text. IsFound to_first to_rest w text t) → IfSome had (λ text. t.found.verdict ≡ verdict.Run → ShowsTrace behind w [] text now)
    → IfSome had (λ text. t.found.verdict ≡ verdict.Run → ShowsTrace behind t.net.wiring [] text now)
shown_read behind to_first to_rest w t None now found shows = tt
shown_read behind to_first to_rest w t (Some text) now found shows = λ is. subst (λ v. ShowsTrace behind v [] text now) (sym found.wiring) (shows is)

-- What is made of a trace that was judged, or why nothing is.
use Rattle.std.proofs.Common.{◌≡◌, ℕ, true, false, List, [], Option, Result, Ok, Err, inl, inr, refl, subst, sym, ◌⊎◌}
use Rattle.std.proofs.KnownBytes.{Appends-nil, Keeps-refl}
use Rattle.bz_model.specs.Nets.{Wiring}
use Rattle.bz_trace.specs.declared.checking.Verdict.{Verdict}
use Rattle.bz_trace.specs.declared.checking.Verdict.TheVariants as verdict
use Rattle.bz_trace.specs.Reading.{JudgesTo}
use Rattle.bz_trace.specs.Verdicts.{Judges}
use Rattle.bz_cli_input.specs.Opening.{RefusesNet}
use Rattle.bz_cli_input.specs.declared.fault.Fault.{Fault}
use Rattle.bz_cli_input.specs.declared.fault.Fault.TheVariants.{Memory}
use Rattle.bz_cli_trace.specs.declared.case.Case.{Case}
use Rattle.bz_cli_trace.specs.Judging.{IsCase, IsFound}
use Rattle.bz_cli_trace.specs.Making.{IsJudged, IsNoRun, MakesOf}

-- a verdict on all of a trace
judged_whole : (netlist trace : List ℕ) (asked : Option (List ℕ)) (c : Case) (v : Verdict) → IsCase false false netlist trace asked c → c.judged.found.verdict ≡ v → IsJudged netlist trace asked v c.judged.net.wiring
judged_whole netlist trace asked c v is so = record {
  net = is.net;
  judged = subst (Judges c.judged.net.wiring trace) so (subst (λ e. JudgesTo e c.judged.net.wiring trace c.judged.found.verdict) (is.found.whole refl) is.found.judges);
}

pub run_judged : (netlist trace : List ℕ) (asked : Option (List ℕ)) (c : Case) → IsCase false false netlist trace asked c → c.judged.found.verdict ≡ verdict.Run → IsJudged netlist trace asked verdict.Run c.judged.net.wiring
run_judged netlist trace asked c is run = judged_whole netlist trace asked c verdict.Run is run

-- what is none
abbrev pub NoRun : Verdict → Result ℕ Fault → Type 0
NoRun verdict.Run result = ⊥
NoRun verdict.Memory result = result ≡ Err Memory
NoRun v result = result ≡ Ok 1

module _ (Made : Wiring → ℕ → List ℕ → Type 0) (Refused : Wiring → Type 0) (netlist trace : List ℕ) (asked : Option (List ℕ)) (old : Option (List ℕ)) where
  pub ends_no_run : (c : Case) (v : Verdict) (result : Result ℕ Fault) → IsCase false false netlist trace asked c → c.judged.found.verdict ≡ v → NoRun v result → MakesOf Made Refused netlist trace asked old old result
  ends_no_run c verdict.Run result is so none = absurd none
  ends_no_run c (verdict.Not line) result is so one =
      subst (λ r. MakesOf Made Refused netlist trace asked old old r) (sym one)
      (inr ([], (c.judged.net.wiring, inr (inr ((line, inl (judged_whole netlist trace asked c (verdict.Not line) is so)), refl, refl))), Appends-nil old))
  ends_no_run c (verdict.Bad line) result is so one =
      subst (λ r. MakesOf Made Refused netlist trace asked old old r) (sym one)
      (inr ([], (c.judged.net.wiring, inr (inr ((line, inr (judged_whole netlist trace asked c (verdict.Bad line) is so)), refl, refl))), Appends-nil old))
  ends_no_run c verdict.Memory result is so out = subst (λ r. MakesOf Made Refused netlist trace asked old old r) (sym out) (inl (tt, Keeps-refl old))

  -- a run of which nothing is made
  pub ends_refused : (w : Wiring) → IsJudged netlist trace asked verdict.Run w → Refused w → MakesOf Made Refused netlist trace asked old old (Ok 2)
  ends_refused w judged why = inr ([], (w, inr (inl (judged, why, refl, refl))), Appends-nil old)

-- What the program does with a trace of which something is made.
use Rattle.std.proofs.Common.{◌≡◌, ℕ, Bool, true, false, List, [], Option, Some, None, Result, Ok, Err, inl, inr, refl, sym, subst, ◌⊎◌}
use Rattle.std.proofs.KnownBytes.{Appends-kept, Appends-nil, Keeps-refl}
use Rattle.std.specs.Io.KnownBytes.{Keeps}
use Rattle.std.specs.declared.alloc.Global.{Global}
use Rattle.std.specs.declared.vec.Vec.{Vec}
use Rattle.bz_model.specs.Nets.{Wiring}
use Rattle.bz_trace.specs.Reading.{JudgesTo}
use Rattle.bz_trace.specs.Verdicts.{Judges}
use Rattle.bz_trace.specs.declared.checking.Verdict.{Verdict}
use Rattle.bz_trace.specs.declared.checking.Verdict.TheVariants as verdict
use Rattle.bz_chart.specs.Charting.{DrawsPiece, HasPiece, RefusesPiece}
use Rattle.bz_chart.specs.declared.range.PieceFault.{PieceFault}
use Rattle.bz_cli_args.specs.declared.asked.ChartOptions.{ChartOptions}
use Rattle.bz_cli_args.specs.declared.asked.DrawOptions.{DrawOptions}
use Rattle.bz_cli_args.specs.declared.asked.WaitsOptions.{WaitsOptions}
use Rattle.bz_cli_input.specs.Answering.{Answers, SendsOne}
use Rattle.bz_cli_input.specs.Opening.{Denotes, RefusesNet}
use Rattle.bz_cli_input.specs.Stopping.{IsOfInput}
use Rattle.bz_cli_input.specs.declared.fault.Fault.{Fault}
use Rattle.bz_cli_input.specs.declared.fault.Fault.TheVariants.{Memory, Write}
use Rattle.bz_cli_trace.specs.Judging.{IsCase, IsFound, is_run}
use Rattle.bz_cli_trace.specs.Making.{IsJudged, MakesOf, RefusesMaking, Sends}
use Rattle.bz_cli_trace.specs.declared.case.Case.{Case}
use Rattle.bz_cli_trace.specs.declared.judged.Judged.{Judged}
use Rattle.bz_cli_trace.specs.declared.unmade.Unmade.{Unmade}
use Rattle.bz_cli_trace.specs.declared.unmade.Unmade.TheVariants as unmade
use Rattle.bz_cli_trace.proofs.Makes.{NoRun, ends_no_run, ends_refused, run_judged}
use Rattle.bz_cli_waits.specs.Telling.{FindsIn}
use Rattle.bz_cli_waits.specs.declared.asked.WaitsFault.{WaitsFault}
use Rattle.bz_cli_waits.specs.declared.told.Told.{Told}
use Rattle.bz_draw.specs.Behind.{DrawsLine}
use Rattle.bz_draw.specs.declared.fault.NoMoment.{NoMoment}
use Rattle.bz_page.specs.Pages.{Blank}
use Rattle.bz_page.specs.Paging.{IsPage, IsPageOf, IsTooLarge, PagesCase}
use Rattle.bz_page.specs.declared.fault.TooLarge.{TooLarge}
use Rattle.bz_page.proofs.Paged.{page_of}
use Rattle.bz_source.specs.declared.file.SourceFile.{SourceFile}
use Rattle.bz_cli_commands.specs.declared.makers.Maker.{Maker}
use Rattle.bz_cli_commands.specs.declared.makers.Maker.TheVariants as maker
use Rattle.bz_cli_commands.specs.Endings.{EndsWith, NoRunEnds, lines_asked, of_made, of_unmade, waits_asked}
use Rattle.bz_cli_commands.specs.Programs.{MadeOf, MakesIn, MakesOn, RefusesWaits, TellsWaits, UnmadeOf, WaitsOn}

-- of a verdict that is none on a run the end is that of no run
pub no_run_ends : (v : Verdict) (result : Result ℕ Fault) → is_run v ≡ false → NoRunEnds v result → NoRun v result
no_run_ends verdict.Run result none ends = cc
no_run_ends (verdict.Not line) result none ends = ends
no_run_ends (verdict.Bad line) result none ends = ends
no_run_ends verdict.Memory result none ends = ends

pub run_is : (v : Verdict) → is_run v ≡ true → v ≡ verdict.Run
run_is verdict.Run is = refl
run_is (verdict.Not line) is = cc
run_is (verdict.Bad line) is = cc
run_is verdict.Memory is = cc

-- of all of a trace it is known whatever is asked of it
pub found_whole : (first rest : Bool) (w : Wiring) (trace : List ℕ) (judged : Judged) → first ≡ false → rest ≡ false → IsFound first rest w trace judged → IsFound false false w trace judged
found_whole first rest w trace judged all any found = subst (λ f. IsFound f false w trace judged) all (subst (λ r. IsFound first r w trace judged) any found)

pub case_whole : (first rest : Bool) (netlist trace : List ℕ) (part : Option (List ℕ)) (case : Case) → first ≡ false → rest ≡ false → IsCase first rest netlist trace part case → IsCase false false netlist trace part case
case_whole first rest netlist trace part case all any is = subst (λ f. IsCase f false netlist trace part case) all (subst (λ r. IsCase first r netlist trace part case) any is)

-- What is made of the trace of a run, by what is answered: it goes out, or nothing does.
module _ (netlist trace : List ℕ) (part old new : Option (List ℕ)) (w : Wiring) (judged : IsJudged netlist trace part verdict.Run w) where
  pub sends_made : (Made : Wiring → ℕ → List ℕ → Type 0) (Refused : Wiring → Type 0) (Texts : ℕ → List ℕ → Type 0) (result : Result ℕ Fault) → ((status : ℕ) (text : List ℕ) → Texts status text → Made w status text)
      → SendsOne Write Texts old new result → MakesOf Made Refused netlist trace part old new result
  sends_made Made Refused Texts (Ok status) made (text, is, out) = inr (text, (w, inl (judged, made status text is)), out)
  sends_made Made Refused Texts (Err f) made (failed, (status, text, is, out)) = inr (failed, (status, text, (w, inl (judged, made status text is)), out))

  pub unmade_ends : {C : Type 0} (Made : Wiring → ℕ → List ℕ → Type 0) (Refused : Wiring → Type 0) (Refuses : C → Type 0) (fault : Unmade C) (result : Result ℕ Fault) → ((cause : C) → Refuses cause → Refused w)
      → RefusesMaking Refuses fault → result ≡ of_unmade fault → Keeps old new → MakesOf Made Refused netlist trace part old new result
  unmade_ends Made Refused Refuses (unmade.Command f) result why memory is kept =
      subst (MakesOf Made Refused netlist trace part old new) (sym is) (inl (subst (RefusesNet netlist part) (sym memory) tt, kept))
  unmade_ends Made Refused Refuses (unmade.Other cause) result why refuses is kept =
      subst (MakesOf Made Refused netlist trace part old new) (sym is) (inr ([], (w, inr (inl (judged, why cause refuses, refl, refl))), Appends-kept old old new [] (Appends-nil old) kept))

  -- one text goes out, with status 0
  pub one_made : (Made : Wiring → List ℕ → Type 0) (Refused : Wiring → Type 0) (text : List ℕ) (result : Result ℕ Fault) → Made w text → SendsOne Write (λ status sent. (sent ≡ text) × (status ≡ 0)) old new result
      → MakesOf (Sends Made) Refused netlist trace part old new result
  one_made Made Refused text result made sends =
      sends_made (Sends Made) Refused (λ status sent. (sent ≡ text) × (status ≡ 0)) result (λ status sent is. (is.1, subst (Made w) (sym is.0) made)) sends

  pub chart_made : (options : ChartOptions) (sources : List SourceFile) (answer : Result (Vec ℕ Global) (Unmade PieceFault)) (result : Result ℕ Fault) → DrawsPiece (lines_asked options) trace answer
      → EndsWith answer (λ it. it.items) (λ it. false) false old new result → MakesOn (maker.Chart options) sources part netlist trace old new result
  chart_made options sources (Ok it) result draws ends = inr (one_made (MadeOf (maker.Chart options) sources netlist trace part) (UnmadeOf (maker.Chart options) trace) it.items result draws ends)
  chart_made options sources (Err fault) result refuses ends =
      inr (unmade_ends (Sends (MadeOf (maker.Chart options) sources netlist trace part)) (UnmadeOf (maker.Chart options) trace) _ fault result (λ cause is. (cause, is)) refuses ends.0 ends.1)

  pub draw_made : (options : DrawOptions) (sources : List SourceFile) (answer : Result (Vec ℕ Global) (Unmade NoMoment)) (result : Result ℕ Fault) → DrawsLine options.line trace answer
      → EndsWith answer (λ it. it.items) (λ it. false) false old new result → MakesOn (maker.Draw options) sources part netlist trace old new result
  draw_made options sources (Ok it) result draws ends = inr (one_made (MadeOf (maker.Draw options) sources netlist trace part) (UnmadeOf (maker.Draw options) trace) it.items result draws ends)
  draw_made options sources (Err fault) result refuses ends =
      inr (unmade_ends (Sends (MadeOf (maker.Draw options) sources netlist trace part)) (UnmadeOf (maker.Draw options) trace) _ fault result (λ cause is. (cause, is)) refuses ends.0 ends.1)

  pub waits_made : (options : WaitsOptions) (answer : Result Told (Unmade WaitsFault)) (result : Result ℕ Fault) → FindsIn w trace (waits_asked options) answer
      → EndsWith answer (λ it. it.text.items) (λ it. it.is_stuck) options.strict old new result → WaitsOn options part netlist trace old new result
  waits_made options (Ok it) result finds ends = inr (sends_made (TellsWaits options trace) (RefusesWaits options trace) _ result (λ status text is. (it.is_stuck, finds, is.1)) ends)
  waits_made options (Err fault) result refuses ends =
      inr (unmade_ends (TellsWaits options trace) (RefusesWaits options trace) _ fault result (λ cause is. (cause, is)) refuses ends.0 ends.1)

-- the page of the net of a case goes out, or there is none
pub page_made : (sources : List SourceFile) (b : Blank) (netlist trace : List ℕ) (part old new : Option (List ℕ)) (case : Case) (answer : Result (Unit {0}) (Unmade TooLarge)) (result : Result ℕ Fault)
    → IsCase false false netlist trace part case → case.judged.found.verdict ≡ verdict.Run → PagesCase b case trace sources old new answer → result ≡ of_made answer → MakesOn maker.Page sources part netlist trace old new result
page_made sources b netlist trace part old new case (Ok u) result is run (inl none) ends = absurd none
page_made sources b netlist trace part old new case (Ok u) result is run (inr (text, page, out)) ends =
    subst (MakesOn maker.Page sources part netlist trace old new) (sym ends)
    (inr (inr (text, (case.judged.net.wiring, inl (run_judged netlist trace part case is run, (refl, (b, page_of b netlist trace part case sources text is page)))), out)))
page_made sources b netlist trace part old new case (Err fault) result is run (inl (refuses, kept)) ends =
    inr (unmade_ends netlist trace part old new case.judged.net.wiring (run_judged netlist trace part case is run) (Sends (MadeOf maker.Page sources netlist trace part)) (UnmadeOf maker.Page trace) (IsTooLarge case.judged.net.wiring) fault result
    (λ cause large. (cause, large)) refuses ends kept)
page_made sources b netlist trace part old new case (Err fault) result is run (inr (failed, (u, text, page, out))) ends =
    subst (MakesOn maker.Page sources part netlist trace old new) (sym ends)
    (subst (λ f. MakesOn maker.Page sources part netlist trace old new (of_unmade f)) (sym failed)
    (inr (inr (refl, (0, text, (case.judged.net.wiring, inl (run_judged netlist trace part case is run, (refl, (b, page_of b netlist trace part case sources text is page)))), out)))))

module _ (what : Maker) (sources : List SourceFile) (part : Option (List ℕ)) (netlist trace : List ℕ) (old : Option (List ℕ)) where
  -- the trace or the netlist is refused
  pub not_judged : (f : Fault) → IsOfInput f ⊎ RefusesNet netlist part f → MakesOn what sources part netlist trace old old (Err f)
  not_judged f (inl is) = inl (is, Keeps-refl old)
  not_judged f (inr refuses) = inr (inl (refuses, Keeps-refl old))

  -- the trace is that of no run
  pub no_run_made : (case : Case) (result : Result ℕ Fault) → IsCase false false netlist trace part case → is_run case.judged.found.verdict ≡ false → NoRunEnds case.judged.found.verdict result → MakesOn what sources part netlist trace old old result
  no_run_made case result is none ends =
      inr (ends_no_run (Sends (MadeOf what sources netlist trace part)) (UnmadeOf what trace) netlist trace part old case case.judged.found.verdict result is refl (no_run_ends case.judged.found.verdict result none ends))

-- The same of `waits`, whose net is judged without a survey.
verdict_whole : (netlist trace : List ℕ) (part : Option (List ℕ)) (judged : Judged) (v : Verdict) → Denotes netlist part judged.net.wiring → IsFound false false judged.net.wiring trace judged → judged.found.verdict ≡ v → IsJudged netlist trace part v judged.net.wiring
verdict_whole netlist trace part judged v net found so = record {
  net = net;
  judged = subst (Judges judged.net.wiring trace) so (subst (λ e. JudgesTo e judged.net.wiring trace judged.found.verdict) (found.whole refl) found.judges);
}

pub whole_judged : (netlist trace : List ℕ) (part : Option (List ℕ)) (judged : Judged) → Denotes netlist part judged.net.wiring → IsFound false false judged.net.wiring trace judged → judged.found.verdict ≡ verdict.Run → IsJudged netlist trace part verdict.Run judged.net.wiring
whole_judged netlist trace part judged net found run = verdict_whole netlist trace part judged verdict.Run net found run

module _ (options : WaitsOptions) (part : Option (List ℕ)) (netlist trace : List ℕ) (old : Option (List ℕ)) where
  pub not_waited : (f : Fault) → IsOfInput f ⊎ RefusesNet netlist part f → WaitsOn options part netlist trace old old (Err f)
  not_waited f (inl is) = inl (is, Keeps-refl old)
  not_waited f (inr refuses) = inr (inl (refuses, Keeps-refl old))

  no_run_told : (judged : Judged) (v : Verdict) (result : Result ℕ Fault) → Denotes netlist part judged.net.wiring → IsFound false false judged.net.wiring trace judged → judged.found.verdict ≡ v → NoRun v result → WaitsOn options part netlist trace old old result
  no_run_told judged verdict.Run result net found so none = absurd none
  no_run_told judged (verdict.Not line) result net found so one =
      subst (WaitsOn options part netlist trace old old) (sym one)
      (inr (inr ([], (judged.net.wiring, inr (inr ((line, inl (verdict_whole netlist trace part judged (verdict.Not line) net found so)), refl, refl))), Appends-nil old)))
  no_run_told judged (verdict.Bad line) result net found so one =
      subst (WaitsOn options part netlist trace old old) (sym one)
      (inr (inr ([], (judged.net.wiring, inr (inr ((line, inr (verdict_whole netlist trace part judged (verdict.Bad line) net found so)), refl, refl))), Appends-nil old)))
  no_run_told judged verdict.Memory result net found so out = subst (WaitsOn options part netlist trace old old) (sym out) (inr (inl (tt, Keeps-refl old)))

  pub no_run_waits : (judged : Judged) (result : Result ℕ Fault) → Denotes netlist part judged.net.wiring → IsFound false false judged.net.wiring trace judged → is_run judged.found.verdict ≡ false → NoRunEnds judged.found.verdict result → WaitsOn options part netlist trace old old result
  no_run_waits judged result net found none ends = no_run_told judged judged.found.verdict result net found refl (no_run_ends judged.found.verdict result none ends)

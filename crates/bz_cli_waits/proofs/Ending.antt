-- Where the runs of a trace end, and what is told there.
use Rattle.std.proofs.Common.{◌≡◌, ℕ, ◌+◌, ◌-◌, ◌<◌, ◌≤◌, Bool, false, cond, List, [], ◌∷◌, length, refl, sym, ap, subst, ◌∙◌, arith}
use Rattle.std.specs.Prelude.{MatchBool, Result, Ok, Err, IfOk}
use Rattle.std.specs.List.{count_by}
use Rattle.std.proofs.lemmas.List.{take_all, drop_all}
use Rattle.std.proofs.lemmas.List.Sums.{sum_by-cons}
use Rattle.std.specs.declared.alloc.AllocError.{AllocError}
use Rattle.bz_model.specs.declared.event.Entry.{Entry}
use Rattle.bz_model.specs.declared.event.Entry.TheVariants.{Fired, Host, Rested}
use Rattle.bz_model.specs.Nets.{Wiring, State, opening}
use Rattle.bz_model.specs.Runs.{Run}
use Rattle.bz_flat.specs.Wires.{WellWired}
use Rattle.bz_net.specs.Progress.{Progress}
use Rattle.bz_trace_text.specs.declared.tally.Counts.{Counts}
use Rattle.bz_trace_text.specs.Counting.{Tells, is_fired, is_host, is_rest}
use Rattle.bz_trace.specs.declared.checking.Verdict.TheVariants as verdict
use Rattle.bz_trace.specs.Reading.{LeavesTo}
use Rattle.bz_trace.specs.Verdicts.{CountsRun, IsRunText, Leaves}
use Rattle.bz_run_laws.proofs.Telling.{last-is-sole, text-tells-run}
use Rattle.bz_since.specs.Since.{HasStuck, IsBehind}
use Rattle.bz_cli_trace.specs.declared.judged.Judged.{Judged}
use Rattle.bz_cli_trace.specs.Judging.{EndsRun, IsFound, entry_count}
use Rattle.bz_cli_waits.specs.declared.told.Told.{Told}
use Rattle.bz_cli_waits.specs.Telling.{IsTold}

-- ---- how many entries a run has

counted_one : (p : Entry → Bool) (e : Entry) (es : List Entry) → count_by p (e ∷ es) ≡ cond (p e) 1 0 + count_by p es
counted_one p e es = sum_by-cons (λ x. cond (p x) 1 0) e es

-- each is a firing, a host command or a rest
of_three : (es : List Entry) → count_by is_fired es + count_by is_host es + count_by is_rest es ≡ length es
of_three [] = refl
of_three (Fired who comp port chan mv value ∷ es) =
    let e = Fired who comp port chan mv value in
    let fired = counted_one is_fired e es in
    let host = counted_one is_host e es in
    let rest = counted_one is_rest e es in
    let others = of_three es in
    omega (arith, fired, host, rest, others)
of_three (Host who verb port value reply ∷ es) =
    let e = Host who verb port value reply in
    let fired = counted_one is_fired e es in
    let host = counted_one is_host e es in
    let rest = counted_one is_rest e es in
    let others = of_three es in
    omega (arith, fired, host, rest, others)
of_three (Rested who ∷ es) =
    let e = Rested who in
    let fired = counted_one is_fired e es in
    let host = counted_one is_host e es in
    let rest = counted_one is_rest e es in
    let others = of_three es in
    omega (arith, fired, host, rest, others)

all_counted : (counts : Counts) (es : List Entry) → Tells counts es → counts.fired + counts.host + counts.rests ≡ length es
all_counted counts es tells =
    let fired = tells.fired in
    let host = tells.host in
    let rests = tells.rests in
    let all = of_three es in
    omega (arith, fired, host, rests, all)

-- ---- where the runs of a trace end

module _ (w : Wiring) (wired : WellWired w) (trace : List ℕ) where
  last_of : (net : Progress) → net.wiring ≡ w → Leaves w trace net verdict.Run → (run : IsRunText w trace) → run.last ≡ net.state
  last_of net is (one, told) run =
      (text-tells-run w wired trace run one).1
      ∙ last-is-sole w wired one.entries one.last net.state one.run (subst (λ (v : Wiring). Run v (opening v) one.entries net.state) is told.run)

  count_of : (counts : Counts) → CountsRun w trace counts → (run : IsRunText w trace) → length run.entries ≤ entry_count counts
  count_of counts (one, tells) run =
      let same = ap length (text-tells-run w wired trace run one).0 in
      let all = all_counted counts one.entries tells in
      let few = run.few in
      omega (arith, same, all, few)

-- the net on which the trace of a run was judged
pub ends_of : (w : Wiring) (trace : List ℕ) (judged : Judged) → IsFound false false w trace judged → judged.found.verdict ≡ verdict.Run → EndsRun judged.net trace (entry_count judged.found.counts)
ends_of w trace judged found run =
    let leaves = subst (Leaves w trace judged.net) run (subst (λ e. LeavesTo e w trace judged.net judged.found.verdict) (found.whole refl) found.leaves) in
    record {
      state = subst (λ (v : Wiring). (run : IsRunText v trace) → run.last ≡ judged.net.state) (sym found.wiring) (last_of w found.wired trace judged.net found.wiring leaves);
      few = subst (λ (v : Wiring). (run : IsRunText v trace) → length run.entries ≤ entry_count judged.found.counts) (sym found.wiring) (count_of w found.wired trace judged.found.counts (found.counted run));
    }

-- ---- what is told there

behind_all : (w : Wiring) (es : List Entry) (last : State) (n : ℕ) → length es ≤ n → Run w (opening w) es last → IsBehind w es last n last
behind_all w es last n long run =
    (subst (λ xs. Run w (opening w) xs last) (sym (take_all n es long)) run, subst (λ xs. Run w last xs last) (sym (drop_all n es long)) refl)

-- what is told of the net where the run ends is told of each line from there on
pub told_at_last : (net : Progress) (trace : List ℕ) (entries line : ℕ) (is : Bool) → EndsRun net trace entries → entries < line
    → MatchBool is (HasStuck net.wiring net.state) (HasStuck net.wiring net.state → ⊥) → IsTold net.wiring trace line is
told_at_last net trace entries line is ends behind stuck run =
    let few = ends.few run in (
      run.last,
      behind_all net.wiring run.entries run.last (line - 1) (omega (arith, few, behind)) run.run,
      subst (λ (s : State). MatchBool is (HasStuck net.wiring s) (HasStuck net.wiring s → ⊥)) (sym (ends.state run)) stuck,
    )

-- what is so of what was found is so of what is told
pub told_so : (r : Result Told AllocError) (is : Bool) (P : Bool → Type 0) → IfOk r (λ told. told.is_stuck ≡ is) → P is → IfOk r (λ told. P told.is_stuck)
told_so (Ok told) is P same so = subst P (sym same) so
told_so (Err e) is P same so = tt

-- What the command `draw` answers of a trace.
use Rattle.std.proofs.Common.{◌≡◌, ◌<◌, ◌≤◌, ◌-◌, ℕ, List, Option, length, take, drop, refl, sym, subst, ◌∙◌, arith}
use Rattle.std.specs.Prelude.{Result, Ok, Err, IfOk}
use Rattle.std.specs.declared.alloc.AllocError.{AllocError}
use Rattle.std.proofs.lemmas.List.{take_all, drop_all}
use Rattle.bz_model.specs.declared.event.Entry.{Entry}
use Rattle.bz_model.specs.Nets.{Wiring, State, opening}
use Rattle.bz_model.specs.Runs.{Run}
use Rattle.bz_net.specs.Core.{Standing}
use Rattle.bz_net.specs.Progress.{Progress}
use Rattle.bz_trace.specs.Verdicts.{IsRunText}
use Rattle.bz_since.specs.Keeping.{IsKept}
use Rattle.bz_since.specs.Since.{IsBehind}
use Rattle.bz_cli_trace.specs.Judging.{EndsRun}
use Rattle.bz_draw.specs.declared.fault.NoMoment.{NoMoment}
use Rattle.bz_draw.specs.declared.fault.NoMoment.TheVariants.{NoLine, Undrawn}
use Rattle.bz_draw.specs.Behind.{IsNoLine, IsUndrawn}

-- why a line is not there is why it is not drawn
pub no_line : (asked : Option ℕ) (lines : ℕ) (why : NoMoment) → IsNoLine asked lines why → IsUndrawn asked lines why
no_line asked lines (NoLine line n) none = none
no_line asked lines (Undrawn why) none = absurd none

-- the end of a run is behind each line from there on
behind_all : (w : Wiring) (es : List Entry) (last : State) (n : ℕ) → length es ≤ n → Run w (opening w) es last → IsBehind w es last n last
behind_all w es last n long run =
    (subst (λ xs. Run w (opening w) xs last) (sym (take_all n es long)) run, subst (λ xs. Run w last xs last) (sym (drop_all n es long)) refl)

-- so a copy of the net there is the net behind each of them
pub kept_at_last : (net : Progress) (trace : List ℕ) (entries line : ℕ) (core : Standing) (copy : Result Standing AllocError) → EndsRun net trace entries → entries < line → core.wiring ≡ net.wiring → core.state ≡ net.state → IfOk copy (λ c. c ≡ core)
    → IfOk copy (IsKept net.wiring trace line)
kept_at_last net trace entries line core (Ok c) ends behind wiring state same = subst (IsKept net.wiring trace line) (sym same) (record {
  wiring = wiring;
  behind = λ run.
      let few = ends.few run in
      subst (IsBehind net.wiring run.entries run.last (line - 1)) (ends.state run ∙ sym state) (behind_all net.wiring run.entries run.last (line - 1) (omega (arith, few, behind)) run.run);
})
kept_at_last net trace entries line core (Err e) ends behind wiring state same = tt

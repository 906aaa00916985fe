-- What the command `waits` answers.
use Rattle.std.proofs.Common.{◌≡◌, ℕ, ◌-◌, Bool, List, Option, None, Some, subst, sym}
use Rattle.std.specs.Prelude.{IfSome, MatchBool}
use Rattle.bz_model.specs.Nets.{Wiring, State}
use Rattle.bz_trace.specs.Verdicts.{IsRunText}
use Rattle.bz_since.specs.Since.{HasStuck, IsBehind}
use Rattle.bz_cli_trace.specs.declared.judged.Judged.{Judged}
use Rattle.bz_cli_trace.specs.Judging.{IsFound}
use Rattle.bz_cli_waits.specs.declared.asked.WaitsAsked.{WaitsAsked}
use Rattle.bz_cli_waits.specs.Telling.{IsTold, IsToldOf}

-- what is told of the net behind a line is told of that line
pub told_behind : (w : Wiring) (trace : List ℕ) (line : ℕ) (s : State) (is : Bool) → ((run : IsRunText w trace) → IsBehind w run.entries run.last (line - 1) s) → MatchBool is (HasStuck w s) (HasStuck w s → ⊥) → IsTold w trace line is
told_behind w trace line s is behind stuck run = (s, behind run, stuck)

-- what is told with the source is told so
pub told_same : (w : Wiring) (trace : List ℕ) (asked : WaitsAsked) (was is : Bool) → is ≡ was → IsToldOf w trace asked was → IsToldOf w trace asked is
told_same w trace asked was is same has = subst (λ (it : Bool). IsToldOf w trace asked it) (sym same) has

-- what was found of a trace, on the net that it left
pub found_here : (to_first to_rest : Bool) (w : Wiring) (judged : Judged) (had : Option (List ℕ)) → judged.net.wiring ≡ w → IfSome had (λ text. IsFound to_first to_rest w text judged) → IfSome had (λ text. IsFound to_first to_rest judged.net.wiring text judged)
found_here to_first to_rest w judged None same found = tt
found_here to_first to_rest w judged (Some text) same found = subst (λ v. IsFound to_first to_rest v text judged) (sym same) found

-- The net that is kept behind a line.
use Rattle.std.proofs.Common.{◌≡◌, ◌<◌, ◌≤◌, ◌-◌, ◌+◌, ◌++◌, ◌∷◌, [], ℕ, List, Option, Some, None, length, take, ◌∙◌, refl, sym, subst, arith}
use Rattle.std.specs.Prelude.{IfSome, unwrap_or}
use Rattle.std.proofs.lemmas.List.{length-append, take-append-le, take_all}
use Rattle.bz_model.specs.declared.event.Entry.{Entry}
use Rattle.bz_model.specs.Nets.{Wiring}
use Rattle.bz_flat.specs.Wires.{WellWired}
use Rattle.bz_net.specs.Core.{Standing}
use Rattle.bz_net.specs.Progress.{IsToldBy, Progress}
use Rattle.bz_trace.specs.Pieces.{Along}
use Rattle.bz_trace.specs.Verdicts.{IsRunText}
use Rattle.bz_trace.specs.Watching.{ShowsTrace}
use Rattle.bz_trace.proofs.Along.{behind_start}
use Rattle.bz_trace.proofs.Showing.{shown_alike}
use Rattle.bz_since.specs.Halving.{EndsIn}
use Rattle.bz_since.specs.Keeping.{HasKept, IsKept, KeepsLine, before}
use Rattle.bz_since.specs.Since.{IsBehind}
use Rattle.bz_since.specs.declared.at_line.AtLine.{AtLine}
use Rattle.bz_since.proofs.Halves.{behind_run, take_whole}

-- a net that stands along entries is where each run of them ends
pub ends_along : (w : Wiring) (net : Progress) (entries : List Entry) → Along w net entries → EndsIn w entries net.state
ends_along w net entries along = λ es t alike run. along.sole es t run alike

-- what was kept behind a front of the entries is kept behind it with one entry more
kept_on : (w : Wiring) (after : ℕ) (past : List Entry) (line : Entry) (core : Option Standing) → after ≤ length past → IfSome core (λ c. (c.wiring ≡ w) × EndsIn w (take after past) c.state)
    → IfSome core (λ c. (c.wiring ≡ w) × EndsIn w (take after (past ++ line ∷ [])) c.state)
kept_on w after past line None short kept = tt
kept_on w after past line (Some c) short kept = (kept.0, subst (λ es. EndsIn w es c.state) (sym (take-append-le after past (line ∷ []) short)) kept.1)

-- a net that is kept where it stands
kept_here : (w : Wiring) (net : Progress) (after : ℕ) (es : List Entry) (core : Option Standing) → after ≡ length es → IfSome core (λ c. (c.wiring ≡ net.wiring) × (c.state ≡ net.state)) → Along w net es
    → IfSome core (λ c. (c.wiring ≡ w) × EndsIn w (take after es) c.state)
kept_here w net after es None is core along = tt
kept_here w net after es (Some c) is core along = (
  core.0 ∙ along.wiring,
  subst (λ xs. EndsIn w xs c.state) (sym (take_all after es (omega (arith, is)))) (subst (EndsIn w es) (sym core.1) (ends_along w net es along)),
)

-- at the opening
pub keeps_begin : (net : Progress) (new : AtLine) → IsToldBy net [] → new.left ≡ new.after → (new.after ≡ 0 → IfSome new.core (λ c. (c.wiring ≡ net.wiring) × (c.state ≡ net.state))) → KeepsLine net.wiring [] new
keeps_begin net new told left core = record {
  left = omega (arith, left);
  kept = λ reached. kept_here net.wiring net new.after [] new.core (omega (arith, reached)) (core (omega (arith, reached))) (behind_start net told).along;
}

-- none is kept yet, or it is now, or it was before
pub keeps_none : (w : Wiring) (past : List Entry) (line : Entry) (old new : AtLine) → KeepsLine w past old → new.after ≡ old.after → new.left + 1 ≡ old.left → 0 < new.left → KeepsLine w (past ++ line ∷ []) new
keeps_none w past line old new keeps same less some =
    let long = length-append past (line ∷ []) in
    let left = keeps.left in
    record {
      left = omega (arith, long, left, same, less);
      kept = λ reached. absurd (omega (arith, long, left, same, less, some, reached));
    }

pub keeps_now : (w : Wiring) (past : List Entry) (line : Entry) (net : Progress) (old new : AtLine) → KeepsLine w past old → new.after ≡ old.after → 0 < old.left → new.left ≡ 0 → old.left ≡ 1 → IfSome new.core (λ c. (c.wiring ≡ net.wiring) × (c.state ≡ net.state))
    → Along w net (past ++ line ∷ []) → KeepsLine w (past ++ line ∷ []) new
keeps_now w past line net old new keeps same some zero one core along =
    let long = length-append past (line ∷ []) in
    let left = keeps.left in
    record {
      left = omega (arith, long, left, same, zero, one);
      kept = λ reached. kept_here w net new.after (past ++ line ∷ []) new.core (omega (arith, long, left, same, one, reached)) core along;
    }

pub keeps_before : (w : Wiring) (past : List Entry) (line : Entry) (old new : AtLine) → KeepsLine w past old → new.after ≡ old.after → old.left ≡ 0 → new.left ≡ 0 → new.core ≡ old.core → KeepsLine w (past ++ line ∷ []) new
keeps_before w past line old new keeps same zero left core =
    let long = length-append past (line ∷ []) in
    let had = keeps.left in
    let short : old.after ≤ length past = omega (arith, had, zero) in
    record {
      left = omega (arith, long, had, same, zero, left);
      kept = λ reached.
          subst (λ n. IfSome new.core (λ c. (c.wiring ≡ w) × EndsIn w (take n (past ++ line ∷ [])) c.state)) (sym same)
          (subst (λ k. IfSome k (λ c. (c.wiring ≡ w) × EndsIn w (take old.after (past ++ line ∷ [])) c.state)) (sym core) (kept_on w old.after past line old.core short (keeps.kept short)));
    }

-- ---- behind a line of a trace that was shown

behind_kept : (w : Wiring) (trace : List ℕ) (now : AtLine) (core : Standing) → WellWired w → ShowsTrace KeepsLine w [] trace now → now.left ≡ 0 → now.core ≡ Some core
    → (core.wiring ≡ w) × ((run : IsRunText w trace) → IsBehind w run.entries run.last now.after core.state)
behind_kept w trace now core wired shows none is =
    let entries = shows.shows.entries in
    let keeps : KeepsLine w entries now = shows.shows.seen in
    let left = keeps.left in
    let reached : now.after ≤ length entries = omega (arith, left, none) in
    let kept = subst (λ k. IfSome k (λ c. (c.wiring ≡ w) × EndsIn w (take now.after entries) c.state)) is (keeps.kept reached) in (
      kept.0,
      λ run. behind_run w entries run.entries (take now.after entries) run.last now.after core.state (shown_alike KeepsLine w [] trace now wired shows run) run.run refl
          (subst (λ es. EndsIn w es core.state) (sym (take_whole (take now.after entries))) kept.1),
    )

-- the net that was kept is behind the line that is asked for, whatever the line is where none is named
pub kept_of : (w : Wiring) (trace : List ℕ) (line : Option ℕ) (last : ℕ) (now : AtLine) (kept : Option Standing) → WellWired w → ShowsTrace KeepsLine w [] trace now → now.after ≡ before line → HasKept now kept → IfSome kept (IsKept w trace (unwrap_or line last))
kept_of w trace line last now None wired shows after has = tt
kept_of w trace (Some line) last now (Some core) wired shows after has =
    let behind = behind_kept w trace now core wired shows has.0 has.1 in
    record { wiring = behind.0; behind = subst (λ n. (run : IsRunText w trace) → IsBehind w run.entries run.last n core.state) after behind.1 }
kept_of w trace None last now (Some core) wired shows after has =
    let few = shows.shows.few in
    let keeps : KeepsLine w shows.shows.entries now = shows.shows.seen in
    let left = keeps.left in
    let none = has.0 in
    absurd (omega (arith, few, left, none, after))

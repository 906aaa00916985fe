-- The entries that were gathered of the trace of a run are those of the run.
use Rattle.std.proofs.Common.{◌≡◌, ◌⊎◌, ℕ, ◌≤◌, false, List, [], ◌∷◌, length, map, Option, Some, inl, inr, refl, sym, ap, ap₂, subst, ◌∙◌}
use Rattle.std.specs.List.{AllByRecursion}
use Rattle.std.specs.declared.alloc.Global.{Global}
use Rattle.std.specs.declared.vec.Vec.{Vec}
use Rattle.bz_model.specs.declared.channel.Move.{Move}
use Rattle.bz_model.specs.declared.event.Entry.{Entry}
use Rattle.bz_model.specs.declared.event.Entry.TheVariants.{Fired, Host, Rested}
use Rattle.bz_model.specs.Entries.{told}
use Rattle.bz_model.specs.Limits.{max_entries}
use Rattle.bz_model.specs.Nets.{IsPort, State, Wiring, chan_at, opening, passive_at}
use Rattle.bz_model.specs.Runs.{Follows, Run}
use Rattle.bz_flat.specs.Wires.{IsEnd, WellWired}
use Rattle.bz_net.specs.Progress.{IsToldBy}
use Rattle.bz_net.specs.Sides.{answers}
use Rattle.bz_net.specs.Unbroken.{UnbrokenRun}
use Rattle.bz_run_laws.proofs.Alive.{Alive, alive-follows, alive-opening, unbroken-run}
use Rattle.bz_run_laws.proofs.Telling.{end-of}
use Rattle.bz_trace.specs.Reading.{LeavesTo}
use Rattle.bz_trace.specs.Verdicts.{Leaves}
use Rattle.bz_trace.specs.Watching.{ShowsTrace}
use Rattle.bz_trace.specs.declared.checking.Verdict.TheVariants as verdict
use Rattle.bz_trace.proofs.Showing.{shown_alike}
use Rattle.bz_cli_trace.specs.declared.judged.Judged.{Judged}
use Rattle.bz_cli_trace.specs.Judging.{IsFound}
use Rattle.bz_since.specs.Keeping.{AreGathered, IsAtPort}
use Rattle.bz_since.specs.declared.gathered.Gathered.{Gathered}
use Rattle.bz_explore.specs.Beginning.{IsPlayed}

-- the parts of two firings that are told alike
record SameFiring (c d k j : ℕ) (mv mw : Move) : Type 0 where
  comp : c ≡ d
  chan : k ≡ j
  move : mv ≡ mw

module _ (w : Wiring) (wired : WellWired w) where
  moved_end : (c d q k j : ℕ) (mv mw : Move) → SameFiring c d k j mv mw → IsEnd w.sites j (answers mw) d q → IsEnd w.sites k (answers mv) c q
  moved_end c d q k j mv mw same end = record {
    is_port = subst (λ x. IsPort w.sites x q) (sym same.comp) end.is_port;
    on = ap (λ x. chan_at w.sites x q) same.comp ∙ end.on ∙ sym same.chan;
    sense = ap (λ x. passive_at w.sites x q) same.comp ∙ end.sense ∙ ap answers (sym same.move);
  }

  one_port : (c d p q k j : ℕ) (mv mw : Move) → SameFiring c d k j mv mw → ((r : ℕ) → IsEnd w.sites k (answers mv) c r → ⊥) ⊎ IsEnd w.sites k (answers mv) c p → IsEnd w.sites j (answers mw) d q → p ≡ q
  one_port c d p q k j mv mw same at end =
      let here = moved_end c d q k j mv mw same end in
      elim at [
        | inl none ↦ absurd (none q here)
        | inr is ↦ (wired.one_end c p c q is.is_port here.is_port (is.on ∙ sym here.on) (is.sense ∙ sym here.sense)).1
      ]

  one_entry : (s : State) (held e : Entry) (next : State) → Alive w s → Follows w s e next → told held ≡ told e → IsAtPort w.sites held → held ≡ e
  one_entry s (Fired who c p k mv value) (Fired other d q j mw val) next alive step same at =
      let same-told : Fired who c 0 k mv value ≡ Fired other d 0 j mw val = same in
      let alike : SameFiring c d k j mv mw = record { comp = cc; chan = cc; move = cc } in
      let port : p ≡ q = one_port c d p q k j mv mw alike at (end-of w wired s d q j mw val next alive step) in
      cc
  one_entry s (Fired who c p k mv value) (Host other verb port val reply) next alive step same at = absurd (cc)
  one_entry s (Fired who c p k mv value) (Rested other) next alive step same at = absurd (cc)
  one_entry s (Host who verb port value reply) (Fired other d q j mw val) next alive step same at = absurd (cc)
  one_entry s (Host who verb port value reply) (Host other verb' port' value' reply') next alive step same at = same
  one_entry s (Host who verb port value reply) (Rested other) next alive step same at = absurd (cc)
  one_entry s (Rested who) (Fired other d q j mw val) next alive step same at = absurd (cc)
  one_entry s (Rested who) (Host other verb port val reply) next alive step same at = absurd (cc)
  one_entry s (Rested who) (Rested other) next alive step same at = same

  first_told : (e f : Entry) (es fs : List Entry) → e ∷ es ≡ f ∷ fs → e ≡ f
  first_told e f es fs same = cc

  rest_told : (e f : Entry) (es fs : List Entry) → e ∷ es ≡ f ∷ fs → es ≡ fs
  rest_told e f es fs same = cc

  all_entries : (s : State) (held es : List Entry) (last : State) → Alive w s → Run w s es last → map told held ≡ map told es → AllByRecursion (IsAtPort w.sites) held → held ≡ es
  all_entries s [] [] last alive run same each = refl
  all_entries s [] (e ∷ es) last alive run same each = absurd (cc)
  all_entries s (h ∷ held) [] last alive run same each = absurd (cc)
  all_entries s (h ∷ held) (e ∷ es) last alive (next, step, run) same each =
      ap₂ (λ d ds. d ∷ ds) (one_entry s h e next alive step (first_told (told h) (told e) (map told held) (map told es) same) each.0)
      (all_entries next held es last (alive-follows w wired s e next alive step) run (rest_told (told h) (told e) (map told held) (map told es) same) each.1)

-- so a session may begin behind it
pub is_played : (trace : List ℕ) (judged : Judged) (now : Gathered) (journal : Vec Entry Global) → IsFound false false judged.net.wiring trace judged → judged.found.verdict ≡ verdict.Run
    → ShowsTrace (λ w entries (g : Gathered). AreGathered w entries g.journal) judged.net.wiring [] trace now → now.journal ≡ Some journal → IsPlayed judged.net journal.items
is_played trace judged now journal found run shows is =
    let w = judged.net.wiring in
    let leaves = subst (Leaves w trace judged.net) run (subst (λ e. LeavesTo e w trace judged.net judged.found.verdict) (found.whole refl) found.leaves) in
    let seen = subst (AreGathered w shows.shows.entries) is shows.shows.seen in
    let alike = shown_alike (λ v entries (g : Gathered). AreGathered v entries g.journal) w [] trace now found.wired shows leaves.0 in
    let alive = alive-opening w found.wired in
    let same : journal.items ≡ leaves.0.entries = all_entries w found.wired (opening w) journal.items leaves.0.entries leaves.0.last alive leaves.0.run (seen.0 ∙ sym alike) seen.1 in
    record {
      told = subst (IsToldBy judged.net) (sym same) leaves.1;
      unbroken = subst (λ es. UnbrokenRun w (opening w) es judged.net.state) (sym same) (unbroken-run w found.wired (opening w) leaves.0.entries judged.net.state alive leaves.1.run);
      few = subst (λ es. length es ≤ max_entries) (sym same) leaves.0.few;
    }

-- The entries that are read from the text of a run are told as those of the run.
use Rattle.std.proofs.Common.{◌≡◌, List, [], ◌∷◌, ℕ, Option, length, map, take, refl, sym, ap, ap₂, subst, ◌∙◌}
use Rattle.bz_model.specs.declared.event.Entry.{Entry}
use Rattle.bz_model.specs.declared.event.Entry.TheVariants.{Fired, Host, Rested}
use Rattle.bz_model.specs.Entries.{told}
use Rattle.bz_model.specs.Names.{Outside}
use Rattle.bz_model.specs.Nets.{Wiring, State, opening, outside}
use Rattle.bz_model.specs.Runs.{Run}
use Rattle.bz_net.specs.Simulation.{IsOpened, Simulation}
use Rattle.bz_since.specs.declared.since.Since.{Since}
use Rattle.bz_since.specs.Halving.{LeadsOn}
use Rattle.bz_since.specs.Since.{IsBehind, IsSince}
use Rattle.bz_since.proofs.Halves.{behind_run}
use Rattle.bz_since.proofs.Playing.{ends_start}
use Rattle.bz_flat.specs.Wires.{WellWired}
use Rattle.bz_net.proofs.Lines.{run_has_lines}
use Rattle.bz_trace_text.specs.Texts.{HasText, Spells, Trace}
use Rattle.bz_trace_text.proofs.Cuts.{cut_of_whole, same_cut}
use Rattle.bz_trace.specs.Verdicts.{IsRunText}
use Rattle.bz_trace.proofs.Due.{due_numbers, due_without}

twice_told : (e : Entry) → told (told e) ≡ told e
twice_told (Fired w comp port chan mv value) = refl
twice_told (Host w v port value r) = refl
twice_told (Rested w) = refl

all_twice : (es : List Entry) → map told (map told es) ≡ map told es
all_twice [] = refl
all_twice (e ∷ es) = ap₂ (λ u us. u ∷ us) (twice_told e) (all_twice es)

pub read_run : (w : Wiring) (text : List ℕ) (entries : List Entry) → WellWired w → Spells (outside w) text entries → (run : IsRunText w text) → map told run.entries ≡ map told entries
read_run w text entries wired (t, has, is, are) run =
    let own : Trace = record { version = run.version; entries = run.entries; clashes = run.clashes } in
    let has_own : HasText (outside w) own = record {
      each = run_has_lines w run.entries run.last wired run.run run.by;
      few = run.few;
      numbers = due_numbers w run.version run.entries run.clashes wired run.due;
      without = due_without w run.version run.entries run.clashes run.due;
    } in
    let same = same_cut (outside w) text own t [] [] (cut_of_whole (outside w) text own has_own run.text_is) (cut_of_whole (outside w) text t has is) in
    same.entries ∙ sym (ap (map told) are ∙ all_twice t.entries)

-- what is said of entries is said of the run whose text they were read from
pub since_of_text : (w : Wiring) (net : Simulation) (names : Outside) (text : List ℕ) (entries : List Entry) (found : Option Since) → net.wiring ≡ w → names ≡ outside net.wiring → WellWired net.wiring → Spells names text entries
    → ((es : List Entry) (last : State) → map told es ≡ map told entries → Run net.wiring (opening net.wiring) es last → IsSince net.wiring es last found) → (run : IsRunText w text) → IsSince w run.entries run.last found
since_of_text w net names text entries found is named wired spells says =
    subst (λ (v : Wiring). (run : IsRunText v text) → IsSince v run.entries run.last found) is
    (λ run. says run.entries run.last (read_run net.wiring text entries wired (subst (λ (n : Outside). Spells n text entries) named spells) run) run.run)

pub behind_of_text : (w : Wiring) (opened net : Simulation) (names : Outside) (text : List ℕ) (entries kept : List Entry) (limit n : ℕ) → IsOpened w limit opened → names ≡ outside opened.wiring → WellWired opened.wiring → Spells names text entries
    → kept ≡ take n entries → LeadsOn kept 0 (length kept) opened net → (run : IsRunText w text) → IsBehind w run.entries run.last n net.state
behind_of_text w opened net names text entries kept limit n is named wired spells cut led =
    let at : opened.state ≡ opening opened.wiring = is.state ∙ ap opening (sym is.wiring) in
    let ends = led.ends (ends_start opened.wiring opened.state at) in
    subst (λ (v : Wiring). (run : IsRunText v text) → IsBehind v run.entries run.last n net.state) is.wiring
    (λ run. behind_run opened.wiring entries run.entries kept run.last n net.state (read_run opened.wiring text entries wired (subst (λ (m : Outside). Spells m text entries) named spells) run) run.run cut ends)

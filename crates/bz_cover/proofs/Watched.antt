-- What was counted while the trace of a run was judged.
use Rattle.std.proofs.Common.{◌≡◌, ℕ, ◌+◌, Bool, true, false, List, [], ◌∷◌, Option, Some, None, map, min, cond, refl, sym, ap, ap₂, ◌∙◌}
use Rattle.std.specs.List.{count_by}
use Rattle.std.proofs.lemmas.List.Sums.{sum_by-cons}
use Rattle.bz_model.specs.declared.event.Entry.{Entry}
use Rattle.bz_model.specs.declared.event.Entry.TheVariants.{Fired, Host, Rested}
use Rattle.bz_model.specs.Entries.{told}
use Rattle.bz_model.specs.Nets.{Wiring}
use Rattle.bz_flat.specs.Wires.{WellWired}
use Rattle.bz_trace.specs.Verdicts.{IsRunText}
use Rattle.bz_trace.specs.Watching.{ShowsTrace}
use Rattle.bz_trace.proofs.Showing.{shown_alike}
use Rattle.bz_cover.specs.Counting.{AreCounted}
use Rattle.bz_cover.specs.Counts.{Tallies, counted, is_move_of, is_request_at, most_counted}
use Rattle.bz_cover.specs.declared.counted.Counted.{Counted}

-- an entry is counted as its line tells it
mover_told : (k : ℕ) (e : Entry) → is_move_of k (told e) ≡ is_move_of k e
mover_told k (Fired w comp port chan mv value) = refl
mover_told k (Host w v port value r) = refl
mover_told k (Rested w) = refl

request_told : (k : ℕ) (side : Bool) (e : Entry) → is_request_at k side (told e) ≡ is_request_at k side e
request_told k side (Fired w comp port chan mv value) = refl
request_told k side (Host w v port value r) = refl
request_told k side (Rested w) = refl

counted_one : (p : Entry → Bool) (e : Entry) (es : List Entry) → count_by p (e ∷ es) ≡ cond (p e) 1 0 + count_by p es
counted_one p e es = sum_by-cons (λ x. cond (p x) 1 0) e es

count_told : (p : Entry → Bool) → ((e : Entry) → p (told e) ≡ p e) → (es : List Entry) → count_by p (map told es) ≡ count_by p es
count_told p same [] = refl
count_told p same (e ∷ es) = counted_one p (told e) (map told es) ∙ ap₂ (λ b n. cond b 1 0 + n) (same e) (count_told p same es) ∙ sym (counted_one p e es)

-- so entries that are told alike are counted alike
alike : (p : Entry → Bool) → ((e : Entry) → p (told e) ≡ p e) → (es fs : List Entry) → map told es ≡ map told fs → counted p fs ≡ counted p es
alike p same es fs are = ap (λ n. min n most_counted) (sym (count_told p same fs) ∙ ap (count_by p) (sym are) ∙ count_told p same es)

are_counted : (w : Wiring) (es fs : List Entry) (now : Option Tallies) → map told es ≡ map told fs → AreCounted w fs now → AreCounted w es now
are_counted w es fs None are is = tt
are_counted w es fs (Some tallies) are (places, counts) = (
  places,
  record {
    comps = λ k within. counts.comps k within ∙ alike (is_move_of k) (mover_told k) es fs are;
    asks = λ k within. counts.asks k within ∙ alike (is_request_at k false) (request_told k false) es fs are;
    takes = λ k within. counts.takes k within ∙ alike (is_request_at k true) (request_told k true) es fs are;
  },
)

pub shown_counted : (w : Wiring) (text : List ℕ) (now : Counted) → WellWired w → ShowsTrace (λ v entries c. AreCounted v entries c.coverage) w [] text now → (run : IsRunText w text) → AreCounted w run.entries now.coverage
shown_counted w text now wired shows run =
    are_counted w run.entries shows.shows.entries now.coverage (shown_alike (λ v entries c. AreCounted v entries c.coverage) w [] text now wired shows run) shows.shows.seen

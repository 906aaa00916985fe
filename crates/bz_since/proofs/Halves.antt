-- The bounds of the search, and what is found once they have met.
use Rattle.std.proofs.Common.{◌≡◌, ℕ, zero, suc, ◌+◌, ◌-◌, ◌<◌, ◌≤◌, Bool, true, Option, Some, None, List, [], ◌∷◌, ◌++◌, length, map, take, drop, refl, sym, ap, ap₂, subst, ◌∙◌, arith}
use Rattle.std.proofs.lemmas.Bool.{lt-ltb}
use Rattle.std.specs.Prelude.{MatchBool, nat_lt}
use Rattle.std.proofs.Math.ListN.{length-map}
use Rattle.std.proofs.lemmas.List.{take-append-drop}
use Rattle.bz_model.specs.declared.event.Entry.{Entry}
use Rattle.bz_model.specs.Entries.{told}
use Rattle.bz_model.specs.Nets.{Wiring, State, opening}
use Rattle.bz_model.specs.Runs.{Run}
use Rattle.bz_flat.specs.Wires.{WellWired}
use Rattle.bz_net.specs.Simulation.{Simulation}
use Rattle.bz_waits.specs.Stuck.{AreComps, AreNumbers, AreStuck, HasCount, IsGreatest, is_member}
use Rattle.bz_waits.proofs.Staying.{stuck_stays}
use Rattle.bz_trace.proofs.Along.{cons_same, no_nil}
use Rattle.bz_since.specs.declared.since.Since.{Since}
use Rattle.bz_since.specs.declared.halving.Bounds.{Bounds}
use Rattle.bz_since.specs.Since.{HasStuck, IsBehind, IsFirst, IsSince}
use Rattle.bz_since.specs.Halving.{EndsIn, EndsStuck, IsBetween, LeadsOn}
use Rattle.bz_since.proofs.Playing.{ends_start}

-- ---- whether there is a stuck set

first_member : (w : Wiring) (s : State) (row : List Bool) (numbers : List ℕ) → AreComps w (is_member row) → AreStuck w s (is_member row) → AreNumbers row numbers → 0 < length numbers → HasStuck w s
first_member w s row [] comps stuck are some = absurd (omega arith)
first_member w s row (c ∷ cs) comps stuck are some =
    let is : is_member row c ≡ true = are.each 0 c (omega arith) in
    (is_member row, stuck, (c, (comps c is).0, (comps c is).1, is))

pub has_some : (w : Wiring) (s : State) (row : List Bool) (n : ℕ) → AreComps w (is_member row) → AreStuck w s (is_member row) → HasCount row n → 0 < n → HasStuck w s
has_some w s row n comps stuck (numbers, are, is) some = first_member w s row numbers comps stuck are (omega (arith, is, some))

pub has_none : (w : Wiring) (s : State) (row : List Bool) (n : ℕ) → IsGreatest w s (is_member row) → HasCount row n → (0 < n → ⊥) → HasStuck w s → ⊥
has_none w s row n greatest (numbers, are, is) none (member, stuck, (c, from, to, in_it)) =
    let (k, less, at) = are.whole c from (greatest member stuck c from to in_it) in
    none (omega (arith, is, less))

pub counted : (w : Wiring) (s : State) (row : List Bool) (n : ℕ) → AreComps w (is_member row) → AreStuck w s (is_member row) → IsGreatest w s (is_member row) → HasCount row n → MatchBool (nat_lt 0 n) (HasStuck w s) (HasStuck w s → ⊥)
counted w s row zero comps stuck greatest count = has_none w s row 0 greatest count (λ less. absurd (omega (arith, less)))
counted w s row (suc n) comps stuck greatest count =
    subst (λ (b : Bool). MatchBool b (HasStuck w s) (HasStuck w s → ⊥)) (sym (lt-ltb 0 (suc n) (omega arith))) (has_some w s row (suc n) comps stuck count (omega arith))

-- ---- runs in parts

run_apart : (w : Wiring) (s : State) (xs ys : List Entry) (t : State) → Run w s (xs ++ ys) t → (m : State) × Run w s xs m × Run w m ys t
run_apart w s [] ys t run = (s, refl, run)
run_apart w s (x ∷ xs) ys t run =
    let rest = run_apart w run.0 xs ys t run.2 in
    (rest.0, (run.0, run.1, rest.1), rest.2)

run_join : (w : Wiring) (s : State) (xs ys : List Entry) (m t : State) → Run w s xs m → Run w m ys t → Run w s (xs ++ ys) t
run_join w s [] ys m t at run = subst (λ (o : State). Run w o ys t) at run
run_join w s (x ∷ xs) ys m t run then = (run.0, run.1, run_join w run.0 xs ys m t run.2 then)

zero_add : (k : ℕ) → k ≡ 0 + k
zero_add k = omega arith

suc_add : (m k : ℕ) → suc (m + k) ≡ suc m + k
suc_add m k = omega arith

-- so many of a list, and then so many more of it
take_on : {X : Type 0} (m k : ℕ) (xs : List X) → take m xs ++ take k (drop m xs) ≡ take (m + k) xs
take_on zero k xs = ap (λ n. take n xs) (zero_add k)
take_on (suc m) zero [] = ap (λ n. take n []) (suc_add m zero)
take_on (suc m) (suc k) [] = ap (λ n. take n []) (suc_add m (suc k))
take_on (suc m) k (x ∷ xs) = ap (λ ys. x ∷ ys) (take_on m k xs) ∙ ap (λ n. take n (x ∷ xs)) (suc_add m k)

pub told_take : (n : ℕ) (xs ys : List Entry) → map told xs ≡ map told ys → map told (take n xs) ≡ map told (take n ys)
told_take zero xs ys e = refl
told_take (suc n) [] [] e = refl
told_take (suc n) [] (y ∷ ys) e = absurd (no_nil _ _ e)
told_take (suc n) (x ∷ xs) [] e = absurd (no_nil _ _ (sym e))
told_take (suc n) (x ∷ xs) (y ∷ ys) e =
    let both = cons_same e in
    ap₂ (λ u us. u ∷ us) both.0 (told_take n xs ys both.1)

pub take_whole : {X : Type 0} (xs : List X) → take (length xs) xs ≡ xs
take_whole [] = refl
take_whole (x ∷ xs) = ap (λ ys. x ∷ ys) (take_whole xs)

-- where the first n of some entries lead, a run that is told so is behind n of its own
pub behind_run : (w : Wiring) (entries es kept : List Entry) (last : State) (n : ℕ) (s : State) → map told es ≡ map told entries → Run w (opening w) es last → kept ≡ take n entries → EndsIn w (take (length kept) kept) s → IsBehind w es last n s
behind_run w entries es kept last n s alike run cut ends =
    let (m, before, after) = run_apart w (opening w) (take n es) (drop n es) last (subst (λ xs. Run w (opening w) xs last) (sym (take-append-drop n es)) run) in
    let told_so : map told (take n es) ≡ map told (take (length kept) kept) = told_take n es entries alike ∙ ap (map told) (sym cut) ∙ ap (map told) (sym (take_whole kept)) in
    let same : m ≡ s = ends (take n es) m told_so before in
    (subst (λ (o : State). Run w (opening w) (take n es) o) same before, subst (λ (o : State). Run w o (drop n es) last) same after)

-- ---- what the bounds tell once they have met

module _ (w : Wiring) (wired : WellWired w) (entries es : List Entry) (last : State) (alike : map told es ≡ map told entries) where
  -- where nothing is stuck behind n entries, nothing is behind fewer
  free_before : (n : ℕ) (s : State) → EndsIn w (take n entries) s → (HasStuck w s → ⊥) → (m : ℕ) (t : State) → m ≤ n → IsBehind w es last m t → HasStuck w t → ⊥
  free_before n s ends free m t le (before, after) (member, stuck, (c, from, to, in_it)) =
      let more = n - m in
      let rest = drop m es in
      let (mid, on, behind) = run_apart w t (take more rest) (drop more rest) last (subst (λ xs. Run w t xs last) (sym (take-append-drop more rest)) after) in
      let whole : Run w (opening w) (take m es ++ take more rest) mid = run_join w (opening w) (take m es) (take more rest) t mid before on in
      let is : m + more ≡ n = omega (arith, le) in
      let there : Run w (opening w) (take n es) mid = subst (λ xs. Run w (opening w) xs mid) (take_on m more es ∙ ap (λ k. take k es) is) whole in
      let same : mid ≡ s = ends (take n es) mid (told_take n es entries alike) there in
      let stays = (stuck_stays w member t mid (take more rest) wired stuck on).1 in
      free (member, subst (λ (o : State). AreStuck w o member) same stays, (c, from, to, in_it))

  length_same : length es ≡ length entries
  length_same = sym (length-map es told) ∙ ap length alike ∙ length-map entries told

  module _ (b : Bounds) (is : b.low.wiring ≡ w) (ends : EndsIn w (take b.from entries) b.low.state) (free : HasStuck w b.low.state → ⊥) (next : b.to ≡ b.from + 1) where
    since_none : length entries < b.to → IsSince w es last None
    since_none past n s within behind = free_before b.from b.low.state ends free n s (let long = length_same in omega (arith, long, next, past, within)) behind

    since_one : (net : Simulation) → Run w (opening w) es last → b.to ≤ length entries → EndsStuck w (take b.to entries) → net.wiring ≡ w → EndsIn w (take b.to entries) net.state → IsSince w es last (Some (record { line = b.to + 1; net = net }))
    since_one net run in_range stuck wiring there =
        let alike_there = told_take b.to es entries alike in
        let (mid, before, after) = run_apart w (opening w) (take b.to es) (drop b.to es) last (subst (λ xs. Run w (opening w) xs last) (sym (take-append-drop b.to es)) run) in (
          b.to,
          record {
            line_is = refl;
            within = let long = length_same in omega (arith, long, in_range);
            wiring = wiring;
            state = λ s behind. there (take b.to es) s alike_there behind.0;
            stuck = subst (λ (o : State). HasStuck w o) (there (take b.to es) mid alike_there before) (stuck (take b.to es) mid alike_there before);
            before = λ m s less behind. free_before b.from b.low.state ends free m s (omega (arith, next, less)) behind;
          },
        )

module _ (entries : List Entry) (b : Bounds) (between : IsBetween entries b) (next : b.to ≡ b.from + 1) (es : List Entry) (last : State) (alike : map told es ≡ map told entries) where
  pub met_none : length entries < b.to → IsSince b.low.wiring es last None
  met_none past = since_none b.low.wiring between.wired entries es last alike b refl between.ends between.free next past

  pub met_one : (net : Simulation) → Run b.low.wiring (opening b.low.wiring) es last → b.to ≤ length entries → LeadsOn entries b.from b.to b.low net → IsSince b.low.wiring es last (Some (record { line = b.to + 1; net = net }))
  met_one net run in_range led = since_one b.low.wiring between.wired entries es last alike b refl between.ends between.free next net run in_range (between.above in_range) led.wiring (led.ends between.ends)

-- ---- the bounds come closer

module _ (entries : List Entry) (b : Bounds) (half : ℕ) (net : Simulation) (between : IsBetween entries b) (more : b.from < half) (less : half < b.to) (led : LeadsOn entries b.from half b.low net) where
  ends : EndsIn b.low.wiring (take half entries) net.state
  ends = led.ends between.ends

  -- where something is stuck half-way, that is the bound above
  pub found_half : HasStuck net.wiring net.state → IsBetween entries (record { low = b.low; from = b.from; to = half })
  found_half stuck = record {
    wired = between.wired;
    ordered = more;
    within = let most = between.within in omega (arith, less, most);
    ends = between.ends;
    free = between.free;
    above = λ in_range es t alike run.
        subst (λ (o : State). HasStuck b.low.wiring o) (sym (ends es t alike run)) (subst (λ (w : Wiring). HasStuck w net.state) led.wiring stuck);
  }

  -- and where nothing is, that below
  pub free_half : (HasStuck net.wiring net.state → ⊥) → IsBetween entries (record { low = net; from = half; to = b.to })
  free_half free = record {
    wired = subst WellWired (sym led.wiring) between.wired;
    ordered = less;
    within = between.within;
    ends = subst (λ (w : Wiring). EndsIn w (take half entries) net.state) (sym led.wiring) ends;
    free = free;
    above = subst (λ (w : Wiring). b.to ≤ length entries → EndsStuck w (take b.to entries)) (sym led.wiring) between.above;
  }

-- at first there are all entries between them
pub begun : (entries : List Entry) (net : Simulation) (b : Bounds) → b.low ≡ net → b.from ≡ 0 → b.to ≡ length entries + 1 → WellWired net.wiring → net.state ≡ opening net.wiring → (HasStuck net.wiring net.state → ⊥) → IsBetween entries b
begun entries net b low from to wired at free = record {
  wired = subst (λ (n : Simulation). WellWired n.wiring) (sym low) wired;
  ordered = omega (arith, from, to);
  within = omega (arith, to);
  ends = subst (λ (n : Simulation). EndsIn n.wiring (take b.from entries) n.state) (sym low) (subst (λ (k : ℕ). EndsIn net.wiring (take k entries) net.state) (sym from) (ends_start net.wiring net.state at));
  free = subst (λ (n : Simulation). HasStuck n.wiring n.state → ⊥) (sym low) free;
  above = λ in_range. absurd (omega (arith, to, in_range));
}

-- what is stuck at the opening is so since line 1
pub at_opening : (w : Wiring) (net : Simulation) (found : Since) (es : List Entry) (last : State) → found.line ≡ 1 → found.net ≡ net → net.wiring ≡ w → net.state ≡ opening w → HasStuck w net.state → IsSince w es last (Some found)
at_opening w net found es last line is wiring at stuck = (
  0,
  record {
    line_is = line;
    within = omega arith;
    wiring = ap (λ (n : Simulation). n.wiring) is ∙ wiring;
    state = λ s behind. behind.0 ∙ sym at ∙ sym (ap (λ (n : Simulation). n.state) is);
    stuck = subst (λ (n : Simulation). HasStuck w n.state) (sym is) stuck;
    before = λ m s less. absurd (omega (arith, less));
  },
)

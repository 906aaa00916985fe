-- Counts that go on.
use Rattle.std.proofs.Common.{◌≡◌, ℕ, ◌+◌, ◌<◌, ◌≤◌, ◌==◌, ◌&&◌, min, cond, Bool, true, false, Option, List, [], ◌∷◌, ◌++◌, length, get_or, set, length-set, refl, sym, ap, subst, ◌∙◌, arith, append_assoc, ◌⊎◌, inl, inr}
use Rattle.std.specs.List.{count_by}
use Rattle.std.proofs.lemmas.Bool.{eqb-true, eqb-false}
use Rattle.std.proofs.lemmas.List.{append-nil, get_or-set_same, get_or-set_other}
use Rattle.std.proofs.lemmas.List.Sums.{sum_by-append, sum_by-cons}
use Rattle.bz_model.specs.declared.channel.Move.{Move}
use Rattle.bz_model.specs.declared.channel.Move.TheVariants.{Ask, Take, Reply, Got}
use Rattle.bz_model.specs.declared.event.Entry.{Entry}
use Rattle.bz_model.specs.declared.event.Entry.TheVariants.{Fired}
use Rattle.bz_model.specs.declared.event.Who.{Who}
use Rattle.bz_model.specs.Nets.{Wiring}
use Rattle.bz_cover.specs.Counts.{Adds, AreCounts, CountEach, CountsOn, HasPlaces, Raises, Tallies, counted, is_move_of, is_request, is_request_at, most_counted, tally}

pub decided : (b : Bool) → (b ≡ true) ⊎ (b ≡ false)
decided true = inl refl
decided false = inr refl

pub raises_here : (row : List ℕ) (place v : ℕ) → place < length row → v ≡ min (get_or row place 0 + 1) most_counted → Raises row place (set row place v)
raises_here row place v within is = record {
  long = length-set row place v;
  here = λ _. get_or-set_same row place v 0 within ∙ is;
  others = λ k other. get_or-set_other row place k v 0 other;
}

pub raises_none : (row : List ℕ) (place : ℕ) → length row ≤ place → Raises row place row
raises_none row place past = record { long = refl; here = λ within. absurd (omega (arith, within, past)); others = λ k other. refl }

-- one entry more
one_more : (p : Entry → Bool) (es : List Entry) (e : Entry) → count_by p (es ++ e ∷ []) ≡ count_by p es + cond (p e) 1 0
one_more p es e =
    let f = λ (x : Entry). cond (p x) 1 0 in
    let both = sum_by-append f es (e ∷ []) in
    let last = sum_by-cons f e [] in
    omega (arith, both, last)

raised : (n : ℕ) → min (min n most_counted + 1) most_counted ≡ min (n + 1) most_counted
raised n = grind arith

counted_yes : (p : Entry → Bool) (es : List Entry) (e : Entry) → p e ≡ true → min (counted p es + 1) most_counted ≡ counted p (es ++ e ∷ [])
counted_yes p es e so =
    raised (count_by p es) ∙ ap (λ n. min n most_counted) (sym (one_more p es e ∙ ap (λ b. count_by p es + cond b 1 0) so))

counted_no : (p : Entry → Bool) (es : List Entry) (e : Entry) → p e ≡ false → counted p es ≡ counted p (es ++ e ∷ [])
counted_no p es e none =
    let more = one_more p es e ∙ ap (λ b. count_by p es + cond b 1 0) none in
    ap (λ n. min n most_counted) (omega (arith, more))

-- a row with one more where the entry is such
row_more : (p : ℕ → Entry → Bool) (old new : List ℕ) (place : ℕ) (e : Entry) → ((k : ℕ) → p k e ≡ (place == k)) → Raises old place new
    → (es : List Entry) → CountEach p old es → CountEach p new (es ++ e ∷ [])
row_more p old new place e such raises es each k within =
    let inside : k < length old = let long = raises.long in omega (arith, within, long) in
    elim (decided (place == k)) [
      | inl same_place ↦
          (let same = eqb-true place k same_place in
          let here = raises.here (subst (λ n. n < length old) (sym same) inside) in
          ap (tally new) (sym same) ∙ here ∙ ap (λ n. min (tally old n + 1) most_counted) same ∙ ap (λ n. min (n + 1) most_counted) (each k inside) ∙ counted_yes (p k) es e (such k ∙ same_place))
      | inr other ↦ raises.others k (λ is. eqb-false place k other (sym is)) ∙ each k inside ∙ counted_no (p k) es e (such k ∙ other)
    ]

-- a row of which the entry is none
row_same : (p : ℕ → Entry → Bool) (row : List ℕ) (e : Entry) → ((k : ℕ) → p k e ≡ false) → (es : List Entry) → CountEach p row es → CountEach p row (es ++ e ∷ [])
row_same p row e none es each k within = each k within ∙ counted_no (p k) es e (none k)

pub adds_ask : (who : Who) (comp port chan : ℕ) (value : Option ℕ) (old new : Tallies) → Raises old.comps comp new.comps → Raises old.asks chan new.asks → new.takes ≡ old.takes
    → CountsOn old (Fired who comp port chan Ask value ∷ []) new
adds_ask who comp port chan value old new moved asked same = record {
  counts = λ before are. record {
    comps = row_more is_move_of old.comps new.comps comp _ (λ k. refl) moved before are.comps;
    asks = row_more (λ k. is_request_at k false) old.asks new.asks chan _ (λ k. refl) asked before are.asks;
    takes = subst (λ row. CountEach (λ k. is_request_at k true) row (before ++ Fired who comp port chan Ask value ∷ [])) (sym same) (row_same (λ k. is_request_at k true) old.takes _ (λ k. refl) before are.takes);
  };
  places = λ w has. record { comps = moved.long ∙ has.comps; asks = asked.long ∙ has.asks; takes = ap length same ∙ has.takes };
}

pub adds_take : (who : Who) (comp port chan : ℕ) (value : Option ℕ) (old new : Tallies) → Raises old.comps comp new.comps → Raises old.takes chan new.takes → new.asks ≡ old.asks
    → CountsOn old (Fired who comp port chan Take value ∷ []) new
adds_take who comp port chan value old new moved taken same = record {
  counts = λ before are. record {
    comps = row_more is_move_of old.comps new.comps comp _ (λ k. refl) moved before are.comps;
    asks = subst (λ row. CountEach (λ k. is_request_at k false) row (before ++ Fired who comp port chan Take value ∷ [])) (sym same) (row_same (λ k. is_request_at k false) old.asks _ (λ k. refl) before are.asks);
    takes = row_more (λ k. is_request_at k true) old.takes new.takes chan _ (λ k. refl) taken before are.takes;
  };
  places = λ w has. record { comps = moved.long ∙ has.comps; asks = ap length same ∙ has.asks; takes = taken.long ∙ has.takes };
}

adds_other : (e : Entry) (old new : Tallies) → (comp : ℕ) → ((k : ℕ) → is_move_of k e ≡ (comp == k)) → ((k : ℕ) (side : Bool) → is_request_at k side e ≡ false)
    → Raises old.comps comp new.comps → new.asks ≡ old.asks → new.takes ≡ old.takes → CountsOn old (e ∷ []) new
adds_other e old new comp mover none moved same_asks same_takes = record {
  counts = λ before are. record {
    comps = row_more is_move_of old.comps new.comps comp e mover moved before are.comps;
    asks = subst (λ row. CountEach (λ k. is_request_at k false) row (before ++ e ∷ [])) (sym same_asks) (row_same (λ k. is_request_at k false) old.asks e (λ k. none k false) before are.asks);
    takes = subst (λ row. CountEach (λ k. is_request_at k true) row (before ++ e ∷ [])) (sym same_takes) (row_same (λ k. is_request_at k true) old.takes e (λ k. none k true) before are.takes);
  };
  places = λ w has. record { comps = moved.long ∙ has.comps; asks = ap length same_asks ∙ has.asks; takes = ap length same_takes ∙ has.takes };
}

no_reply : (k chan : ℕ) (side : Bool) → (is_request side Reply && (chan == k)) ≡ false
no_reply k chan true = refl
no_reply k chan false = refl

no_got : (k chan : ℕ) (side : Bool) → (is_request side Got && (chan == k)) ≡ false
no_got k chan true = refl
no_got k chan false = refl

pub adds_reply : (who : Who) (comp port chan : ℕ) (value : Option ℕ) (old new : Tallies) → Raises old.comps comp new.comps → new.asks ≡ old.asks → new.takes ≡ old.takes
    → CountsOn old (Fired who comp port chan Reply value ∷ []) new
adds_reply who comp port chan value old new moved asks takes = adds_other (Fired who comp port chan Reply value) old new comp (λ k. refl) (λ k side. no_reply k chan side) moved asks takes

pub adds_got : (who : Who) (comp port chan : ℕ) (value : Option ℕ) (old new : Tallies) → Raises old.comps comp new.comps → new.asks ≡ old.asks → new.takes ≡ old.takes
    → CountsOn old (Fired who comp port chan Got value ∷ []) new
adds_got who comp port chan value old new moved asks takes = adds_other (Fired who comp port chan Got value) old new comp (λ k. refl) (λ k side. no_got k chan side) moved asks takes

-- what is counted of a move is counted of its entry
pub as_entry : (e : Entry) (who : Who) (comp port chan : ℕ) (mv to : Move) (value : Option ℕ) (old seen new : Tallies) → e ≡ Fired who comp port chan mv value → mv ≡ to → seen ≡ old
    → CountsOn seen (Fired who comp port chan to value ∷ []) new → CountsOn old (e ∷ []) new
as_entry e who comp port chan mv to value old seen new is so view on =
    subst (λ (x : Entry). CountsOn old (x ∷ []) new) (sym (is ∙ ap (λ (m : Move). Fired who comp port chan m value) so))
    (subst (λ (o : Tallies). CountsOn o (Fired who comp port chan to value ∷ []) new) view on)

-- nothing is counted of what is no move
pub adds_none : (e : Entry) (old : Tallies) → ((k : ℕ) → is_move_of k e ≡ false) → ((k : ℕ) (side : Bool) → is_request_at k side e ≡ false) → CountsOn old (e ∷ []) old
adds_none e old still none = record {
  counts = λ before are. record {
    comps = row_same is_move_of old.comps e still before are.comps;
    asks = row_same (λ k. is_request_at k false) old.asks e (λ k. none k false) before are.asks;
    takes = row_same (λ k. is_request_at k true) old.takes e (λ k. none k true) before are.takes;
  };
  places = λ w has. has;
}

pub alike_counted : (p : Entry → Bool) (es : List Entry) (d e : Entry) → p d ≡ p e → counted p (es ++ d ∷ []) ≡ counted p (es ++ e ∷ [])
alike_counted p es d e same = ap (λ n. min n most_counted) (one_more p es d ∙ ap (λ b. count_by p es + cond b 1 0) same ∙ sym (one_more p es e))

pub none_yet : (old : Tallies) → CountsOn old [] old
none_yet old = record { counts = λ before are. subst (AreCounts old) (sym (append-nil before)) are; places = λ w has. has }

-- one list of entries after another
pub then : (old mid new : Tallies) (es fs : List Entry) → CountsOn old es mid → CountsOn mid fs new → CountsOn old (es ++ fs) new
then old mid new es fs first next = record {
  counts = λ before are. subst (AreCounts new) (append_assoc before es fs) (next.counts (before ++ es) (first.counts before are));
  places = λ w has. next.places w (first.places w has);
}

-- of two lists of entries as many are counted as of each
raised_both : (m n : ℕ) → min (m + n) most_counted ≡ min (min m most_counted + min n most_counted) most_counted
raised_both m n = grind arith

pub add_up : (p : Entry → Bool) (es fs : List Entry) → counted p (es ++ fs) ≡ min (counted p es + counted p fs) most_counted
add_up p es fs = ap (λ n. min n most_counted) (sum_by-append (λ (x : Entry). cond (p x) 1 0) es fs) ∙ raised_both (count_by p es) (count_by p fs)

-- ---- a row that is added to another

-- so far it was added up to a place
pub record AddsTo (old more : List ℕ) (place : ℕ) (now : List ℕ) : Type 0 where
  pub long : length now ≡ length old
  pub below : (k : ℕ) → k < place → tally now k ≡ min (tally old k + tally more k) most_counted
  pub others : (k : ℕ) → place ≤ k → tally now k ≡ tally old k

pub adds_start : (old more : List ℕ) → AddsTo old more 0 old
adds_start old more = record { long = refl; below = λ k less. absurd (omega (arith, less)); others = λ k past. refl }

pub adds_next : (old more now : List ℕ) (place v : ℕ) → AddsTo old more place now → place < length now → v ≡ min (get_or now place 0 + tally more place) most_counted → AddsTo old more (place + 1) (set now place v)
adds_next old more now place v so within is = record {
  long = length-set now place v ∙ so.long;
  below = λ k less. elim (decided (place == k)) [
    | inl same_place ↦
        (let same = eqb-true place k same_place in
        subst (λ n. tally (set now place v) n ≡ min (tally old n + tally more n) most_counted) same
        (get_or-set_same now place v 0 within ∙ is ∙ ap (λ n. min (n + tally more place) most_counted) (so.others place (omega arith))))
    | inr other ↦
        (let apart = eqb-false place k other in
        get_or-set_other now place k v 0 (λ is. apart (sym is)) ∙ so.below k (omega (arith, less, apart)))
  ];
  others = λ k past. get_or-set_other now place k v 0 (omega (arith, past)) ∙ so.others k (omega (arith, past));
}

pub adds_all : (old more now : List ℕ) (place : ℕ) → length old ≤ place → AddsTo old more place now → Adds old more now
adds_all old more now place all so = record { long = so.long; each = λ k within. so.below k (omega (arith, within, all)) }

row_adds : (p : ℕ → Entry → Bool) (old more new : List ℕ) (es fs : List Entry) → length more ≡ length old → Adds old more new → CountEach p old es → CountEach p more fs → CountEach p new (es ++ fs)
row_adds p old more new es fs same adds each others k within =
    let inside : k < length old = let long = adds.long in omega (arith, within, long) in
    let inside_more : k < length more = omega (arith, inside, same) in
    adds.each k inside ∙ ap (λ n. min (n + tally more k) most_counted) (each k inside) ∙ ap (λ n. min (counted (p k) es + n) most_counted) (others k inside_more) ∙ sym (add_up (p k) es fs)

pub adds_counts : (w : Wiring) (old more new : Tallies) (fs : List Entry) → Adds old.comps more.comps new.comps → Adds old.asks more.asks new.asks → Adds old.takes more.takes new.takes
    → HasPlaces w old → HasPlaces w more → AreCounts more fs → CountsOn old fs new
adds_counts w old more new fs comps asks takes has others counts = record {
  counts = λ before are. record {
    comps = row_adds is_move_of old.comps more.comps new.comps before fs (others.comps ∙ sym has.comps) comps are.comps counts.comps;
    asks = row_adds (λ k. is_request_at k false) old.asks more.asks new.asks before fs (others.asks ∙ sym has.asks) asks are.asks counts.asks;
    takes = row_adds (λ k. is_request_at k true) old.takes more.takes new.takes before fs (others.takes ∙ sym has.takes) takes are.takes counts.takes;
  };
  places = λ v places. record { comps = comps.long ∙ places.comps; asks = asks.long ∙ places.asks; takes = takes.long ∙ places.takes };
}

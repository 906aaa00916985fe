-- Refusals that are gathered by rising numbers, one sort after another.
use Rattle.std.proofs.Common.{◌≡◌, ℕ, suc, ◌+◌, ◌<◌, ◌≤◌, List, [], ◌∷◌, ◌++◌, map, ◌⊎◌, inl, inr, refl, sym, ◌∙◌, ap, subst, arith, append-nil, append_assoc, get_or}
use Rattle.std.specs.List.{All, AllPairs, Contains}
use Rattle.std.proofs.lemmas.Bool.Decides.{eqb_tells}
use Rattle.std.proofs.lemmas.List.{length-map, map-append}
use Rattle.std.proofs.lemmas.List.Elements.{All-nil, All-head, All-tail, All-append, All-push, All-map, All-weaker, Contains-append_left, Contains-append_right, Contains-push}
use Rattle.std.proofs.lemmas.List.Kept.{AllPairs-cons}
use Rattle.std.proofs.lemmas.List.Quantifiers.{all_pairs_push}
use Rattle.bz_flat.specs.declared.error.ElabError.{ElabError}
use Rattle.bz_elab.specs.Order.{rank, part_of, number_of}
use Rattle.bz_elab.specs.EndFaults.{Adds, AreAll, AreThose, Sooner}
use Rattle.bz_elab.proofs.Sites.{get_or-map}

pub those_same : (P Q : ℕ → Type 0) (ks : List ℕ) → ((k : ℕ) → P k → Q k) → ((k : ℕ) → Q k → P k) → AreThose P ks → AreThose Q ks
those_same P Q ks to from t = record {
  sound = All-weaker P Q to ks t.sound;
  whole = λ k q. t.whole k (from k q);
  rise = t.rise;
}

pub adds_same : (f : ℕ → ElabError) (P Q : ℕ → Type 0) (old new : List ElabError) → ((k : ℕ) → P k → Q k) → ((k : ℕ) → Q k → P k) → Adds f P old new → Adds f Q old new
adds_same f P Q old new to from (ks, is, t) = (ks, is, those_same P Q ks to from t)

-- those up to a number
abbrev pub Upto : (ℕ → Type 0) → ℕ → ℕ → Type 0
Upto P n k = P k × (k ≤ n)

pub adds_none : (f : ℕ → ElabError) (P : ℕ → Type 0) (n : ℕ) (xs : List ElabError) → ((k : ℕ) → P k → n < k) → Adds f (Upto P n) xs xs
adds_none f P n xs above = (
  [],
  sym (append-nil xs),
  record {
    sound = All-nil (Upto P n);
    whole = λ k p. absurd (let a = above k p.0 in omega (arith, a, p.1));
    rise = λ i j d lt within. absurd (omega arith);
  },
)

pub adds_this : (f : ℕ → ElabError) (P : ℕ → Type 0) (n : ℕ) (old new : List ElabError) → Adds f (Upto P n) old new → P (n + 1) → Adds f (Upto P (n + 1)) old (new ++ f (n + 1) ∷ [])
adds_this f P n old new (ks, is, t) p = (
  ks ++ (n + 1) ∷ [],
  ap (λ xs. xs ++ f (n + 1) ∷ []) is ∙ (append_assoc old (map f ks) (f (n + 1) ∷ []) ∙ ap (λ xs. old ++ xs) (sym (map-append f ks ((n + 1) ∷ [])))),
  record {
    sound = All-push (Upto P (n + 1)) ks (n + 1) (All-weaker (Upto P n) (Upto P (n + 1)) (λ k u. (u.0, omega (arith, u.1))) ks t.sound) (p, omega arith);
    whole = λ k u. elim (eqb_tells k (n + 1)) [
      | inl e ↦ subst (λ j. Contains (ks ++ (n + 1) ∷ []) j) (sym e.1) (Contains-push ks (n + 1))
      | inr d ↦ Contains-append_left ks ((n + 1) ∷ []) k (t.whole k (u.0, omega (arith, u.1, d.1)))
    ];
    rise = all_pairs_push (λ j k. j < k) ks (n + 1) t.rise (λ k d lt. let u = t.sound k d lt in omega (arith, u.1));
  },
)

pub adds_not : (f : ℕ → ElabError) (P : ℕ → Type 0) (n : ℕ) (old new : List ElabError) → Adds f (Upto P n) old new → (P (n + 1) → ⊥) → Adds f (Upto P (n + 1)) old new
adds_not f P n old new a never =
    adds_same f (Upto P n) (Upto P (n + 1)) old new (λ k u. (u.0, omega (arith, u.1)))
    (λ k u. elim (eqb_tells k (n + 1)) [ inl e ↦ absurd (never (subst P e.1 u.0)) | inr d ↦ (u.0, omega (arith, u.1, d.1)) ]) a

pub adds_end : (f : ℕ → ElabError) (P : ℕ → Type 0) (n : ℕ) (old new : List ElabError) → ((k : ℕ) → P k → k ≤ n) → Adds f (Upto P n) old new → Adds f P old new
adds_end f P n old new to a = adds_same f (Upto P n) P old new (λ k u. u.0) (λ k p. (p, to k p)) a

pairs_append : {X : Type 0} (R : X → X → Type 0) (xs ys : List X) → AllPairs R xs → AllPairs R ys → All (λ x. All (R x) ys) xs → AllPairs R (xs ++ ys)
pairs_append R [] ys a b c = b
pairs_append R (x ∷ xs) ys a b c =
    AllPairs-cons R x (xs ++ ys) (All-append (R x) xs ys (λ j d lt. a 0 (suc j) d (omega arith) (omega arith)) (All-head (λ z. All (R z) ys) x xs c))
    (pairs_append R xs ys (λ i j d lt within. a (suc i) (suc j) d (omega arith) (omega arith)) b (All-tail (λ z. All (R z) ys) x xs c))

pairs_map : {X : Type 0} (R : X → X → Type 0) (f : ℕ → X) (ks : List ℕ) → ((j k : ℕ) → j < k → R (f j) (f k)) → AllPairs (λ j k. j < k) ks → AllPairs R (map f ks)
pairs_map R f [] up a = λ i j d lt within. absurd (omega arith)
pairs_map R f (k ∷ ks) up a =
    AllPairs-cons R (f k) (map f ks) (All-map (R (f k)) f ks (λ j d lt. up k _ (a 0 (suc j) d (omega arith) (omega arith))))
    (pairs_map R f ks up (λ i j d lt within. a (suc i) (suc j) d (omega arith) (omega arith)))

contains_map : {X : Type 0} (f : ℕ → X) (ks : List ℕ) (k : ℕ) → Contains ks k → Contains (map f ks) (f k)
contains_map f ks k (i, lt, is) = (i, rw length-map lt, get_or-map f ks i k (f k) lt (sym is))

-- one sort more, of a higher rank
abbrev pub Or : (ElabError → Type 0) → (ℕ → ElabError) → (ℕ → Type 0) → ElabError → Type 0
Or P f N e = P e ⊎ ((k : ℕ) × (e ≡ f k) × N k)

sooner_rank : (e q : ElabError) → rank e < rank q → Sooner e q
sooner_rank e q lt = (inl lt, λ same. let r = ap rank same in omega (arith, lt, r))

sooner_number : (e q : ElabError) → rank e ≡ rank q → part_of e ≡ part_of q → number_of e < number_of q → Sooner e q
sooner_number e q r p lt = (inr (r, inr (p, omega arith)), λ same. let n = ap number_of same in omega (arith, lt, n))

pub sort_more : (P : ElabError → Type 0) (N : ℕ → Type 0) (f : ℕ → ElabError) (r : ℕ) (old new : List ElabError)
    → ((k : ℕ) → rank (f k) ≡ r) → ((k : ℕ) → part_of (f k) ≡ 0) → ((k : ℕ) → number_of (f k) ≡ k) → ((e : ElabError) → P e → rank e < r)
    → AreAll P old → Adds f N old new → AreAll (Or P f N) new
sort_more P N f r old new ranked parted numbered below a (ks, is, t) =
    let up : (j k : ℕ) → j < k → Sooner (f j) (f k) =
    λ j k lt. sooner_number (f j) (f k) (ranked j ∙ sym (ranked k)) (parted j ∙ sym (parted k)) (let n = numbered j in let m = numbered k in omega (arith, n, m, lt)) in
    let across : (e : ElabError) → P e → All (Sooner e) (map f ks) =
    λ e p. All-map (Sooner e) f ks (λ i d lt. sooner_rank e (f (get_or ks i d)) (let b = below e p in let k = ranked (get_or ks i d) in omega (arith, b, k))) in
    subst (AreAll (Or P f N)) (sym is) (record {
      sound = All-append (Or P f N) old (map f ks) (All-weaker P (Or P f N) (λ e p. inl p) old a.sound)
          (All-map (Or P f N) f ks (All-weaker N (λ k. Or P f N (f k)) (λ k n. inr (k, refl, n)) ks t.sound));
      whole = λ e w. elim w [
        | inl p ↦ Contains-append_left old (map f ks) e (a.whole e p)
        | inr (k, same, n) ↦ subst (λ q. Contains (old ++ map f ks) q) (sym same) (Contains-append_right old (map f ks) (f k) (contains_map f ks k (t.whole k n)))
      ];
      order = pairs_append Sooner old (map f ks) a.order (pairs_map Sooner f ks up t.rise) (All-weaker P (λ e. All (Sooner e) (map f ks)) across old a.sound);
    })

pub all_same : (P Q : ElabError → Type 0) (es : List ElabError) → ((e : ElabError) → P e → Q e) → ((e : ElabError) → Q e → P e) → AreAll P es → AreAll Q es
all_same P Q es to from a = record { sound = All-weaker P Q to es a.sound; whole = λ e q. a.whole e (from e q); order = a.order }

pub all_none : (P : ElabError → Type 0) → ((e : ElabError) → P e → ⊥) → AreAll P []
all_none P never = record { sound = All-nil P; whole = λ e p. absurd (never e p); order = λ i j d lt within. absurd (omega arith) }

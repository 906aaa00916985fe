-- Each step on the word keeps the rule.
use Rattle.std.proofs.Common.{zero, suc, ◌≡◌, ◌⊎◌, ℕ, ◌<◌, ◌≤◌, max, List, [], ◌∷◌, set, sym, refl, ap, ◌∙◌, subst, inl, inr, ⊎_elim, arith, slice_index}
use mathlib.Core.Option.{some, none, some-injective, some-ne-none}
use lib.ListN.{get_elem?}
use Rattle.std.specs.List.{All, sum_by}
use Rattle.std.proofs.lemmas.List.Elements.{All-set, All-push, All-weaker, All-head, All-tail}
use Rattle.std.proofs.lemmas.List.Sums.{sum_by_push, sum_by-cons, get_or-le-sum_by}
use Rattle.atomic_table.specs.Table.{Me, Act, keeps, step, stepped, Valid, carried_after, Allows, Splits, Joins, Final, Seen}
use Rattle.atomic_table.proofs.Lists.{set_here, set_else}
use Rattle.bz_front.specs.declared.view.View.{View}
use Rattle.bz_front.specs.Rules.{IsKept, Holds, Loads, Raises, view, spent, greatest, remaining, split_off, joined}
use Rattle.bz_front.proofs.Views.{get_at, all_at, parts_set, published_at, greatest_set, greatest_push, greatest_clear}

abbrev Parted : View → Type 0
Parted v = (0 < v.parts) ⊎ (v ≡ spent)

-- a seat that has seen no more than the word, and published what the word is raised to
raised : (parts word : ℕ) (views : List View) (i : ℕ) (v w : View) → IsKept parts word views → get_elem? views i ≡ some v → 0 < v.parts → w.parts ≡ v.parts → v.published ≤ w.published → w.seen ≤ max word w.published
    → IsKept parts (max word w.published) (set views i w)
raised parts word views i v w k at has same more less = record {
  seen = All-set (λ (u : View). u.seen ≤ max word w.published) views i w less (All-weaker (λ (u : View). u.seen ≤ word) (λ (u : View). u.seen ≤ max word w.published) (λ u h. omega arith) views k.seen);
  published = ap (λ n. max n w.published) k.published ∙ sym (greatest_set views i v w at more);
  parted = All-set Parted views i w (inl (omega arith)) k.parted;
  whole = let p = parts_set views i v w at in let q = k.whole in omega arith;
}

pub loads : (parts slots id : ℕ) (m : Me (Unit {0}) View) → 0 < m.0.parts → Allows (Holds parts) slots id m 0 (λ n. n) (Loads (step slots 0 0 0 none) m)
loads parts slots id m has s h homes at fits =
    let word = h.0 in
    let here : slice_index s.words 0 ≡ word = ap (λ (ws : List ℕ). slice_index ws 0) h.1 in
    let w = view word m.0.published m.0.parts in
    let most : m.0.published ≤ word = subst (λ n. m.0.published ≤ n) (sym h.2.published) (published_at s.views id m.0 at) in
    let saw : m.0.seen ≤ word = all_at (λ (u : View). u.seen ≤ word) s.views id m.0 h.2.seen at in
    let same : max word m.0.published ≡ word = omega arith in
    let P : ℕ → Type 0 = λ n. (u : View) × (a : Act (Unit {0})) × Valid s.homes m.1 a × Holds parts (stepped s 0 n id m.1 u a) × Loads (step slots 0 0 0 none) m n (u, carried_after m.1 a) in
    subst P (sym here) (w, keeps, tt, (word, ap (λ (ws : List ℕ). set ws 0 word) h.1, subst (λ n. IsKept parts n (set s.views id w)) same (raised parts word s.views id m.0 w h.2 at has refl (omega arith) (omega arith))), (saw, refl))

pub raises : (parts slots id n : ℕ) (m : Me (Unit {0}) View) → 0 < m.0.parts → Allows (Holds parts) slots id m 0 (λ found. max found n) (Raises (step slots 0 n 0 none) m)
raises parts slots id n m has s h homes at fits =
    let word = h.0 in
    let here : slice_index s.words 0 ≡ word = ap (λ (ws : List ℕ). slice_index ws 0) h.1 in
    let w = view (max word n) (max m.0.published n) m.0.parts in
    let most : m.0.published ≤ word = subst (λ k. m.0.published ≤ k) (sym h.2.published) (published_at s.views id m.0 at) in
    let saw : m.0.seen ≤ word = all_at (λ (u : View). u.seen ≤ word) s.views id m.0 h.2.seen at in
    let same : max word (max m.0.published n) ≡ max word n = omega arith in
    let P : ℕ → Type 0 = λ k. (u : View) × (a : Act (Unit {0})) × Valid s.homes m.1 a × Holds parts (stepped s 0 (max k n) id m.1 u a) × Raises (step slots 0 n 0 none) m k (u, carried_after m.1 a) in
    subst P (sym here) (w, keeps, tt, (max word n, ap (λ (ws : List ℕ). set ws 0 (max word n)) h.1, subst (λ k. IsKept parts k (set s.views id w)) same (raised parts word s.views id m.0 w h.2 at has refl (omega arith) (omega arith))), (saw, refl))

pub splits : (parts id : ℕ) (v : View) → 2 ≤ v.parts → Splits (Holds parts) id v (remaining v) (split_off v)
splits parts id v two s h at =
    let word = h.0 in
    let k = h.2 in
    let low : All (λ (u : View). u.seen ≤ word) s.views = k.seen in
    let saw = all_at (λ (u : View). u.seen ≤ word) s.views id v low at in
    let left = set s.views id (remaining v) in (
      word,
      h.1,
      record {
        seen = All-push (λ (u : View). u.seen ≤ word) left (split_off v) (All-set (λ (u : View). u.seen ≤ word) s.views id (remaining v) saw low) saw;
        published = let a = greatest_set s.views id v (remaining v) at (omega arith) in let b = greatest_push left (split_off v) in let p = published_at s.views id v at in let q = k.published in omega arith;
        parted = All-push Parted left (split_off v) (All-set Parted s.views id (remaining v) (inl (omega arith)) k.parted) (inl (omega arith));
        whole = let p = parts_set s.views id v (remaining v) at in let q = sum_by_push (λ (u : View). u.parts) left (split_off v) in let r = k.whole in omega arith;
      },
    )

pub joins : (parts id : ℕ) (v : View) (other : ℕ) (w : View) → 0 < v.parts → Joins (Holds parts) id v other w (joined v w) spent
joins parts id v other w has s h at apart there =
    let word = h.0 in
    let k = h.2 in
    let both = joined v w in
    let left = set s.views id both in
    let was : get_elem? s.views other ≡ some w = sym (set_else s.views id other both apart) ∙ there in
    let low : All (λ (u : View). u.seen ≤ word) s.views = k.seen in
    let saw = all_at (λ (u : View). u.seen ≤ word) s.views id v low at in
    let seen = all_at (λ (u : View). u.seen ≤ word) s.views other w low was in
    let here : get_elem? left id ≡ some both = set_here s.views id both (get_at s.views id v v at).0 in (
      word,
      h.1,
      record {
        seen = All-set (λ (u : View). u.seen ≤ word) left other spent (omega arith) (All-set (λ (u : View). u.seen ≤ word) s.views id both (omega arith) low);
        published = let a = greatest_set s.views id v both at (omega arith) in let b = greatest_clear left id other both w here there apart (omega arith) in
            let p = published_at s.views id v at in let q = published_at s.views other w was in let r = k.published in omega arith;
        parted = All-set Parted left other spent (inr refl) (All-set Parted s.views id both (inl (omega arith)) k.parted);
        whole = let p = parts_set s.views id v both at in let q = parts_set left other w spent there in let r = k.whole in omega arith;
      },
    )

-- the others have no part, so they are spent
none_left : (xs : List View) → All Parted xs → sum_by (λ u. u.parts) xs ≡ 0 → greatest xs ≡ 0
none_left [] all zero_sum = refl
none_left (x ∷ xs) all zero_sum =
    let cons = sum_by-cons (λ (u : View). u.parts) x xs in
    let rest = none_left xs (All-tail Parted x xs all) (omega arith) in
    ⊎_elim (λ (some : 0 < x.parts). absurd (omega arith)) (λ (is : x ≡ spent). let e : x.published ≡ 0 = ap (λ (u : View). u.published) is in omega arith) (All-head Parted x xs all)

-- a seat with every part has published the greatest number
alone : (xs : List View) (i : ℕ) (v : View) → All Parted xs → get_elem? xs i ≡ some v → sum_by (λ u. u.parts) xs ≡ v.parts → greatest xs ≡ v.published
alone [] i v all at whole = absurd (some-ne-none v (sym at))
alone (x ∷ xs) zero v all at whole =
    let is : x ≡ v = some-injective x v at in
    let e : x.published ≡ v.published = ap (λ (u : View). u.published) is in
    let p : x.parts ≡ v.parts = ap (λ (u : View). u.parts) is in
    let cons = sum_by-cons (λ (u : View). u.parts) x xs in
    let rest = none_left xs (All-tail Parted x xs all) (omega arith) in
    omega arith
alone (x ∷ xs) (suc i) v all at whole =
    let cons = sum_by-cons (λ (u : View). u.parts) x xs in
    let some_of : v.parts ≤ sum_by (λ (u : View). u.parts) xs = let r = get_at xs i v v at in subst (λ (u : View). u.parts ≤ sum_by (λ (y : View). y.parts) xs) r.1 (get_or-le-sum_by (λ (u : View). u.parts) xs i v r.0) in
    let rest = alone xs i v (All-tail Parted x xs all) at (omega arith) in
    ⊎_elim (λ (some : 0 < x.parts). absurd (omega arith)) (λ (is : x ≡ spent). let e : x.published ≡ 0 = ap (λ (u : View). u.published) is in omega arith) (All-head Parted x xs all)

-- what the last word is
pub closes : (parts id : ℕ) (v : View) (words : List ℕ) (homes : List (Unit {0})) (word : ℕ) → Final (Seen (Holds parts) id v) words homes → get_elem? words 0 ≡ some word → (v.seen ≤ word) × (v.parts ≡ parts → word ≡ v.published)
closes parts id v words homes word f at =
    let s = f.0 in
    let h = f.1.0 in
    let k = h.2 in
    let is : h.0 ≡ word = some-injective h.0 word (sym (ap (λ (ws : List ℕ). get_elem? ws 0) (sym f.2 ∙ h.1)) ∙ at) in
    let saw : v.seen ≤ h.0 = all_at (λ (u : View). u.seen ≤ h.0) s.views id v k.seen f.1.1 in (
      omega arith,
      λ all. let a = alone s.views id v k.parted f.1.1 (k.whole ∙ sym all) in let p = k.published in omega arith,
    )

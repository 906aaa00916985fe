-- Each move keeps the rule of the hints.
use Rattle.std.proofs.Common.{◌≡◌, ℕ, zero, suc, ◌+◌, true, false, true≢false, List, [], ◌∷◌, ◌++◌, set, sym, refl, ap, ◌∙◌, subst, ⊎_elim, arith, append_assoc}
use mathlib.Core.Option.{some, some-injective, some-ne-none}
use lib.ListN.{get_elem?}
use Rattle.std.specs.List.{All, sum_by}
use Rattle.std.proofs.lemmas.List.Elements.{All-nil, All-cons, All-head, All-tail, All-append, All-weaker}
use Rattle.std.proofs.lemmas.List.Sums.{sum_by-cons, sum_by-append, sum_by_push}
use Rattle.crossbeam_deque.specs.Tasks.{Pushes, Takes as TakesFirst, Forks, Merges, Admits}
use Rattle.crossbeam_deque.proofs.Lists.{at_snoc, set_else}
use Rattle.bz_pool_hints.specs.declared.hint.log.Log.{Log}
use Rattle.bz_pool_hints.specs.Hints.{IsSubsequence}
use Rattle.bz_pool_hints.specs.HintRules.{Kept, Fits, Puts, Takes, log, first, guest, taken_lists, had, gathered, kept, handed, pass_of}
use Rattle.bz_pool_hints.proofs.HintOrders.{sub_more, sub_append, sum_set, all_set}

abbrev InOrder : List ℕ → Log → Type 0
InOrder gone v = All (λ xs. IsSubsequence xs gone) (taken_lists v)

knows_nothing : (owner port : ℕ) (put : List ℕ) (v : Log) → v.owner ≡ false → v.owner ≡ true → (port ≡ owner) × (v.put ≡ put)
knows_nothing owner port put v is_not is = absurd (true≢false (sym is ∙ is_not))

pub begins : Kept [] (first ∷ [])
begins = record {
  owner = 0;
  put = [];
  gone = [];
  suffix = refl;
  fits = λ port v at. alone port v at;
  once = λ h. refl;
}
  where
    alone : (port : ℕ) (v : Log) → get_elem? (first ∷ []) port ≡ some v → Fits 0 [] [] port v
    alone zero v at = subst (λ (u : Log). Fits 0 [] [] 0 u) (some-injective first v at) record { knows = λ _. (refl, refl); in_order = All-cons (λ (xs : List ℕ). IsSubsequence xs []) [] [] tt (All-nil (λ (xs : List ℕ). IsSubsequence xs [])) }
    alone (suc j) v at = absurd (some-ne-none v (sym at))

pub pushes : (port : ℕ) (v : Log) (xs : List ℕ) → v.owner ≡ true → Pushes Kept port v xs (Puts v xs)
pushes port v xs mine items views k at =
    let w = log v.owner (v.put ++ xs) v.taken v.beside in
    let now = k.put ++ xs in
    let seat = (k.fits port v at).knows mine in (
      w,
      record {
        owner = k.owner;
        put = now;
        gone = k.gone;
        suffix = ap (λ l. l ++ xs) k.suffix ∙ append_assoc k.gone items xs;
        fits = all_set (Fits k.owner now k.gone) views port w
            record { knows = λ _. (seat.0, ap (λ l. l ++ xs) seat.1); in_order = (k.fits port v at).in_order }
            (λ j u apart e. record { knows = λ yes. absurd (apart (((k.fits j u e).knows yes).0 ∙ sym seat.0)); in_order = (k.fits j u e).in_order });
        once = λ h. let s = sum_set (had h) views port v w at in let same : had h w ≡ had h v = refl in let o = k.once h in omega arith;
      },
      refl,
    )

later : (gone xs : List ℕ) (v : Log) → InOrder gone v → InOrder (gone ++ xs) v
later gone xs v h = All-weaker (λ (l : List ℕ). IsSubsequence l gone) (λ (l : List ℕ). IsSubsequence l (gone ++ xs)) (λ l s. sub_more l gone xs s) (taken_lists v) h

-- a pop and a steal, since both take at the front
pub takes : (port : ℕ) (v : Log) → TakesFirst Kept port v 1 (Takes v)
takes port v xs items views _ _ k at =
    let w = log v.owner v.put (v.taken ++ xs) v.beside in
    let now = k.gone ++ xs in
    let mine = k.fits port v at in
    let P : List ℕ → Type 0 = λ l. IsSubsequence l k.gone in
    let Q : List ℕ → Type 0 = λ l. IsSubsequence l now in (
      w,
      record {
        owner = k.owner;
        put = k.put;
        gone = now;
        suffix = k.suffix ∙ sym (append_assoc k.gone xs items);
        fits = all_set (Fits k.owner k.put now) views port w
            record { knows = mine.knows; in_order = All-cons Q (v.taken ++ xs) v.beside (sub_append v.taken k.gone xs (All-head P v.taken v.beside mine.in_order)) (All-tail Q v.taken v.beside (later k.gone xs v mine.in_order)) }
            (λ j u apart e. record { knows = (k.fits j u e).knows; in_order = later k.gone xs u (k.fits j u e).in_order });
        once = λ h.
            let s = sum_set (had h) views port v w at in
            let o = k.once h in
            let g : sum_by h now ≡ sum_by h k.gone + sum_by h xs = sum_by-append h k.gone xs in
            let t : sum_by h (v.taken ++ xs) ≡ sum_by h v.taken + sum_by h xs = sum_by-append h v.taken xs in
            let a : had h v ≡ sum_by h v.taken + sum_by (sum_by h) v.beside = sum_by-cons (sum_by h) v.taken v.beside in
            let b : had h w ≡ sum_by h (v.taken ++ xs) + sum_by (sum_by h) v.beside = sum_by-cons (sum_by h) (v.taken ++ xs) v.beside in
            omega arith;
      },
      refl,
    )

pub admits : Admits Kept guest
admits items views k = record {
  owner = k.owner;
  put = k.put;
  gone = k.gone;
  suffix = k.suffix;
  fits = λ j u e. ⊎_elim (k.fits j u) (λ (is : guest ≡ u). subst (λ (y : Log). Fits k.owner k.put k.gone j y) is record { knows = knows_nothing k.owner j k.put guest refl; in_order = All-cons (λ (xs : List ℕ). IsSubsequence xs k.gone) [] [] tt (All-nil (λ (xs : List ℕ). IsSubsequence xs k.gone)) }) (at_snoc views guest u j e);
  once = λ h. let p = sum_by_push (had h) views guest in let z : had h guest ≡ 0 = refl in let o = k.once h in omega arith;
}

pub merges : (port : ℕ) (v : Log) (other : ℕ) (w : Log) → Merges Kept port v other w (gathered v w) guest
merges port v other w items views k at apart there =
    let both = gathered v w in
    let vs = set views port both in
    let was : get_elem? views other ≡ some w = sym (set_else views port other both apart) ∙ there in
    let P : List ℕ → Type 0 = λ xs. IsSubsequence xs k.gone in
    record {
      owner = k.owner;
      put = k.put;
      gone = k.gone;
      suffix = k.suffix;
      fits = all_set (Fits k.owner k.put k.gone) vs other guest
          record { knows = knows_nothing k.owner other k.put guest refl; in_order = All-cons P [] [] tt (All-nil P) }
          (λ j u _ e. all_set (Fits k.owner k.put k.gone) views port both
          record { knows = (k.fits port v at).knows; in_order = All-append P (taken_lists v) (taken_lists w) (k.fits port v at).in_order (k.fits other w was).in_order }
          (λ i y _ h. k.fits i y h) j u e);
      once = λ h.
          let a = sum_set (had h) views port v both at in
          let b = sum_set (had h) vs other w guest there in
          let c : had h both ≡ had h v + had h w = sum_by-append (sum_by h) (taken_lists v) (taken_lists w) in
          let d : had h guest ≡ 0 = refl in
          let o = k.once h in
          omega arith;
    }

pass_owns_nothing : (xss : List (List ℕ)) → (pass_of xss).owner ≡ false
pass_owns_nothing [] = refl
pass_owns_nothing (xs ∷ xss) = refl

pass_in_order : (gone : List ℕ) (xss : List (List ℕ)) → All (λ xs. IsSubsequence xs gone) xss → InOrder gone (pass_of xss)
pass_in_order gone [] all = All-cons (λ (xs : List ℕ). IsSubsequence xs gone) [] [] tt (All-nil (λ (xs : List ℕ). IsSubsequence xs gone))
pass_in_order gone (xs ∷ xss) all = all

pass_had : (h : ℕ → ℕ) (xss : List (List ℕ)) → had h (pass_of xss) ≡ sum_by (sum_by h) xss
pass_had h [] = refl
pass_had h (xs ∷ xss) = refl

-- the lists beside the owner's own go to a new pass
pub hands_over : (port : ℕ) (v : Log) → Forks Kept port v (kept v) (handed v)
hands_over port v items views k at =
    let vs = set views port (kept v) in
    let P : List ℕ → Type 0 = λ xs. IsSubsequence xs k.gone in
    let mine = k.fits port v at in
    record {
      owner = k.owner;
      put = k.put;
      gone = k.gone;
      suffix = k.suffix;
      fits = λ j u e. ⊎_elim
          (all_set (Fits k.owner k.put k.gone) views port (kept v) record { knows = mine.knows; in_order = All-cons P v.taken [] (All-head P v.taken v.beside mine.in_order) (All-nil P) } (λ i y _ h. k.fits i y h) j u)
          (λ (is : handed v ≡ u). subst (λ (y : Log). Fits k.owner k.put k.gone j y) is
          record { knows = knows_nothing k.owner j k.put (handed v) (pass_owns_nothing v.beside); in_order = pass_in_order k.gone v.beside (All-tail P v.taken v.beside mine.in_order) })
          (at_snoc vs (handed v) u j e);
      once = λ h.
          let a = sum_set (had h) views port v (kept v) at in
          let b = sum_by_push (had h) vs (handed v) in
          let c : had h v ≡ sum_by h v.taken + sum_by (sum_by h) v.beside = sum_by-cons (sum_by h) v.taken v.beside in
          let d : had h (kept v) ≡ sum_by h v.taken + 0 = sum_by-cons (sum_by h) v.taken [] in
          let e = pass_had h v.beside in
          let o = k.once h in
          omega arith;
    }

-- Texts that go out by pages.
use Rattle.std.proofs.Common.{◌≡◌, ℕ, List, [], ◌++◌, Option, Some, None, Result, Ok, Err, sym, ap, ◌∙◌, subst, append_assoc, take, drop, get_or, length, ◌<◌, suc, ◌+◌, ◌≤◌}
use Rattle.std.proofs.lemmas.List.{append-nil, take_all, take_more, flat_map_more}
use Rattle.std.specs.List.{flat_map}
use Rattle.std.specs.Io.KnownBytes.{Appends}
use Rattle.bz_text.specs.Writing.{AppendsFront, Writes}
use Rattle.bz_text.proofs.Sent.{appends_then, stops_before, stops_after, writes_after, flat_map_at}
use Rattle.bz_trace_text.specs.Writing.{Composes}

-- a page that went out, and a text that went out after it
pub composes_out : {A E : Type 0} (a b c : Option (List ℕ)) (r : Result A E) (p t : List ℕ) → Appends a b p → Writes b c r t → Composes a c p [] r t
composes_out a b c (Ok u) p t d w = (p ++ t, sym (append-nil (p ++ t)), appends_then a b c p t d w)
composes_out a b c (Err e) p t d w = stops_after a b c p t d w

-- a list of texts that were put on a page, up to the one at i, and that one
pub composes_more : {X : Type 0} (a b c : Option (List ℕ)) (f : X → List ℕ) (xs : List X) (i : ℕ) (d : X) (p q : List ℕ) → i < length xs
    → (sent : List ℕ) × (flat_map f (take i xs) ≡ sent ++ p) × Appends a b sent → (sent : List ℕ) × (p ++ f (get_or xs i d) ≡ sent ++ q) × Appends b c sent
    → (sent : List ℕ) × (flat_map f (take (i + 1) xs) ≡ sent ++ q) × Appends a c sent
composes_more a b c f xs i d p q h (s, e, m) (t, k, n) =
    let all : flat_map f (take (i + 1) xs) ≡ flat_map f (take i xs) ++ f (get_or xs i d) = ap (flat_map f) (take_more xs i d h) ∙ sym (flat_map_more f [] (take i xs) (get_or xs i d)) in (s ++ t, all ∙ ap (λ u. u ++ f (get_or xs i d)) e ∙ append_assoc s p (f (get_or xs i d)) ∙ ap (λ u. s ++ u) k ∙ sym (append_assoc s t q), appends_then a b c s t m n)

-- a list of texts that were put on a page, and stopped within the one at i
pub composes_stops : {X : Type 0} (a b c : Option (List ℕ)) (f : X → List ℕ) (xs : List X) (i : ℕ) (d : X) (p : List ℕ) → i < length xs
    → (sent : List ℕ) × (flat_map f (take i xs) ≡ sent ++ p) × Appends a b sent → AppendsFront b c (p ++ f (get_or xs i d)) → AppendsFront a c (flat_map f xs)
composes_stops a b c f xs i d p h (s, e, m) w =
    let all : flat_map f xs ≡ (s ++ (p ++ f (get_or xs i d))) ++ flat_map f (drop (suc i) xs) =
    flat_map_at f xs i d h ∙ ap (λ u. (u ++ f (get_or xs i d)) ++ flat_map f (drop (suc i) xs)) e ∙ ap (λ u. u ++ flat_map f (drop (suc i) xs)) (append_assoc s p (f (get_or xs i d))) in
    subst (AppendsFront a c) (sym all) (stops_before a c (s ++ (p ++ f (get_or xs i d))) _ (stops_after a b c s _ m w))

-- texts that were put on a page, and the page that went out
pub composes_last : {X A E : Type 0} (a b c : Option (List ℕ)) (r : Result A E) (f : X → List ℕ) (xs : List X) (i : ℕ) (p : List ℕ) → length xs ≤ i
    → (sent : List ℕ) × (flat_map f (take i xs) ≡ sent ++ p) × Appends a b sent → Writes b c r p → Writes a c r (flat_map f xs)
composes_last a b c r f xs i p h (s, e, m) w = subst (Writes a c r) (sym e ∙ ap (flat_map f) (take_all i xs h)) (writes_after a b c r s p m w)

-- a page that stopped before the text that was to be put on it
pub stops_on : (a b : Option (List ℕ)) (p t : List ℕ) → AppendsFront a b (p ++ []) → AppendsFront a b (p ++ t)
stops_on a b p t w = stops_before a b p t (subst (AppendsFront a b) (append-nil p) w)

-- a text that was put on a page, and one after it
pub composes_two : (a b c : Option (List ℕ)) (p q n t u : List ℕ) → (sent : List ℕ) × (p ++ t ≡ sent ++ q) × Appends a b sent → (sent : List ℕ) × (q ++ u ≡ sent ++ n) × Appends b c sent
    → (sent : List ℕ) × (p ++ (t ++ u) ≡ sent ++ n) × Appends a c sent
composes_two a b c p q n t u (s, e, m) (s', e', m') =
    (s ++ s', sym (append_assoc p t u) ∙ ap (λ v. v ++ u) e ∙ append_assoc s q u ∙ ap (λ v. s ++ v) e' ∙ sym (append_assoc s s' n), appends_then a b c s s' m m')

-- the same, stopped within the second
pub composes_part : (a b c : Option (List ℕ)) (p q t u : List ℕ) → (sent : List ℕ) × (p ++ t ≡ sent ++ q) × Appends a b sent → AppendsFront b c (q ++ u) → AppendsFront a c (p ++ (t ++ u))
composes_part a b c p q t u (s, e, m) w =
    subst (AppendsFront a c) (sym (sym (append_assoc p t u) ∙ ap (λ v. v ++ u) e ∙ append_assoc s q u)) (stops_after a b c s (q ++ u) m w)

pub composes_then : {A E : Type 0} (a b c : Option (List ℕ)) (r : Result A E) (p q n t u : List ℕ) → (sent : List ℕ) × (p ++ t ≡ sent ++ q) × Appends a b sent → Composes b c q n r u → Composes a c p n r (t ++ u)
composes_then a b c (Ok x) p q n t u d w = composes_two a b c p q n t u d w
composes_then a b c (Err x) p q n t u d w = composes_part a b c p q t u d w

-- a text that stopped, of which more was to be put on the page
pub composes_less : (a b : Option (List ℕ)) (p t u : List ℕ) → AppendsFront a b (p ++ t) → AppendsFront a b (p ++ (t ++ u))
composes_less a b p t u w = subst (AppendsFront a b) (append_assoc p t u) (stops_before a b (p ++ t) u w)

pub composes_none : (a : Option (List ℕ)) (p : List ℕ) → (sent : List ℕ) × (p ++ [] ≡ sent ++ p) × Appends a a sent
composes_none None p = ([], append-nil p, tt)
composes_none (Some xs) p = ([], append-nil p, sym (append-nil xs))

module _ {X : Type 0} (a b c : Option (List ℕ)) (f : X → List ℕ) (xs : List X) (i : ℕ) (o p : List ℕ) where
  -- a list of texts that were put on a page after what it had, `o`, and the one at i
  pub composes_on : (d : X) (q : List ℕ) → i < length xs → (sent : List ℕ) × (o ++ flat_map f (take i xs) ≡ sent ++ p) × Appends a b sent → (sent : List ℕ) × (p ++ f (get_or xs i d) ≡ sent ++ q) × Appends b c sent
      → (sent : List ℕ) × (o ++ flat_map f (take (i + 1) xs) ≡ sent ++ q) × Appends a c sent
  composes_on d q h so_far next =
      let all : flat_map f (take (i + 1) xs) ≡ flat_map f (take i xs) ++ f (get_or xs i d) = ap (flat_map f) (take_more xs i d h) ∙ sym (flat_map_more f [] (take i xs) (get_or xs i d)) in
      subst (λ t. (sent : List ℕ) × (o ++ t ≡ sent ++ q) × Appends a c sent) (sym all) (composes_two a b c o p q (flat_map f (take i xs)) (f (get_or xs i d)) so_far next)

  -- the same, stopped within that one
  pub composes_off : (d : X) → i < length xs → (sent : List ℕ) × (o ++ flat_map f (take i xs) ≡ sent ++ p) × Appends a b sent → AppendsFront b c (p ++ f (get_or xs i d)) → AppendsFront a c (o ++ flat_map f xs)
  composes_off d h so_far w =
      subst (λ t. AppendsFront a c (o ++ t)) (sym (flat_map_at f xs i d h)) (composes_less a c o (flat_map f (take i xs) ++ f (get_or xs i d)) (flat_map f (drop (suc i) xs)) (composes_part a b c o p (flat_map f (take i xs)) (f (get_or xs i d)) so_far w))

  -- the same, where that were all
  pub composes_all : length xs ≤ i → (sent : List ℕ) × (o ++ flat_map f (take i xs) ≡ sent ++ p) × Appends a b sent → (sent : List ℕ) × (o ++ flat_map f xs ≡ sent ++ p) × Appends a b sent
  composes_all h so_far = subst (λ t. (sent : List ℕ) × (o ++ flat_map f t ≡ sent ++ p) × Appends a b sent) (take_all i xs h) so_far

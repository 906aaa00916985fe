-- Texts written one after another.
use Rattle.std.proofs.Common.{◌≡◌, ℕ, List, [], ◌∷◌, ◌++◌, Option, Some, None, Result, Ok, Err, refl, sym, ap, ◌∙◌, subst, append_assoc, take, drop, take-append-drop, drop-cons, get_or, length, length-append, ◌<◌, suc, arith}
use Rattle.std.specs.List.{flat_map}
use Rattle.std.proofs.lemmas.Grind.{flat_map-append}
use Rattle.std.specs.Io.KnownBytes.{Appends}
use Rattle.bz_model.specs.Traces.{byte_form, name_form}
use Rattle.bz_text.specs.Writing.{AppendsFront, Writes}

-- two texts that went out, one after the other
pub appends_then : (a b c : Option (List ℕ)) (t u : List ℕ) → Appends a b t → Appends b c u → Appends a c (t ++ u)
appends_then None b c t u p q = tt
appends_then (Some xs) None c t u p q = absurd p
appends_then (Some xs) (Some ys) None t u p q = q
appends_then (Some xs) (Some ys) (Some zs) t u p q = q ∙ ap (λ s. s ++ u) p ∙ append_assoc xs t u

-- a text that stopped, of one that would have gone on
pub stops_before : (a b : Option (List ℕ)) (t u : List ℕ) → AppendsFront a b t → AppendsFront a b (t ++ u)
stops_before a b t u (front, rest, cut, left, p) =
    (front, rest ++ u, ap (λ s. s ++ u) cut ∙ append_assoc front rest u, omega (arith, length-append rest u), p)

-- a text that stopped, after one that went out
pub stops_after : (a b c : Option (List ℕ)) (t u : List ℕ) → Appends a b t → AppendsFront b c u → AppendsFront a c (t ++ u)
stops_after a b c t u p (front, rest, cut, left, q) =
    (t ++ front, rest, ap (λ s. t ++ s) cut ∙ sym (append_assoc t front rest), left, appends_then a b c t front p q)

-- the same, where the second may have stopped
pub writes_after : {A E : Type 0} (a b c : Option (List ℕ)) (r : Result A E) (t u : List ℕ) → Appends a b t → Writes b c r u → Writes a c r (t ++ u)
writes_after a b c (Ok x) t u p w = appends_then a b c t u p w
writes_after a b c (Err e) t u p w = stops_after a b c t u p w

-- one write more, of the n bytes that were taken
pub sent_more : (a b c : Option (List ℕ)) (whole rest : List ℕ) (n : ℕ) → (sent : List ℕ) × (whole ≡ sent ++ rest) × Appends a b sent → Appends b c (take n rest)
    → (sent : List ℕ) × (whole ≡ sent ++ drop n rest) × Appends a c sent
sent_more a b c whole rest n (sent, e, p) q =
    (sent ++ take n rest, e ∙ ap (λ s. sent ++ s) (sym (take-append-drop n rest)) ∙ sym (append_assoc sent (take n rest) (drop n rest)), appends_then a b c sent (take n rest) p q)

-- a list of texts that stopped within the one at i
pub stops_at : {X : Type 0} (a b c : Option (List ℕ)) (f : X → List ℕ) (xs : List X) (i : ℕ) (d : X) → i < length xs → Appends a b (flat_map f (take i xs)) → AppendsFront b c (f (get_or xs i d)) → AppendsFront a c (flat_map f xs)
stops_at a b c f xs i d h p q =
    let all : flat_map f xs ≡ flat_map f (take i xs) ++ (f (get_or xs i d) ++ flat_map f (drop (suc i) xs)) =
    ap (flat_map f) (sym (take-append-drop i xs)) ∙ flat_map-append f (take i xs) (drop i xs) ∙ ap (λ ys. flat_map f (take i xs) ++ flat_map f ys) (drop-cons xs i d h) in
    subst (AppendsFront a c) (sym all) (stops_after a b c (flat_map f (take i xs)) _ p (stops_before b c (f (get_or xs i d)) (flat_map f (drop (suc i) xs)) q))

-- a name that is not empty goes out byte by byte
pub name_form_some : (xs : List ℕ) → 0 < length xs → name_form xs ≡ flat_map byte_form xs
name_form_some [] h = absurd (omega arith)
name_form_some (x ∷ xs) h = refl

-- what a list's elements give: those before i, the one at i, and those after it
pub flat_map_at : {X Y : Type 0} (f : X → List Y) (xs : List X) (i : ℕ) (d : X) → i < length xs → flat_map f xs ≡ (flat_map f (take i xs) ++ f (get_or xs i d)) ++ flat_map f (drop (suc i) xs)
flat_map_at f xs i d h =
    ap (flat_map f) (sym (take-append-drop i xs)) ∙ flat_map-append f (take i xs) (drop i xs) ∙ ap (λ ys. flat_map f (take i xs) ++ flat_map f ys) (drop-cons xs i d h)
    ∙ sym (append_assoc (flat_map f (take i xs)) (f (get_or xs i d)) (flat_map f (drop (suc i) xs)))

-- the lines of more entries, after a text and the lines of some
pub pieces : {X A E : Type 0} (a b c : Option (List ℕ)) (r : Result A E) (f : X → List ℕ) (t : List ℕ) (xs ys : List X) → Appends a b (t ++ flat_map f xs) → Writes b c r (flat_map f ys) → Writes a c r (t ++ flat_map f (xs ++ ys))
pieces a b c r f t xs ys p w =
    subst (Writes a c r) (append_assoc t (flat_map f xs) (flat_map f ys) ∙ ap (λ u. t ++ u) (sym (flat_map-append f xs ys))) (writes_after a b c r (t ++ flat_map f xs) (flat_map f ys) p w)

-- a front of the lines of some entries, as one of those of more
pub front_of_more : {X : Type 0} (a b : Option (List ℕ)) (f : X → List ℕ) (t : List ℕ) (xs ys : List X) → AppendsFront a b (t ++ flat_map f xs) → AppendsFront a b (t ++ flat_map f (xs ++ ys))
front_of_more a b f t xs ys w =
    subst (AppendsFront a b) (append_assoc t (flat_map f xs) (flat_map f ys) ∙ ap (λ u. t ++ u) (sym (flat_map-append f xs ys))) (stops_before a b (t ++ flat_map f xs) (flat_map f ys) w)

-- the same, where the entries come in pieces and the one at i stopped
pub pieces_stop : {X Y : Type 0} (a b : Option (List ℕ)) (f : X → List ℕ) (t : List ℕ) (h : Y → List X) (ys : List Y) (i : ℕ) (d : Y) → i < length ys
    → AppendsFront a b (t ++ flat_map f (flat_map h (take i ys) ++ h (get_or ys i d))) → AppendsFront a b (t ++ flat_map f (flat_map h ys))
pieces_stop a b f t h ys i d l w =
    subst (λ xs. AppendsFront a b (t ++ flat_map f xs)) (sym (flat_map_at h ys i d l)) (front_of_more a b f t (flat_map h (take i ys) ++ h (get_or ys i d)) (flat_map h (drop (suc i) ys)) w)

-- Notes as lines.
use Rattle.std.proofs.Common.{◌≡◌, ℕ, List, [], ◌∷◌, ◌++◌, ◌+◌, ◌<◌, Option, map, refl, sym, ap, ◌∙◌, subst, get_or, length, take}
use Rattle.std.proofs.lemmas.List.{flat_map_more, take_more}
use Rattle.std.specs.List.{flat_map}
use Rattle.std.specs.Io.KnownBytes.{Appends}
use Rattle.bz_text.specs.Writing.{AppendsFront}
use Rattle.bz_text.proofs.Sent.{appends_then, stops_at}
use Rattle.bz_explain_notes.specs.Notes.{letters_of, note_line}

-- the lines of notes that lie in memory are those of their letters
pub lines_are : (notes : List (Option (List ℕ))) → flat_map (λ n. note_line (letters_of n)) notes ≡ flat_map note_line (map letters_of notes)
lines_are [] = refl
lines_are (note ∷ notes) = ap (λ t. note_line (letters_of note) ++ t) (lines_are notes)

-- the text of the element x at i went out behind those before it
pub sent_at : {X : Type 0} (a b c : Option (List ℕ)) (f : X → List ℕ) (xs : List X) (i : ℕ) (x : X) → i < length xs → get_or xs i x ≡ x → Appends a b (flat_map f (take i xs)) → Appends b c (f x) → Appends a c (flat_map f (take (i + 1) xs))
sent_at a b c f xs i x h e p q =
    let whole : flat_map f (take (i + 1) xs) ≡ flat_map f (take i xs) ++ f x =
    ap (flat_map f) (take_more xs i x h) ∙ sym (flat_map_more f [] (take i xs) (get_or xs i x)) ∙ ap (λ y. flat_map f (take i xs) ++ f y) e in
    subst (Appends a c) (sym whole) (appends_then a b c (flat_map f (take i xs)) (f x) p q)

-- or stopped there
pub stopped_at : {X : Type 0} (a b c : Option (List ℕ)) (f : X → List ℕ) (xs : List X) (i : ℕ) (x : X) → i < length xs → get_or xs i x ≡ x → Appends a b (flat_map f (take i xs)) → AppendsFront b c (f x) → AppendsFront a c (flat_map f xs)
stopped_at a b c f xs i x h e p q = stops_at a b c f xs i x h p (subst (λ y. AppendsFront b c (f y)) (sym e) q)

-- Names that are typed.
use Rattle.std.proofs.Common.{◌≡◌, ℕ, ◌+◌, ◌<◌, ◌≤◌, ◌==◌, Bool, true, false, cond, Option, Some, List, [], ◌∷◌, ◌++◌, codes, length, take, get_or, refl, sym, ap, ◌∙◌, subst, arith}
use Rattle.std.specs.List.{flat_map}
use Rattle.std.proofs.lemmas.List.{append-nil, take_all, take_more}
use Rattle.std.proofs.lemmas.Grind.{flat_map-append}
use Rattle.bz_model.specs.Traces.{name_form}
use Rattle.bz_text.specs.Growing.{Grows}
use Rattle.bz_text.specs.Json.{json_text}
use Rattle.bz_text.proofs.Said.{grows_then}
use Rattle.bz_view.specs.Lines.{InLine}
use Rattle.bz_view.specs.Naming.{typed_byte, typed_text}
use Rattle.bz_view.proofs.Lines.{both, name_clear}

byte_clear : (b : ℕ) (k : Bool) → InLine (cond k (codes "%23") (name_form (b ∷ [])))
byte_clear b true = refl
byte_clear b false = name_clear (b ∷ [])

bytes_clear : (name : List ℕ) → InLine (flat_map typed_byte name)
bytes_clear [] = refl
bytes_clear (b ∷ name) = both (typed_byte b) (flat_map typed_byte name) (byte_clear b (b == 35)) (bytes_clear name)

pub typed_clear : (name : List ℕ) → InLine (typed_text name)
typed_clear [] = refl
typed_clear (b ∷ name) = bytes_clear (b ∷ name)

pub typed_more : (name : List ℕ) (i : ℕ) (b : ℕ) (old mid new : Option (List ℕ)) → i < length name → get_or name i b ≡ b
    → Grows old mid (flat_map typed_byte (take i name)) → Grows mid new (typed_byte b) → Grows old new (flat_map typed_byte (take (i + 1) name))
typed_more name i b old mid new l at g h =
    let more : take (i + 1) name ≡ take i name ++ (b ∷ []) = take_more name i b l ∙ ap (λ y. take i name ++ (y ∷ [])) at in
    let is : flat_map typed_byte (take (i + 1) name) ≡ flat_map typed_byte (take i name) ++ typed_byte b =
    ap (flat_map typed_byte) more ∙ flat_map-append typed_byte (take i name) (b ∷ []) ∙ ap (λ s. flat_map typed_byte (take i name) ++ s) (append-nil (typed_byte b)) in
    subst (Grows old new) (sym is) (grows_then old mid new _ _ g h)

pub typed_all : (name : List ℕ) (i : ℕ) (old new : Option (List ℕ)) → 0 < length name → length name ≤ i → Grows old new (flat_map typed_byte (take i name)) → Grows old new (typed_text name)
typed_all [] i old new some le g = absurd (omega (arith, some))
typed_all (b ∷ name) i old new some le g = subst (λ s. Grows old new (flat_map typed_byte s)) (take_all i (b ∷ name) le) g

pub typed_none : (name : List ℕ) → length name ≡ 0 → typed_text name ≡ codes "%"
typed_none [] e = refl
typed_none (b ∷ name) e = absurd (omega (arith, e))

-- a name that was put together by itself, and then added as a string of JSON
pub typed_string : (name bytes : List ℕ) (typed old new : Option (List ℕ)) → Grows (Some []) typed (typed_text name) → typed ≡ Some bytes → Grows old new (json_text bytes)
    → Grows old new (json_text (typed_text name))
typed_string name bytes typed old new g is h =
    let same : bytes ≡ typed_text name = subst (λ t. Grows (Some []) t (typed_text name)) is g in
    subst (λ s. Grows old new (json_text s)) same h

-- Parts by their places in the text.
use Rattle.std.proofs.Common.{◌≡◌, ℕ, zero, suc, ◌+◌, ◌<◌, ◌≤◌, true, false, Option, None, Some, List, [], ◌∷◌, length, refl, sym, ◌∙◌, ap, arith, slice_get, option_and_then, bytes_eq, position, IfSome}
use Rattle.std.proofs.lemmas.Iterator.Adapters.{position_from-zero}
use Rattle.std.proofs.lemmas.Slice.Eq.{bytes_eq-Decides}
use Rattle.std.specs.List.{position_from}
use Rattle.std.specs.Option.{option_map}
use Rattle.bz_breeze_records.specs.declared.part.Part.{Part}
use Rattle.bz_elab.specs.Paths.{named}
use Rattle.bz_elab.specs.Numbers.{number_named}

map_suc : (i : ℕ) (o : Option ℕ) → option_map (λ n. i + n) (option_map suc o) ≡ option_map (λ n. i + 1 + n) o
map_suc i None = refl
map_suc i (Some n) = let e : i + suc n ≡ i + 1 + n = omega arith in ap (λ k. Some k) e

map_zero : (o : Option ℕ) → o ≡ option_map (λ n. 0 + n) o
map_zero None = refl
map_zero (Some n) = let e : n ≡ 0 + n = omega arith in ap (λ k. Some k) e

map_none : (o : Option ℕ) → option_map suc o ≡ None → o ≡ None
map_none None e = refl
map_none (Some n) e = cc

-- the part of that name is the one at that place
pub named_number : (parts : List Part) (name : List ℕ) → named parts name ≡ option_and_then (slice_get parts) (number_named parts name)
named_number [] name = refl
named_number (p ∷ ps) name = elim (bytes_eq p.name.items name) as (λ b. bytes_eq p.name.items name ≡ b → named (p ∷ ps) name ≡ option_and_then (slice_get (p ∷ ps)) (number_named (p ∷ ps) name)) [
  | true ↦ λ e. rw e refl
  | false ↦ λ e. rw e (named_number ps name ∙ later p ps (number_named ps name))
] refl
  where
    later : (p : Part) (ps : List Part) (o : Option ℕ) → option_and_then (slice_get ps) o ≡ option_and_then (slice_get (p ∷ ps)) (option_map suc o)
    later p ps None = refl
    later p ps (Some n) = refl

suc_some : (o : Option ℕ) (m : ℕ) → option_map suc o ≡ Some m → (k : ℕ) × (o ≡ Some k) × (m ≡ suc k)
suc_some None m e = cc
suc_some (Some k) m e = (k, refl, cc)

pub named_within : (parts : List Part) (name : List ℕ) (m : ℕ) → number_named parts name ≡ Some m → m < length parts
named_within [] name m e = cc
named_within (p ∷ ps) name m e = elim (bytes_eq p.name.items name) as (λ b. bytes_eq p.name.items name ≡ b → m < suc (length ps)) [
  | true ↦ λ h. let z : 0 ≡ m = (let f = rw h at e in cc) in omega (arith, z)
  | false ↦ λ h. let (k, o, s) = suc_some (number_named ps name) m (rw h at e) in let w = named_within ps name k o in omega (arith, s, w)
] refl

-- a part of that name has it
named_has : (parts : List Part) (name : List ℕ) (m : ℕ) (p : Part) → number_named parts name ≡ Some m → slice_get parts m ≡ Some p → bytes_eq p.name.items name ≡ true
named_has [] name m p e f = cc
named_has (q ∷ qs) name m p e f = elim (bytes_eq q.name.items name) as (λ b. bytes_eq q.name.items name ≡ b → bytes_eq p.name.items name ≡ true) [
  | true ↦ λ h.
      let z : m ≡ 0 = (let g = rw h at e in cc) in
      let same : q ≡ p = (let g = rw z at f in cc) in
      rw (← same) h
  | false ↦ λ h.
      let (k, o, s) = suc_some (number_named qs name) m (rw h at e) in
      named_has qs name k p o (rw s at f)
] refl

-- it is the first place where that part stands
pub named_first : (parts : List Part) (name : List ℕ) (m k : ℕ) (p : Part) → number_named parts name ≡ Some m → slice_get parts m ≡ Some p → slice_get parts k ≡ Some p → m ≤ k
named_first [] name m k p e f g = cc
named_first (q ∷ qs) name m zero p e f g =
    let same : q ≡ p = cc in
    let it = rw (← same) at (named_has (q ∷ qs) name m p e f) in
    let z : m ≡ 0 = (let h = rw it at e in cc) in
    omega (arith, z)
named_first (q ∷ qs) name m (suc k) p e f g = elim (bytes_eq q.name.items name) as (λ b. bytes_eq q.name.items name ≡ b → m ≤ suc k) [
  | true ↦ λ h. let z : m ≡ 0 = (let i = rw h at e in cc) in omega (arith, z)
  | false ↦ λ h.
      let (j, o, s) = suc_some (number_named qs name) m (rw h at e) in
      let le = named_first qs name j k p o (rw s at f) g in
      omega (arith, s, le)
] refl

-- By the index of the names.

bytes_turn : (a b : List ℕ) → bytes_eq a b ≡ bytes_eq b a
bytes_turn a b = elim (bytes_eq a b) as (λ x. bytes_eq a b ≡ x → x ≡ bytes_eq b a) [
  | true ↦ λ e. sym ((bytes_eq-Decides b a).1 (sym ((bytes_eq-Decides a b).0 e)))
  | false ↦ λ e. elim (bytes_eq b a) as (λ y. bytes_eq b a ≡ y → false ≡ y) [
    | true ↦ λ f. let it = (bytes_eq-Decides a b).1 (sym ((bytes_eq-Decides b a).0 f)) in cc
    | false ↦ λ f. refl
  ] refl
] refl

place_from : (parts : List Part) (name : List ℕ) (k : ℕ) → position_from (λ p. bytes_eq name p.name.items) k parts ≡ option_map (λ n. k + n) (number_named parts name)
place_from [] name k = refl
place_from (p ∷ ps) name k = elim (bytes_eq p.name.items name) as (λ b. bytes_eq p.name.items name ≡ b → position_from (λ p. bytes_eq name p.name.items) k (p ∷ ps) ≡ option_map (λ n. k + n) (number_named (p ∷ ps) name)) [
  | true ↦ λ e. let n : k ≡ k + 0 = omega arith in rw (bytes_turn name p.name.items, e) (ap (λ i. Some i) n)
  | false ↦ λ e. rw (bytes_turn name p.name.items, e) (place_from ps name (k + 1) ∙ sym (map_suc k (number_named ps name)))
] refl

-- the number that the parts tell is the one of the first part of that name
pub number_is_first : (parts : List Part) (name : List ℕ) → position (λ p. bytes_eq name p.name.items) parts ≡ number_named parts name
number_is_first parts name = position_from-zero (λ p. bytes_eq name p.name.items) parts ∙ (place_from parts name 0 ∙ sym (map_zero (number_named parts name)))

pub found_within : (parts : List Part) (name : List ℕ) (o : Option ℕ) → o ≡ number_named parts name → IfSome o (λ n. n < length parts)
found_within parts name None e = tt
found_within parts name (Some n) e = named_within parts name n (sym e)

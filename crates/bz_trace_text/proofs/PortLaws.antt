-- The port whose name stands at the front of a text.
use Rattle.std.proofs.Common.{◌≡◌, ◌≢◌, ℕ, suc, ◌+◌, ◌<◌, Bool, true, false, List, [], ◌∷◌, ◌++◌, length, Option, Some, None, refl, sym, ap, ◌∙◌, arith, append_assoc, ◌⊎◌, inl, inr, codes, bytes_eq}
use Rattle.std.specs.Prelude.{slice_get}
use Rattle.std.proofs.Common.{map, drop, get_or, drop-cons}
use Rattle.bz_model.specs.Names.{external}
use Rattle.bz_model.specs.declared.names.Port.{Port}
use Rattle.std.specs.Option.{option_map}
use Rattle.std.proofs.lemmas.Option.{some_pair_parts}
use Rattle.std.proofs.lemmas.Slice.Eq.{bytes_eq-Decides}
use Rattle.bz_model.specs.Names.{External, port_name, port_number, number_from}
use Rattle.bz_model.specs.Traces.{name_form}
use Rattle.bz_text.proofs.NameLaws.{same_name}
use Rattle.bz_trace_text.specs.Reading.{strip, port_from, with_else}
use Rattle.bz_trace_text.proofs.Strips.{none-some, strip_again, strip_takes}
use Rattle.bz_trace_text.proofs.Numbers.{chosen}

not_so : (b : Bool) → (b ≡ true → ⊥) → b ≡ false
not_so true h = absurd (h refl)
not_so false h = refl

names_differ : (a b : List ℕ) → a ≢ b → bytes_eq a b ≡ false
names_differ a b differ = not_so (bytes_eq a b) (λ e. differ ((bytes_eq-Decides a b).0 e))

-- the space stands behind the form
pub spaced : (name t : List ℕ) → (name_form name ++ codes " ") ++ t ≡ name_form name ++ 32 ∷ t
spaced name t = append_assoc (name_form name) (codes " ") t

pub here_again : (name t : List ℕ) → strip (name_form name ++ codes " ") (name_form name ++ 32 ∷ t) ≡ Some t
here_again name t = ap (strip (name_form name ++ codes " ")) (sym (spaced name t)) ∙ strip_again (name_form name ++ codes " ") t

other_none : (a b t : List ℕ) (o : Option (List ℕ)) → a ≢ b → strip (name_form a ++ codes " ") (name_form b ++ 32 ∷ t) ≡ o → o ≡ None
other_none a b t None differ e = refl
other_none a b t (Some r) differ e = let whole : name_form a ++ 32 ∷ r ≡ name_form b ++ 32 ∷ t = sym (strip_takes (name_form a ++ codes " ") _ r e ∙ spaced a r) in
    absurd (differ (same_name a b r t whole).0)

some_same : (k j : ℕ) → Some k ≡ Some j → k ≡ j
some_same k j e = cc

-- the port with this number or a later one
pub port_again : (k : ℕ) (ps : List External) (name t : List ℕ) (j : ℕ) → number_from k ps name ≡ Some j → port_from k ps (name_form name ++ 32 ∷ t) ≡ Some (j, t)
unfolding port_from
port_again k [] name t j e = absurd (none-some j e)
port_again k (p ∷ ps) name t j e =
    elim (chosen (bytes_eq p.name name) _ _ _ e) [
      | inl h ↦
          let is : p.name ≡ name = (bytes_eq-Decides p.name name).0 h.0 in
          let num = some_same k j h.1 in
          rw (is, here_again name t, num) refl
      | inr h ↦
          let differ : p.name ≢ name = λ q. let yes = (bytes_eq-Decides p.name name).1 q in cc in
          let none = other_none p.name name t _ differ refl in
          rw none (port_again (suc k) ps name t j h.1)
    ]

pub else_takes : {A : Type 0} (o : Option (List ℕ)) (a x : A) (other : Option (A × List ℕ)) (r : List ℕ) → with_else o a other ≡ Some (x, r)
    → ((o ≡ Some r) × (a ≡ x)) ⊎ ((o ≡ None) × (other ≡ Some (x, r)))
else_takes (Some t) a x other r e = let p = some_pair_parts a x t r e in inl (ap (λ s. Some s) p.1, p.0)
else_takes None a x other r e = inr (refl, e)

-- the name that stands there, and its first port
pub port_takes : (k : ℕ) (ps : List External) (t r : List ℕ) (j : ℕ) → port_from k ps t ≡ Some (j, r) → (name : List ℕ) × (t ≡ name_form name ++ 32 ∷ r) × (number_from k ps name ≡ Some j)
unfolding port_from
port_takes k [] t r j e = absurd (none-some _ e)
port_takes k (p ∷ ps) t r j e =
    elim (else_takes (strip (name_form p.name ++ codes " ") t) k j (port_from (suc k) ps t) r e) [
      | inl h ↦
          let yes : bytes_eq p.name p.name ≡ true = (bytes_eq-Decides p.name p.name).1 refl in
          (p.name, strip_takes (name_form p.name ++ codes " ") t r h.0 ∙ spaced p.name r, rw (yes, h.1) refl)
      | inr h ↦
          let (name, is, number) = port_takes (suc k) ps t r j h.1 in
          let differ : p.name ≢ name = λ q. none-some r (sym h.0 ∙ ap (strip (name_form p.name ++ codes " ")) (is ∙ ap (λ n. name_form n ++ 32 ∷ r) (sym q)) ∙ here_again p.name r) in
          let other : bytes_eq p.name name ≡ false = names_differ p.name name differ in
          (name, is, rw other number)
    ]

-- the number of a name has that name
number_named : (i k : ℕ) (ps : List External) (name : List ℕ) (j : ℕ) → number_from k ps name ≡ Some j → (i : ℕ) × (j ≡ k + i) × (option_map (λ p. p.name) (slice_get ps i) ≡ Some name)
number_named i k [] name j e = absurd (none-some j e)
number_named i k (p ∷ ps) name j e =
    elim (chosen (bytes_eq p.name name) _ _ _ e) [
      | inl h ↦ let num = some_same k j h.1 in (0, omega arith, ap (λ n. Some n) ((bytes_eq-Decides p.name name).0 h.0))
      | inr h ↦ let (m, is, at) = number_named i (suc k) ps name j h.1 in (suc m, omega arith, at)
    ]

pub named : (ps : List External) (name : List ℕ) (j : ℕ) → port_number ps name ≡ Some j → port_name ps j ≡ Some name
named ps name j e =
    let (i, is, at) = number_named 0 1 ps name j e in
    let same : j ≡ suc i = omega arith in
    rw same at

-- one port more
pub port_step : (ps : List Port) (i : ℕ) (x : Port) (t : List ℕ) (o : Option (List ℕ)) → i < length ps → x ≡ get_or ps i x → strip (name_form x.name.items ++ codes " ") t ≡ o
    → port_from (suc i) (map external (drop i ps)) t ≡ with_else o (suc i) (port_from (suc (suc i)) (map external (drop (suc i) ps)) t)
unfolding port_from
port_step ps i x t o h is e = rw (drop-cons ps i x h, ← is, e) refl

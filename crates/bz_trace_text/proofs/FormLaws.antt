-- A port found by the word in front of the first space: no form has a space.
use Rattle.std.proofs.Common.{◌≡◌, ◌≢◌, ℕ, zero, suc, ◌+◌, ◌/◌, ◌%◌, ◌<◌, true, false, List, [], ◌∷◌, ◌++◌, length, map, take, drop, Option, Some, None, refl, sym, ap, ap₂, subst, ◌∙◌, arith, codes, bytes_eq, position, get_or, drop-cons}
use Rattle.std.proofs.lemmas.Iterator.Adapters.{position_from-zero}
use Rattle.std.proofs.lemmas.List.{take-append-drop}
use Rattle.std.proofs.lemmas.Slice.Eq.{bytes_eq-Decides}
use Rattle.std.specs.List.{flat_map, position_from}
use Rattle.std.specs.Option.{option_map}
use Rattle.bz_model.specs.Names.{External}
use Rattle.bz_model.specs.Traces.{name_form, byte_form}
use Rattle.bz_trace_text.specs.Reading.{HasNoSpace, form_of, strip, port_from}
use Rattle.bz_trace_text.proofs.Strips.{strip_takes}
use Rattle.bz_text.proofs.NameLaws.{HasForm, itself, by_number, has_form, hex_from, cons_same}
use Rattle.bz_trace_text.proofs.PortLaws.{here_again, spaced}

form_clear : (b : ℕ) (f : List ℕ) → HasForm b f → HasNoSpace f
form_clear b _ (itself p q) = (λ e. omega (arith, p, e), tt)
form_clear b _ by_number =
    let high = hex_from (b / 16) in
    let low = hex_from (b % 16) in
    (λ e. omega (arith, e), (λ e. omega (arith, high, e), (λ e. omega (arith, low, e), tt)))

clear_append : (f g : List ℕ) → HasNoSpace f → HasNoSpace g → HasNoSpace (f ++ g)
clear_append [] g n m = m
clear_append (b ∷ f) g n m = (n.0, clear_append f g n.1 m)

bytes_clear : (name : List ℕ) → HasNoSpace (flat_map byte_form name)
bytes_clear [] = tt
bytes_clear (b ∷ bs) = clear_append (byte_form b) (flat_map byte_form bs) (form_clear b (byte_form b) (has_form b)) (bytes_clear bs)

name_clear : (name : List ℕ) → HasNoSpace (name_form name)
name_clear [] = (λ e. omega (arith, e), tt)
name_clear (b ∷ bs) = bytes_clear (b ∷ bs)

-- the word in front of the first space is one
same_word : (w f x y : List ℕ) → HasNoSpace w → HasNoSpace f → w ++ 32 ∷ x ≡ f ++ 32 ∷ y → w ≡ f
same_word [] [] x y n m e = refl
same_word [] (c ∷ f) x y n m e = absurd (m.0 (sym (cons_same e).0))
same_word (c ∷ w) [] x y n m e = absurd (n.0 (cons_same e).0)
same_word (c ∷ w) (d ∷ f) x y n m e =
    let one = cons_same e in
    ap₂ (λ p q. p ∷ q) one.0 (same_word w f x y n.1 m.1 one.1)

no_word : (f r t : List ℕ) → HasNoSpace t → t ≡ f ++ 32 ∷ r → ⊥
no_word [] r t n e = (subst HasNoSpace e n).0 refl
no_word (c ∷ f) r [] n e = cc
no_word (c ∷ f) r (b ∷ t) n e = no_word f r t n.1 (cons_same e).1

-- a name that stands in front of a space
strip_whole : (name t r : List ℕ) → strip (name_form name ++ codes " ") t ≡ Some r → t ≡ name_form name ++ 32 ∷ r
strip_whole name t r e = strip_takes (name_form name ++ codes " ") t r e ∙ spaced name r

strip_clear : (name t : List ℕ) (o : Option (List ℕ)) → HasNoSpace t → strip (name_form name ++ codes " ") t ≡ o → o ≡ None
strip_clear name t None n e = refl
strip_clear name t (Some r) n e = absurd (no_word (name_form name) r t n (strip_whole name t r e))

strip_word : (name w r : List ℕ) (o : Option (List ℕ)) → HasNoSpace w → w ≢ name_form name → strip (name_form name ++ codes " ") (w ++ 32 ∷ r) ≡ o → o ≡ None
strip_word name w r None n differ e = refl
strip_word name w r (Some s) n differ e = absurd (differ (same_word w (name_form name) r s n (name_clear name) (strip_whole name (w ++ 32 ∷ r) s e)))

-- where there is no space no port stands
pub port_none : (k : ℕ) (ps : List External) (t : List ℕ) → HasNoSpace t → port_from k ps t ≡ None
unfolding port_from
port_none k [] t n = refl
port_none k (p ∷ ps) t n = rw (strip_clear p.name t _ n refl) (port_none (suc k) ps t n)

port_by_word : (k : ℕ) (ps : List External) (w r : List ℕ) → HasNoSpace w → port_from (suc k) ps (w ++ 32 ∷ r) ≡ option_map (λ i. (suc i, r)) (position_from (bytes_eq w) k (map form_of ps))
unfolding port_from
port_by_word k [] w r n = refl
port_by_word k (p ∷ ps) w r n =
    let next : k + 1 ≡ suc k = omega arith in
    elim (bytes_eq w (form_of p)) as (λ b. bytes_eq w (form_of p) ≡ b → port_from (suc k) (p ∷ ps) (w ++ 32 ∷ r) ≡ option_map (λ i. (suc i, r)) (position_from (bytes_eq w) k (map form_of (p ∷ ps)))) [
      | true ↦ λ e.
          let is : w ≡ form_of p = (bytes_eq-Decides w (form_of p)).0 e in
          let here : strip (name_form p.name ++ codes " ") (w ++ 32 ∷ r) ≡ Some r = ap (λ f. strip (name_form p.name ++ codes " ") (f ++ 32 ∷ r)) is ∙ here_again p.name r in
          rw (e, here) refl
      | false ↦ λ e.
          let differ : w ≢ form_of p = λ q. let yes = (bytes_eq-Decides w (form_of p)).1 q in cc in
          rw (e, strip_word p.name w r _ n differ refl, next) (port_by_word (suc k) ps w r n)
    ] refl

-- the port whose form is the word, by its place among the forms
pub found_by_form : (ps : List External) (forms : List (List ℕ)) (w r t : List ℕ) (o : Option ℕ) → HasNoSpace w → t ≡ w ++ 32 ∷ r → forms ≡ map form_of ps → o ≡ position (bytes_eq w) forms
    → port_from 1 ps t ≡ option_map (λ i. (suc i, r)) o
found_by_form ps forms w r t o n text are at =
    ap (port_from 1 ps) text ∙ port_by_word 0 ps w r n
    ∙ ap (option_map (λ i. (suc i, r))) (sym (position_from-zero (bytes_eq w) (map form_of ps)) ∙ ap (position (bytes_eq w)) (sym are) ∙ sym at)

-- ---- the word in front of the first space, byte by byte

pub word_step : (t : List ℕ) (i d : ℕ) → i < length t → HasNoSpace (take i t) → get_or t i d ≢ 32 → HasNoSpace (take (suc i) t)
word_step [] i d h n other = absurd (omega (arith, h))
word_step (b ∷ t) zero d h n other = (other, tt)
word_step (b ∷ t) (suc i) d h n other = (n.0, word_step t i d (omega (arith, h)) n.1 other)

pub word_split : (t : List ℕ) (i d : ℕ) → i < length t → get_or t i d ≡ 32 → t ≡ take i t ++ 32 ∷ drop (suc i) t
word_split t i d h e = sym (take-append-drop i t) ∙ ap (λ r. take i t ++ r) (drop-cons t i d h ∙ ap (λ b. b ∷ drop (suc i) t) e)

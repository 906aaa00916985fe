-- What follows a front.
use Rattle.std.proofs.Common.{◌≡◌, ◌≢◌, ℕ, suc, ◌+◌, ◌<◌, Bool, true, false, cond, List, [], ◌∷◌, ◌++◌, length, drop, Option, Some, None, refl, sym, ap, ◌∙◌, arith, ◌==◌, get_or, drop-cons, add-one, length-append}
use Rattle.std.proofs.lemmas.Bool.{eqb-true, eq-eqb}
use Rattle.std.specs.List.{flat_map}
use Rattle.bz_model.specs.Traces.{byte_form}
use Rattle.bz_trace_text.specs.Reading.{strip, ◌>>=◌}

pub none-some : {A : Type 0} (x : A) → None ≡ Some x → ⊥
none-some x e = cc

differ_eqb : (a b : ℕ) → a ≢ b → (a == b) ≡ false
differ_eqb a b n = elim (a == b) as (λ x. (a == b) ≡ x → x ≡ false) [
  | true ↦ λ e. absurd (n (eqb-true a b e))
  | false ↦ λ e. refl
] refl

pub strip_again : (p t : List ℕ) → strip p (p ++ t) ≡ Some t
unfolding strip
strip_again [] t = refl
strip_again (a ∷ p) t = rw (eq-eqb a a refl) (strip_again p t)

strip_cons : (b : Bool) (a c : ℕ) (p t r : List ℕ) → (b ≡ true → a ≡ c) → (strip p t ≡ Some r → t ≡ p ++ r) → cond b (strip p t) None ≡ Some r → (c ∷ t) ≡ (a ∷ p) ++ r
strip_cons true a c p t r same rest e = let x = same refl in let y = rest e in cc
strip_cons false a c p t r same rest e = absurd (none-some r e)

pub strip_takes : (p t r : List ℕ) → strip p t ≡ Some r → t ≡ p ++ r
unfolding strip
strip_takes [] t r e = cc
strip_takes (a ∷ p) [] r e = absurd (none-some r e)
strip_takes (a ∷ p) (b ∷ t) r e = strip_cons (a == b) a b p t r (eqb-true a b) (strip_takes p t r) e

bind_cond : (b : Bool) (o : Option (List ℕ)) (f : List ℕ → Option (List ℕ)) → cond b (o >>= f) None ≡ (cond b o None >>= f)
bind_cond true o f = refl
bind_cond false o f = refl

pub strip_append : (p q t : List ℕ) → strip (p ++ q) t ≡ (strip p t >>= strip q)
unfolding strip
strip_append [] q t = refl
strip_append (a ∷ p) q [] = refl
strip_append (a ∷ p) q (b ∷ t) = ap (λ o. cond (a == b) o None) (strip_append p q t) ∙ bind_cond (a == b) (strip p t) (strip q)

-- a text that is shorter than a front doesn't have it
pub strip_short : (p t : List ℕ) (o : Option (List ℕ)) → strip p t ≡ o → length t < length p → o ≡ None
strip_short p t None e h = refl
strip_short p t (Some r) e h = let long = ap length (strip_takes p t r e) ∙ length-append p r in absurd (omega (arith, long, h))

-- one byte of a front more
pub strip_step : (p t : List ℕ) (i : ℕ) → i < length p → i < length t → strip (drop i p) (drop i t) ≡ cond (get_or p i 0 == get_or t i 0) (strip (drop (suc i) p) (drop (suc i) t)) None
unfolding strip
strip_step p t i h g = rw (drop-cons p i 0 h, drop-cons t i 0 g) refl

pub strip_same : (p t : List ℕ) (i : ℕ) → i < length p → i < length t → get_or t i 0 ≡ get_or p i 0 → strip (drop i p) (drop i t) ≡ strip (drop (suc i) p) (drop (suc i) t)
strip_same p t i h g e = rw (strip_step p t i h g, eq-eqb (get_or p i 0) (get_or t i 0) (sym e)) refl

pub strip_differs : (p t : List ℕ) (i : ℕ) → i < length p → i < length t → get_or t i 0 ≢ get_or p i 0 → strip (drop i p) (drop i t) ≡ None
strip_differs p t i h g n = rw (strip_step p t i h g, differ_eqb (get_or p i 0) (get_or t i 0) (λ e. n (sym e))) refl

-- one byte of a name more, and what follows it or not
pub name_step : (bs : List ℕ) (i : ℕ) (t : List ℕ) (o : Option (List ℕ)) → i < length bs → strip (byte_form (get_or bs i 0)) t ≡ o
    → strip (flat_map byte_form (drop i bs)) t ≡ (o >>= strip (flat_map byte_form (drop (i + 1) bs)))
name_step bs i t o h e =
    rw (add-one i) (ap (λ s. strip (flat_map byte_form s) t) (drop-cons bs i 0 h) ∙ strip_append (byte_form (get_or bs i 0)) (flat_map byte_form (drop (suc i) bs)) t ∙ ap (λ q. q >>= strip (flat_map byte_form (drop (suc i) bs))) e)

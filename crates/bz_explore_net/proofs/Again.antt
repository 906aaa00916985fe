-- Firings that lead back to where they began.
use Rattle.std.proofs.Common.{◌≡◌, ℕ, zero, suc, ◌+◌, ◌*◌, List, [], ◌∷◌, ◌++◌, refl, sym, subst, arith}
use Rattle.std.proofs.Math.Nat.{suc-mul}
use Rattle.bz_model.specs.declared.event.Who.{Who}
use Rattle.bz_model.specs.declared.event.Entry.{Entry}
use Rattle.bz_model.specs.declared.event.Entry.TheVariants.{Fired, Host, Rested}
use Rattle.bz_model.specs.Nets.{Site, State}
use Rattle.bz_model.specs.Plays.{Firings}
use Rattle.bz_explore_net.specs.Rounds.{IsRound, repeated}

none_more : (k : ℕ) → k ≡ 0 + k
none_more k = omega arith

one_more : (n k : ℕ) → suc (n + k) ≡ suc n + k
one_more n k = omega arith

no_times : (n : ℕ) → 0 ≡ 0 * n
no_times n = omega arith

pub firings_append : (sites : List Site) (who : Who) (s : State) (from n : ℕ) (es : List Entry) (to : ℕ) (m : State) (k : ℕ) (fs : List Entry) (end : ℕ) (last : State) → Firings sites who s from n es to m → Firings sites who m to k fs end last → Firings sites who s from (n + k) (es ++ fs) end last
firings_append sites who s from zero [] to m k fs end last f g =
    subst (λ (t : ℕ). Firings sites who s from t fs end last) (none_more k)
    (subst (λ (x : State). Firings sites who x from k fs end last) f.2 (subst (λ (i : ℕ). Firings sites who m i k fs end last) f.1 g))
firings_append sites who s from zero (e ∷ es) to m k fs end last f g = cc
firings_append sites who s from (suc n) [] to m k fs end last f g = absurd f
firings_append sites who s from (suc n) (Fired by c p j mv value ∷ es) to m k fs end last f g =
    subst (λ (t : ℕ). Firings sites who s from t (Fired by c p j mv value ∷ (es ++ fs)) end last) (one_more n k)
    (f.0, f.1, f.2, (f.3.0, f.3.1, firings_append sites who f.3.0 (c + 1) n es to m k fs end last f.3.2 g))
firings_append sites who s from (suc n) (Host by verb port value answer ∷ es) to m k fs end last f g = absurd f
firings_append sites who s from (suc n) (Rested by ∷ es) to m k fs end last f g = absurd f

pub round_again : (sites : List Site) (who : Who) (s : State) (from n : ℕ) (es : List Entry) → IsRound sites who s from n es → (k : ℕ) → Firings sites who s from (k * n) (repeated k es) from s
round_again sites who s from n es round zero = subst (λ (t : ℕ). Firings sites who s from t [] from s) (no_times n) (refl, refl, refl)
round_again sites who s from n es round (suc k) =
    subst (λ (t : ℕ). Firings sites who s from t (repeated k es ++ es) from s) (sym (suc-mul k n))
    (firings_append sites who s from (k * n) (repeated k es) from s n es from s (round_again sites who s from n es round k) round)

-- Who stands at the ends of a channel, and how the place of a wait goes on.
use Rattle.std.proofs.Common.{◌≡◌, ℕ, Bool, true, false, not, Option, Some, None, List, [], ◌∷◌, get_or, inl, inr, refl, sym, subst}
use Rattle.std.specs.Prelude.{IfOk, Result, Ok, Err, unwrap_or}
use Rattle.bz_model.specs.declared.channel.Move.{Move}
use Rattle.bz_model.specs.Nets.{Site, State}
use Rattle.bz_net.specs.Ends.{StandsAt, TellsEnds}
use Rattle.bz_waits.specs.declared.wait.Place.{Place}
use Rattle.bz_waits.specs.declared.wait.Place.TheVariants.{Each, First, Other}
use Rattle.bz_waits.specs.Adding.{next_place}
use Rattle.bz_waits.specs.Waiting.{IsAtEnd, IsPlace}

active_told : (sites : List Site) (k : ℕ) (ends : List (Option ℕ)) → TellsEnds sites k ends → StandsAt sites k false (get_or ends 0 None)
active_told sites k [] told = absurd told
active_told sites k (a ∷ []) told = absurd told
active_told sites k (a ∷ b ∷ []) told = told.0
active_told sites k (a ∷ b ∷ c ∷ ends) told = absurd told

passive_told : (sites : List Site) (k : ℕ) (ends : List (Option ℕ)) → TellsEnds sites k ends → StandsAt sites k true (get_or ends 1 None)
passive_told sites k [] told = absurd told
passive_told sites k (a ∷ []) told = absurd told
passive_told sites k (a ∷ b ∷ []) told = told.1
passive_told sites k (a ∷ b ∷ c ∷ ends) told = absurd told

at_end : (sites : List Site) (k : ℕ) (side : Bool) (o : Option ℕ) → StandsAt sites k side o → IsAtEnd sites k side (unwrap_or o 0)
at_end sites k side None stands = inl (refl, stands)
at_end sites k side (Some c) stands = inr stands

module _ (sites : List Site) (k j : ℕ) (passive : Bool) (ends : List (Option ℕ)) (r : ℕ) (told : TellsEnds sites k ends) (chan : k ≡ j) where
  -- at a passive port the other end is the active one, and the other way round
  pub other_active : passive ≡ true → r ≡ unwrap_or (get_or ends 0 None) 0 → IsAtEnd sites j (not passive) r
  other_active is at =
      subst (λ n. IsAtEnd sites n (not passive) r) chan (subst (λ b. IsAtEnd sites k (not b) r) (sym is)
      (subst (IsAtEnd sites k false) (sym at) (at_end sites k false (get_or ends 0 None) (active_told sites k ends told))))

  pub other_passive : passive ≡ false → r ≡ unwrap_or (get_or ends 1 None) 0 → IsAtEnd sites j (not passive) r
  other_passive is at =
      subst (λ n. IsAtEnd sites n (not passive) r) chan (subst (λ b. IsAtEnd sites k (not b) r) (sym is)
      (subst (IsAtEnd sites k true) (sym at) (at_end sites k true (get_or ends 1 None) (passive_told sites k ends told))))

pub place_goes_on : (sites : List Site) (s : State) (c : ℕ) (due : Move) (place : Place) → IsPlace sites s c due place → IsPlace sites s c due (next_place place)
place_goes_on sites s c due Each is = is
place_goes_on sites s c due First is = is
place_goes_on sites s c due Other is = is

pub if_ok : {A E : Type 0} (P Q : Type 0) (r : Result A E) → IfOk r (λ _. P) → (P → Q) → IfOk r (λ _. Q)
if_ok P Q (Ok a) is then = then is
if_ok P Q (Err e) is then = is

-- Members of a set, counted from below, and moves that are picked one after another.
use Rattle.std.proofs.Common.{◌≡◌, ◌⊎◌, ℕ, zero, suc, ◌+◌, ◌<◌, ◌≤◌, Option, List, [], ◌∷◌, ◌++◌, append_assoc, inl, inr, refl, rules, sym, ap, subst, ◌∙◌, arith, add-one}
use Rattle.std.proofs.lemmas.Bool.{cases_lt}
use Rattle.bz_model.specs.declared.channel.Move.{Move}
use Rattle.bz_model.specs.declared.event.Who.{Who}
use Rattle.bz_model.specs.declared.event.Entry.{Entry}
use Rattle.bz_model.specs.declared.event.Entry.TheVariants.{Fired, Host, Rested}
use Rattle.bz_model.specs.declared.event.NetError.{NetError}
use Rattle.bz_model.specs.declared.event.NetError.TheVariants as error
use Rattle.bz_model.specs.Nets.{Site, State, Step, StepsAt, Wiring}
use Rattle.bz_model.specs.Runs.{Rest}
use Rattle.bz_net.specs.Replies.{IsFiring, IsPicked, RefusesEntry, RefusesFire}
use Rattle.bz_net.specs.Simulation.{Adds, Simulation}
use Rattle.bz_explore_net.specs.Picking.{after, Below, IsPlace, HasMembers, IsPick, IsPickedEntry, Picks, PlaysPicks}

lt_or_is : (a b : ℕ) → a < suc b → (a < b) ⊎ (a ≡ b)
lt_or_is a b to = elim (cases_lt a b) [
  | inl less ↦ inl less
  | inr least ↦ inr (omega (arith, to, least))
]

module _ (P : ℕ → Type 0) where
  pub below_sole : (n a b : ℕ) → Below P n a → Below P n b → a ≡ b
  below_sole zero a b x y = x ∙ sym y
  below_sole (suc n) a b (inl (is, (k, more, x))) (inl (is', (j, more', y))) = more ∙ ap suc (below_sole n k j x y) ∙ sym more'
  below_sole (suc n) a b (inl (is, (k, more, x))) (inr (none, y)) = absurd (none is)
  below_sole (suc n) a b (inr (none, x)) (inl (is, (k, more, y))) = absurd (none is)
  below_sole (suc n) a b (inr (none, x)) (inr (none', y)) = below_sole n a b x y

  -- there is none in a piece
  pub below_past : (c d count : ℕ) → c ≤ d → ((k : ℕ) → c ≤ k → k < d → P k → ⊥) → Below P c count → Below P d count
  below_past c zero count le none x = let same : c ≡ zero = omega (arith, le) in subst (λ n. Below P n count) same x
  below_past c (suc d) count le none x = elim (cases_lt d c) [
    | inl less ↦ let same : c ≡ suc d = omega (arith, le, less) in subst (λ n. Below P n count) same x
    | inr least ↦ inr (none d least (omega arith), below_past c d count least (λ k lo hi. none k lo (omega (arith, hi))) x)
  ]

  pub below_some : (n k : ℕ) → k < n → P k → Below P n 0 → ⊥
  below_some zero k lt is x = omega (arith, lt)
  below_some (suc n) k lt is (inl (is', (j, more, x))) = omega (arith, more)
  below_some (suc n) k lt is (inr (none, x)) = elim (lt_or_is k n lt) [
    | inl less ↦ below_some n k less is x
    | inr same ↦ none (subst P same is)
  ]

  pub has_some : (c n : ℕ) → P c → HasMembers P n → 0 < n
  has_some c zero is (bound, within, below) = absurd (below_some bound c (within c is) is below)
  has_some c (suc n) is has = omega arith

  pub members_sole : (a b : ℕ) → HasMembers P a → HasMembers P b → a ≡ b
  members_sole a b (n, within, x) (m, within', y) =
      below_sole (n + m) a b
      (below_past n (n + m) a (omega arith) (λ k lo hi is. let lt = within k is in omega (arith, lo, lt)) x)
      (below_past m (n + m) b (omega arith) (λ k lo hi is. let lt = within' k is in omega (arith, lo, lt)) y)

  -- none is among none
  pub has_none : HasMembers P 0 → (c : ℕ) → P c → ⊥
  has_none (bound, within, below) c is = below_some bound c (within c is) is below

-- members of one set are counted as those of another that has the same
module _ (P Q : ℕ → Type 0) (to : (k : ℕ) → P k → Q k) (back : (k : ℕ) → Q k → P k) where
  below_along : (n count : ℕ) → Below P n count → Below Q n count
  below_along zero count x = x
  below_along (suc n) count (inl (is, (less, more, x))) = inl (to n is, (less, more, below_along n less x))
  below_along (suc n) count (inr (none, x)) = inr ((λ q. none (back n q)), below_along n count x)

  pub place_along : (place c : ℕ) → IsPlace P place c → IsPlace Q place c
  place_along place c (is, below) = (to c is, below_along c place below)

  pub members_along : (count : ℕ) → HasMembers P count → HasMembers Q count
  members_along count (bound, within, below) = (bound, (λ k q. within k (back k q)), below_along bound count below)

-- one move more
Picks-push : (sites : List Site) (who : Who) (s : State) (picker n : ℕ) (es : List Entry) (m : State) (picker' c p k : ℕ) (mv : Move) (value : Option ℕ) (next : State) → Picks sites who s picker n es m picker' → IsPick sites m picker' c p → Step sites m c p k mv value next → Picks sites who s picker (suc n) (es ++ Fired who c p k mv value ∷ []) next (after (after picker'))
Picks-push sites who s picker zero [] m picker' c p k mv value next (is, state, same) pick step =
    (refl, subst (λ g. IsPick sites s g c p) same (subst (λ t. IsPick sites t picker' c p) state pick), (next, subst (λ t. Step sites t c p k mv value next) state step, (refl, refl, ap (λ g. after (after g)) same)))
Picks-push sites who s picker zero (e ∷ es) m picker' c p k mv value next (is, state, same) pick step = cc
Picks-push sites who s picker (suc n) [] m picker' c p k mv value next f pick step = absurd f
Picks-push sites who s picker (suc n) (Fired who' d q j mv' value' ∷ es) m picker' c p k mv value next f pick step =
    (f.0, f.1, (f.2.0, f.2.1, Picks-push sites who f.2.0 (after (after picker)) n es m picker' c p k mv value next f.2.2 pick step))
Picks-push sites who s picker (suc n) (Host who' verb port value' reply ∷ es) m picker' c p k mv value next f pick step = absurd f
Picks-push sites who s picker (suc n) (Rested who' ∷ es) m picker' c p k mv value next f pick step = absurd f

pub picks_none : (net : Simulation) (who : Who) (picker : ℕ) → PlaysPicks net net who 0 picker picker
picks_none net who picker = record { entries = []; journal = search rules; picks = (refl, refl, refl); wiring = refl; limit = refl }

pub picks_more : (old mid new : Simulation) (who who' : Who) (n picker g h c p k : ℕ) (mv : Move) (value : Option ℕ) → PlaysPicks old mid who n picker g → IsPickedEntry mid who g h (Fired who' c p k mv value) → Adds mid (Fired who' c p k mv value) new → PlaysPicks old new who (n + 1) picker h
picks_more old mid new who who' n picker g h c p k mv value plays picked adds =
    let e : Entry = Fired who c p k mv value in
    let same : Fired who' c p k mv value ≡ e = ap (λ o. Fired o c p k mv value) picked.0 in
    record {
      entries = plays.entries ++ e ∷ [];
      journal = adds.journal ∙ (ap (λ xs. xs ++ Fired who' c p k mv value ∷ []) plays.journal ∙ (append_assoc old.journal plays.entries (Fired who' c p k mv value ∷ []) ∙ ap (λ x. old.journal ++ (plays.entries ++ x ∷ [])) same));
      picks =
          subst (λ g'. Picks old.wiring.sites who old.state picker (n + 1) (plays.entries ++ e ∷ []) new.state g') (sym picked.2)
          (rw add-one (Picks-push old.wiring.sites who old.state picker n plays.entries mid.state g c p k mv value new.state plays.picks
          (subst (λ (w : Wiring). IsPick w.sites mid.state g c p) plays.wiring picked.1)
          (subst (λ (w : Wiring). Step w.sites mid.state c p k mv value new.state) plays.wiring adds.follows)));
      wiring = adds.wiring ∙ plays.wiring;
      limit = adds.limit ∙ plays.limit;
    }

-- where none can move, a step notes it
pub rest_picked : (net : Simulation) (who : Who) (picker : ℕ) (e : Entry) → Rest net.wiring.sites net.state → IsPicked net who 1 e → IsPickedEntry net who picker picker e
rest_picked net who picker (Fired who' c p k mv value) rest picked = absurd (rest c picked.1.is_in)
rest_picked net who picker (Host who' verb port value reply) rest picked = picked
rest_picked net who picker (Rested who') rest picked = (picked, refl)

-- the firing of what is picked
pub fired_picked : (net : Simulation) (who : Who) (g h c p : ℕ) (e : Entry) → IsPick net.wiring.sites net.state g c p → h ≡ after (after g) → IsFiring who c p e → IsPickedEntry net who g h e
fired_picked net who g h c p (Fired who' c' p' k mv value) pick is (same, comp, port) =
    (same, subst (λ x. IsPick net.wiring.sites net.state g x p') (sym comp) (subst (λ y. IsPick net.wiring.sites net.state g c y) (sym port) pick), is)
fired_picked net who g h c p (Host who' verb port value reply) pick is firing = firing
fired_picked net who g h c p (Rested who') pick is firing = absurd firing

-- a step that is there can only want a place for its entry
pub wants_place : (net : Simulation) (c p : ℕ) (e : NetError) → StepsAt net.wiring.sites net.state c p → RefusesFire net c p e → RefusesEntry net e
wants_place net c p error.NotEnabled steps r = absurd (r steps)
wants_place net c p error.JournalFull steps r = r.1
wants_place net c p error.Memory steps r = r.1
wants_place net c p error.UnknownPort steps r = absurd r
wants_place net c p error.WrongSide steps r = absurd r
wants_place net c p error.ValueMissing steps r = absurd r
wants_place net c p error.ValueUnwanted steps r = absurd r
wants_place net c p error.TooLarge steps r = absurd r

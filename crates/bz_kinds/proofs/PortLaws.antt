-- States and the numbers that they are kept as.
use Rattle.std.proofs.Common.{◌≡◌, ◌≢◌, ◌⊎◌, inl, inr, ℕ, zero, suc, ◌+◌, ◌-◌, ◌*◌, ◌%◌, ◌<◌, ◌≤◌, Bool, true, false, ◌&&◌, List, ◌∷◌, length, get_or, set, map, refl, ap, sym, subst, ◌∙◌, arith}
use Rattle.std.specs.Prelude.{if◌then◌else◌, nat_le, nat_lt, not, replicate, MatchBool}
use Rattle.std.proofs.lemmas.Bool.{cases_lt, false≢true, le-leb, lt-leb, lt-ltb, le-ltb}
use Rattle.std.proofs.Math.ListN.{get_or-map}
use Rattle.std.proofs.lemmas.List.{length-map, map-set, get_or_past}
use Rattle.bz_bits.specs.PortWords.{between, HasOdd, IsEven}
use Rattle.bz_kinds.specs.declared.ports.PortState.{PortState}
use Rattle.bz_kinds.specs.declared.ports.PortState.TheVariants.{Closed, ClosedDue, Open, OpenDue}
use Rattle.bz_kinds.specs.Ports.{state_at, state_of, number_of, is_due, NoneDueIn, SomeDueIn}

pub state_number : (s : PortState) → state_of (number_of s) ≡ s
state_number Closed = refl
state_number ClosedDue = refl
state_number Open = refl
state_number OpenDue = refl

pub state_map : (xs : List ℕ) (p : ℕ) → state_at (map state_of xs) p ≡ state_of (get_or xs p 0)
state_map xs p = get_or-map state_of xs p 0

pub closed_all : (n : ℕ) → map state_of (replicate n 0) ≡ replicate n Closed
closed_all zero = refl
closed_all (suc n) = ap (λ w. Closed ∷ w) (closed_all n)

-- one port is put into a state
pub state_set : (xs : List ℕ) (p x : ℕ) (s : PortState) → x ≡ number_of s → map state_of (set xs p x) ≡ set (map state_of xs) p s
state_set xs p x s e = map-set state_of xs p x ∙ ap (λ t. set (map state_of xs) p t) (ap state_of e ∙ state_number s)

-- what the number of a state is
number_closed : (n : ℕ) → state_of n ≡ Closed → n ≡ 0
number_closed zero e = refl
number_closed (suc zero) e = absurd (cc)
number_closed (suc (suc zero)) e = absurd (cc)
number_closed (suc (suc (suc n))) e = absurd (cc)

number_closed_due : (n : ℕ) → state_of n ≡ ClosedDue → n ≡ 1
number_closed_due zero e = absurd (cc)
number_closed_due (suc zero) e = refl
number_closed_due (suc (suc zero)) e = absurd (cc)
number_closed_due (suc (suc (suc n))) e = absurd (cc)

number_open : (n : ℕ) → state_of n ≡ Open → n ≡ 2
number_open zero e = absurd (cc)
number_open (suc zero) e = absurd (cc)
number_open (suc (suc zero)) e = refl
number_open (suc (suc (suc n))) e = absurd (cc)

number_open_due : (n : ℕ) → state_of n ≡ OpenDue → 3 ≤ n
number_open_due zero e = absurd (cc)
number_open_due (suc zero) e = absurd (cc)
number_open_due (suc (suc zero)) e = absurd (cc)
number_open_due (suc (suc (suc n))) e = omega arith

-- the numbers xs stand for the states w, and port p is in state a
module _ (xs : List ℕ) (w : List PortState) (view : map state_of xs ≡ w) (p : ℕ) where
  number_state : (a : PortState) → state_at w p ≡ a → state_of (get_or xs p 0) ≡ a
  number_state a e = sym (state_map xs p) ∙ ap (λ (v : List PortState). state_at v p) view ∙ e

  put_as : (x : ℕ) (b : PortState) → state_of x ≡ b → map state_of (set xs p x) ≡ set w p b
  put_as x b e = map-set state_of xs p x ∙ ap (λ (v : List PortState). set v p (state_of x)) view ∙ ap (λ t. set w p t) e

  pub port_held : (a : PortState) → state_at w p ≡ a → a ≢ Closed → p < length xs
  port_held a e ne = elim (cases_lt p (length xs)) [ inl lt ↦ lt | inr past ↦ absurd (ne (sym (number_state a e) ∙ ap state_of (get_or_past xs p 0 past))) ]

  pub even_closed : state_at w p ≡ Closed → get_or xs p 0 % 2 ≡ 0
  even_closed e = ap (λ (n : ℕ). n % 2) (number_closed (get_or xs p 0) (number_state Closed e))

  pub even_open : state_at w p ≡ Open → get_or xs p 0 % 2 ≡ 0
  even_open e = ap (λ (n : ℕ). n % 2) (number_open (get_or xs p 0) (number_state Open e))

  -- its number is changed by 2
  pub turned_open : state_at w p ≡ ClosedDue → map state_of (set xs p ((get_or xs p 0 + 2) % 4)) ≡ set w p OpenDue
  turned_open e = put_as _ OpenDue (ap (λ (n : ℕ). state_of ((n + 2) % 4)) (number_closed_due (get_or xs p 0) (number_state ClosedDue e)))

  pub turned_closed : state_at w p ≡ OpenDue → get_or xs p 0 < 4 → map state_of (set xs p ((get_or xs p 0 + 2) % 4)) ≡ set w p ClosedDue
  turned_closed e small =
      let three : get_or xs p 0 ≡ 3 = omega (arith, small, number_open_due (get_or xs p 0) (number_state OpenDue e)) in
      put_as _ ClosedDue (ap (λ (n : ℕ). state_of ((n + 2) % 4)) three)

  -- it is taken from 3
  pub flipped_open : state_at w p ≡ ClosedDue → map state_of (set xs p (3 - get_or xs p 0)) ≡ set w p Open
  flipped_open e = put_as _ Open (ap (λ (n : ℕ). state_of (3 - n)) (number_closed_due (get_or xs p 0) (number_state ClosedDue e)))

  pub flipped_closed : state_at w p ≡ OpenDue → map state_of (set xs p (3 - get_or xs p 0)) ≡ set w p Closed
  flipped_closed e =
      let none : 3 - get_or xs p 0 ≡ 0 = omega (arith, number_open_due (get_or xs p 0) (number_state OpenDue e)) in
      put_as _ Closed (ap state_of none)

-- and then that of another port is made odd
module _ (xs : List ℕ) (w : List PortState) (view : map state_of xs ≡ w) (p q x : ℕ) (b : PortState) (first : map state_of (set xs p x) ≡ set w p b) where
  pub passed_closed : state_at w q ≡ Closed → map state_of (set (set xs p x) q (get_or xs q 0 + 1)) ≡ set (set w p b) q ClosedDue
  passed_closed e = put_as (set xs p x) (set w p b) first q _ ClosedDue (ap (λ (n : ℕ). state_of (n + 1)) (number_closed (get_or xs q 0) (number_state xs w view q Closed e)))

  pub passed_open : state_at w q ≡ Open → map state_of (set (set xs p x) q (get_or xs q 0 + 1)) ≡ set (set w p b) q OpenDue
  passed_open e = put_as (set xs p x) (set w p b) first q _ OpenDue (ap (λ (n : ℕ). state_of (n + 1)) (number_open (get_or xs q 0) (number_state xs w view q Open e)))

-- two ports in different states are different
pub other_port : (w : List PortState) (p q : ℕ) (a b : PortState) → state_at w p ≡ a → state_at w q ≡ b → a ≢ b → p ≢ q
other_port w p q a b e f ne same = ne (sym e ∙ ap (state_at w) same ∙ f)

-- the ports between two are put into a state
pub state_fill : (xs ys : List ℕ) (from to x : ℕ) (s : PortState) → x ≡ number_of s → ((p : ℕ) → get_or ys p 0 ≡ (if between from to p then x else get_or xs p 0)) → (p : ℕ) → state_at (map state_of ys) p ≡ (if between from to p then s else state_at (map state_of xs) p)
state_fill xs ys from to x s e each p =
    state_map ys p ∙ ap state_of (each p) ∙ choose (between from to p)
  where
    choose : (b : Bool) → state_of (if b then x else get_or xs p 0) ≡ (if b then s else state_at (map state_of xs) p)
    choose true = ap state_of e ∙ state_number s
    choose false = sym (state_map xs p)

pub none_due_in : (xs : List ℕ) (k : ℕ) → IsEven xs k → NoneDueIn (map state_of xs) k
none_due_in xs k even = record {
  word = even.word;
  each = λ i lt. ap state_of (even.each i lt) ∙ sym (state_map xs (64 * k + i));
  none_due = even.none_due;
}

pub some_due_in : (xs : List ℕ) (k : ℕ) → (length xs ≤ 64 * k) ⊎ HasOdd xs k → (length (map state_of xs) ≤ 64 * k) ⊎ SomeDueIn (map state_of xs) k
some_due_in xs k (inl past) = inl (let l = length-map xs state_of in omega arith)
some_due_in xs k (inr odd) = inr (record {
  place = odd.place;
  within = odd.within;
  due = ap is_due (state_map xs (64 * k + odd.place)) ∙ due odd.odd;
})
  where
    due : (get_or xs (64 * k + odd.place) 0 ≡ 1) ⊎ (get_or xs (64 * k + odd.place) 0 ≡ 3) → is_due (state_of (get_or xs (64 * k + odd.place) 0)) ≡ true
    due (inl e) = ap (λ a. is_due (state_of a)) e
    due (inr e) = ap (λ a. is_due (state_of a)) e

-- what stands before, within and after the ports that were filled
module _ (old new : List PortState) (from to : ℕ) (s : PortState) (filled : (p : ℕ) → get_or new p Closed ≡ (if between from to p then s else get_or old p Closed)) where
  no_and : (b : Bool) → (b && false) ≡ false
  no_and true = refl
  no_and false = refl

  pub filled_before : (p : ℕ) → p < from → get_or new p Closed ≡ get_or old p Closed
  filled_before p lt = filled p ∙ ap (λ (b : Bool). if b && nat_lt p to then s else get_or old p Closed) (lt-leb from p lt)

  pub filled_after : (p : ℕ) → to ≤ p → get_or new p Closed ≡ get_or old p Closed
  filled_after p le = filled p ∙ ap (λ (b : Bool). if b then s else get_or old p Closed) (ap (λ (b : Bool). nat_le from p && b) (le-ltb p to le) ∙ no_and (nat_le from p))

  pub filled_from : (p : ℕ) → from ≤ p → p < to → get_or new p Closed ≡ s
  filled_from p le lt = filled p ∙ ap (λ (b : Bool). if b && nat_lt p to then s else get_or old p Closed) (le-leb from p le) ∙ ap (λ (b : Bool). if b then s else get_or old p Closed) (lt-ltb p to lt)

-- a port at which a move is due is not in the state of one that is idle
pub begins_up : (a : PortState) → a ≡ ClosedDue → a ≢ Closed
begins_up a e z = absurd (let f : ClosedDue ≡ Closed = sym e ∙ z in cc)

pub ends_up : (a : PortState) → a ≡ OpenDue → a ≢ Closed
ends_up a e z = absurd (let f : OpenDue ≡ Closed = sym e ∙ z in cc)

pub closed_or : (a : PortState) → (a ≡ Closed) ⊎ (a ≢ Closed)
closed_or Closed = inl refl
closed_or ClosedDue = inr (begins_up ClosedDue refl)
closed_or Open = inr (λ z. cc)
closed_or OpenDue = inr (ends_up OpenDue refl)

-- the move that is due at a port opens it where the port's number is not 2 or 3
pub opens_next : (xs : List ℕ) (p : ℕ) (high : Bool) → high ≡ nat_le 2 (get_or xs p 0) → is_due (state_at (map state_of xs) p) ≡ true → MatchBool (not high) (state_at (map state_of xs) p ≡ ClosedDue) (state_at (map state_of xs) p ≡ OpenDue)
opens_next xs p high e due =
    let same = state_map xs p in
    subst (λ (a : PortState). MatchBool (not high) (a ≡ ClosedDue) (a ≡ OpenDue)) (sym same) (by_number (get_or xs p 0) high e (sym (ap is_due same) ∙ due))
  where
    by_number : (n : ℕ) (high : Bool) → high ≡ nat_le 2 n → is_due (state_of n) ≡ true → MatchBool (not high) (state_of n ≡ ClosedDue) (state_of n ≡ OpenDue)
    by_number zero high e due = absurd (false≢true due)
    by_number (suc zero) high e due = subst (λ (b : Bool). MatchBool (not b) (ClosedDue ≡ ClosedDue) (ClosedDue ≡ OpenDue)) (sym e) refl
    by_number (suc (suc zero)) high e due = absurd (false≢true due)
    by_number (suc (suc (suc n))) high e due = subst (λ (b : Bool). MatchBool (not b) (OpenDue ≡ ClosedDue) (OpenDue ≡ OpenDue)) (sym (e ∙ le-leb 2 (suc (suc (suc n))) (omega arith))) refl

-- a port that is closed with a move due has the number 1
to_open_one : (n : ℕ) → state_of n ≡ ClosedDue → n ≡ 1
to_open_one zero e = absurd (cc)
to_open_one (suc zero) e = refl
to_open_one (suc (suc zero)) e = absurd (cc)
to_open_one (suc (suc (suc n))) e = absurd (cc)

pub not_to_open : (ns : List ℕ) (w : List PortState) → map state_of ns ≡ w → (p : ℕ) → get_or ns p 0 ≢ 1 → state_at w p ≢ ClosedDue
not_to_open ns w view p not e = not (to_open_one (get_or ns p 0) (sym (state_map ns p) ∙ ap (λ (v : List PortState). state_at v p) view ∙ e))

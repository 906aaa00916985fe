-- What each move of a Bar leaves.
use Rattle.std.proofs.Common.{◌≡◌, ◌≢◌, inl, inr, ℕ, zero, suc, ◌+◌, ◌-◌, ◌<◌, ◌≤◌, true, false, List, length, get_or, set, refl, ap, sym, ◌∙◌, arith}
use Rattle.std.specs.Prelude.{nat_eq}
use Rattle.std.proofs.lemmas.Bool.{cases_eq, cases_lt, eq-eqb, ne_eqb}
use Rattle.std.proofs.lemmas.List.{get_or-set_same, get_or-set_other}
use Rattle.std.proofs.Math.ListN.{length-set}
use Rattle.bz_model.specs.Terms.{Store, Term, par, no_terms, term, first_one}
use Rattle.bz_model.specs.Heads.{Head, tidy, is_done}
use Rattle.bz_model.specs.Processes.{after, both}
use Rattle.bz_kinds.specs.declared.ports.PortState.{PortState}
use Rattle.bz_kinds.specs.declared.ports.PortState.TheVariants.{Closed, ClosedDue, Open, OpenDue}
use Rattle.bz_kinds.specs.Row.{is_open, Toggles}
use Rattle.bz_kinds.specs.Together.{busy, IsLegState}
use Rattle.bz_kinds.specs.Bar.{leg_left, side_left, IsQuiet, IsBusy, IsSide, busy_of, out, guard, activate, IsPlace, Steps}
use Rattle.bz_kinds.proofs.PortLaws.{begins_up, ends_up, closed_or}
use Rattle.bz_kinds.proofs.Opening.{Keeps, keeps-set, toggles-set, toggles-then, keeps-then}
use Rattle.bz_kinds.proofs.BarLaws.{OfSide, take_head, reply_head, ask_head, got_head, opened-busy, opened-over, side-has, side-tidy, side-busy, side-same, still-side, take-leaves, ask-leaves, got-leaves, waits, whole_guard, whole_active, one-head}

-- counting

pub busy-same : (n : ℕ) (f g : ℕ → PortState) → ((i : ℕ) → i < n → g i ≡ f i) → busy_of n f ≡ busy_of n g
busy-same zero f g e = refl
busy-same (suc n) f g e =
    let a = ap busy (e n (omega arith)) in
    let r = busy-same n f g (λ i lt. e i (omega arith)) in
    omega arith

pub busy-changed : (n : ℕ) (f g : ℕ → PortState) (i : ℕ) → i < n → ((j : ℕ) → j < n → j ≢ i → g j ≡ f j) → busy_of n g + busy (f i) ≡ busy_of n f + busy (g i)
busy-changed zero f g i lt e = absurd (omega arith)
busy-changed (suc n) f g i lt e = elim (cases_eq i n) [
  | inl is ↦
      let r = busy-same n f g (λ j below. e j (omega arith) (omega arith)) in
      rw is (omega arith)
  | inr ne ↦
      let a = ap busy (e n (omega arith) (omega arith)) in
      let r = busy-changed n f g i (omega arith) (λ j below far. e j (omega arith) far) in
      omega arith
]

pub busy-ones : (n : ℕ) (f : ℕ → PortState) → ((i : ℕ) → i < n → f i ≡ ClosedDue) → busy_of n f ≡ n
busy-ones zero f e = refl
busy-ones (suc n) f e =
    let a = ap busy (e n (omega arith)) in
    let r = busy-ones n f (λ i lt. e i (omega arith)) in
    omega arith

busy-none : (a : PortState) → busy a ≡ 0 → a ≡ Closed
busy-none Closed e = refl
busy-none ClosedDue e = absurd (omega arith)
busy-none Open e = absurd (omega arith)
busy-none OpenDue e = absurd (omega arith)

pub busy-zero : (n : ℕ) (f : ℕ → PortState) → busy_of n f ≡ 0 → (i : ℕ) → i < n → f i ≡ Closed
busy-zero zero f e i lt = absurd (omega arith)
busy-zero (suc n) f e i lt = elim (cases_eq i n) [
  | inl is ↦ rw is (busy-none (f n) (omega arith))
  | inr ne ↦ busy-zero n f (omega arith) i (omega arith)
]

pub busy-some : (n : ℕ) (f : ℕ → PortState) → 0 < busy_of n f → (i : ℕ) × (i < n) × (f i ≢ Closed)
busy-some zero f lt = absurd (omega arith)
busy-some (suc n) f lt = elim (cases_lt 0 (busy (f n))) [
  | inl up ↦ (n, omega arith, λ z. let b = ap busy z in absurd (omega arith))
  | inr le ↦
      let (i, below, up) = busy-some n f (omega arith) in
      (i, omega arith, up)
]

-- two terms side by side, one of which moves
beside-first : (s : Store) (t a b : Term) → tidy s t ≡ a → tidy s b ≡ b → is_done a ≡ false → tidy s (par (term t (term b no_terms))) ≡ both a b
beside-first s t a b x y z = rw (x, y, z) refl

beside-second : (s : Store) (t a b : Term) → tidy s t ≡ a → tidy s b ≡ b → is_done b ≡ false → tidy s (par (term b (term t no_terms))) ≡ both b a
beside-second s t a b x y z = rw (x, y, z) refl

module _ (n left : ℕ) (w : List PortState) (ok : IsPlace n left w) where
  -- the guard's side moves, and the other stays
  guard-moves : (left' : ℕ) (w' : List PortState) (s : Store) (r : Head) → OfSide n (guard n) w r → tidy s r.rest ≡ side_left n (guard n) w' → IsSide n (guard n) w' → length w' ≡ length w → get_or w' 0 Closed ≡ get_or w 0 Closed → get_or w' 2 Closed ≡ get_or w 2 Closed → ((j : ℕ) → j < n → get_or w' (out n j) Closed ≡ get_or w (out n j) Closed) → left' ≡ busy_of n (λ i. get_or w' (after i) Closed) → Toggles w r.port w' → Steps n left w r.port left' w' s
  guard-moves left' w' s r of rest side long none lead legs count toggles = record {
    place = record {
      long = long ∙ ok.long;
      none = none ∙ ok.none;
      some = ok.some;
      guards = side;
      activates = still-side n (activate n) w w' ok.activates lead legs;
      count = count;
      alone = λ i j below under up lift. ok.alone i j below under (λ z. up (legs i below ∙ z)) (λ z. lift (legs j under ∙ z));
    };
    toggles = toggles;
    leaves = λ h at p.
        let is : h ≡ whole_guard n w r = one-head n left w ok h (whole_guard n w r) at (0, r, side-has n (guard n) w ok.guards r of, refl) p in
        let a = beside-first s r.rest (side_left n (guard n) w') (side_left n (activate n) w) rest (side-tidy n (activate n) s w ok.activates) (side-busy n (guard n) w' side) in
        rw is (a ∙ ap (both (side_left n (guard n) w')) (sym (side-same n (activate n) w w' lead legs)));
  }

  active-moves : (w' : List PortState) (s : Store) (r : Head) → OfSide n (activate n) w r → tidy s r.rest ≡ side_left n (activate n) w' → IsSide n (activate n) w' → length w' ≡ length w → get_or w' 0 Closed ≡ get_or w 0 Closed → get_or w' 1 Closed ≡ get_or w 1 Closed → ((i : ℕ) → i < n → get_or w' (after i) Closed ≡ get_or w (after i) Closed) → ((i j : ℕ) → i < n → j < n → get_or w' (out n i) Closed ≢ Closed → get_or w' (out n j) Closed ≢ Closed → i ≡ j) → Toggles w r.port w' → Steps n left w r.port left w' s
  active-moves w' s r of rest side long none lead legs alone toggles = record {
    place = record {
      long = long ∙ ok.long;
      none = none ∙ ok.none;
      some = ok.some;
      guards = still-side n (guard n) w w' ok.guards lead legs;
      activates = side;
      count = ok.count ∙ busy-same n (λ i. get_or w (after i) Closed) (λ i. get_or w' (after i) Closed) legs;
      alone = alone;
    };
    toggles = toggles;
    leaves = λ h at p.
        let is : h ≡ whole_active n w r = one-head n left w ok h (whole_active n w r) at (1, r, side-has n (activate n) w ok.activates r of, refl) p in
        let a = beside-second s r.rest (side_left n (activate n) w') (side_left n (guard n) w) rest (side-tidy n (guard n) s w ok.guards) (side-busy n (guard n) w ok.guards) in
        rw is (a ∙ ap (λ t. both t (side_left n (activate n) w')) (sym (side-same n (guard n) w w' lead legs)));
  }

  fits-lead : 2 < length w
  fits-lead = let l = ok.long in omega arith

  fits-input : (i : ℕ) → i < n → after i < length w
  fits-input i lt = let l = ok.long in omega arith

  fits-output : (i : ℕ) → i < n → out n i < length w
  fits-output i lt = let l = ok.long in omega arith

  -- where port 1 is closed or due to reply, no input goes on
  guard-quiet : get_or w 1 Closed ≢ Open → IsQuiet n (guard n) w
  guard-quiet ne = elim ok.guards.turn [ inl x ↦ x.1 | inr (inl x) ↦ absurd (ne x.0) | inr (inr x) ↦ x.1 ]

  active-quiet : get_or w 2 Closed ≢ Open → IsQuiet n (activate n) w
  active-quiet ne = elim ok.activates.turn [ inl x ↦ x.1 | inr (inl x) ↦ absurd (ne x.0) | inr (inr x) ↦ x.1 ]

  -- The guard is taken.
  pub took_guard : get_or w 1 Closed ≡ ClosedDue → (u : List PortState) (s : Store) → length u ≡ length w → ((p : ℕ) → p < 3 → get_or u p Closed ≡ get_or w p Closed) → ((i : ℕ) → i < n → get_or u (after i) Closed ≡ ClosedDue) → ((p : ℕ) → after n ≤ p → get_or u p Closed ≡ get_or w p Closed) → Steps n left w 1 n (set u 1 Open) s
  took_guard due u s long low ones high = guard-moves n w' s (take_head n (guard n)) (inl (due, refl)) rest side (length-set u 1 Open ∙ long) (other 0 (omega arith) ∙ low 0 (omega arith)) (other 2 (omega arith) ∙ low 2 (omega arith)) (λ j lt. other (out n j) (omega arith) ∙ high (out n j) (omega arith)) (sym (busy-ones n (λ i. get_or w' (after i) Closed) number)) (keeps-then w u w' 1 quiet (toggles-set u 1 Open wide (rw (low 1 (omega arith), due) refl)))
    where
      w' : List PortState
      w' = set u 1 Open

      wide : 1 < length u
      wide = let k = fits-lead in omega arith

      other : (q : ℕ) → q ≢ 1 → get_or w' q Closed ≡ get_or u q Closed
      other q ne = get_or-set_other u 1 q Open Closed ne

      lead : get_or w' 1 Closed ≡ Open
      lead = get_or-set_same u 1 Open Closed wide

      number : (i : ℕ) → i < n → get_or w' (after i) Closed ≡ ClosedDue
      number i lt = other (after i) (omega arith) ∙ ones i lt

      side : IsSide n (guard n) w'
      side = record { legs = λ i lt. inr (inl (number i lt)); turn = inr (inl (lead, (0, ok.some, (begins_up _ (number 0 ok.some))))) }

      rest : tidy s (take_head n (guard n)).rest ≡ side_left n (guard n) w'
      rest =
          let a = take-leaves n (guard n) s w' (λ i lt. rw (number i lt) refl) in
          let b = opened-busy n (guard n) s w' 0 ok.some (begins_up _ (number 0 ok.some)) in
          rw lead (a ∙ b)

      quiet : Keeps w u
      quiet zero = ap is_open (low 0 (omega arith))
      quiet (suc zero) = ap is_open (low 1 (omega arith))
      quiet (suc (suc zero)) = ap is_open (low 2 (omega arith))
      quiet (suc (suc (suc i))) = elim (cases_lt i n) [
        | inl lt ↦ rw (ones i lt, guard-quiet (λ z. cc) i lt) refl
        | inr le ↦ ap is_open (high (after i) (omega arith))
      ]

  -- The guard replies.
  pub replied_guard : get_or w 1 Closed ≡ OpenDue → (s : Store) → Steps n left w 1 left (set w 1 ClosedDue) s
  replied_guard due s = guard-moves left w' s (reply_head n (guard n)) (inr (inl (due, refl))) (rw lead refl) side (length-set w 1 ClosedDue) (other 0 (omega arith)) (other 2 (omega arith)) (λ j lt. other (out n j) (omega arith)) (ok.count ∙ busy-same n (λ i. get_or w (after i) Closed) (λ i. get_or w' (after i) Closed) (λ i lt. other (after i) (omega arith))) (toggles-set w 1 ClosedDue wide (rw due refl))
    where
      w' : List PortState
      w' = set w 1 ClosedDue

      wide : 1 < length w
      wide = let k = fits-lead in omega arith

      other : (q : ℕ) → q ≢ 1 → get_or w' q Closed ≡ get_or w q Closed
      other q ne = get_or-set_other w 1 q ClosedDue Closed ne

      lead : get_or w' 1 Closed ≡ ClosedDue
      lead = get_or-set_same w 1 ClosedDue Closed wide

      quiet : IsQuiet n (guard n) w'
      quiet i lt = other (after i) (omega arith) ∙ guard-quiet (λ z. cc) i lt

      side : IsSide n (guard n) w'
      side = record { legs = λ i lt. inl (quiet i lt); turn = inl (lead, quiet) }

  -- the state of an input changes
  module _ (i : ℕ) (x : PortState) (lt : i < n) where
    input-here : get_or (set w (after i) x) (after i) Closed ≡ x
    input-here = get_or-set_same w (after i) x Closed (fits-input i lt)

    input-other : (q : ℕ) → q ≢ after i → get_or (set w (after i) x) q Closed ≡ get_or w q Closed
    input-other q ne = get_or-set_other w (after i) q x Closed ne

    input-legs : IsLegState x → (j : ℕ) → j < n → IsLegState (get_or (set w (after i) x) (after j) Closed)
    input-legs is j below = elim (cases_eq j i) [
      | inl e ↦ rw (e, input-here) is
      | inr ne ↦ rw (input-other (after j) (omega arith)) (ok.guards.legs j below)
    ]

    input-count : busy_of n (λ j. get_or (set w (after i) x) (after j) Closed) + busy (get_or w (after i) Closed) ≡ busy_of n (λ j. get_or w (after j) Closed) + busy x
    input-count =
        let r = busy-changed n (λ j. get_or w (after j) Closed) (λ j. get_or (set w (after i) x) (after j) Closed) i lt (λ j below ne. input-other (after j) (omega arith)) in
        r ∙ ap (λ a. busy_of n (λ j. get_or w (after j) Closed) + busy a) input-here

  -- Input i is asked.
  pub asked_input : (i : ℕ) → i < n → get_or w (after i) Closed ≡ ClosedDue → (s : Store) → Steps n left w (after i) left (set w (after i) OpenDue) s
  asked_input i lt due s = guard-moves left w' s (ask_head n (guard n) w i) (inr (inr (i, lt, inl (due, refl)))) rest side (length-set w (after i) OpenDue) (input-other i OpenDue lt 0 (omega arith)) (input-other i OpenDue lt 2 (omega arith)) (λ j below. input-other i OpenDue lt (out n j) (omega arith)) counted (toggles-set w (after i) OpenDue (fits-input i lt) (rw due refl))
    where
      w' : List PortState
      w' = set w (after i) OpenDue

      lead : get_or w' 1 Closed ≡ Open
      lead = input-other i OpenDue lt 1 (omega arith) ∙ waits n (guard n) w ok.guards i lt (begins_up _ due)

      here : get_or w' (after i) Closed ≡ OpenDue
      here = input-here i OpenDue lt

      side : IsSide n (guard n) w'
      side = record { legs = input-legs i OpenDue lt (inr (inr refl)); turn = inr (inl (lead, (i, lt, (ends_up _ here)))) }

      rest : tidy s (ask_head n (guard n) w i).rest ≡ side_left n (guard n) w'
      rest =
          let a = ask-leaves n (guard n) s w w' i here (λ j ne. input-other i OpenDue lt (after j) (omega arith)) in
          let b = opened-busy n (guard n) s w' i lt (ends_up _ here) in
          rw lead (a ∙ b)

      counted : left ≡ busy_of n (λ j. get_or w' (after j) Closed)
      counted = let c = input-count i OpenDue lt in let d = ap busy due in let k = ok.count in omega arith

  -- Input i has come.
  counted-down : (i : ℕ) (lt : i < n) → get_or w (after i) Closed ≡ OpenDue → left ≡ suc (busy_of n (λ j. get_or (set w (after i) Closed) (after j) Closed))
  counted-down i lt due = let c = input-count i Closed lt in let d = ap busy due in let k = ok.count in omega arith

  pub some_left : (i : ℕ) → i < n → get_or w (after i) Closed ≡ OpenDue → 0 < left
  some_left i lt due = let c = counted-down i lt due in omega arith

  -- others are still to come
  pub got_input : (i : ℕ) → i < n → get_or w (after i) Closed ≡ OpenDue → left - 1 ≢ 0 → (s : Store) → Steps n left w (after i) (left - 1) (set w (after i) Closed) s
  got_input i lt due more s = guard-moves (left - 1) w' s (got_head n (guard n) w i) (inr (inr (i, lt, inr (due, refl)))) rest side (length-set w (after i) Closed) (input-other i Closed lt 0 (omega arith)) (input-other i Closed lt 2 (omega arith)) (λ j below. input-other i Closed lt (out n j) (omega arith)) (let c = counted-down i lt due in omega arith) (toggles-set w (after i) Closed (fits-input i lt) (rw due refl))
    where
      w' : List PortState
      w' = set w (after i) Closed

      lead : get_or w' 1 Closed ≡ Open
      lead = input-other i Closed lt 1 (omega arith) ∙ waits n (guard n) w ok.guards i lt (ends_up _ due)

      goes : IsBusy n (guard n) w'
      goes = busy-some n (λ j. get_or w' (after j) Closed) (let c = counted-down i lt due in omega arith)

      side : IsSide n (guard n) w'
      side = record { legs = input-legs i Closed lt (inl refl); turn = inr (inl (lead, goes)) }

      rest : tidy s (got_head n (guard n) w i).rest ≡ side_left n (guard n) w'
      rest =
          let a = got-leaves n (guard n) s w w' i (input-here i Closed lt) (λ j ne. input-other i Closed lt (after j) (omega arith)) in
          let (j, below, up) = goes in
          let b = opened-busy n (guard n) s w' j below up in
          rw lead (a ∙ b)

  -- it is the last
  pub got_last : (i : ℕ) → i < n → get_or w (after i) Closed ≡ OpenDue → left - 1 ≡ 0 → (s : Store) → Steps n left w (after i) (left - 1) (set (set w (after i) Closed) 1 OpenDue) s
  got_last i lt due none s = guard-moves (left - 1) w' s (got_head n (guard n) w i) (inr (inr (i, lt, inr (due, refl)))) rest side (length-set u 1 OpenDue ∙ length-set w (after i) Closed) (other 0 (omega arith) ∙ input-other i Closed lt 0 (omega arith)) (other 2 (omega arith) ∙ input-other i Closed lt 2 (omega arith)) (λ j below. other (out n j) (omega arith) ∙ input-other i Closed lt (out n j) (omega arith)) counted (toggles-then w u w' (after i) (toggles-set w (after i) Closed (fits-input i lt) (rw due refl)) (keeps-set u 1 OpenDue wide (rw lead-was refl)))
    where
      u : List PortState
      u = set w (after i) Closed

      w' : List PortState
      w' = set u 1 OpenDue

      wide : 1 < length u
      wide = let k = fits-lead in let l = length-set w (after i) Closed in omega arith

      other : (q : ℕ) → q ≢ 1 → get_or w' q Closed ≡ get_or u q Closed
      other q ne = get_or-set_other u 1 q OpenDue Closed ne

      lead-was : get_or u 1 Closed ≡ Open
      lead-was = input-other i Closed lt 1 (omega arith) ∙ waits n (guard n) w ok.guards i lt (ends_up _ due)

      lead : get_or w' 1 Closed ≡ OpenDue
      lead = get_or-set_same u 1 OpenDue Closed wide

      over : IsQuiet n (guard n) u
      over j below = busy-zero n (λ j. get_or u (after j) Closed) (let c = counted-down i lt due in omega arith) j below

      quiet : IsQuiet n (guard n) w'
      quiet j below = other (after j) (omega arith) ∙ over j below

      side : IsSide n (guard n) w'
      side = record { legs = λ j below. inl (quiet j below); turn = inr (inr (lead, quiet)) }

      rest : tidy s (got_head n (guard n) w i).rest ≡ side_left n (guard n) w'
      rest =
          let a = got-leaves n (guard n) s w u i (input-here i Closed lt) (λ j ne. input-other i Closed lt (after j) (omega arith)) in
          let b = opened-over n (guard n) s u over in
          rw lead (a ∙ b)

      counted : left - 1 ≡ busy_of n (λ j. get_or w' (after j) Closed)
      counted =
          let c = counted-down i lt due in
          let r = busy-same n (λ j. get_or u (after j) Closed) (λ j. get_or w' (after j) Closed) (λ j below. other (after j) (omega arith)) in
          omega arith

  -- Port activate is taken: the call of output i is chosen.
  chosen-begins : (s : Store) (i j : ℕ) (w' : List PortState) → first_one s ≡ i → get_or w' (out n i) Closed ≡ ClosedDue → (j ≢ i → get_or w' (out n j) Closed ≡ Closed) → tidy s ((activate n).begins j) ≡ leg_left n (activate n) j (get_or w' (out n j) Closed)
  chosen-begins s i j w' first one none = elim (cases_eq j i) [
    | inl e ↦
        let met : nat_eq (first_one s) j ≡ true = eq-eqb (first_one s) j (first ∙ sym e) in
        let now : get_or w' (out n j) Closed ≡ ClosedDue = ap (λ k. get_or w' (out n k) Closed) e ∙ one in
        rw (met, now) refl
    | inr ne ↦
        let unmet : nat_eq (first_one s) j ≡ false = ne_eqb (first_one s) j (λ e. ne (sym e ∙ first)) in
        rw (unmet, none ne) refl
  ]

  pub took_activate : get_or w 2 Closed ≡ ClosedDue → (s : Store) (i : ℕ) → i < n → first_one s ≡ i → Steps n left w 2 left (set (set w (out n i) ClosedDue) 2 Open) s
  took_activate due s i lt first = active-moves w' s (take_head n (activate n)) (inl (due, refl)) rest side (length-set u 2 Open ∙ length-set w (out n i) ClosedDue) (other 0 (omega arith) (omega arith)) (other 1 (omega arith) (omega arith)) (λ j below. other (after j) (omega arith) (omega arith)) alone (keeps-then w u w' 2 keeps (toggles-set u 2 Open wide (rw (get_or-set_other w (out n i) 2 ClosedDue Closed (omega arith), due) refl)))
    where
      u : List PortState
      u = set w (out n i) ClosedDue

      w' : List PortState
      w' = set u 2 Open

      wide : 2 < length u
      wide = let k = fits-lead in let l = length-set w (out n i) ClosedDue in omega arith

      other : (q : ℕ) → q ≢ 2 → q ≢ out n i → get_or w' q Closed ≡ get_or w q Closed
      other q ne far = get_or-set_other u 2 q Open Closed ne ∙ get_or-set_other w (out n i) q ClosedDue Closed far

      lead : get_or w' 2 Closed ≡ Open
      lead = get_or-set_same u 2 Open Closed wide

      here : get_or w' (out n i) Closed ≡ ClosedDue
      here = get_or-set_other u 2 (out n i) Open Closed (omega arith) ∙ get_or-set_same w (out n i) ClosedDue Closed (fits-output i lt)

      was : IsQuiet n (activate n) w
      was = active-quiet (λ z. cc)

      none : (j : ℕ) → j < n → j ≢ i → get_or w' (out n j) Closed ≡ Closed
      none j below ne = other (out n j) (omega arith) (omega arith) ∙ was j below

      keeps : Keeps w u
      keeps = keeps-set w (out n i) ClosedDue (fits-output i lt) (rw (was i lt) refl)

      alone : (j k : ℕ) → j < n → k < n → get_or w' (out n j) Closed ≢ Closed → get_or w' (out n k) Closed ≢ Closed → j ≡ k
      alone j k below under up lift = elim (cases_eq j i) [
        | inl e ↦ elim (cases_eq k i) [ inl f ↦ e ∙ sym f | inr ne ↦ absurd (let z = none k under ne in omega arith) ]
        | inr ne ↦ absurd (let z = none j below ne in omega arith)
      ]

      side : IsSide n (activate n) w'
      side = record {
        legs = λ j below. elim (cases_eq j i) [ inl e ↦ inr (inl (ap (λ k. get_or w' (out n k) Closed) e ∙ here)) | inr ne ↦ inl (none j below ne) ];
        turn = inr (inl (lead, (i, lt, (begins_up _ here))));
      }

      rest : tidy s (take_head n (activate n)).rest ≡ side_left n (activate n) w'
      rest =
          let a = take-leaves n (activate n) s w' (λ j below. chosen-begins s i j w' first here (none j below)) in
          let b = opened-busy n (activate n) s w' i lt (begins_up _ here) in
          rw lead (a ∙ b)

  -- no cell holds 1
  pub took_none : get_or w 2 Closed ≡ ClosedDue → (s : Store) → n ≤ first_one s → Steps n left w 2 left (set w 2 OpenDue) s
  took_none due s past = active-moves w' s (take_head n (activate n)) (inl (due, refl)) rest side (length-set w 2 OpenDue) (other 0 (omega arith)) (other 1 (omega arith)) (λ j below. other (after j) (omega arith)) (λ i j below under up lift. absurd (let z = quiet i below in omega arith)) (toggles-set w 2 OpenDue fits-lead (rw due refl))
    where
      w' : List PortState
      w' = set w 2 OpenDue

      other : (q : ℕ) → q ≢ 2 → get_or w' q Closed ≡ get_or w q Closed
      other q ne = get_or-set_other w 2 q OpenDue Closed ne

      lead : get_or w' 2 Closed ≡ OpenDue
      lead = get_or-set_same w 2 OpenDue Closed fits-lead

      quiet : IsQuiet n (activate n) w'
      quiet j below = other (out n j) (omega arith) ∙ active-quiet (λ z. cc) j below

      side : IsSide n (activate n) w'
      side = record { legs = λ j below. inl (quiet j below); turn = inr (inr (lead, quiet)) }

      rest : tidy s (take_head n (activate n)).rest ≡ side_left n (activate n) w'
      rest =
          let a = take-leaves n (activate n) s w' (λ j below. let unmet : nat_eq (first_one s) j ≡ false = ne_eqb (first_one s) j (omega arith) in rw (unmet, quiet j below) refl) in
          let b = opened-over n (activate n) s w' quiet in
          rw lead (a ∙ b)

  -- Port activate replies.
  pub replied_activate : get_or w 2 Closed ≡ OpenDue → (s : Store) → Steps n left w 2 left (set w 2 ClosedDue) s
  replied_activate due s = active-moves w' s (reply_head n (activate n)) (inr (inl (due, refl))) (rw lead refl) side (length-set w 2 ClosedDue) (other 0 (omega arith)) (other 1 (omega arith)) (λ j below. other (after j) (omega arith)) (λ i j below under up lift. absurd (let z = quiet i below in omega arith)) (toggles-set w 2 ClosedDue fits-lead (rw due refl))
    where
      w' : List PortState
      w' = set w 2 ClosedDue

      other : (q : ℕ) → q ≢ 2 → get_or w' q Closed ≡ get_or w q Closed
      other q ne = get_or-set_other w 2 q ClosedDue Closed ne

      lead : get_or w' 2 Closed ≡ ClosedDue
      lead = get_or-set_same w 2 ClosedDue Closed fits-lead

      quiet : IsQuiet n (activate n) w'
      quiet j below = other (out n j) (omega arith) ∙ active-quiet (λ z. cc) j below

      side : IsSide n (activate n) w'
      side = record { legs = λ j below. inl (quiet j below); turn = inl (lead, quiet) }

  -- Output i is asked.
  pub asked_output : (i : ℕ) → i < n → get_or w (out n i) Closed ≡ ClosedDue → (s : Store) → Steps n left w (out n i) left (set w (out n i) OpenDue) s
  asked_output i lt due s = active-moves w' s (ask_head n (activate n) w i) (inr (inr (i, lt, inl (due, refl)))) rest side (length-set w (out n i) OpenDue) (other 0 (omega arith)) (other 1 (omega arith)) (λ j below. other (after j) (omega arith)) alone (toggles-set w (out n i) OpenDue (fits-output i lt) (rw due refl))
    where
      w' : List PortState
      w' = set w (out n i) OpenDue

      other : (q : ℕ) → q ≢ out n i → get_or w' q Closed ≡ get_or w q Closed
      other q ne = get_or-set_other w (out n i) q OpenDue Closed ne

      lead : get_or w' 2 Closed ≡ Open
      lead = other 2 (omega arith) ∙ waits n (activate n) w ok.activates i lt (begins_up _ due)

      here : get_or w' (out n i) Closed ≡ OpenDue
      here = get_or-set_same w (out n i) OpenDue Closed (fits-output i lt)

      was : (j : ℕ) → j < n → get_or w' (out n j) Closed ≢ Closed → get_or w (out n j) Closed ≢ Closed
      was j below up = elim (cases_eq j i) [
        | inl e ↦ begins_up _ (ap (λ k. get_or w (out n k) Closed) e ∙ due)
        | inr ne ↦ λ z. up (other (out n j) (omega arith) ∙ z)
      ]

      alone : (j k : ℕ) → j < n → k < n → get_or w' (out n j) Closed ≢ Closed → get_or w' (out n k) Closed ≢ Closed → j ≡ k
      alone j k below under up lift = ok.alone j k below under (was j below up) (was k under lift)

      side : IsSide n (activate n) w'
      side = record {
        legs = λ j below. elim (cases_eq j i) [ inl e ↦ inr (inr (ap (λ k. get_or w' (out n k) Closed) e ∙ here)) | inr ne ↦ rw (other (out n j) (omega arith)) (ok.activates.legs j below) ];
        turn = inr (inl (lead, (i, lt, (ends_up _ here))));
      }

      rest : tidy s (ask_head n (activate n) w i).rest ≡ side_left n (activate n) w'
      rest =
          let a = ask-leaves n (activate n) s w w' i here (λ j ne. other (out n j) (omega arith)) in
          let b = opened-busy n (activate n) s w' i lt (ends_up _ here) in
          rw lead (a ∙ b)

  -- Output i is over.
  pub got_output : (i : ℕ) → i < n → get_or w (out n i) Closed ≡ OpenDue → (s : Store) → Steps n left w (out n i) left (set (set w (out n i) Closed) 2 OpenDue) s
  got_output i lt due s = active-moves w' s (got_head n (activate n) w i) (inr (inr (i, lt, inr (due, refl)))) rest side (length-set u 2 OpenDue ∙ length-set w (out n i) Closed) (other 0 (omega arith) (omega arith)) (other 1 (omega arith) (omega arith)) (λ j below. other (after j) (omega arith) (omega arith)) (λ j k below under up lift. absurd (let z = quiet j below in omega arith)) (toggles-then w u w' (out n i) (toggles-set w (out n i) Closed (fits-output i lt) (rw due refl)) (keeps-set u 2 OpenDue wide (rw lead-was refl)))
    where
      u : List PortState
      u = set w (out n i) Closed

      w' : List PortState
      w' = set u 2 OpenDue

      wide : 2 < length u
      wide = let k = fits-lead in let l = length-set w (out n i) Closed in omega arith

      other : (q : ℕ) → q ≢ 2 → q ≢ out n i → get_or w' q Closed ≡ get_or w q Closed
      other q ne far = get_or-set_other u 2 q OpenDue Closed ne ∙ get_or-set_other w (out n i) q Closed Closed far

      lead-was : get_or u 2 Closed ≡ Open
      lead-was = get_or-set_other w (out n i) 2 Closed Closed (omega arith) ∙ waits n (activate n) w ok.activates i lt (ends_up _ due)

      lead : get_or w' 2 Closed ≡ OpenDue
      lead = get_or-set_same u 2 OpenDue Closed wide

      over : IsQuiet n (activate n) u
      over j below = elim (cases_eq j i) [
        | inl e ↦ ap (λ k. get_or u (out n k) Closed) e ∙ get_or-set_same w (out n i) Closed Closed (fits-output i lt)
        | inr ne ↦
            let same = get_or-set_other w (out n i) (out n j) Closed Closed (let d : out n j ≢ out n i = omega arith in d) in
            elim (closed_or (get_or w (out n j) Closed)) [
              | inl z ↦ same ∙ z
              | inr up ↦ absurd (ne (ok.alone j i below lt up (ends_up _ due)))
            ]
      ]

      quiet : IsQuiet n (activate n) w'
      quiet j below = get_or-set_other u 2 (out n j) OpenDue Closed (omega arith) ∙ over j below

      side : IsSide n (activate n) w'
      side = record { legs = λ j below. inl (quiet j below); turn = inr (inr (lead, quiet)) }

      rest : tidy s (got_head n (activate n) w i).rest ≡ side_left n (activate n) w'
      rest =
          let a = got-leaves n (activate n) s w u i (get_or-set_same w (out n i) Closed Closed (fits-output i lt)) (λ j ne. get_or-set_other w (out n i) (out n j) Closed Closed (omega arith)) in
          let b = opened-over n (activate n) s u over in
          rw lead (a ∙ b)

-- What a Bar does next: the heads of its two sides, and what each leaves.
use Rattle.std.proofs.Common.{◌≡◌, ◌≢◌, ◌⊎◌, inl, inr, ℕ, zero, suc, ◌+◌, ◌-◌, ◌<◌, true, false, List, get_or, Some, refl, ap, sym, ◌∙◌, subst, arith}
use Rattle.std.specs.Prelude.{min}
use Rattle.std.proofs.lemmas.Bool.{cases_lt}
use Rattle.std.proofs.lemmas.List.{get_or_past}
use Rattle.bz_model.specs.declared.expr.Expr.{Expr}
use Rattle.bz_model.specs.declared.expr.Expr.TheVariants.{Nothing, SomeOne}
use Rattle.bz_model.specs.declared.channel.Move.TheVariants.{Ask, Take, Reply, Got}
use Rattle.bz_model.specs.Terms.{Store, Term, reply, got, seq, par, forever, done, no_terms, term, all, with_term}
use Rattle.bz_model.specs.Heads.{Head, IsHead, HasOneHead, tidy, tidy_all, is_done, are_done}
use Rattle.bz_model.specs.Processes.{after}
use Rattle.bz_kinds.specs.declared.ports.PortState.{PortState}
use Rattle.bz_kinds.specs.declared.ports.PortState.TheVariants.{Closed, ClosedDue, Open, OpenDue}
use Rattle.bz_kinds.specs.Row.{Due, due_of, lead_due, leg_due, is_open}
use Rattle.bz_kinds.specs.Together.{IsLegState}
use Rattle.bz_kinds.specs.Bar.{Side, round, leg_left, legs_left, left_at, side_left, IsQuiet, IsSide, guard, activate, todo, bar_due, IsPlace}
use Rattle.bz_kinds.proofs.Arrays.{head-in-all, head-at-all, all-cong, with_term-all, tidy-all, all-done, all-busy, tidy-with_term}

module _ (n : ℕ) (side : Side) where
  -- the four heads of a side
  abbrev pub take_head : Head
  take_head = record { port = side.lead; move = Take; gives = Nothing; into = side.taken; rest = seq (seq done (seq (par (all n side.begins)) (reply side.lead side.answer))) (forever (round n side)) }

  abbrev pub reply_head : Head
  reply_head = record { port = side.lead; move = Reply; gives = side.answer; into = 0; rest = seq done (forever (round n side)) }

  abbrev pub ask_head : List PortState → ℕ → Head
  ask_head w i = record { port = side.port i; move = Ask; gives = Nothing; into = 0; rest = seq (seq (par (with_term (legs_left n side w) i (seq done (got (side.port i) (side.into i))))) (reply side.lead side.answer)) (forever (round n side)) }

  abbrev pub got_head : List PortState → ℕ → Head
  got_head w i = record { port = side.port i; move = Got; gives = Nothing; into = side.into i; rest = seq (seq (par (with_term (legs_left n side w) i done)) (reply side.lead side.answer)) (forever (round n side)) }

  -- h is one of them, by the states
  abbrev pub IsLegHead : List PortState → ℕ → Head → Type 0
  IsLegHead w i h = ((get_or w (side.port i) Closed ≡ ClosedDue) × (h ≡ ask_head w i)) ⊎ ((get_or w (side.port i) Closed ≡ OpenDue) × (h ≡ got_head w i))

  abbrev pub OfSide : List PortState → Head → Type 0
  OfSide w h = ((get_or w side.lead Closed ≡ ClosedDue) × (h ≡ take_head)) ⊎ ((get_or w side.lead Closed ≡ OpenDue) × (h ≡ reply_head)) ⊎ ((i : ℕ) × (i < n) × IsLegHead w i h)

  idle-head : (h : Head) → IsHead (forever (round n side)) h → h ≡ take_head
  idle-head h (r, (q, e, f), g) = simp (g, f, e)

  due-head : (h : Head) → IsHead (seq (reply side.lead side.answer) (forever (round n side))) h → h ≡ reply_head
  due-head h (r, e, g) = simp (g, e)

  leg-head : (i : ℕ) (a : PortState) (h : Head) → IsHead (leg_left n side i a) h → ((a ≡ ClosedDue) × (h ≡ record { port = side.port i; move = Ask; gives = Nothing; into = 0; rest = seq done (got (side.port i) (side.into i)) })) ⊎ ((is_open a ≡ true) × (h ≡ record { port = side.port i; move = Got; gives = Nothing; into = side.into i; rest = done }))
  leg-head i Closed h e = absurd e
  leg-head i ClosedDue h (r, at, is) = inl (refl, rw at at is)
  leg-head i Open h e = inr (refl, e)
  leg-head i OpenDue h e = inr (refl, e)

  -- the side while handshakes go on, before it is tidied
  abbrev pub opened : List PortState → Term
  opened w = seq (seq (par (legs_left n side w)) (reply side.lead side.answer)) (forever (round n side))

  three-of : (a : PortState) → IsLegState a → is_open a ≡ true → a ≡ OpenDue
  three-of a (inl e) up = absurd (cc)
  three-of a (inr (inl e)) up = absurd (cc)
  three-of a (inr (inr e)) up = e

  busy-head : (w : List PortState) → IsSide n side w → (h : Head) → IsHead (opened w) h → (i : ℕ) × (i < n) × IsLegHead w i h
  busy-head w ok h (r, (q, (i, p, at, e), f), g) =
      let here = head-in-all n (λ i. leg_left n side i (get_or w (side.port i) Closed)) i p at in (
        i,
        here.0,
        elim (leg-head i (get_or w (side.port i) Closed) p here.1) [
          | inl x ↦ inl (x.0, simp (g, f, e, x.1))
          | inr x ↦ inr (three-of (get_or w (side.port i) Closed) (ok.legs i here.0) x.0, simp (g, f, e, x.1))
        ],
      )

  busy-asks : (w : List PortState) (i : ℕ) → i < n → get_or w (side.port i) Closed ≡ ClosedDue → IsHead (opened w) (ask_head w i)
  busy-asks w i lt is = (_, (_, (i, _, head-at-all n (λ i. leg_left n side i (get_or w (side.port i) Closed)) i _ lt (rw is (_, refl, refl)), refl), refl), refl)

  busy-gets : (w : List PortState) (i : ℕ) → i < n → get_or w (side.port i) Closed ≡ OpenDue → IsHead (opened w) (got_head w i)
  busy-gets w i lt is = (_, (_, (i, _, head-at-all n (λ i. leg_left n side i (get_or w (side.port i) Closed)) i _ lt (rw is refl), refl), refl), refl)

  -- where a handshake goes on, the enclosing port is open and waits
  pub waits : (w : List PortState) → IsSide n side w → (i : ℕ) → i < n → get_or w (side.port i) Closed ≢ Closed → get_or w side.lead Closed ≡ Open
  waits w ok i lt up = elim ok.turn [
    | inl x ↦ absurd (let z = x.1 i lt in omega arith)
    | inr (inl x) ↦ x.0
    | inr (inr x) ↦ absurd (let z = x.1 i lt in omega arith)
  ]

  pub side-head : (w : List PortState) → IsSide n side w → (h : Head) → IsHead (side_left n side w) h → OfSide w h
  side-head w ok h at = elim ok.turn [
    | inl x ↦ inl (x.0, idle-head h (subst (λ a. IsHead (left_at n side a w) h) x.0 at))
    | inr (inl x) ↦ inr (inr (busy-head w ok h (subst (λ a. IsHead (left_at n side a w) h) x.0 at)))
    | inr (inr x) ↦ inr (inl (x.0, due-head h (subst (λ a. IsHead (left_at n side a w) h) x.0 at)))
  ]

  pub side-has : (w : List PortState) → IsSide n side w → (h : Head) → OfSide w h → IsHead (side_left n side w) h
  side-has w ok h (inl (one, is)) = rw (is, one) (_, (_, refl, refl), refl)
  side-has w ok h (inr (inl (three, is))) = rw (is, three) (_, refl, refl)
  side-has w ok h (inr (inr (i, lt, inl (one, is)))) =
      let two = waits w ok i lt (λ z. cc) in
      rw is (subst (λ a. IsHead (left_at n side a w) (ask_head w i)) (sym two) (busy-asks w i lt one))
  side-has w ok h (inr (inr (i, lt, inr (three, is)))) =
      let two = waits w ok i lt (λ z. cc) in
      rw is (subst (λ a. IsHead (left_at n side a w) (got_head w i)) (sym two) (busy-gets w i lt three))

  -- where a head of a side stands
  pub side-port : (w : List PortState) (h : Head) → OfSide w h → (h.port ≡ side.lead) ⊎ ((i : ℕ) × (i < n) × (h.port ≡ side.port i))
  side-port w h (inl (one, is)) = inl (ap (λ (k : Head). k.port) is)
  side-port w h (inr (inl (three, is))) = inl (ap (λ (k : Head). k.port) is)
  side-port w h (inr (inr (i, lt, inl (one, is)))) = inr (i, lt, ap (λ (k : Head). k.port) is)
  side-port w h (inr (inr (i, lt, inr (three, is)))) = inr (i, lt, ap (λ (k : Head). k.port) is)

  -- tidying
  leg-tidy : (s : Store) (i : ℕ) (a : PortState) → tidy s (leg_left n side i a) ≡ leg_left n side i a
  leg-tidy s i Closed = refl
  leg-tidy s i ClosedDue = refl
  leg-tidy s i Open = refl
  leg-tidy s i OpenDue = refl

  pub legs-tidy : (s : Store) (w : List PortState) → tidy_all s (legs_left n side w) ≡ legs_left n side w
  legs-tidy s w = tidy-all s n (λ i. leg_left n side i (get_or w (side.port i) Closed)) (λ i _. leg-tidy s i (get_or w (side.port i) Closed))

  leg-busy : (i : ℕ) (a : PortState) → a ≢ Closed → is_done (leg_left n side i a) ≡ false
  leg-busy i Closed ne = absurd (ne refl)
  leg-busy i ClosedDue lt = refl
  leg-busy i Open lt = refl
  leg-busy i OpenDue lt = refl

  pub opened-busy : (s : Store) (w : List PortState) (j : ℕ) → j < n → get_or w (side.port j) Closed ≢ Closed → tidy s (opened w) ≡ opened w
  opened-busy s w j lt up =
      let f : ℕ → Term = λ i. leg_left n side i (get_or w (side.port i) Closed) in
      let e : are_done (legs_left n side w) ≡ false = all-busy n f j lt (leg-busy j (get_or w (side.port j) Closed) up) in
      rw (legs-tidy s w, e) refl

  pub opened-over : (s : Store) (w : List PortState) → IsQuiet n side w → tidy s (opened w) ≡ seq (reply side.lead side.answer) (forever (round n side))
  opened-over s w e =
      let f : ℕ → Term = λ i. leg_left n side i (get_or w (side.port i) Closed) in
      let d : are_done (legs_left n side w) ≡ true = all-done n f (λ i lt. rw (e i lt) refl) in
      rw (legs-tidy s w, d) refl

  pub side-tidy : (s : Store) (w : List PortState) → IsSide n side w → tidy s (side_left n side w) ≡ side_left n side w
  side-tidy s w ok = elim ok.turn [
    | inl x ↦ rw x.0 refl
    | inr (inl (two, (j, lt, up))) ↦ rw two (opened-busy s w j lt up)
    | inr (inr x) ↦ rw x.0 refl
  ]

  pub side-busy : (w : List PortState) → IsSide n side w → is_done (side_left n side w) ≡ false
  side-busy w ok = elim ok.turn [
    | inl x ↦ rw x.0 refl
    | inr (inl x) ↦ rw x.0 refl
    | inr (inr x) ↦ rw x.0 refl
  ]

  -- a side whose states stay
  legs-same : (w w' : List PortState) → ((i : ℕ) → i < n → get_or w' (side.port i) Closed ≡ get_or w (side.port i) Closed) → legs_left n side w' ≡ legs_left n side w
  legs-same w w' e = all-cong n (λ i. leg_left n side i (get_or w' (side.port i) Closed)) (λ i. leg_left n side i (get_or w (side.port i) Closed)) (λ i lt. rw (e i lt) refl)

  at-same : (a : PortState) (w w' : List PortState) → ((i : ℕ) → i < n → get_or w' (side.port i) Closed ≡ get_or w (side.port i) Closed) → left_at n side a w' ≡ left_at n side a w
  at-same Closed w w' e = refl
  at-same ClosedDue w w' e = refl
  at-same Open w w' e = ap (λ ts. seq (seq (par ts) (reply side.lead side.answer)) (forever (round n side))) (legs-same w w' e)
  at-same OpenDue w w' e = refl

  pub side-same : (w w' : List PortState) → get_or w' side.lead Closed ≡ get_or w side.lead Closed → ((i : ℕ) → i < n → get_or w' (side.port i) Closed ≡ get_or w (side.port i) Closed) → side_left n side w' ≡ side_left n side w
  side-same w w' lead e = ap (λ a. left_at n side a w') lead ∙ at-same (get_or w side.lead Closed) w w' e

  pub still-side : (w w' : List PortState) → IsSide n side w → get_or w' side.lead Closed ≡ get_or w side.lead Closed → ((i : ℕ) → i < n → get_or w' (side.port i) Closed ≡ get_or w (side.port i) Closed) → IsSide n side w'
  still-side w w' ok lead e = record {
    legs = λ i lt. rw (e i lt) (ok.legs i lt);
    turn = elim ok.turn [
      | inl x ↦ inl (lead ∙ x.0, λ i lt. e i lt ∙ x.1 i lt)
      | inr (inl (two, (j, lt, up))) ↦ inr (inl (lead ∙ two, (j, lt, λ z. up (sym (e j lt) ∙ z))))
      | inr (inr x) ↦ inr (inr (lead ∙ x.0, λ i lt. e i lt ∙ x.1 i lt))
    ];
  }

  -- what the heads leave
  tidy-begins : (s : Store) (w : List PortState) → ((i : ℕ) → i < n → tidy s (side.begins i) ≡ leg_left n side i (get_or w (side.port i) Closed)) → (m : ℕ) (f g : ℕ → Term) → ((i : ℕ) → i < m → tidy s (f i) ≡ g i) → tidy_all s (all m f) ≡ all m g
  tidy-begins s w b zero f g e = refl
  tidy-begins s w b (suc m) f g e =
      let x = e 0 (omega arith) in
      let y = tidy-begins s w b m (λ j. f (suc j)) (λ j. g (suc j)) (λ j lt. e (suc j) (omega arith)) in
      λ k. term (x k) (y k)

  pub take-leaves : (s : Store) (w : List PortState) → ((i : ℕ) → i < n → tidy s (side.begins i) ≡ leg_left n side i (get_or w (side.port i) Closed)) → tidy s take_head.rest ≡ tidy s (opened w)
  take-leaves s w e =
      let a : tidy_all s (all n side.begins) ≡ legs_left n side w = tidy-begins s w e n side.begins (λ i. leg_left n side i (get_or w (side.port i) Closed)) e in
      rw (a, legs-tidy s w) refl

  pub ask-leaves : (s : Store) (w w' : List PortState) (i : ℕ) → get_or w' (side.port i) Closed ≡ OpenDue → ((j : ℕ) → j ≢ i → get_or w' (side.port j) Closed ≡ get_or w (side.port j) Closed) → tidy s (ask_head w i).rest ≡ tidy s (opened w')
  ask-leaves s w w' i is other =
      let f : ℕ → Term = λ i. leg_left n side i (get_or w (side.port i) Closed) in
      let g : ℕ → Term = λ i. leg_left n side i (get_or w' (side.port i) Closed) in
      let t : Term = got (side.port i) (side.into i) in
      let e : with_term (legs_left n side w) i t ≡ legs_left n side w' = with_term-all n f g i t (λ _. rw is refl) (λ j ne. rw (other j ne) refl) in
      rw (tidy-with_term s (legs_left n side w) i (seq done t), legs-tidy s w, e, legs-tidy s w') refl

  pub got-leaves : (s : Store) (w w' : List PortState) (i : ℕ) → get_or w' (side.port i) Closed ≡ Closed → ((j : ℕ) → j ≢ i → get_or w' (side.port j) Closed ≡ get_or w (side.port j) Closed) → tidy s (got_head w i).rest ≡ tidy s (opened w')
  got-leaves s w w' i is other =
      let f : ℕ → Term = λ i. leg_left n side i (get_or w (side.port i) Closed) in
      let g : ℕ → Term = λ i. leg_left n side i (get_or w' (side.port i) Closed) in
      let e : with_term (legs_left n side w) i done ≡ legs_left n side w' = with_term-all n f g i done (λ _. rw is refl) (λ j ne. rw (other j ne) refl) in
      rw e refl

  leg-port : (w : List PortState) (i : ℕ) (h : Head) → IsLegHead w i h → h.port ≡ side.port i
  leg-port w i h (inl x) = ap (λ (k : Head). k.port) x.1
  leg-port w i h (inr x) = ap (λ (k : Head). k.port) x.1

  legs-one : (w : List PortState) (i : ℕ) (h k : Head) → IsLegHead w i h → IsLegHead w i k → h ≡ k
  legs-one w i h k (inl (a, x)) (inl (b, y)) = x ∙ sym y
  legs-one w i h k (inl (a, x)) (inr (b, y)) = absurd (cc)
  legs-one w i h k (inr (a, x)) (inl (b, y)) = absurd (cc)
  legs-one w i h k (inr (a, x)) (inr (b, y)) = x ∙ sym y

  -- one head of a side at a port, where its ports are apart
  pub the-head : ((i : ℕ) → side.port i ≢ side.lead) → ((i j : ℕ) → side.port i ≡ side.port j → i ≡ j) → (w : List PortState) (h k : Head) → OfSide w h → OfSide w k → h.port ≡ k.port → h ≡ k
  the-head apart one w h k (inl (a, x)) (inl (b, y)) p = x ∙ sym y
  the-head apart one w h k (inl (a, x)) (inr (inl (b, y))) p = absurd (cc)
  the-head apart one w h k (inl (a, x)) (inr (inr (j, lt, y))) p = absurd (apart j (sym (leg-port w j k y) ∙ sym p ∙ ap (λ (m : Head). m.port) x))
  the-head apart one w h k (inr (inl (a, x))) (inl (b, y)) p = absurd (cc)
  the-head apart one w h k (inr (inl (a, x))) (inr (inl (b, y))) p = x ∙ sym y
  the-head apart one w h k (inr (inl (a, x))) (inr (inr (j, lt, y))) p = absurd (apart j (sym (leg-port w j k y) ∙ sym p ∙ ap (λ (m : Head). m.port) x))
  the-head apart one w h k (inr (inr (i, lt, x))) (inl (b, y)) p = absurd (apart i (sym (leg-port w i h x) ∙ p ∙ ap (λ (m : Head). m.port) y))
  the-head apart one w h k (inr (inr (i, lt, x))) (inr (inl (b, y))) p = absurd (apart i (sym (leg-port w i h x) ∙ p ∙ ap (λ (m : Head). m.port) y))
  the-head apart one w h k (inr (inr (i, lt, x))) (inr (inr (j, below, y))) p =
      let same : j ≡ i = one j i (sym (leg-port w j k y) ∙ sym p ∙ leg-port w i h x) in
      legs-one w i h k x (subst (λ j. IsLegHead w j k) same y)

-- two sides
pub guard-apart : (n i : ℕ) → (guard n).port i ≢ (guard n).lead
guard-apart n i e = absurd (omega arith)

pub guard-one : (n i j : ℕ) → (guard n).port i ≡ (guard n).port j → i ≡ j
guard-one n i j e = omega arith

pub active-apart : (n i : ℕ) → (activate n).port i ≢ (activate n).lead
active-apart n i e = absurd (omega arith)

pub active-one : (n i j : ℕ) → (activate n).port i ≡ (activate n).port j → i ≡ j
active-one n i j e = omega arith

module _ (n : ℕ) where
  -- a head of a side as one of the whole
  abbrev pub whole_guard : List PortState → Head → Head
  whole_guard w r = record r { rest = par (term r.rest (term (side_left n (activate n) w) no_terms)) }

  abbrev pub whole_active : List PortState → Head → Head
  whole_active w r = record r { rest = par (term (side_left n (guard n) w) (term r.rest no_terms)) }

  any-head : (w : List PortState) (h : Head) → IsHead (todo n w) h → ((r : Head) × IsHead (side_left n (guard n) w) r × (h ≡ whole_guard w r)) ⊎ ((r : Head) × IsHead (side_left n (activate n) w) r × (h ≡ whole_active w r))
  any-head w h (zero, r, at, is) = inl (r, at, is)
  any-head w h (suc zero, r, at, is) = inr (r, at, is)
  any-head w h (suc (suc k), r, at, is) = absurd at

  guard-has : (w : List PortState) (r : Head) → IsHead (side_left n (guard n) w) r → IsHead (todo n w) (whole_guard w r)
  guard-has w r at = (0, r, at, refl)

  active-has : (w : List PortState) (r : Head) → IsHead (side_left n (activate n) w) r → IsHead (todo n w) (whole_active w r)
  active-has w r at = (1, r, at, refl)

  -- the two have no port in common
  disjoint : (w : List PortState) (h k : Head) → OfSide n (guard n) w h → OfSide n (activate n) w k → h.port ≢ k.port
  disjoint w h k x y same = elim (side-port n (guard n) w h x) [
    | inl a ↦ elim (side-port n (activate n) w k y) [ inl b ↦ absurd (omega arith) | inr (j, lt, b) ↦ absurd (omega arith) ]
    | inr (i, lt, a) ↦ elim (side-port n (activate n) w k y) [ inl b ↦ absurd (omega arith) | inr (j, below, b) ↦ absurd (omega arith) ]
  ]

  pub one-head : (left : ℕ) (w : List PortState) → IsPlace n left w → HasOneHead (todo n w)
  one-head left w ok h k at there same = elim (any-head w h at) [
    | inl (r, x, e) ↦ elim (any-head w k there) [
      | inl (q, y, f) ↦
          let is : r ≡ q = the-head n (guard n) (guard-apart n) (guard-one n) w r q (side-head n (guard n) w ok.guards r x) (side-head n (guard n) w ok.guards q y) (sym (ap (λ (m : Head). m.port) e) ∙ same ∙ ap (λ (m : Head). m.port) f) in
          e ∙ ap (whole_guard w) is ∙ sym f
      | inr (q, y, f) ↦ absurd (disjoint w r q (side-head n (guard n) w ok.guards r x) (side-head n (activate n) w ok.activates q y) (sym (ap (λ (m : Head). m.port) e) ∙ same ∙ ap (λ (m : Head). m.port) f))
    ]
    | inr (r, x, e) ↦ elim (any-head w k there) [
      | inl (q, y, f) ↦ absurd (disjoint w q r (side-head n (guard n) w ok.guards q y) (side-head n (activate n) w ok.activates r x) (sym (ap (λ (m : Head). m.port) f) ∙ sym same ∙ ap (λ (m : Head). m.port) e))
      | inr (q, y, f) ↦
          let is : r ≡ q = the-head n (activate n) (active-apart n) (active-one n) w r q (side-head n (activate n) w ok.activates r x) (side-head n (activate n) w ok.activates q y) (sym (ap (λ (m : Head). m.port) e) ∙ same ∙ ap (λ (m : Head). m.port) f) in
          e ∙ ap (whole_active w) is ∙ sym f
    ]
  ]

  -- the heads are the moves that are due
  guard-due : (w : List PortState) (r : Head) → OfSide n (guard n) w r → bar_due n r.port (get_or w r.port Closed) ≡ Some (due_of r)
  guard-due w r (inl (one, is)) = rw (is, one) refl
  guard-due w r (inr (inl (three, is))) = rw (is, three) refl
  guard-due w r (inr (inr (i, lt, inl (one, is)))) = rw (is, one) refl
  guard-due w r (inr (inr (i, lt, inr (three, is)))) = let m : min i n ≡ i = omega arith in rw (is, three, m) refl

  active-due : (w : List PortState) (r : Head) → OfSide n (activate n) w r → bar_due n r.port (get_or w r.port Closed) ≡ Some (due_of r)
  active-due w r (inl (one, is)) = rw (is, one) refl
  active-due w r (inr (inl (three, is))) = rw (is, three) refl
  active-due w r (inr (inr (i, lt, inl (one, is)))) = rw (is, one) refl
  active-due w r (inr (inr (i, lt, inr (three, is)))) = let m : min (n + i) n ≡ n = omega arith in rw (is, three, m) refl

  pub heads-due : (left : ℕ) (w : List PortState) → IsPlace n left w → (h : Head) → IsHead (todo n w) h → bar_due n h.port (get_or w h.port Closed) ≡ Some (due_of h)
  heads-due left w ok h at = elim (any-head w h at) [
    | inl (r, x, e) ↦ rw e (guard-due w r (side-head n (guard n) w ok.guards r x))
    | inr (r, x, e) ↦ rw e (active-due w r (side-head n (activate n) w ok.activates r x))
  ]

  -- what is due at a port of a side
  abbrev HeadAt : List PortState → ℕ → Type 0
  HeadAt w p = (h : Head) × IsHead (todo n w) h × (h.port ≡ p)

  guard-at : (left : ℕ) (w : List PortState) → IsPlace n left w → (r : Head) → OfSide n (guard n) w r → HeadAt w r.port
  guard-at left w ok r x = (whole_guard w r, guard-has w r (side-has n (guard n) w ok.guards r x), refl)

  active-at : (left : ℕ) (w : List PortState) → IsPlace n left w → (r : Head) → OfSide n (activate n) w r → HeadAt w r.port
  active-at left w ok r x = (whole_active w r, active-has w r (side-has n (activate n) w ok.activates r x), refl)

  no-lead : (e : Expr) (d : Due) → lead_due n e Open ≡ Some d → ⊥
  no-lead e d is = cc

  no-leg : (i : ℕ) (d : Due) → leg_due (record { gives = Nothing; into = i }) Closed ≡ Some d → ⊥
  no-leg i d is = cc

  pub due-heads : (left : ℕ) (w : List PortState) → IsPlace n left w → (p : ℕ) (d : Due) → bar_due n p (get_or w p Closed) ≡ Some d → HeadAt w p
  due-heads left w ok zero d e = absurd (cc)
  due-heads left w ok (suc zero) d e = elim ok.guards.turn [
    | inl x ↦ guard-at left w ok (take_head n (guard n)) (inl (x.0, refl))
    | inr (inl x) ↦ absurd (no-lead SomeOne d (subst (λ a. lead_due n SomeOne a ≡ Some d) x.0 e))
    | inr (inr x) ↦ guard-at left w ok (reply_head n (guard n)) (inr (inl (x.0, refl)))
  ]
  due-heads left w ok (suc (suc zero)) d e = elim ok.activates.turn [
    | inl x ↦ active-at left w ok (take_head n (activate n)) (inl (x.0, refl))
    | inr (inl x) ↦ absurd (no-lead Nothing d (subst (λ a. lead_due n Nothing a ≡ Some d) x.0 e))
    | inr (inr x) ↦ active-at left w ok (reply_head n (activate n)) (inr (inl (x.0, refl)))
  ]
  due-heads left w ok (suc (suc (suc k))) d e = elim (cases_lt k n) [
    | inl lt ↦ elim (ok.guards.legs k lt) [
      | inl z ↦ absurd (no-leg (min k n) d (subst (λ a. leg_due (record { gives = Nothing; into = min k n }) a ≡ Some d) z e))
      | inr (inl one) ↦ guard-at left w ok (ask_head n (guard n) w k) (inr (inr (k, lt, inl (one, refl))))
      | inr (inr three) ↦ guard-at left w ok (got_head n (guard n) w k) (inr (inr (k, lt, inr (three, refl))))
    ]
    | inr le ↦ elim (cases_lt (k - n) n) [
      | inl lt ↦
          let is : n + (k - n) ≡ k = omega arith in
          subst (HeadAt w) (ap after is) (elim (ok.activates.legs (k - n) lt) [
            | inl z ↦ absurd (no-leg (min k n) d (subst (λ a. leg_due (record { gives = Nothing; into = min k n }) a ≡ Some d) (ap (λ j. get_or w (after j) Closed) (sym is) ∙ z) e))
            | inr (inl one) ↦ active-at left w ok (ask_head n (activate n) w (k - n)) (inr (inr (k - n, lt, inl (one, refl))))
            | inr (inr three) ↦ active-at left w ok (got_head n (activate n) w (k - n)) (inr (inr (k - n, lt, inr (three, refl))))
          ])
      | inr past ↦ absurd (no-leg (min k n) d (subst (λ a. leg_due (record { gives = Nothing; into = min k n }) a ≡ Some d) (get_or_past w (after k) Closed (let l = ok.long in omega arith)) e))
    ]
  ]

-- Handshakes that a passive port encloses all at once: which have ended.
use Rattle.std.proofs.Common.{◌≡◌, ◌≢◌, ◌⊎◌, inl, inr, ℕ, zero, suc, ◌<◌, true, List, [], ◌∷◌, length, get_or, set, replicate, refl, ap, sym, ◌∙◌, subst, arith}
use Rattle.std.proofs.lemmas.Bool.{cases_eq}
use Rattle.std.proofs.lemmas.List.{get_or-replicate, get_or-set_other, get_or-set_same}
use Rattle.std.proofs.Math.ListN.{length-replicate, length-set}
use Rattle.bz_model.specs.declared.channel.Chan.{Chan}
use Rattle.bz_model.specs.declared.channel.Move.TheVariants.{Ask, Take, Reply, Got}
use Rattle.bz_model.specs.declared.expr.Expr.TheVariants.{Nothing}
use Rattle.bz_model.specs.declared.kind.Kind.TheVariants.{Concur}
use Rattle.bz_model.specs.Phases.{incoming}
use Rattle.bz_model.specs.Terms.{Store, Term, reply, seq, forever, stored}
use Rattle.bz_model.specs.Heads.{Head, IsHead, Proc, opens, tidy}
use Rattle.bz_model.specs.Processes.{member, size}
use Rattle.bz_kinds.specs.declared.ports.PortState.{PortState}
use Rattle.bz_kinds.specs.declared.ports.PortState.TheVariants.{Closed, ClosedDue, Open, OpenDue}
use Rattle.bz_kinds.specs.declared.row.Legs.TheVariants.{Each}
use Rattle.bz_kinds.specs.declared.row.Row.{Row}
use Rattle.bz_kinds.specs.Together.{round}
use Rattle.bz_kinds.proofs.TogetherLaws.{ask-leaves, ask_head, busy-head, due-head, got-leaves, got_head, idle-head, opened, opened-busy, opened-over, reply_head, take-leaves, take_head}
use Rattle.bz_laws.specs.Deeds.{Deed, Made, has_ended, start}
use Rattle.bz_laws.proofs.Past.{ended_here, ended_still}

-- a port of the first n members is busy, or none is
any_busy : (w : List PortState) (n : ℕ) → ((j : ℕ) × (j < n) × (get_or w (member j) Closed ≢ Closed)) ⊎ ((i : ℕ) → i < n → get_or w (member i) Closed ≡ Closed)
any_busy w zero = inr (λ i lt. absurd (omega arith))
any_busy w (suc n) = elim (any_busy w n) [
  | inl (j, lt, up) ↦ inl (j, omega arith, up)
  | inr none ↦ here n none (get_or w (member n) Closed) refl
]
  where
    all : (n : ℕ) → ((i : ℕ) → i < n → get_or w (member i) Closed ≡ Closed) → get_or w (member n) Closed ≡ Closed → (i : ℕ) → i < suc n → get_or w (member i) Closed ≡ Closed
    all n none is i lt = elim (cases_eq i n) [ inl e ↦ rw e is | inr ne ↦ none i (omega arith) ]

    here : (n : ℕ) → ((i : ℕ) → i < n → get_or w (member i) Closed ≡ Closed) → (a : PortState) → get_or w (member n) Closed ≡ a → ((j : ℕ) × (j < suc n) × (get_or w (member j) Closed ≢ Closed)) ⊎ ((i : ℕ) → i < suc n → get_or w (member i) Closed ≡ Closed)
    here n none Closed is = inr (all n none is)
    here n none ClosedDue is = inl (n, omega arith, λ e. cc)
    here n none Open is = inl (n, omega arith, λ e. cc)
    here n none OpenDue is = inl (n, omega arith, λ e. cc)

module _ (row : Row) (n : ℕ) where
  -- the members whose ports are closed have ended
  abbrev Ended : List Deed → List PortState → Type 0
  Ended past w = (i : ℕ) → i < n → get_or w (member i) Closed ≡ Closed → has_ended (member i) past ≡ true

  -- where a component is, whose past this is
  data Place (past : List Deed) (todo : Term) : Type 0 where
    waits : todo ≡ forever (round row n) → Place past todo
    calls : (w : List PortState) → length w ≡ member n → todo ≡ opened row n w → Ended past w → Place past todo
    answers : todo ≡ seq (reply 1 row.answer) (forever (round row n)) → ((i : ℕ) → i < n → has_ended (member i) past ≡ true) → Place past todo

  -- the head that it has there
  data Next (past : List Deed) (h : Head) : Type 0 where
    takes : h ≡ take_head row n → Next past h
    begins : (w : List PortState) (i : ℕ) → length w ≡ member n → i < n → h ≡ ask_head row n w i → Ended past w → Next past h
    ends : (w : List PortState) (i : ℕ) → length w ≡ member n → i < n → h ≡ got_head row n w i → Ended past w → Next past h
    replies : h ≡ reply_head row n → ((i : ℕ) → i < n → has_ended (member i) past ≡ true) → Next past h

  next : (past : List Deed) (todo : Term) (h : Head) → Place past todo → IsHead todo h → Next past h
  next past todo h (waits e) at = takes (idle-head row n h (subst (λ t. IsHead t h) e at))
  next past todo h (calls w long e ended) at =
      let (i, lt, which) = busy-head row n w h (subst (λ t. IsHead t h) e at) in
      elim which [ inl x ↦ begins w i long lt x.1 ended | inr x ↦ ends w i long lt x.1 ended ]
  next past todo h (answers e ended) at = replies (due-head row n h (subst (λ t. IsHead t h) e at)) ended

  settles : (past : List Deed) (s : Store) (w : List PortState) → length w ≡ member n → Ended past w → Place past (tidy s (opened row n w))
  settles past s w long ended = elim (any_busy w n) [
    | inl (j, lt, up) ↦ calls w long (opened-busy row s n w j lt up) ended
    | inr none ↦ answers (opened-over row s n w none) (λ i lt. ended i lt (none i lt))
  ]

  -- where it leaves it
  goes : (past : List Deed) (d : Deed) (s : Store) (h : Head) → h.port ≡ d.port → d.move ≡ h.move → Next past h → Place (d ∷ past) (tidy s h.rest)
  goes past d s h p mv (takes e) =
      let w : List PortState = Closed ∷ Open ∷ replicate n ClosedDue in
      let due : (i : ℕ) → i < n → get_or w (member i) Closed ≡ ClosedDue = λ i lt. get_or-replicate n i ClosedDue Closed lt in
      rw (e, take-leaves row s n w due) (settles (d ∷ past) s w (ap (λ l. suc (suc l)) (length-replicate n ClosedDue)) (λ i lt is. absurd (let x = due i lt in cc)))
  goes past d s h p mv (begins w i long lt e ended) =
      let port : d.port ≡ member i = sym p ∙ ap (λ (h : Head). h.port) e in
      let w' = set w (member i) OpenDue in
      let same : get_or w' (member i) Closed ≡ OpenDue = get_or-set_same w (member i) OpenDue Closed (omega arith) in
      let other : (j : ℕ) → j ≢ i → get_or w' (member j) Closed ≡ get_or w (member j) Closed = λ j ne. get_or-set_other w (member i) (member j) OpenDue Closed (let x : member j ≢ member i = omega arith in x) in
      let still : Ended (d ∷ past) w' = λ j below is. elim (cases_eq j i) [
        | inl x ↦ absurd (let y = subst (λ k. get_or w' (member k) Closed ≡ Closed) x is in cc)
        | inr ne ↦ ended_still (member j) past d (omega arith) (ended j below (sym (other j ne) ∙ is))
      ] in
      rw (e, ask-leaves row s n w w' i same other) (settles (d ∷ past) s w' (length-set w (member i) OpenDue ∙ long) still)
  goes past d s h p mv (ends w i long lt e ended) =
      let port : d.port ≡ member i = sym p ∙ ap (λ (h : Head). h.port) e in
      let move : d.move ≡ Got = mv ∙ ap (λ (h : Head). h.move) e in
      let w' = set w (member i) Closed in
      let same : get_or w' (member i) Closed ≡ Closed = get_or-set_same w (member i) Closed Closed (omega arith) in
      let other : (j : ℕ) → j ≢ i → get_or w' (member j) Closed ≡ get_or w (member j) Closed = λ j ne. get_or-set_other w (member i) (member j) Closed Closed (let x : member j ≢ member i = omega arith in x) in
      let still : Ended (d ∷ past) w' = λ j below is. elim (cases_eq j i) [
        | inl x ↦ ended_here (member j) past d (omega arith) (omega arith) (ap opens move)
        | inr ne ↦ ended_still (member j) past d (omega arith) (ended j below (sym (other j ne) ∙ is))
      ] in
      rw (e, got-leaves row s n w w' i same other) (settles (d ∷ past) s w' (length-set w (member i) Closed ∙ long) still)
  goes past d s h p mv (replies e ended) = rw e (waits refl)

  reaches : (begin here : Proc) (past : List Deed) → begin.todo ≡ forever (round row n) → Made begin past here → Place past here.todo
  reaches begin here [] is made = waits (ap (λ (q : Proc). q.todo) made ∙ is)
  reaches begin here (d ∷ past) is (b, made, (phase, m)) =
      subst (Place (d ∷ past)) (sym (ap (λ (q : Proc). q.todo) m.leaves))
      (goes past d (stored m.head.into (incoming phase m.head.move) b.store) m.head m.on.1 m.move_is (next past b.todo m.head (reaches begin b past is made) m.on.0))

-- Concur
abbrev calls_all : Row
calls_all = record { into = 1; legs = Each (record { gives = Nothing; into = 1 }); answer = Nothing }

pub all_ended : (sizes : List ℕ) (chans : List Chan) (d : Deed) (past : List Deed) (here : Proc) (i : ℕ) → Made (start Concur sizes chans) (d ∷ past) here
    → d.port ≡ 1 → d.move ≡ Reply → i < size sizes → has_ended (member i) past ≡ true
all_ended sizes chans d past here i (b, made, (phase, m)) port move lt =
    let n = size sizes in
    elim (next calls_all n past b.todo m.head (reaches calls_all n (start Concur sizes chans) b past refl made) m.on.0) [
      | takes e ↦ absurd (let x : d.move ≡ Take = m.move_is ∙ ap (λ (h : Head). h.move) e in cc)
      | begins w j long below e ended ↦ absurd (let x : d.move ≡ Ask = m.move_is ∙ ap (λ (h : Head). h.move) e in cc)
      | ends w j long below e ended ↦ absurd (let x : d.move ≡ Got = m.move_is ∙ ap (λ (h : Head). h.move) e in cc)
      | replies e ended ↦ ended i lt
    ]

-- A choice of passive ports: which ports are open.
use Rattle.std.proofs.Common.{◌≡◌, ◌≢◌, inl, inr, ℕ, ◌<◌, Bool, false, true, List, [], ◌∷◌, refl, ap, sym, ◌∙◌, subst, arith}
use Rattle.std.proofs.lemmas.Bool.{cases_eq}
use Rattle.bz_model.specs.declared.channel.Chan.{Chan}
use Rattle.bz_model.specs.declared.channel.Move.TheVariants.{Ask, Take, Reply, Got}
use Rattle.bz_model.specs.declared.expr.Expr.TheVariants.{Nothing}
use Rattle.bz_model.specs.declared.kind.Kind.TheVariants.{Arbiter, Call}
use Rattle.bz_model.specs.Phases.{incoming}
use Rattle.bz_model.specs.Terms.{Store, Term, forever, stored}
use Rattle.bz_model.specs.Heads.{Head, IsHead, Proc, opens, tidy}
use Rattle.bz_model.specs.Processes.{first, size}
use Rattle.bz_kinds.specs.declared.ports.PortState.TheVariants.{Closed, ClosedDue, OpenDue}
use Rattle.bz_kinds.specs.declared.row.Mix.{Mix}
use Rattle.bz_kinds.specs.Choice.{branch_left, out, round}
use Rattle.bz_kinds.proofs.ChoiceLaws.{ask_head, got_head, idle-head, left-head, reply_head, take_head}
use Rattle.bz_laws.specs.Deeds.{Deed, Made, is_open, start}
use Rattle.bz_laws.proofs.Past.{closes, open_elsewhere, open_here}

module _ (mix : Mix) (n : ℕ) where
  -- of these ports none is open but for those named
  abbrev Quiet : List Deed → Type 0
  Quiet past = (p : ℕ) → is_open p past ≡ false

  abbrev QuietBut : ℕ → List Deed → Type 0
  QuietBut q past = (p : ℕ) → p ≢ q → is_open p past ≡ false

  abbrev QuietButTwo : ℕ → ℕ → List Deed → Type 0
  QuietButTwo q r past = (p : ℕ) → p ≢ q → p ≢ r → is_open p past ≡ false

  -- where a component is, whose past this is
  data Place (past : List Deed) (todo : Term) : Type 0 where
    waits : todo ≡ forever (round mix n) → Quiet past → Place past todo
    asks : (i : ℕ) → i < n → todo ≡ branch_left mix n i ClosedDue → QuietBut (first i) past → Place past todo
    gets : (i : ℕ) → todo ≡ branch_left mix n i OpenDue → QuietButTwo (first i) (out mix n i) past → Place past todo
    answers : (i : ℕ) → todo ≡ branch_left mix n i Closed → QuietBut (first i) past → Place past todo

  -- the head that it has there
  data Next (past : List Deed) (h : Head) : Type 0 where
    takes : (i : ℕ) → i < n → h ≡ take_head mix n i → Quiet past → Next past h
    begins : (i : ℕ) → i < n → h ≡ ask_head mix n i → QuietBut (first i) past → Next past h
    ends : (i : ℕ) → h ≡ got_head mix n i → QuietButTwo (first i) (out mix n i) past → Next past h
    replies : (i : ℕ) → h ≡ reply_head mix n i → QuietBut (first i) past → Next past h

  next : (past : List Deed) (todo : Term) (h : Head) → Place past todo → IsHead todo h → Next past h
  next past todo h (waits e quiet) at = let (i, lt, is) = idle-head mix n h (subst (λ t. IsHead t h) e at) in takes i lt is quiet
  next past todo h (asks i lt e quiet) at = elim (left-head mix n i ClosedDue h (subst (λ t. IsHead t h) e at)) [
    | inl x ↦ absurd (let y = x.0 in cc)
    | inr (inl x) ↦ begins i lt x.1 quiet
    | inr (inr x) ↦ absurd (let y = x.0 in cc)
  ]
  next past todo h (gets i e quiet) at = elim (left-head mix n i OpenDue h (subst (λ t. IsHead t h) e at)) [
    | inl x ↦ absurd (let y = x.0 in cc)
    | inr (inl x) ↦ absurd (let y = x.0 in cc)
    | inr (inr x) ↦ ends i x.1 quiet
  ]
  next past todo h (answers i e quiet) at = elim (left-head mix n i Closed h (subst (λ t. IsHead t h) e at)) [
    | inl x ↦ replies i x.1 quiet
    | inr (inl x) ↦ absurd (let y = x.0 in cc)
    | inr (inr x) ↦ absurd (let y = x.0 in cc)
  ]

  -- where it leaves it
  goes : (past : List Deed) (d : Deed) (s : Store) (h : Head) → h.port ≡ d.port → d.move ≡ h.move → Next past h → Place (d ∷ past) (tidy s h.rest)
  goes past d s h p mv (takes i lt e quiet) =
      let port : d.port ≡ first i = sym p ∙ ap (λ (h : Head). h.port) e in
      asks i lt (rw e refl) (λ q ne. open_elsewhere q past d (λ x. ne (sym x ∙ port)) ∙ quiet q)
  goes past d s h p mv (begins i lt e quiet) =
      let port : d.port ≡ out mix n i = sym p ∙ ap (λ (h : Head). h.port) e in
      gets i (rw e refl) (λ q ne other. open_elsewhere q past d (λ x. other (sym x ∙ port)) ∙ quiet q ne)
  goes past d s h p mv (ends i e quiet) =
      let port : d.port ≡ out mix n i = sym p ∙ ap (λ (h : Head). h.port) e in
      let move : d.move ≡ Got = mv ∙ ap (λ (h : Head). h.move) e in
      answers i (rw e refl) (λ q ne. elim (cases_eq d.port q) [
        | inl x ↦ open_here q past d x ∙ ap opens move
        | inr other ↦ open_elsewhere q past d other ∙ quiet q ne (λ x. other (port ∙ sym x))
      ])
  goes past d s h p mv (replies i e quiet) =
      let port : d.port ≡ first i = sym p ∙ ap (λ (h : Head). h.port) e in
      let move : d.move ≡ Reply = mv ∙ ap (λ (h : Head). h.move) e in
      waits (rw e refl) (closes (first i) past d quiet port (ap opens move))

  reaches : (start here : Proc) (past : List Deed) → start.todo ≡ forever (round mix n) → Made start past here → Place past here.todo
  reaches start here [] is made = waits (ap (λ (q : Proc). q.todo) made ∙ is) (λ p. refl)
  reaches start here (d ∷ past) is (b, made, (phase, m)) =
      subst (Place (d ∷ past)) (sym (ap (λ (q : Proc). q.todo) m.leaves))
      (goes past d (stored m.head.into (incoming phase m.head.move) b.store) m.head m.on.1 m.move_is (next past b.todo m.head (reaches start b past is made) m.on.0))

  -- where it takes, all are closed; where it asks, all but the one that it took
  pub at_take : (begin here : Proc) (d : Deed) (past : List Deed) → begin.todo ≡ forever (round mix n) → Made begin (d ∷ past) here → d.move ≡ Take → (p : ℕ) → is_open p past ≡ false
  at_take begin here d past is (b, made, (phase, m)) move p = elim (next past b.todo m.head (reaches begin b past is made) m.on.0) [
    | takes i lt e quiet ↦ quiet p
    | begins i lt e quiet ↦ absurd (let x : d.move ≡ Ask = m.move_is ∙ ap (λ (h : Head). h.move) e in cc)
    | ends i e quiet ↦ absurd (let x : d.move ≡ Got = m.move_is ∙ ap (λ (h : Head). h.move) e in cc)
    | replies i e quiet ↦ absurd (let x : d.move ≡ Reply = m.move_is ∙ ap (λ (h : Head). h.move) e in cc)
  ]

  pub at_ask : (begin here : Proc) (d : Deed) (past : List Deed) → begin.todo ≡ forever (round mix n) → Made begin (d ∷ past) here → d.move ≡ Ask → (p : ℕ) → n < p → is_open p past ≡ false
  at_ask begin here d past is (b, made, (phase, m)) move p behind = elim (next past b.todo m.head (reaches begin b past is made) m.on.0) [
    | takes i lt e quiet ↦ absurd (let x : d.move ≡ Take = m.move_is ∙ ap (λ (h : Head). h.move) e in cc)
    | begins i lt e quiet ↦ quiet p (omega arith)
    | ends i e quiet ↦ absurd (let x : d.move ≡ Got = m.move_is ∙ ap (λ (h : Head). h.move) e in cc)
    | replies i e quiet ↦ absurd (let x : d.move ≡ Reply = m.move_is ∙ ap (λ (h : Head). h.move) e in cc)
  ]

abbrev calling : Bool → Mix
calling own = record { into = 1; leg = record { gives = Nothing; into = 1 }; answer = Nothing; own = own }

pub one_caller : (sizes : List ℕ) (chans : List Chan) (d : Deed) (past : List Deed) (here : Proc) (p : ℕ) → Made (start Call sizes chans) (d ∷ past) here
    → d.move ≡ Take → is_open p past ≡ false
one_caller sizes chans d past here p made move = at_take (calling false) (size sizes) (start Call sizes chans) here d past refl made move p

pub one_side : (sizes : List ℕ) (chans : List Chan) (d : Deed) (past : List Deed) (here : Proc) (p : ℕ) → Made (start Arbiter sizes chans) (d ∷ past) here
    → d.move ≡ Ask → 2 < p → is_open p past ≡ false
one_side sizes chans d past here p made move behind = at_ask (calling true) 2 (start Arbiter sizes chans) here d past refl made move p behind

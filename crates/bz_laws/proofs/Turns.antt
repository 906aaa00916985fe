-- Handshakes that a passive port encloses in turn: which move comes behind which.
use Rattle.std.proofs.Common.{◌≡◌, ◌≢◌, ℕ, zero, suc, List, [], ◌∷◌, Some, None, Option, refl, ap, sym, ◌∙◌, subst, get_or, arith}
use Rattle.bz_model.specs.declared.channel.Chan.{Chan}
use Rattle.bz_model.specs.declared.channel.Move.TheVariants.{Ask, Take, Reply, Got}
use Rattle.bz_model.specs.declared.channel.Phase.{Phase}
use Rattle.bz_model.specs.declared.expr.Expr.TheVariants.{Nothing, Slot}
use Rattle.bz_model.specs.declared.kind.Kind.TheVariants.{Fetch, Sequence}
use Rattle.bz_model.specs.Phases.{incoming}
use Rattle.bz_model.specs.Terms.{Store, Term, reply, got, seq, forever, in_turn, stored, value_of}
use Rattle.bz_model.specs.Heads.{Head, IsHead, Proc, Moves, carried, tidy}
use Rattle.bz_model.specs.Processes.{member, size}
use Rattle.bz_kinds.specs.declared.row.Legs.TheVariants.{Each, Two}
use Rattle.bz_kinds.specs.declared.row.Row.{Row}
use Rattle.bz_kinds.specs.Row.{leg_of}
use Rattle.bz_kinds.specs.Together.{leg}
use Rattle.bz_kinds.specs.InTurn.{round}
use Rattle.bz_kinds.proofs.InTurnLaws.{ask_head, due-head, got_head, idle-head, reply_head, take_head}
use Rattle.bz_laws.specs.Deeds.{Deed, IsTurnOf, Made, brings, came_at, start}
use Rattle.bz_laws.proofs.Past.{asks-nothing, elsewhere, replies-nothing, silent}

module _ (row : Row) (n : ℕ) where
  -- what is left where leg k is to begin, or to end, and m legs come after it
  abbrev asking : (k m : ℕ) → Term
  asking k m = seq (seq (seq (leg row k) (in_turn (suc k) m (leg row))) (reply 1 row.answer)) (forever (round row n))

  abbrev getting : (k m : ℕ) → Term
  getting k m = seq (seq (seq (got (member k) (leg_of row.legs k).into) (in_turn (suc k) m (leg row))) (reply 1 row.answer)) (forever (round row n))

  abbrev answering : Term
  answering = seq (reply 1 row.answer) (forever (round row n))

  -- where a component is, whose past this is
  data Place (past : List Deed) (todo : Term) : Type 0 where
    waits : todo ≡ forever (round row n) → Place past todo
    asks : (k m : ℕ) → todo ≡ asking k m → IsTurnOf k past → Place past todo
    gets : (k m : ℕ) → todo ≡ getting k m → Place past todo
    answers : todo ≡ answering → Place past todo

  -- the head that it has there
  data Next (past : List Deed) (h : Head) : Type 0 where
    takes : h ≡ take_head row n → Next past h
    begins : (k m : ℕ) → h ≡ ask_head row n k m → IsTurnOf k past → Next past h
    ends : (k m : ℕ) → h ≡ got_head row n k m → Next past h
    replies : h ≡ reply_head row n → Next past h

  ask-is : (k m : ℕ) (h : Head) → IsHead (asking k m) h → h ≡ ask_head row n k m
  ask-is k m h (r, (q, (p, (o, e0, e1), e2), e3), e4) = simp (e4, e3, e2, e1, e0)

  got-is : (k m : ℕ) (h : Head) → IsHead (getting k m) h → h ≡ got_head row n k m
  got-is k m h (r, (q, (p, e1, e2), e3), e4) = simp (e4, e3, e2, e1)

  next : (past : List Deed) (todo : Term) (h : Head) → Place past todo → IsHead todo h → Next past h
  next past todo h (waits e) at = takes (idle-head row n h (subst (λ t. IsHead t h) e at))
  next past todo h (asks k m e turn) at = begins k m (ask-is k m h (subst (λ t. IsHead t h) e at)) turn
  next past todo h (gets k m e) at = ends k m (got-is k m h (subst (λ t. IsHead t h) e at))
  next past todo h (answers e) at = replies (due-head row n h (subst (λ t. IsHead t h) e at))

  -- where it leaves it
  began : (past : List Deed) (d : Deed) (s : Store) → d.port ≡ 1 → d.move ≡ Take → (l : ℕ) → n ≡ l → Place (d ∷ past) (tidy s (take_head row n).rest)
  began past d s p mv zero e = answers (rw e refl)
  began past d s p mv (suc m) e = asks 0 m (rw e refl) (p, mv)

  ended : (past : List Deed) (d : Deed) (s : Store) (k m : ℕ) → d.port ≡ member k → d.move ≡ Got → Place (d ∷ past) (tidy s (got_head row n k m).rest)
  ended past d s k zero p mv = answers refl
  ended past d s k (suc m) p mv = asks (suc k) m refl (p, mv)

  goes : (past : List Deed) (d : Deed) (s : Store) (h : Head) → h.port ≡ d.port → d.move ≡ h.move → Next past h → Place (d ∷ past) (tidy s h.rest)
  goes past d s h p mv (takes e) = rw e (began past d s (sym p ∙ ap (λ (h : Head). h.port) e) (mv ∙ ap (λ (h : Head). h.move) e) n refl)
  goes past d s h p mv (begins k m e turn) = rw e (gets k m refl)
  goes past d s h p mv (ends k m e) = rw e (ended past d s k m (sym p ∙ ap (λ (h : Head). h.port) e) (mv ∙ ap (λ (h : Head). h.move) e))
  goes past d s h p mv (replies e) = rw e (waits refl)

  reaches : (start here : Proc) (past : List Deed) → start.todo ≡ forever (round row n) → Made start past here → Place past here.todo
  reaches start here [] is made = waits (ap (λ (q : Proc). q.todo) made ∙ is)
  reaches start here (d ∷ past) is (b, made, (phase, m)) =
      subst (Place (d ∷ past)) (sym (ap (λ (q : Proc). q.todo) m.leaves))
      (goes past d (stored m.head.into (incoming phase m.head.move) b.store) m.head m.on.1 m.move_is (next past b.todo m.head (reaches start b past is made) m.on.0))

-- Sequence
abbrev calls : Row
calls = record { into = 1; legs = Each (record { gives = Nothing; into = 1 }); answer = Nothing }

pub in_order : (sizes : List ℕ) (chans : List Chan) (d : Deed) (past : List Deed) (here : Proc) (i : ℕ) → Made (start Sequence sizes chans) (d ∷ past) here
    → d.port ≡ member i → d.move ≡ Ask → IsTurnOf i past
in_order sizes chans d past here i (b, made, (phase, m)) port move =
    let n = size sizes in
    let turn : (k l : ℕ) → m.head ≡ ask_head calls n k l → IsTurnOf k past → IsTurnOf i past =
    λ k l e turn. let is : member k ≡ member i = sym (ap (λ (h : Head). h.port) e) ∙ m.on.1 ∙ port in subst (λ j. IsTurnOf j past) (omega (arith, is)) turn in
    elim (next calls n past b.todo m.head (reaches calls n (start Sequence sizes chans) b past refl made) m.on.0) [
      | takes e ↦ absurd (let x : d.move ≡ Take = m.move_is ∙ ap (λ (h : Head). h.move) e in cc)
      | begins k l e is ↦ turn k l e is
      | ends k l e ↦ absurd (let x : d.move ≡ Got = m.move_is ∙ ap (λ (h : Head). h.move) e in cc)
      | replies e ↦ absurd (let x : d.move ≡ Reply = m.move_is ∙ ap (λ (h : Head). h.move) e in cc)
    ]

-- Fetch
abbrev passes : Row
passes = record { into = 1; legs = Two (record { gives = Nothing; into = 0 }) (record { gives = Slot 0; into = 1 }); answer = Nothing }

-- what it pulled is in its slot 0
record Keeps (past : List Deed) (store : Store) : Type 0 where
  other : ℕ
  store_is : store ≡ came_at 2 past ∷ other ∷ []

same : (past : List Deed) (d : Deed) (store : Store) → Keeps past store → came_at 2 past ≡ came_at 2 (d ∷ past) → Keeps (d ∷ past) store
same past d store keeps e = record { other = keeps.other; store_is = keeps.store_is ∙ ap (λ v. v ∷ keeps.other ∷ []) e }

into_other : (past : List Deed) (d : Deed) (v : Option ℕ) (store : Store) → Keeps past store → d.port ≢ 2 → Keeps (d ∷ past) (stored 1 v store)
into_other past d None store keeps ne = same past d store keeps (elsewhere 2 past d ne)
into_other past d (Some v) store keeps ne = record { other = v; store_is = rw keeps.store_is (ap (λ k. k ∷ v ∷ []) (elsewhere 2 past d ne)) }

into_first : (past : List Deed) (d : Deed) (v : Option ℕ) (store : Store) → Keeps past store → d.port ≡ 2 → d.move ≡ Got → d.value ≡ v → Keeps (d ∷ past) (stored 0 v store)
into_first past d None store keeps p mv e = same past d store keeps (rw (p, mv, e) refl)
into_first past d (Some v) store keeps p mv e = record { other = keeps.other; store_is = rw (p, mv, e, keeps.store_is) refl }

module _ (past : List Deed) (d : Deed) (b c : Proc) (phase : Phase) (m : Moves b d.port phase d.move d.value c) where
  port_of : (h : Head) → m.head ≡ h → d.port ≡ h.port
  port_of h e = sym m.on.1 ∙ ap (λ (h : Head). h.port) e

  move_of : (h : Head) → m.head ≡ h → d.move ≡ h.move
  move_of h e = m.move_is ∙ ap (λ (h : Head). h.move) e

  -- what a move stores
  by_head : (h : Head) → m.head ≡ h → Keeps (d ∷ past) (stored h.into (incoming phase h.move) b.store) → Keeps (d ∷ past) c.store
  by_head h e keeps = subst (Keeps (d ∷ past)) (sym (ap (λ (q : Proc). q.store) m.leaves)) (subst (λ (h : Head). Keeps (d ∷ past) (stored h.into (incoming phase h.move) b.store)) (sym e) keeps)

  by_end : (k l : ℕ) → Keeps past b.store → m.head ≡ got_head passes 2 k l → Keeps (d ∷ past) (stored (leg_of passes.legs k).into (incoming phase Got) b.store)
  by_end zero l old e =
      let mv = move_of (got_head passes 2 0 l) e in
      into_first past d (incoming phase Got) b.store old (port_of (got_head passes 2 0 l) e) mv (m.value_is ∙ ap (λ (h : Head). carried h.move h.gives b.store (incoming phase h.move)) e)
  by_end (suc k) l old e = into_other past d (incoming phase Got) b.store old (let p = port_of (got_head passes 2 (suc k) l) e in omega arith)

  keeps : Keeps past b.store → Next passes 2 past m.head → Keeps (d ∷ past) c.store
  keeps old (takes e) = by_head (take_head passes 2) e (into_other past d (incoming phase Take) b.store old (let p = port_of (take_head passes 2) e in omega arith))
  keeps old (begins k l e turn) =
      let h = ask_head passes 2 k l in
      by_head h e (rw (asks-nothing phase) (same past d b.store old (silent 2 past d (ap brings (move_of h e)))))
  keeps old (ends k l e) = by_head (got_head passes 2 k l) e (by_end k l old e)
  keeps old (replies e) =
      let h = reply_head passes 2 in
      by_head h e (rw (replies-nothing phase) (same past d b.store old (silent 2 past d (ap brings (move_of h e)))))

kept : (sizes : List ℕ) (chans : List Chan) (here : Proc) (past : List Deed) → Made (start Fetch sizes chans) past here → Keeps past here.store
kept sizes chans here [] made = record { other = 0; store_is = ap (λ (q : Proc). q.store) made }
kept sizes chans here (d ∷ past) (b, made, (phase, m)) =
    keeps past d b here phase m (kept sizes chans b past made) (next passes 2 past b.todo m.head (reaches passes 2 (start Fetch sizes chans) b past refl made) m.on.0)

pub passed_on : (sizes : List ℕ) (chans : List Chan) (d : Deed) (past : List Deed) (here : Proc) → Made (start Fetch sizes chans) (d ∷ past) here
    → d.port ≡ 3 → d.move ≡ Ask → d.value ≡ Some (came_at 2 past)
passed_on sizes chans d past here (b, made, (phase, m)) port move =
    let old = kept sizes chans b past made in
    let sends : (k l : ℕ) → m.head ≡ ask_head passes 2 k l → d.value ≡ Some (came_at 2 past) =
    λ k l e.
    let is : member k ≡ 3 = sym (ap (λ (h : Head). h.port) e) ∙ m.on.1 ∙ port in
    let one : k ≡ 1 = omega (arith, is) in
    m.value_is ∙ ap (λ (h : Head). carried h.move h.gives b.store (incoming phase h.move)) e ∙ ap (λ j. value_of (leg_of passes.legs j).gives b.store) one ∙ ap (λ (s : Store). Some (get_or s 0 0)) old.store_is
    in
    elim (next passes 2 past b.todo m.head (reaches passes 2 (start Fetch sizes chans) b past refl made) m.on.0) [
      | takes e ↦ absurd (let x : d.move ≡ Take = m.move_is ∙ ap (λ (h : Head). h.move) e in cc)
      | begins k l e is ↦ sends k l e
      | ends k l e ↦ absurd (let x : d.move ≡ Got = m.move_is ∙ ap (λ (h : Head). h.move) e in cc)
      | replies e ↦ absurd (let x : d.move ≡ Reply = m.move_is ∙ ap (λ (h : Head). h.move) e in cc)
    ]

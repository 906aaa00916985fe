-- A Variable: what is in its slot 0 is what came in last at its port 1.
use Rattle.std.proofs.Common.{◌≡◌, inl, inr, ℕ, zero, suc, ◌<◌, ◌≤◌, List, [], ◌∷◌, get_or, set, replicate, Some, None, Option, refl, ap, sym, ◌∙◌, subst, arith}
use Rattle.std.proofs.lemmas.List.{get_or-replicate}
use Rattle.std.proofs.Math.ListN.{length-replicate}
use Rattle.bz_model.specs.declared.channel.Chan.{Chan}
use Rattle.bz_model.specs.declared.channel.Move.{Move}
use Rattle.bz_model.specs.declared.channel.Move.TheVariants.{Reply, Take}
use Rattle.bz_model.specs.declared.channel.Phase.{Phase}
use Rattle.bz_model.specs.declared.kind.Kind.TheVariants.{Variable}
use Rattle.bz_model.specs.Heads.{Head, IsHead, Proc, Moves, carried, tidy, together}
use Rattle.bz_model.specs.Phases.{incoming}
use Rattle.bz_model.specs.Processes.{member, size}
use Rattle.bz_model.specs.Terms.{Store, stored, value_of, par, forever, all}
use Rattle.bz_kinds.specs.declared.ports.PortState.{PortState}
use Rattle.bz_kinds.specs.declared.ports.PortState.TheVariants.{Closed, ClosedDue, OpenDue}
use Rattle.bz_kinds.specs.Cells.{IsPlace, todo, answer, round, taken_into}
use Rattle.bz_kinds.proofs.Arrays.{tidy-all, together-busy}
use Rattle.bz_kinds.proofs.CellsLaws.{cell-head, takes, replies, take_head, reply_head}
use Rattle.bz_kinds.proofs.StartLaws.{cells-begin}
use Rattle.bz_laws.specs.Deeds.{Deed, Made, Makes, brings, came_at, start}
use Rattle.bz_laws.proofs.Past.{elsewhere, silent, replies-nothing}

-- where a Variable with n readers is, after these moves
record IsAt (n : ℕ) (past : List Deed) (c : Proc) : Type 0 where
  ports : List PortState
  place : IsPlace n ports
  todo_is : c.todo ≡ todo n ports
  other : ℕ
  store_is : c.store ≡ came_at 1 past ∷ other ∷ []

-- the process of a cell is tidy
tidied : (s : Store) (n : ℕ) → tidy s (par (all (suc n) (λ j. forever (round j)))) ≡ par (all (suc n) (λ j. forever (round j)))
tidied s n = ap together (tidy-all s (suc n) (λ j. forever (round j)) (λ i lt. refl)) ∙ together-busy (all (suc n) (λ j. forever (round j))) refl

begins : (sizes : List ℕ) (chans : List Chan) → IsAt (size sizes) [] (start Variable sizes chans)
begins sizes chans =
    let n = size sizes in
    let w : List PortState = Closed ∷ replicate (suc n) ClosedDue in
    let from = cells-begin n w (ap suc (length-replicate (suc n) ClosedDue)) refl (due n) in
    record { ports = w; place = from.place []; todo_is = tidied (0 ∷ 0 ∷ []) n ∙ sym from.has_todo; other = 0; store_is = refl }
  where
    due : (n p : ℕ) → 1 ≤ p → p < member n → get_or (Closed ∷ replicate (suc n) ClosedDue) p Closed ≡ ClosedDue
    due n zero one lt = absurd (omega arith)
    due n (suc p) one lt = get_or-replicate (suc n) p ClosedDue Closed (omega arith)

-- what a take at port j + 1 keeps
kept : (j : ℕ) (past : List Deed) (d : Deed) (store : Store) (other : ℕ) → d.port ≡ suc j → d.move ≡ Take → store ≡ came_at 1 past ∷ other ∷ []
    → (x : ℕ) × (stored (taken_into j) d.value store ≡ came_at 1 (d ∷ past) ∷ x ∷ [])
kept zero past d store other p is keeps = elim d.value as (λ v. (x : ℕ) × (stored 0 v store ≡ came_at 1 (record { port = d.port; move = d.move; value = v } ∷ past) ∷ x ∷ [])) [
  | None ↦ (other, rw (p, is, keeps) refl)
  | Some v ↦ (other, rw (p, is, keeps) refl)
]
kept (suc j) past d store other p is keeps =
    let same : came_at 1 past ≡ came_at 1 (d ∷ past) = elsewhere 1 past d (omega arith) in
    elim d.value as (λ v. (x : ℕ) × (stored 1 v store ≡ came_at 1 (d ∷ past) ∷ x ∷ [])) [
      | None ↦ (other, keeps ∙ ap (λ k. k ∷ other ∷ []) same)
      | Some v ↦ (v, rw keeps (ap (λ k. k ∷ v ∷ []) same))
    ]

-- a take at port j + 1
took : (n j : ℕ) (past : List Deed) (d : Deed) (b c : Proc) (at : IsAt n past b) (phase : Phase) (m : Moves b d.port phase d.move d.value c)
    → j < suc n → get_or at.ports (suc j) Closed ≡ ClosedDue → m.head ≡ take_head n at.ports j → IsAt n (d ∷ past) c
took n j past d b c at phase m lt due is =
    let step = takes n at.ports at.place j lt due in
    let port : d.port ≡ suc j = sym m.on.1 ∙ ap (λ (h : Head). h.port) is in
    let move : d.move ≡ Take = m.move_is ∙ ap (λ (h : Head). h.move) is in
    let came : d.value ≡ incoming phase m.head.move = m.value_is ∙ ap (λ (mv : Move). carried mv m.head.gives b.store (incoming phase m.head.move)) (sym m.move_is ∙ move) in
    let (x, keeps) = kept j past d b.store at.other port move at.store_is in
    record {
      ports = set at.ports (suc j) OpenDue;
      place = step.place;
      todo_is = ap (λ (q : Proc). q.todo) m.leaves ∙ step.leaves m.head (subst (λ t. IsHead t m.head) at.todo_is m.on.0) (m.on.1 ∙ port) (stored m.head.into (incoming phase m.head.move) b.store);
      other = x;
      store_is = ap (λ (q : Proc). q.store) m.leaves ∙ ap (λ (v : Option ℕ). stored m.head.into v b.store) (sym came) ∙ ap (λ (h : Head). stored h.into d.value b.store) is ∙ keeps;
    }

-- a reply at port j + 1
answered : (n j : ℕ) (past : List Deed) (d : Deed) (b c : Proc) (at : IsAt n past b) (phase : Phase) (m : Moves b d.port phase d.move d.value c)
    → j < suc n → get_or at.ports (suc j) Closed ≡ OpenDue → m.head ≡ reply_head n at.ports j → IsAt n (d ∷ past) c
answered n j past d b c at phase m lt due is =
    let step = replies n at.ports at.place j lt due in
    let port : d.port ≡ suc j = sym m.on.1 ∙ ap (λ (h : Head). h.port) is in
    let move : m.head.move ≡ Reply = ap (λ (h : Head). h.move) is in
    let same : came_at 1 past ≡ came_at 1 (d ∷ past) = silent 1 past d (ap brings (m.move_is ∙ move)) in
    record {
      ports = set at.ports (suc j) ClosedDue;
      place = step.place;
      todo_is = ap (λ (q : Proc). q.todo) m.leaves ∙ step.leaves m.head (subst (λ t. IsHead t m.head) at.todo_is m.on.0) (m.on.1 ∙ port) (stored m.head.into (incoming phase m.head.move) b.store);
      other = at.other;
      store_is = ap (λ (q : Proc). q.store) m.leaves ∙ ap (λ (mv : Move). stored m.head.into (incoming phase mv) b.store) move ∙ ap (λ v. stored m.head.into v b.store) (replies-nothing phase) ∙ at.store_is ∙ ap (λ x. x ∷ at.other ∷ []) same;
    }

step : (n : ℕ) (past : List Deed) (d : Deed) (b c : Proc) → IsAt n past b → Makes b d c → IsAt n (d ∷ past) c
step n past d b c at (phase, m) =
    let head : IsHead (todo n at.ports) m.head = subst (λ t. IsHead t m.head) at.todo_is m.on.0 in
    let (j, lt, which) = cell-head n at.ports at.place m.head head in
    elim which [ inl y ↦ took n j past d b c at phase m lt y.0 y.1 | inr y ↦ answered n j past d b c at phase m lt y.0 y.1 ]

reaches : (sizes : List ℕ) (chans : List Chan) (past : List Deed) (here : Proc) → Made (start Variable sizes chans) past here → IsAt (size sizes) past here
reaches sizes chans [] here is = subst (IsAt (size sizes) []) (sym is) (begins sizes chans)
reaches sizes chans (d ∷ past) here (b, made, makes) = step (size sizes) past d b here (reaches sizes chans past b made) makes

-- what part i + 1 replies
pub law : (sizes : List ℕ) (chans : List Chan) (d : Deed) (past : List Deed) (here : Proc) (i : ℕ) → Made (start Variable sizes chans) (d ∷ past) here
    → d.port ≡ member i → d.move ≡ Reply → d.value ≡ Some (came_at 1 past)
law sizes chans d past here i (b, made, (phase, m)) port move =
    let n = size sizes in
    let at = reaches sizes chans past b made in
    let (j, lt, which) = cell-head n at.ports at.place m.head (subst (λ t. IsHead t m.head) at.todo_is m.on.0) in
    elim which [
      | inl y ↦ absurd (let e : d.move ≡ Take = m.move_is ∙ ap (λ (h : Head). h.move) y.1 in cc)
      | inr y ↦
          let e : member i ≡ suc j = sym port ∙ sym m.on.1 ∙ ap (λ (h : Head). h.port) y.1 in
          let k : j ≡ suc i = omega arith in
          m.value_is ∙ ap (λ (h : Head). carried h.move h.gives b.store (incoming phase h.move)) y.1 ∙ ap (λ (q : ℕ). value_of (answer q) b.store) k ∙ ap (λ (s : Store). Some (get_or s 0 0)) at.store_is
    ]

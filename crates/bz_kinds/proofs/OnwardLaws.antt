-- What a move that was named leaves due: something that waits for nothing, or one move alone, which waits.
use Rattle.std.proofs.Common.{◌≡◌, ◌≢◌, inl, inr, ℕ, zero, suc, ◌+◌, ◌-◌, Bool, true, false, List, length, map, Option, Some, None, IsTrue, ◌↔◌, get_or, refl, sym, ap, subst, ◌∙◌, arith}
use Rattle.std.specs.Prelude.{not}
use Rattle.std.specs.Option.{option_map}
use Rattle.std.proofs.lemmas.Bool.{cases_eq, cases_lt, false≢true}
use Rattle.std.proofs.lemmas.List.{get_or_past}
use Rattle.bz_model.specs.declared.channel.Move.{Move}
use Rattle.bz_model.specs.declared.channel.Phase.{Phase}
use Rattle.bz_model.specs.Phases.{allows}
use Rattle.bz_model.specs.declared.channel.Move.TheVariants.{Ask, Take, Reply, Got}
use Rattle.bz_model.specs.declared.channel.Chan.{Chan}
use Rattle.bz_model.specs.Heads.{Component, Head, Moves, carried}
use Rattle.bz_model.specs.Processes.{member}
use Rattle.bz_model.specs.Terms.{Store, stored, value_of}
use Rattle.bz_kinds.specs.declared.process.Process.{Process}
use Rattle.bz_kinds.specs.declared.kept.KeptPlan.{KeptPlan}
use Rattle.bz_kinds.specs.declared.ports.PortState.{PortState}
use Rattle.bz_kinds.specs.declared.ports.PortState.TheVariants.{Closed, ClosedDue, Open, OpenDue}
use Rattle.bz_kinds.specs.declared.row.Plan.{Plan}
use Rattle.bz_kinds.specs.declared.row.Plan.TheVariants.{InTurn}
use Rattle.bz_kinds.specs.declared.row.Row.{Row}
use Rattle.bz_kinds.specs.Kept.{plan_of}
use Rattle.bz_kinds.specs.KeptLists.{slots_of}
use Rattle.bz_kinds.specs.Ports.{is_due}
use Rattle.bz_kinds.specs.Riding.{Made, riding, taken}
use Rattle.bz_kinds.specs.Row.{Due, Toggles, due_of, is_open, leg_of, row_due}
use Rattle.bz_kinds.specs.Comp.{IsAt, Goes, places, plan_due, todo_of}
use Rattle.bz_kinds.specs.InTurn as turn
use Rattle.bz_kinds.specs.Sense.{enclosing, move_by, sense}
use Rattle.bz_kinds.specs.Ready.{CanGo}
use Rattle.bz_kinds.specs.Sure.{HasMove, IsSure, WaitsAt}
use Rattle.bz_kinds.specs.Turn.{GoesOn, HasGone, HasMade, IsDueMove, KeepsPlan, StaysAt}
use Rattle.bz_kinds.specs.Onward.{OneWaits, SomeSure, is_sure}
use Rattle.bz_kinds.proofs.InTurnLaws.{leg_turn, steps-at}
use Rattle.bz_kinds.proofs.MadeLaws.{at-lead, at-leg, lead-replied, lead-taken, leg-asked, leg-got}
use Rattle.bz_kinds.proofs.PlanLaws.{head-on-due, moves, turn-step}
use Rattle.bz_kinds.proofs.ReadyLaws.{at_ports, can_go, goes_by, was_due}
use Rattle.bz_kinds.proofs.RidingLaws.{came}
use Rattle.bz_kinds.proofs.SenseLaws.{due-move}
use Rattle.bz_kinds.proofs.SureLaws.{can}

-- the port's sense and state, by the move
pub takes-at : (o : Option Bool) (a : PortState) → move_by o a ≡ Some Take → (o ≡ Some true) × (a ≡ ClosedDue)
takes-at None a e = absurd (cc)
takes-at (Some passive) Closed e = absurd (cc)
takes-at (Some true) ClosedDue e = (refl, refl)
takes-at (Some false) ClosedDue e = absurd (cc)
takes-at (Some passive) Open e = absurd (cc)
takes-at (Some true) OpenDue e = absurd (cc)
takes-at (Some false) OpenDue e = absurd (cc)

pub asks-at : (o : Option Bool) (a : PortState) → move_by o a ≡ Some Ask → (o ≡ Some false) × (a ≡ ClosedDue)
asks-at None a e = absurd (cc)
asks-at (Some passive) Closed e = absurd (cc)
asks-at (Some true) ClosedDue e = absurd (cc)
asks-at (Some false) ClosedDue e = (refl, refl)
asks-at (Some passive) Open e = absurd (cc)
asks-at (Some true) OpenDue e = absurd (cc)
asks-at (Some false) OpenDue e = absurd (cc)

pub replies-at : (o : Option Bool) (a : PortState) → move_by o a ≡ Some Reply → (o ≡ Some true) × (a ≡ OpenDue)
replies-at None a e = absurd (cc)
replies-at (Some passive) Closed e = absurd (cc)
replies-at (Some true) ClosedDue e = absurd (cc)
replies-at (Some false) ClosedDue e = absurd (cc)
replies-at (Some passive) Open e = absurd (cc)
replies-at (Some true) OpenDue e = (refl, refl)
replies-at (Some false) OpenDue e = absurd (cc)

pub gets-at : (o : Option Bool) (a : PortState) → move_by o a ≡ Some Got → (o ≡ Some false) × (a ≡ OpenDue)
gets-at None a e = absurd (cc)
gets-at (Some passive) Closed e = absurd (cc)
gets-at (Some true) ClosedDue e = absurd (cc)
gets-at (Some false) ClosedDue e = absurd (cc)
gets-at (Some passive) Open e = absurd (cc)
gets-at (Some true) OpenDue e = absurd (cc)
gets-at (Some false) OpenDue e = (refl, refl)

-- where port 1 encloses
pub lead-one : (p : ℕ) → enclosing p ≡ Some true → p ≡ 1
lead-one zero e = absurd (cc)
lead-one (suc zero) e = refl
lead-one (suc (suc i)) e = absurd (cc)

pub leg-some : (p : ℕ) → enclosing p ≡ Some false → p ≡ member (p - 2)
leg-some zero e = absurd (cc)
leg-some (suc zero) e = absurd (cc)
leg-some (suc (suc i)) e = omega arith

pub takes-one : (p : ℕ) (a : PortState) → move_by (enclosing p) a ≡ Some Take → p ≡ 1
takes-one p a e = lead-one p (takes-at (enclosing p) a e).0

pub replies-one : (p : ℕ) (a : PortState) → move_by (enclosing p) a ≡ Some Reply → p ≡ 1
replies-one p a e = lead-one p (replies-at (enclosing p) a e).0

pub asks-leg : (p : ℕ) (a : PortState) → move_by (enclosing p) a ≡ Some Ask → p ≡ member (p - 2)
asks-leg p a e = leg-some p (asks-at (enclosing p) a e).0

pub gets-leg : (p : ℕ) (a : PortState) → move_by (enclosing p) a ≡ Some Got → p ≡ member (p - 2)
gets-leg p a e = leg-some p (gets-at (enclosing p) a e).0

-- the same of a plan that is such a row
pub in-turn-at : (plan : Plan) (row : Row) → plan ≡ InTurn row → (n p : ℕ) (a : PortState) (mv : Move) → move_by (sense plan n p) a ≡ Some mv → move_by (enclosing p) a ≡ Some mv
in-turn-at plan row is n p a mv e = subst (λ (q : Plan). move_by (sense q n p) a ≡ Some mv) is e

-- what is due is the move of the port's sense and state
pub due-named : (c : Process) (p : ℕ) (mv : Move) (d : Due) → IsDueMove c p mv → plan_due (plan_of c.plan) c.size c.left p (get_or c.ports p Closed) ≡ Some d → d.mv ≡ mv
due-named c p mv d is e =
    let same : Some d.mv ≡ Some mv = ap (option_map (λ (d : Due). d.mv)) (sym e) ∙ due-move (plan_of c.plan) c.size c.left p (get_or c.ports p Closed) ∙ is in
    cc

-- and of a head
pub due-by : (plan : Plan) (n left p : ℕ) (a : PortState) (h : Head) (mv : Move) → plan_due plan n left p a ≡ Some (due_of h) → h.move ≡ mv → move_by (sense plan n p) a ≡ Some mv
due-by plan n left p a h mv e is = sym (due-move plan n left p a) ∙ ap (option_map (λ (d : Due). d.mv)) e ∙ ap Some is

-- so it was that which was made
pub made-in : (c : Process) (p : ℕ) (rides : Option ℕ) (c' : Process) (mv made : Move) (v : Option ℕ) → IsDueMove c p mv → ((r : Option ℕ) → taken mv r ≡ r) → ((s : Store) (r : Option ℕ) → (d : Due) → carried mv d.gives s r ≡ r) → HasMade c p rides c' made v → HasMade c p rides c' mv rides
made-in c p rides c' mv made v is took came has d e =
    let t = due-named c p mv d is e in
    record {
      move_is = sym t;
      value_is = subst (λ (m : Move). rides ≡ carried m d.gives (slots_of c.slots) (taken m rides)) (sym t) (sym (came (slots_of c.slots) (taken mv rides) d ∙ took rides));
      kept = (has d e).kept;
    }

pub made-taken : (c : Process) (p : ℕ) (rides : Option ℕ) (c' : Process) (made : Move) (v : Option ℕ) → IsDueMove c p Take → HasMade c p rides c' made v → HasMade c p rides c' Take rides
made-taken c p rides c' made v is has = made-in c p rides c' Take made v is (λ r. refl) (λ s r d. refl) has

pub made-got : (c : Process) (p : ℕ) (rides : Option ℕ) (c' : Process) (made : Move) (v : Option ℕ) → IsDueMove c p Got → HasMade c p rides c' made v → HasMade c p rides c' Got rides
made-got c p rides c' made v is has = made-in c p rides c' Got made v is (λ r. refl) (λ s r d. refl) has

pub made-as : (c : Process) (p : ℕ) (rides : Option ℕ) (c' : Process) (mv made : Move) (v : Option ℕ) → IsDueMove c p mv → HasMade c p rides c' made v → HasMade c p rides c' mv v
made-as c p rides c' mv made v is has d e = record { move_is = sym (due-named c p mv d is e); value_is = (has d e).value_is; kept = (has d e).kept }

-- states by what is open
open-lead : (a : PortState) → is_open a ≡ true → a ≢ ClosedDue
open-lead a up is = false≢true (sym (ap is_open is) ∙ up)

down-open : (a : PortState) → is_open a ≡ false → a ≢ Open
down-open a down is = false≢true (sym down ∙ ap is_open is)

down-due : (a : PortState) → is_open a ≡ false → a ≢ OpenDue
down-due a down is = false≢true (sym down ∙ ap is_open is)

up-some : (a : PortState) → is_open a ≡ true → a ≢ Closed
up-some a up is = false≢true (sym (ap is_open is) ∙ up)

-- a row in turn: where nothing enclosed is open, the next one begins, or the enclosing port replies
turn-on : (n left : ℕ) (w : List PortState) → turn.IsPlace n left w → is_open (get_or w 1 Closed) ≡ true → ((i : ℕ) → is_open (get_or w (member i) Closed) ≡ false) → SomeSure enclosing w
turn-on n left w ok up down = elim ok.lead [
  | inl x ↦ absurd (open-lead _ up x.0)
  | inr (inl x) ↦
      let k : ℕ = n - left in
      let b = x.1 in
      let c = x.2 in (
        member k,
        elim (ok.due k (omega (arith, b, c)) (omega (arith, b, c))) [
          | inl y ↦ ap (is_sure (Some false)) y
          | inr y ↦ absurd (down-due _ (down k) y)
        ],
      )
  | inr (inr x) ↦ (1, ap (is_sure (Some true)) x.0)
]

-- where an enclosed one is open, it waits
turn-in : (n left : ℕ) (w : List PortState) (i : ℕ) → turn.IsPlace n left w → is_open (get_or w (member i) Closed) ≡ true → OneWaits enclosing w (member i)
turn-in n left w i ok up =
    let (turn, lt, waits, some) = leg_turn n left w ok i (up-some _ up) in
    record {
      waits = elim (ok.due i lt turn) [ inl x ↦ absurd (open-lead _ up x) | inr x ↦ ap (is_sure (Some false)) x ];
      alone = alone turn waits;
    }
  where
    alone : i + left ≡ n → get_or w 1 Closed ≡ Open → (q : ℕ) → q ≢ member i → is_due (get_or w q Closed) ≡ false
    alone turn waits zero ne = ap is_due ok.none
    alone turn waits (suc zero) ne = ap is_due waits
    alone turn waits (suc (suc j)) ne = ap is_due (ok.quiet j (λ e. ne (omega (arith, e, turn))))

-- with none left each is closed
turn-closed : (n : ℕ) (w : List PortState) → turn.IsPlace n 0 w → (i : ℕ) → get_or w (member i) Closed ≡ Closed
turn-closed n w ok i = elim (cases_lt i n) [
  | inl lt ↦ ok.quiet i (let d : i + 0 ≢ n = omega (arith, lt) in d)
  | inr ge ↦ get_or_past w (member i) Closed (let l = ok.long in omega (arith, ge, l))
]

-- and where the enclosing port is closed, it waits
turn-out : (n left : ℕ) (w : List PortState) → turn.IsPlace n left w → is_open (get_or w 1 Closed) ≡ false → OneWaits enclosing w 1
turn-out n left w ok down = elim ok.lead [
  | inl x ↦
      let ok' : turn.IsPlace n 0 w = subst (λ k. turn.IsPlace n k w) x.1 ok in
      record { waits = ap (is_sure (Some true)) x.0; alone = alone ok' }
  | inr (inl x) ↦ absurd (down-open _ down x.0)
  | inr (inr x) ↦ absurd (down-due _ down x.0)
]
  where
    alone : turn.IsPlace n 0 w → (q : ℕ) → q ≢ 1 → is_due (get_or w q Closed) ≡ false
    alone ok' zero ne = ap is_due ok.none
    alone ok' (suc zero) ne = absurd (ne refl)
    alone ok' (suc (suc j)) ne = ap is_due (turn-closed n w ok' j)

-- so after each move
module _ (n left : ℕ) (w : List PortState) (p left' : ℕ) (w' : List PortState) (ok : turn.IsPlace n left w) (ok' : turn.IsPlace n left' w') (toggles : Toggles w p w') where
  turn-took : move_by (enclosing p) (get_or w p Closed) ≡ Some Take → SomeSure enclosing w'
  turn-took e =
      let one = takes-one p _ e in
      let due : get_or w 1 Closed ≡ ClosedDue = subst (λ q. get_or w q Closed ≡ ClosedDue) one (takes-at _ _ e).1 in
      let t : Toggles w 1 w' = subst (λ q. Toggles w q w') one toggles in
      let none : left ≡ 0 = elim ok.lead [ inl x ↦ x.1 | inr (inl x) ↦ absurd (let y = x.0 in cc) | inr (inr x) ↦ x.1 ] in
      let idle : turn.IsPlace n 0 w = subst (λ k. turn.IsPlace n k w) none ok in
      turn-on n left' w' ok' (t.here ∙ ap (λ a. not (is_open a)) due) (λ i. t.others (member i) (omega arith) ∙ ap is_open (turn-closed n w idle i))

  turn-got : move_by (enclosing p) (get_or w p Closed) ≡ Some Got → SomeSure enclosing w'
  turn-got e =
      let i : ℕ = p - 2 in
      let leg : p ≡ member i = gets-leg p _ e in
      let due : get_or w (member i) Closed ≡ OpenDue = subst (λ q. get_or w q Closed ≡ OpenDue) leg (gets-at _ _ e).1 in
      let t : Toggles w (member i) w' = subst (λ q. Toggles w q w') leg toggles in
      let (turn, lt, waits, some) = leg_turn n left w ok i (λ z. let y = due in cc) in
      turn-on n left' w' ok' (t.others 1 (omega arith) ∙ ap is_open waits) (λ j. elim (cases_eq j i) [
        | inl same ↦ subst (λ k. is_open (get_or w' (member k) Closed) ≡ false) (sym same) (t.here ∙ ap (λ a. not (is_open a)) due)
        | inr ne ↦ t.others (member j) (let d : member j ≢ member i = omega (arith, ne) in d) ∙ ap is_open (ok.quiet j (let d : j + left ≢ n = omega (arith, ne, turn) in d))
      ])

  turn-asked : move_by (enclosing p) (get_or w p Closed) ≡ Some Ask → OneWaits enclosing w' p
  turn-asked e =
      let i : ℕ = p - 2 in
      let leg : p ≡ member i = asks-leg p _ e in
      subst (λ q. OneWaits enclosing w' q) (sym leg) (turn-in n left' w' i ok' (ap (λ q. is_open (get_or w' q Closed)) (sym leg) ∙ toggles.here ∙ ap (λ a. not (is_open a)) (asks-at _ _ e).1))

  turn-replied : move_by (enclosing p) (get_or w p Closed) ≡ Some Reply → OneWaits enclosing w' p
  turn-replied e =
      let one = replies-one p _ e in
      subst (λ q. OneWaits enclosing w' q) (sym one) (turn-out n left' w' ok' (ap (λ q. is_open (get_or w' q Closed)) (sym one) ∙ toggles.here ∙ ap (λ a. not (is_open a)) (replies-at _ _ e).1))

module _ (plan : Plan) (row : Row) (is : plan ≡ InTurn row) (n left : ℕ) (w : List PortState) (p left' : ℕ) (w' : List PortState) (s s' : Store) where
  pub in-turn-took : IsAt plan n left w s → move_by (sense plan n p) (get_or w p Closed) ≡ Some Take → Goes plan n left w p left' w' s' → SomeSure (sense plan n) w'
  in-turn-took = subst (λ (q : Plan). IsAt q n left w s → move_by (sense q n p) (get_or w p Closed) ≡ Some Take → Goes q n left w p left' w' s' → SomeSure (sense q n) w') (sym is) (λ ok e go. turn-took n left w p left' w' ok go.place go.toggles e)

  pub in-turn-got : IsAt plan n left w s → move_by (sense plan n p) (get_or w p Closed) ≡ Some Got → Goes plan n left w p left' w' s' → SomeSure (sense plan n) w'
  in-turn-got = subst (λ (q : Plan). IsAt q n left w s → move_by (sense q n p) (get_or w p Closed) ≡ Some Got → Goes q n left w p left' w' s' → SomeSure (sense q n) w') (sym is) (λ ok e go. turn-got n left w p left' w' ok go.place go.toggles e)

  pub in-turn-asked : IsAt plan n left w s → move_by (sense plan n p) (get_or w p Closed) ≡ Some Ask → Goes plan n left w p left' w' s' → OneWaits (sense plan n) w' p
  in-turn-asked = subst (λ (q : Plan). IsAt q n left w s → move_by (sense q n p) (get_or w p Closed) ≡ Some Ask → Goes q n left w p left' w' s' → OneWaits (sense q n) w' p) (sym is) (λ ok e go. turn-asked n left w p left' w' ok go.place go.toggles e)

  pub in-turn-replied : IsAt plan n left w s → move_by (sense plan n p) (get_or w p Closed) ≡ Some Reply → Goes plan n left w p left' w' s' → OneWaits (sense plan n) w' p
  in-turn-replied = subst (λ (q : Plan). IsAt q n left w s → move_by (sense q n p) (get_or w p Closed) ≡ Some Reply → Goes q n left w p left' w' s' → OneWaits (sense q n) w' p) (sym is) (λ ok e go. turn-replied n left w p left' w' ok go.place go.toggles e)

-- as a process has it, which the code may know by another name
pub went : (own c : Process) → own ≡ c → (row : Row) → plan_of c.plan ≡ InTurn row → (p q left' : ℕ) (w' : List PortState) (s' : Store) → p ≡ q → turn.Steps row own.size own.left own.ports q left' w' → Goes (plan_of c.plan) c.size c.left c.ports p left' w' s'
went own c same row is p q left' w' s' at = subst (λ (it : Process). turn.Steps row it.size it.left it.ports q left' w' → Goes (plan_of c.plan) c.size c.left c.ports p left' w' s') (sym same) (λ st. turn-step (plan_of c.plan) row is c.size c.left c.ports p left' w' s' (steps-at row c.size c.left c.ports p q left' w' at st))

pub sure-of : (own c : Process) → own ≡ c → (w' : List PortState) → SomeSure (sense (plan_of c.plan) c.size) w' → SomeSure (sense (plan_of own.plan) own.size) w'
sure-of own c same w' sure = subst (λ (it : Process). SomeSure (sense (plan_of it.plan) it.size) w') (sym same) sure

pub waits-of : (own c : Process) → own ≡ c → (w' : List PortState) (p : ℕ) → OneWaits (sense (plan_of c.plan) c.size) w' p → OneWaits (sense (plan_of own.plan) own.size) w' p
waits-of own c same w' p waits = subst (λ (it : Process). OneWaits (sense (plan_of it.plan) it.size) w' p) (sym same) waits

-- what was sent
pub row-asked : (row : Row) (p : ℕ) (a : PortState) (d : Due) (rides : Option ℕ) (s s' : Store) (value : Option ℕ) → row_due row p a ≡ Some d → move_by (enclosing p) a ≡ Some Ask → value ≡ value_of (leg_of row.legs (p - 2)).gives s → s' ≡ s → Made d rides s s' Ask value
row-asked row p a d rides s s' value e mv sent same =
    let leg = asks-leg p a mv in
    leg-asked (leg_of row.legs (p - 2)) d rides s s' a value (at-leg row p a d e (let ne : p ≢ 1 = omega (arith, leg) in ne)) (asks-at (enclosing p) a mv).1 sent same

pub row-replied : (row : Row) (p : ℕ) (a : PortState) (d : Due) (rides : Option ℕ) (s s' : Store) (value : Option ℕ) → row_due row p a ≡ Some d → move_by (enclosing p) a ≡ Some Reply → value ≡ value_of row.answer s → s' ≡ s → Made d rides s s' Reply value
row-replied row p a d rides s s' value e mv sent same = lead-replied row.into row.answer d rides s s' a value (at-lead row p a d e (replies-one p a mv)) (λ closed. let due = (replies-at (enclosing p) a mv).1 in cc) sent same

-- and what came in
pub row-taken : (row : Row) (p : ℕ) (a : PortState) (d : Due) (rides : Option ℕ) (s s' : Store) → row_due row p a ≡ Some d → move_by (enclosing p) a ≡ Some Take → s' ≡ stored row.into rides s → Made d rides s s' Take rides
row-taken row p a d rides s s' e mv kept = lead-taken row.into row.answer d rides s s' a (at-lead row p a d e (takes-one p a mv)) (takes-at (enclosing p) a mv).1 kept

pub row-got : (row : Row) (p : ℕ) (a : PortState) (d : Due) (rides : Option ℕ) (s s' : Store) → row_due row p a ≡ Some d → move_by (enclosing p) a ≡ Some Got → s' ≡ stored (leg_of row.legs (p - 2)).into rides s → Made d rides s s' Got rides
row-got row p a d rides s s' e mv kept =
    let leg = gets-leg p a mv in
    leg-got (leg_of row.legs (p - 2)) d rides s s' a (at-leg row p a d e (let ne : p ≢ 1 = omega (arith, leg) in ne)) (λ closed. let due = (gets-at (enclosing p) a mv).1 in cc) kept

-- of a component: it goes where something is sure, and waits where one move waits
sure-goes : (o : Option Bool) (a : PortState) (here : Bool) → is_sure o a ≡ true → IsTrue (can_go (move_by o a) here)
sure-goes None a here e = absurd (false≢true e)
sure-goes (Some passive) Closed here e = absurd (false≢true e)
sure-goes (Some true) ClosedDue here e = absurd (false≢true e)
sure-goes (Some false) ClosedDue here e = refl
sure-goes (Some passive) Open here e = absurd (false≢true e)
sure-goes (Some true) OpenDue here e = refl
sure-goes (Some false) OpenDue here e = absurd (false≢true e)

unsure-waits : (o : Option Bool) (a : PortState) (here : Bool) → is_sure o a ≡ false → IsTrue (can_go (move_by o a) here) → here ≡ true
unsure-waits None a here e can = absurd (false≢true can)
unsure-waits (Some passive) Closed here e can = absurd (false≢true can)
unsure-waits (Some true) ClosedDue here e can = can
unsure-waits (Some false) ClosedDue here e can = absurd (false≢true (sym e))
unsure-waits (Some passive) Open here e can = absurd (false≢true can)
unsure-waits (Some true) OpenDue here e can = absurd (false≢true (sym e))
unsure-waits (Some false) OpenDue here e can = can

module _ (c c' : Process) (p : ℕ) (kept : KeepsPlan c c') (gone : HasGone c p c') (chans : List Chan) where
  abbrev after : Component
  after = record { proc = record { todo = todo_of (plan_of c'.plan) c'.size c'.left c'.ports; store = slots_of c'.slots }; chans = chans; open_ports = map is_open c'.ports }

  -- it is what the move leaves
  pub moved : (comp : Component) → record { proc = record { todo = todo_of (plan_of c.plan) c.size c.left c.ports; store = slots_of c.slots }; chans = chans; open_ports = map is_open c.ports } ≡ comp → IsAt (plan_of c.plan) c.size c.left c.ports (slots_of c.slots) → (phase : Phase) (rides : Option ℕ) (mv : Move) (value : Option ℕ) → HasMove comp.proc p mv → IsTrue (allows phase mv) → rides ≡ riding phase → HasMade c p rides c' mv value → Moves comp.proc p phase mv value after.proc
  moved comp view ok phase rides mv value next may rode has =
      let (h, on, can) = can comp.proc p mv phase next may in
      let due = head-on-due (plan_of c.plan) c.size c.left c.ports (slots_of c.slots) chans comp view ok p h on in
      let made = has (due_of h) due in
      rw made.move_is (rw kept.0 (rw kept.1 (moves (plan_of c.plan) c.size c.left c.ports (slots_of c.slots) chans comp view ok p phase (due_of h) value (taken h.move rides) c'.left c'.ports (slots_of c'.slots) due can (came phase rides h.move rode can) made.value_is made.kept gone)))

  still-at : IsAt (plan_of c'.plan) c'.size c'.left c'.ports (slots_of c'.slots)
  still-at = subst (λ n. IsAt (plan_of c'.plan) n c'.left c'.ports (slots_of c'.slots)) (sym kept.1) (subst (λ (q : KeptPlan). IsAt (plan_of q) c.size c'.left c'.ports (slots_of c'.slots)) (sym kept.0) gone.place)

  goes-after : (q : ℕ) (here : Bool) → IsTrue (can_go (move_by (sense (plan_of c'.plan) c'.size q) (get_or c'.ports q Closed)) here) ↔ CanGo after.proc q here
  goes-after q here = goes_by (plan_of c'.plan) c'.size c'.left c'.ports (slots_of c'.slots) chans after refl still-at q here

  pub is-sure : places (plan_of c.plan) c.size ≡ suc (length chans) → GoesOn c' → IsSure after
  is-sure long (q, sure) =
      let goes : (here : Bool) → CanGo after.proc q here = λ here. (goes-after q here).0 (sure-goes (sense (plan_of c'.plan) c'.size q) (get_or c'.ports q Closed) here sure) in
      let long' : places (plan_of c'.plan) c'.size ≡ suc (length chans) = subst (λ n. places (plan_of c'.plan) n ≡ suc (length chans)) (sym kept.1) (subst (λ (r : KeptPlan). places (plan_of r) c.size ≡ suc (length chans)) (sym kept.0) long) in
      let (h, on, free) = goes true in
      let (low, high) = at_ports (plan_of c'.plan) c'.size c'.left c'.ports (slots_of c'.slots) chans after refl still-at long' q h on in
      (q, low, high, goes)

  pub waits-at : StaysAt c' p → WaitsAt after.proc p
  waits-at stays q here can =
      let goes = (goes-after q here).1 can in
      let same : q ≡ p = elim (cases_eq q p) [ inl e ↦ e | inr ne ↦ absurd (false≢true (sym (stays.alone q ne) ∙ was_due (sense (plan_of c'.plan) c'.size q) (get_or c'.ports q Closed) here goes)) ] in
      (same, unsure-waits (sense (plan_of c'.plan) c'.size p) (get_or c'.ports p Closed) here stays.waits (subst (λ r. IsTrue (can_go (move_by (sense (plan_of c'.plan) c'.size r) (get_or c'.ports r Closed)) here)) same goes))

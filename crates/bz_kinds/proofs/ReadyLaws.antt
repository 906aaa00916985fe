-- Which ports can move, by their bits.
use Rattle.std.proofs.Common.{◌≡◌, ◌⊎◌, ℕ, zero, suc, ◌+◌, ◌-◌, ◌^◌, ◌*◌, ◌<◌, ◌≤◌, ◌==◌, inl, inr, Bool, true, false, List, Option, Some, None, IsTrue, ◌↔◌, length, get_or, map, refl, sym, ap, subst, ◌∙◌, arith}
use Rattle.std.specs.Prelude.{not, nat_lt, nat_le, ◌&&◌, if◌then◌else◌}
use Rattle.std.specs.Option.{option_map}
use Rattle.std.specs.Int.{bit_at, bit_not, w64}
use Rattle.std.proofs.lemmas.List.{get_or_past}
use Rattle.std.proofs.lemmas.Nat.Bits.{bit_at_not, bit_at-lt, bit_at-zero, bit_at_ones}
use Rattle.std.proofs.lemmas.Bool.{cases_lt, le-leb, lt-leb, lt-ltb, le-ltb, false≢true}
use Rattle.bz_bits.specs.declared.word.PortWord.{PortWord}
use Rattle.bz_bits.specs.PortWords.{number_in, between, goes}
use Rattle.bz_bits.proofs.States.{other}
use Rattle.bz_kinds.specs.Ports.{state_of, is_due, IsWordOf, NoneDueIn, SomeDueIn}
use Rattle.bz_model.specs.declared.channel.Move.{Move}
use Rattle.bz_model.specs.declared.channel.Chan.{Chan}
use Rattle.bz_model.specs.Heads.{Head, IsHeadOn, Component, opens, open_at}
use Rattle.bz_model.specs.Terms.{Store}
use Rattle.bz_model.specs.Processes.{member}
use Rattle.bz_kinds.specs.declared.ports.PortState.{PortState}
use Rattle.bz_kinds.specs.declared.ports.PortState.TheVariants.{Closed, ClosedDue, Open, OpenDue}
use Rattle.bz_kinds.specs.declared.row.Leg.{Leg}
use Rattle.bz_kinds.specs.declared.row.Script.{Script}
use Rattle.bz_kinds.specs.declared.row.Meet.{Meet}
use Rattle.bz_kinds.specs.declared.row.Plan.{Plan}
use Rattle.bz_kinds.specs.declared.row.Plan.TheVariants.{InTurn, Together, Once, Cells, Signalled, Select, Indexed, OneByOne, Choice, Meeting, Decision, Bar}
use Rattle.bz_kinds.specs.Row.{Due, is_open}
use Rattle.bz_kinds.specs.Comp.{todo_of, IsAt, plan_due, places}
use Rattle.bz_kinds.specs.Kept.{plan_of}
use Rattle.bz_kinds.specs.Start.{IsShapeOf}
use Rattle.bz_kinds.specs.declared.shape.Shape.{Shape}
use Rattle.bz_kinds.specs.declared.row.Script.TheVariants.{Loop, While, Halt}
use Rattle.bz_kinds.specs.Script as stages
use Rattle.bz_model.specs.declared.kind.Kind.{Kind}
use Rattle.bz_model.specs.Rows.{MeetsRow, PortRow, row_of, ports_of}
use Rattle.std.proofs.lemmas.List.{length-map}
use Rattle.bz_kinds.specs.Sense.{enclosing, behind, sense, move_by}
use Rattle.bz_kinds.specs.Ready.{is_told, is_free, CanGo, IsActive, IsSensed, AreReady, NoneDue}
use Rattle.bz_kinds.specs.Indexed as indexing
use Rattle.bz_kinds.specs.Once as single
use Rattle.bz_kinds.specs.Meeting as gathering
use Rattle.bz_kinds.proofs.SenseLaws.{due-move}
use Rattle.bz_kinds.proofs.PlanLaws.{next-some, next-only, head-on-due, alternates}
use Rattle.std.proofs.Math.ListN.{get_or-map}
use Rattle.bz_kinds.specs.Row.{due_of}

twice : (b : Bool) → not (not b) ≡ b
twice true = refl
twice false = refl

-- a port that a plan does not have is closed
lead_only : (w : List PortState) (p : ℕ) → get_or w 0 Closed ≡ Closed → enclosing p ≡ None → get_or w p Closed ≡ Closed
lead_only w zero none e = none
lead_only w (suc zero) none e = absurd (cc)
lead_only w (suc (suc i)) none e = absurd (cc)

once_none : (n left : ℕ) (w : List PortState) → single.IsPlace n left w → get_or w 0 Closed ≡ Closed
once_none n left w (inl going) = going.place.none
once_none n left w (inr over) = over.quiet 0 (λ e. omega arith)

index_none : (n chosen : ℕ) (w : List PortState) → indexing.IsTurn n chosen w → get_or w 0 Closed ≡ Closed
index_none n chosen w (inl idle) = idle.quiet 0 (λ e. omega arith)
index_none n chosen w (inr (inl asking)) = asking.quiet 0 (λ e. omega arith) (λ e. omega arith)
index_none n chosen w (inr (inr (inl pulling))) = pulling.quiet 0 (λ e. omega arith) (λ e. omega arith)
index_none n chosen w (inr (inr (inr replying))) = replying.quiet 0 (λ e. omega arith)

meeting_none : (meet : Meet) (n i : ℕ) (w : List PortState) (leg : Option Leg) → leg ≡ meet.leg → length w ≡ suc (n + gathering.actives meet) → (if nat_lt i n then Some true else behind leg) ≡ None → get_or w (suc i) Closed ≡ Closed
meeting_none meet n i w (Some leg) is long e =
    elim (cases_lt i n) [
      | inl lt ↦ absurd (let f = sym (ap (λ (b : Bool). if b then Some true else Some false) (lt-ltb i n lt)) ∙ e in cc)
      | inr ge ↦ absurd (let f = sym (ap (λ (b : Bool). if b then Some true else Some false) (le-ltb i n ge)) ∙ e in cc)
    ]
meeting_none meet n i w None is long e =
    elim (cases_lt i n) [
      | inl lt ↦ absurd (let f = sym (ap (λ (b : Bool). if b then Some true else behind None) (lt-ltb i n lt)) ∙ e in cc)
      | inr ge ↦ let none : gathering.actives meet ≡ 0 = ap gathering.count_by_leg (sym is) in get_or_past w (suc i) Closed (omega (arith, long, none, ge))
    ]

pub unsensed : (plan : Plan) (n left : ℕ) (w : List PortState) (s : Store) → IsAt plan n left w s → (p : ℕ) → sense plan n p ≡ None → get_or w p Closed ≡ Closed
unsensed (InTurn row) n left w s ok p e = lead_only w p ok.none e
unsensed (Together row) n left w s ok p e = lead_only w p ok.none e
unsensed (Once row) n left w s ok p e = lead_only w p (once_none n left w ok) e
unsensed (Select spans) n left w s ok p e = lead_only w p ok.0.none e
unsensed (Indexed spans) n left w s ok p e = lead_only w p (index_none n left w ok.0.turn) e
unsensed (OneByOne script) n left w s ok p e = absurd (cc)
unsensed Cells n left w s ok zero e = ok.none
unsensed Cells n left w s ok (suc i) e = absurd (cc)
unsensed Signalled n left w s ok zero e = ok.none
unsensed Signalled n left w s ok (suc i) e = absurd (cc)
unsensed (Choice mix) n left w s ok p e = absurd (cc)
unsensed (Meeting meet) n left w s ok zero e = ok.none
unsensed (Meeting meet) n left w s ok (suc i) e = meeting_none meet n i w meet.leg refl ok.long e
unsensed Decision n left w s ok zero e = ok.none
unsensed Decision n left w s ok (suc i) e = absurd (cc)
unsensed Bar n left w s ok zero e = ok.none
unsensed Bar n left w s ok (suc i) e = absurd (cc)

-- whether the move that is due can be made
abbrev pub can_go : Option Move → Bool → Bool
can_go None here = false
can_go (Some mv) here = is_free mv here

-- one place of a word
gate : (o : Option Bool) (d q : ℕ) (here : Bool) → d < 2 → q < 2 → (o ≡ None → state_of (d + 2 * q) ≡ Closed) → goes (d == 1) (q == 1) (is_told o) here ≡ can_go (move_by o (state_of (d + 2 * q))) here
gate None zero q here dl ql quiet = refl
gate None (suc zero) zero here dl ql quiet = absurd (let e = quiet refl in cc)
gate None (suc zero) (suc zero) here dl ql quiet = absurd (let e = quiet refl in cc)
gate None (suc zero) (suc (suc q)) here dl ql quiet = absurd (omega arith)
gate None (suc (suc d)) q here dl ql quiet = absurd (omega arith)
gate (Some passive) zero zero here dl ql quiet = refl
gate (Some passive) zero (suc zero) here dl ql quiet = refl
gate (Some true) (suc zero) zero true dl ql quiet = refl
gate (Some true) (suc zero) zero false dl ql quiet = refl
gate (Some false) (suc zero) zero true dl ql quiet = refl
gate (Some false) (suc zero) zero false dl ql quiet = refl
gate (Some true) (suc zero) (suc zero) true dl ql quiet = refl
gate (Some true) (suc zero) (suc zero) false dl ql quiet = refl
gate (Some false) (suc zero) (suc zero) true dl ql quiet = refl
gate (Some false) (suc zero) (suc zero) false dl ql quiet = refl
gate (Some passive) (suc (suc d)) q here dl ql quiet = absurd (omega arith)
gate (Some passive) d (suc (suc q)) here dl ql quiet = absurd (omega arith)

-- a move that is due can be made where what it waits for is here
turning : (o : Option Bool) (x : PortState) → (o ≡ None → x ≡ Closed) → is_due x ≡ true → IsTrue (can_go (move_by o x) true)
turning None x quiet due = absurd (false≢true (sym (ap is_due (quiet refl)) ∙ due))
turning (Some passive) Closed quiet due = absurd (false≢true due)
turning (Some true) ClosedDue quiet due = refl
turning (Some false) ClosedDue quiet due = refl
turning (Some passive) Open quiet due = absurd (false≢true due)
turning (Some true) OpenDue quiet due = refl
turning (Some false) OpenDue quiet due = refl

-- and one that can be made is due
pub was_due : (o : Option Bool) (x : PortState) (here : Bool) → IsTrue (can_go (move_by o x) here) → is_due x ≡ true
was_due None x here can = absurd (false≢true can)
was_due (Some passive) Closed here can = absurd (false≢true can)
was_due (Some passive) ClosedDue here can = refl
was_due (Some passive) Open here can = absurd (false≢true can)
was_due (Some passive) OpenDue here can = refl

module _ (plan : Plan) (n left : ℕ) (w : List PortState) (s : Store) (chans : List Chan) (c : Component) (view : record { proc = record { todo = todo_of plan n left w; store = s }; chans = chans; open_ports = map is_open w } ≡ c) (ok : IsAt plan n left w s) where
  abbrev next_at : ℕ → Option Move
  next_at p = option_map (λ (d : Due). d.mv) (plan_due plan n left p (get_or w p Closed))

  -- the move that is due is that of the head
  goes_on : (p : ℕ) (here : Bool) (o : Option Move) → o ≡ next_at p → IsTrue (can_go o here) ↔ CanGo c.proc p here
  goes_on p here None is = (λ t. absurd (false≢true t), λ (h, on, free). absurd (let e = next-only plan n left w s chans c view ok p None is h on in cc))
  goes_on p here (Some mv) is =
      let (h, on, same) = next-some plan n left w s chans c view ok p (Some mv) is in (
        λ t. (h, on, subst (λ (m : Move). IsTrue (is_free m here)) (sym same) t),
        λ (k, at, free). let e = next-only plan n left w s chans c view ok p (Some mv) is k at in let f : mv ≡ k.move = cc in subst (λ (m : Move). IsTrue (is_free m here)) (sym f) free,
      )

  -- so by the port's state and sense
  pub goes_by : (p : ℕ) (here : Bool) → IsTrue (can_go (move_by (sense plan n p) (get_or w p Closed)) here) ↔ CanGo c.proc p here
  goes_by p here = subst (λ (o : Option Move). IsTrue (can_go o here) ↔ CanGo c.proc p here) (due-move plan n left p (get_or w p Closed)) (goes_on p here (next_at p) refl)

  ready_by : (at here word : ℕ) (ports : PortWord) → IsWordOf w at ports
      → ((i : ℕ) → i < 64 → (bit_at word i == 1) ≡ goes (bit_at ports.due i == 1) (bit_at ports.opened i == 1) (is_told (sense plan n (64 * at + i))) (bit_at here i == 1))
      → AreReady c.proc at here word
  ready_by at here word ports states bits i lt =
      let p = 64 * at + i in let h = bit_at here i == 1 in let d = bit_at ports.due i in let q = bit_at ports.opened i in
      let is : (bit_at word i == 1) ≡ can_go (next_at p) h =
      bits i lt
      ∙ gate (sense plan n p) d q h (bit_at-lt ports.due i) (bit_at-lt ports.opened i) (λ e. states i lt ∙ unsensed plan n left w s ok p e)
      ∙ ap (λ (a : PortState). can_go (move_by (sense plan n p) a) h) (states i lt)
      ∙ ap (λ (o : Option Move). can_go o h) (sym (due-move plan n left p (get_or w p Closed))) in
      let on = goes_on p h (next_at p) refl in
      (λ t. on.0 (subst IsTrue is t), λ can. subst IsTrue (sym is) (on.1 can))

  pub ready_at : (at active here word : ℕ) (ports : PortWord) → IsActive plan n at active
      → IsWordOf w at ports
      → ((i : ℕ) → i < 64 → (bit_at word i == 1) ≡ goes (bit_at ports.due i == 1) (bit_at ports.opened i == 1) (not (bit_at active i == 1)) (bit_at here i == 1))
      → AreReady c.proc at here word
  ready_at at active here word ports is_active states bits =
      ready_by at here word ports states (λ i lt. bits i lt ∙ ap (λ (b : Bool). goes (bit_at ports.due i == 1) (bit_at ports.opened i == 1) b (bit_at here i == 1)) (ap not (is_active i lt) ∙ twice (is_told (sense plan n (64 * at + i)))))

  -- where no move is due, none can be made
  pub none_due : (at here : ℕ) (ports : PortWord) → ports.due ≡ 0 → IsWordOf w at ports → AreReady c.proc at here 0
  none_due at here ports none states =
      ready_by at here 0 ports states (λ i lt. ap (λ (b : ℕ). b == 1) (bit_at-zero i) ∙ sym (ap (λ (b : ℕ). goes (b == 1) (bit_at ports.opened i == 1) (is_told (sense plan n (64 * at + i))) (bit_at here i == 1)) (ap (λ (d : ℕ). bit_at d i) none ∙ bit_at-zero i)))

  -- a word past all ports has none
  past_all : (k : ℕ) → length w ≤ 64 * k → NoneDue c.proc k
  past_all k past here =
      let none : PortWord = record { due = 0; opened = 0 } in
      none_due k here none refl (λ i lt. let z = bit_at-zero i in let q : get_or w (64 * k + i) Closed ≡ Closed = get_or_past w (64 * k + i) Closed (omega (arith, past)) in let e : number_in none i ≡ 0 = omega (arith, z) in ap state_of e ∙ sym q)

  -- at a port at which a move is due the component can move
  due_goes : (p : ℕ) → is_due (get_or w p Closed) ≡ true → CanGo c.proc p true
  due_goes p due =
      (goes_on p true (next_at p) refl).0
      (subst (λ (o : Option Move). IsTrue (can_go o true)) (sym (due-move plan n left p (get_or w p Closed))) (turning (sense plan n p) (get_or w p Closed) (unsensed plan n left w s ok p) due))

  -- and at no other
  goes_due : (p : ℕ) → CanGo c.proc p true → is_due (get_or w p Closed) ≡ true
  goes_due p can =
      was_due (sense plan n p) (get_or w p Closed) true
      (subst (λ (o : Option Move). IsTrue (can_go o true)) (due-move plan n left p (get_or w p Closed)) ((goes_on p true (next_at p) refl).1 can))

  pub due_where : (p : ℕ) (b : Bool) → b ≡ is_due (get_or w p Closed) → IsTrue b ↔ CanGo c.proc p true
  due_where p b is = (λ t. due_goes p (sym is ∙ t), λ can. is ∙ goes_due p can)

  pub stops_at : (from to : ℕ) → ((k : ℕ) → from ≤ k → k < to → NoneDueIn w k) → (length w ≤ 64 * to) ⊎ SomeDueIn w to → NoneDue c.proc to → (k : ℕ) → from ≤ k → NoneDue c.proc k
  stops_at from to even (inl past) quiet k le here =
      elim (cases_lt k to) [
        | inl lt ↦ let e = even k le lt in none_due k here e.word e.none_due e.each
        | inr ge ↦ past_all k (omega (arith, past, ge)) here
      ]
  stops_at from to even (inr has) quiet k le here =
      let i = has.place in let all : ℕ = 2 ^ 64 - 1 in
      let lit : (bit_at all i == 1) ≡ true = ap (λ (x : ℕ). x == 1) (bit_at_ones 64 i has.within) in
      let seen = (quiet all i has.within).1 (subst (CanGo c.proc (64 * to + i)) (sym lit) (due_goes (64 * to + i) has.due)) in
      absurd (false≢true (sym (ap (λ (x : ℕ). x == 1) (bit_at-zero i)) ∙ seen))

-- the passive ports of a plan stand together
no_and : (b : Bool) → (b && false) ≡ false
no_and true = refl
no_and false = refl

between_in : (from to p : ℕ) → from ≤ p → p < to → between from to p ≡ true
between_in from to p le lt = ap (λ (b : Bool). b && nat_lt p to) (le-leb from p le) ∙ lt-ltb p to lt

between_low : (from to p : ℕ) → p < from → between from to p ≡ false
between_low from to p lt = ap (λ (b : Bool). b && nat_lt p to) (lt-leb from p lt)

between_high : (from to p : ℕ) → to ≤ p → between from to p ≡ false
between_high from to p le = ap (λ (b : Bool). nat_le from p && b) (le-ltb p to le) ∙ no_and (nat_le from p)

pub sense_signal : (n to p : ℕ) → p < to → (between 1 to p && not (between 2 3 p)) ≡ is_told (sense Signalled n p)
sense_signal n to zero lt = ap (λ (b : Bool). b && not (between 2 3 0)) (between_low 1 to 0 (omega arith))
sense_signal n to (suc zero) lt = ap (λ (b : Bool). b && not (between 2 3 1)) (between_in 1 to 1 (omega arith) lt) ∙ ap not (between_low 2 3 1 (omega arith))
sense_signal n to (suc (suc zero)) lt = ap (λ (b : Bool). b && not (between 2 3 2)) (between_in 1 to 2 (omega arith) lt) ∙ ap not (between_in 2 3 2 (omega arith) (omega arith))
sense_signal n to (suc (suc (suc i))) lt =
    let p = suc (suc (suc i)) in let e : (suc (suc i) == 1) ≡ false = grind (arith) in
    ap (λ (b : Bool). b && not (between 2 3 p)) (between_in 1 to p (omega arith) lt) ∙ ap not (between_high 2 3 p (omega arith)) ∙ ap not (sym e)

-- the other way round
pub turned_over : (plan : Plan) (n at word : ℕ) → word < 2 ^ 64 → IsSensed plan n at word → IsActive plan n at (bit_not w64 word)
turned_over plan n at word fits sensed i lt =
    ap (λ (x : ℕ). x == 1) (bit_at_not w64 word i fits lt) ∙ other (bit_at word i) (bit_at-lt word i) ∙ ap not (sensed i lt)

-- of the plan that it is
pub sensed_as : (plan plan' : Plan) (n at word : ℕ) → plan ≡ plan' → IsSensed plan' n at word → IsSensed plan n at word
sensed_as plan plan' n at word e sensed = subst (λ (q : Plan). IsSensed q n at word) (sym e) sensed

pub as_is : (plan : Plan) (n at at' word word' : ℕ) → at ≡ at' → word ≡ word' → IsActive plan n at word → IsActive plan n at' word'
as_is plan n at at' word word' e f active = subst (λ (k : ℕ). IsActive plan n at' k) f (subst (λ (k : ℕ). IsActive plan n k word) e active)

-- a plan has its ports and no others
script_none : (script : Script) (left : ℕ) → get_or (stages.states script left) 0 Closed ≡ Closed
script_none Loop zero = refl
script_none Loop (suc zero) = refl
script_none Loop (suc (suc k)) = refl
script_none While zero = refl
script_none While (suc zero) = refl
script_none While (suc (suc zero)) = refl
script_none While (suc (suc (suc zero))) = refl
script_none While (suc (suc (suc (suc zero)))) = refl
script_none While (suc (suc (suc (suc (suc k))))) = refl
script_none (Halt slot) zero = refl
script_none (Halt slot) (suc k) = refl

script_long : (script : Script) (left : ℕ) → length (stages.states script left) ≡ length (stages.states script 0)
script_long Loop zero = refl
script_long Loop (suc zero) = refl
script_long Loop (suc (suc k)) = refl
script_long While zero = refl
script_long While (suc zero) = refl
script_long While (suc (suc zero)) = refl
script_long While (suc (suc (suc zero))) = refl
script_long While (suc (suc (suc (suc zero)))) = refl
script_long While (suc (suc (suc (suc (suc k))))) = refl
script_long (Halt slot) zero = refl
script_long (Halt slot) (suc k) = refl

once_long : (n left : ℕ) (w : List PortState) → single.IsPlace n left w → length w ≡ member n
once_long n left w (inl going) = let l = going.place.long in omega (arith, l)
once_long n left w (inr over) = let l = over.long in omega (arith, l)

pub none_at_0 : (plan : Plan) (n left : ℕ) (w : List PortState) (s : Store) → IsAt plan n left w s → get_or w 0 Closed ≡ Closed
none_at_0 (InTurn row) n left w s ok = ok.none
none_at_0 (Together row) n left w s ok = ok.none
none_at_0 (Once row) n left w s ok = once_none n left w ok
none_at_0 (Select spans) n left w s ok = ok.0.none
none_at_0 (Indexed spans) n left w s ok = index_none n left w ok.0.turn
none_at_0 (OneByOne script) n left w s ok = ap (λ (l : List PortState). get_or l 0 Closed) ok ∙ script_none script left
none_at_0 Cells n left w s ok = ok.none
none_at_0 Signalled n left w s ok = ok.none
none_at_0 (Choice mix) n left w s ok = ok.none
none_at_0 (Meeting meet) n left w s ok = ok.none
none_at_0 Decision n left w s ok = ok.none
none_at_0 Bar n left w s ok = ok.none

pub long : (plan : Plan) (n left : ℕ) (w : List PortState) (s : Store) → IsAt plan n left w s → length w ≡ places plan n
long (InTurn row) n left w s ok = let l = ok.long in omega (arith, l)
long (Together row) n left w s ok = let l = ok.long in omega (arith, l)
long (Once row) n left w s ok = once_long n left w ok
long (Select spans) n left w s ok = let l = ok.0.long in omega (arith, l)
long (Indexed spans) n left w s ok = let l = ok.0.long in omega (arith, l)
long (OneByOne script) n left w s ok = ap length ok ∙ script_long script left
long Cells n left w s ok = let l = ok.long in omega (arith, l)
long Signalled n left w s ok = let l = ok.long in omega (arith, l)
long (Choice mix) n left w s ok = ok.long
long (Meeting meet) n left w s ok = ok.long
long Decision n left w s ok = ok.long
long Bar n left w s ok = ok.long

no_move : (o : Option Bool) → move_by o Closed ≡ None
no_move None = refl
no_move (Some passive) = refl

module _ (plan : Plan) (n left : ℕ) (w : List PortState) (s : Store) (chans : List Chan) (c : Component) (view : record { proc = record { todo = todo_of plan n left w; store = s }; chans = chans; open_ports = map is_open w } ≡ c) (ok : IsAt plan n left w s) (count : places plan n ≡ suc (length chans)) where
  head_state : (p : ℕ) (h : Head) → IsHeadOn c.proc p h → get_or w p Closed ≡ Closed → ⊥
  head_state p h on zero_is =
      let a = next-only plan n left w s chans c view ok p _ refl h on in
      let b : Some h.move ≡ None = sym a ∙ due-move plan n left p (get_or w p Closed) ∙ ap (move_by (sense plan n p)) zero_is ∙ no_move (sense plan n p) in cc

  -- a component moves at its ports alone
  pub at_ports : (p : ℕ) (h : Head) → IsHeadOn c.proc p h → (0 < p) × (p ≤ length c.chans)
  at_ports p h on = (
    elim (cases_lt 0 p) [ inl lt ↦ lt | inr ge ↦ absurd (head_state p h on (let e : p ≡ 0 = omega (arith, ge) in ap (λ (q : ℕ). get_or w q Closed) e ∙ none_at_0 plan n left w s ok)) ],
    elim (cases_lt p (length w)) [
      | inl lt ↦ let l = long plan n left w s ok in let same : length c.chans ≡ length chans = ap (λ (d : Component). length d.chans) (sym view) in omega (arith, lt, l, count, same)
      | inr ge ↦ absurd (head_state p h on (get_or_past w p Closed ge))
    ],
  )

  -- a port opens where it is closed, and closes where it is open
  pub opens_closed : (p : ℕ) (h : Head) → IsHeadOn c.proc p h → opens h.move ≡ not (open_at c p)
  opens_closed p h on =
      let due = head-on-due plan n left w s chans c view ok p h on in
      alternates plan n left p (get_or w p Closed) (due_of h) due ∙ ap not (sym (get_or-map is_open w p Closed)) ∙ ap (λ (d : Component). not (open_at d p)) view

-- as many ports as channels
pub ports_count : (kind : Kind) (sizes : List ℕ) (chans ks : List Chan) (shape : Shape) → MeetsRow kind sizes chans → IsShapeOf kind sizes chans shape → ks ≡ chans → places (plan_of shape.plan) shape.legs ≡ suc (length ks)
ports_count kind sizes chans ks shape meets is same =
    let ps = ports_of (row_of kind) sizes in
    let e : length chans ≡ length ps = sym (length-map chans (λ (k : Chan). k.kind)) ∙ ap length meets.kinds_are ∙ length-map ps (λ (r : PortRow). r.kind) in
    is.has_ports ∙ ap suc (sym e ∙ ap length (sym same))

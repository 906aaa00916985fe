-- Where each move that is due waits for what comes on its channel.
use Rattle.std.proofs.Common.{◌≡◌, ◌≢◌, ℕ, zero, suc, ◌≤◌, inl, inr, Bool, true, false, List, Option, Some, None, IsTrue, get_or, map, refl, sym, ap, subst, ◌∙◌, arith}
use Rattle.std.specs.Prelude.{not, if◌then◌else◌}
use Rattle.std.proofs.lemmas.List.{get_or_past}
use Rattle.std.proofs.lemmas.Bool.{cases_lt, lt-ltb, le-ltb, false≢true}
use Rattle.bz_model.specs.declared.channel.Chan.{Chan}
use Rattle.bz_model.specs.Heads.{Component}
use Rattle.bz_model.specs.Terms.{Store}
use Rattle.bz_kinds.specs.declared.ports.PortState.{PortState}
use Rattle.bz_kinds.specs.declared.ports.PortState.TheVariants.{Closed, ClosedDue, Open, OpenDue}
use Rattle.bz_kinds.specs.declared.row.Leg.{Leg}
use Rattle.bz_kinds.specs.declared.row.Row.{Row}
use Rattle.bz_kinds.specs.declared.row.Mix.{Mix}
use Rattle.bz_kinds.specs.declared.row.Meet.{Meet}
use Rattle.bz_kinds.specs.declared.row.Plan.{Plan}
use Rattle.bz_kinds.specs.declared.row.Plan.TheVariants.{Together, Choice, Meeting}
use Rattle.bz_kinds.specs.Row.{is_open}
use Rattle.bz_kinds.specs.Comp.{todo_of, IsAt}
use Rattle.bz_kinds.specs.Sense.{sense, behind, move_by}
use Rattle.bz_kinds.specs.Ready.{CanGo}
use Rattle.bz_kinds.specs.Choice as choosing
use Rattle.bz_kinds.specs.Meeting as gathering
use Rattle.bz_kinds.proofs.ReadyLaws.{can_go, goes_by}

-- a move of a port of this sense, in this state, waits
abbrev Waits : Option Bool → PortState → Type 0
Waits o x = (here : Bool) → IsTrue (can_go (move_by o x) here) → here ≡ true

waits_take : Waits (Some true) ClosedDue
waits_take here can = can

waits_closed : (o : Option Bool) → Waits o Closed
waits_closed None here can = absurd (false≢true can)
waits_closed (Some passive) here can = absurd (false≢true can)

waits_open : (o : Option Bool) → Waits o Open
waits_open None here can = absurd (false≢true can)
waits_open (Some passive) here can = absurd (false≢true can)

waits_as : (o o' : Option Bool) (x x' : PortState) → o ≡ o' → x ≡ x' → Waits o' x' → Waits o x
waits_as o o' x x' e f waits = subst (λ (q : Option Bool). Waits q x) (sym e) (subst (Waits o') (sym f) waits)

-- each branch of a choice, before one is taken
choice_waits : (mix : Mix) (n : ℕ) (w : List PortState) → choosing.IsPlace mix n 0 w → (p : ℕ) → Waits (sense (Choice mix) n p) (get_or w p Closed)
choice_waits mix n w ok zero = let o = sense (Choice mix) n 0 in waits_as o o (get_or w 0 Closed) Closed refl ok.none (waits_closed o)
choice_waits mix n w ok (suc i) =
    let o = sense (Choice mix) n (suc i) in let x = get_or w (suc i) Closed in
    elim (cases_lt i n) [
      | inl lt ↦ waits_as o (Some true) x ClosedDue (ap (λ (b : Bool). Some (not b)) (le-ltb n (suc i) (omega (arith, lt)))) (ok.turn.due i lt) waits_take
      | inr ge ↦ waits_as o o x Closed refl (ok.turn.quiet (suc i) (omega (arith, ge))) (waits_closed o)
    ]

-- each member that meets, while some are to be taken
past_behind : (leg : Option Leg) → gathering.count_by_leg leg ≤ 1
past_behind None = omega arith
past_behind (Some leg) = omega arith

meeting_waits : (meet : Meet) (n moved : ℕ) (w : List PortState) → gathering.IsPlace meet n moved w → gathering.IsGathering n moved w → (p : ℕ) → Waits (sense (Meeting meet) n p) (get_or w p Closed)
meeting_waits meet n moved w ok some zero = waits_as None None (get_or w 0 Closed) Closed refl ok.none (waits_closed None)
meeting_waits meet n moved w ok some (suc i) =
    let o = sense (Meeting meet) n (suc i) in let x = get_or w (suc i) Closed in
    elim (cases_lt i n) [
      | inl lt ↦ elim (some.states i lt) [
        | inl due ↦ waits_as o (Some true) x ClosedDue (ap (λ (b : Bool). if b then Some true else behind meet.leg) (lt-ltb i n lt)) due waits_take
        | inr up ↦ waits_as o o x Open refl up (waits_open o)
      ]
      | inr ge ↦ elim (cases_lt n i) [
        | inl lt ↦ waits_as o o x Closed refl (get_or_past w (suc i) Closed (let l = ok.long in let f = past_behind meet.leg in omega (arith, l, f, lt))) (waits_closed o)
        | inr le ↦ let e : suc n ≡ suc i = omega (arith, ge, le) in
            waits_as o o x Closed refl (sym (ap (λ (q : ℕ). get_or w q Closed) e) ∙ some.quiet) (waits_closed o)
      ]
    ]

-- a port from 64 on that is enclosed, where it is not to open
far_waits : (x : PortState) → x ≢ ClosedDue → Waits (Some false) x
far_waits Closed ne = waits_closed (Some false)
far_waits ClosedDue ne = absurd (ne refl)
far_waits Open ne = waits_open (Some false)
far_waits OpenDue ne = λ here can. can

together_waits : (row : Row) (n : ℕ) (w : List PortState) (p : ℕ) → 64 ≤ p → get_or w p Closed ≢ ClosedDue → Waits (sense (Together row) n p) (get_or w p Closed)
together_waits row n w zero far ne = absurd (omega (arith, far))
together_waits row n w (suc zero) far ne = absurd (omega (arith, far))
together_waits row n w (suc (suc i)) far ne = far_waits (get_or w (suc (suc i)) Closed) ne

module _ (plan : Plan) (n left : ℕ) (w : List PortState) (s : Store) (chans : List Chan) (c : Component) (view : record { proc = record { todo = todo_of plan n left w; store = s }; chans = chans; open_ports = map is_open w } ≡ c) (ok : IsAt plan n left w s) where
  waits_at : (p : ℕ) (here : Bool) → Waits (sense plan n p) (get_or w p Closed) → CanGo c.proc p here → here ≡ true
  waits_at p here waits can = waits here ((goes_by plan n left w s chans c view ok p here).1 can)

  pub choice_only : (mix : Mix) → plan ≡ Choice mix → left ≡ 0 → (p : ℕ) (here : Bool) → CanGo c.proc p here → here ≡ true
  choice_only mix e z p here =
      let place : choosing.IsPlace mix n 0 w = subst (λ (k : ℕ). choosing.IsPlace mix n k w) z (subst (λ (q : Plan). IsAt q n left w s) e ok) in
      waits_at p here (subst (λ (q : Plan). Waits (sense q n p) (get_or w p Closed)) (sym e) (choice_waits mix n w place p))

  pub meeting_only : (meet : Meet) → plan ≡ Meeting meet → ((m : Meet) (moved : ℕ) → gathering.IsPlace m n moved w → gathering.IsGathering n moved w) → (p : ℕ) (here : Bool) → CanGo c.proc p here → here ≡ true
  meeting_only meet e some p here =
      let place : gathering.IsPlace meet n left w = subst (λ (q : Plan). IsAt q n left w s) e ok in
      waits_at p here (subst (λ (q : Plan). Waits (sense q n p) (get_or w p Closed)) (sym e) (meeting_waits meet n left w place (some meet left place) p))

  pub together_only : (row : Row) → plan ≡ Together row → (p : ℕ) (here : Bool) → 64 ≤ p → get_or w p Closed ≢ ClosedDue → CanGo c.proc p here → here ≡ true
  together_only row e p here far ne = waits_at p here (subst (λ (q : Plan). Waits (sense q n p) (get_or w p Closed)) (sym e) (together_waits row n w p far ne))

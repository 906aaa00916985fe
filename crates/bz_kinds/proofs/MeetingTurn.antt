-- Ports that meet, at one of which a move is due that is named.
use Rattle.std.proofs.Common.{◌≡◌, ◌∙◌, ◌<◌, ◌≤◌, ◌-◌, inl, inr, ℕ, zero, suc, true, false, Bool, List, Option, None, Some, get_or, refl, sym, ap, subst, arith}
use Rattle.std.specs.Prelude.{if◌then◌else◌, nat_lt}
use Rattle.std.proofs.lemmas.Bool.{cases_lt, lt-ltb, le-ltb}
use Rattle.bz_model.specs.Processes.{behind}
use Rattle.bz_model.specs.Terms.{Store, stored, value_of}
use Rattle.bz_model.specs.declared.channel.Move.{Move}
use Rattle.bz_model.specs.declared.channel.Move.TheVariants.{Ask, Take, Reply, Got}
use Rattle.bz_kinds.specs.Comp.{Goes, IsAt, plan_due}
use Rattle.bz_kinds.specs.Kept.{meet_of, plan_of}
use Rattle.bz_kinds.specs.KeptLists.{slots_of}
use Rattle.bz_kinds.specs.Meeting.{IsPlace, Steps, answer, into, meeting_due}
use Rattle.bz_kinds.specs.Onward.{OneWaits}
use Rattle.bz_kinds.specs.Riding.{Made}
use Rattle.bz_kinds.specs.Row.{Due}
use Rattle.bz_kinds.specs.Sense.{move_by, sense}
use Rattle.bz_kinds.specs.Sense as senses
use Rattle.bz_kinds.specs.Turn.{CanTurn, IsDueMove}
use Rattle.bz_kinds.specs.declared.process.Process.{Process}
use Rattle.bz_kinds.specs.declared.kept.KeptMeet.{KeptMeet}
use Rattle.bz_kinds.specs.declared.kept.KeptPlan.{KeptPlan}
use Rattle.bz_kinds.specs.declared.kept.KeptPlan.TheVariants as plans
use Rattle.bz_kinds.specs.declared.ports.PortState.{PortState}
use Rattle.bz_kinds.specs.declared.ports.PortState.TheVariants.{Closed, ClosedDue, OpenDue}
use Rattle.bz_kinds.specs.declared.row.Leg.{Leg}
use Rattle.bz_kinds.specs.declared.row.Meet.{Meet}
use Rattle.bz_kinds.specs.declared.row.Plan.{Plan}
use Rattle.bz_kinds.specs.declared.row.Plan.TheVariants.{Meeting}
use Rattle.bz_kinds.proofs.MadeLaws.{at-behind, at-member, lead-replied, lead-taken, leg-asked, leg-got, not-opened}
use Rattle.bz_kinds.proofs.MeetingDue.{behind-port}
use Rattle.bz_kinds.proofs.MeetingSteps.{steps-at}
use Rattle.bz_kinds.proofs.OnwardLaws.{asks-at, gets-at, replies-at, takes-at}
use Rattle.bz_kinds.proofs.PlanLaws.{due-of, meeting-step}

-- the port's side, by its sense
never-passive : (leg : Option Leg) → senses.behind leg ≡ Some true → ⊥
never-passive None e = absurd (cc)
never-passive (Some leg) e = absurd (cc)

member-side : (meet : Meet) (n p : ℕ) → sense (Meeting meet) n p ≡ Some true → (p ≡ suc (p - 1)) × (p ≤ n)
member-side meet n zero e = absurd (cc)
member-side meet n (suc i) e = (
  omega arith,
  elim (cases_lt i n) [
    | inl lt ↦ omega (arith, lt)
    | inr ge ↦ absurd (never-passive meet.leg (sym (ap (λ (b : Bool). if b then Some true else senses.behind meet.leg) (le-ltb i n ge)) ∙ e))
  ],
)

behind-side : (meet : Meet) (n p : ℕ) → sense (Meeting meet) n p ≡ Some false → n < p
behind-side meet n zero e = absurd (cc)
behind-side meet n (suc i) e = elim (cases_lt i n) [
  | inl lt ↦ absurd (let f : (if nat_lt i n then Some true else senses.behind meet.leg) ≡ Some true = ap (λ (b : Bool). if b then Some true else senses.behind meet.leg) (lt-ltb i n lt) in cc)
  | inr ge ↦ omega (arith, ge)
]

-- of a process of this plan, at whose port p a move is due
module _ (c : Process) (meet : Meet) (is : plan_of c.plan ≡ Meeting meet) (p : ℕ) (turn : CanTurn c p) where
  meeting-place : IsPlace meet c.size c.left c.ports
  meeting-place = subst (λ (q : Plan). IsAt q c.size c.left c.ports (slots_of c.slots)) is turn.place

  found : (d : Due) → plan_due (plan_of c.plan) c.size c.left p (get_or c.ports p Closed) ≡ Some d → meeting_due meet c.size p (get_or c.ports p Closed) ≡ Some d
  found d e = due-of (plan_of c.plan) (Meeting meet) is c.size c.left p (get_or c.ports p Closed) d e

  meeting-at : (mv : Move) → IsDueMove c p mv → move_by (sense (Meeting meet) c.size p) (get_or c.ports p Closed) ≡ Some mv
  meeting-at mv named = subst (λ (q : Plan). move_by (sense q c.size p) (get_or c.ports p Closed) ≡ Some mv) is named

  pub takes-member : IsDueMove c p Take → (p ≡ suc (p - 1)) × (p ≤ c.size) × (get_or c.ports p Closed ≡ ClosedDue)
  takes-member named = let at = takes-at (sense (Meeting meet) c.size p) _ (meeting-at Take named) in let (one, in_it) = member-side meet c.size p at.0 in (one, in_it, at.1)

  pub replies-member : IsDueMove c p Reply → (p ≡ suc (p - 1)) × (p ≤ c.size) × (get_or c.ports p Closed ≡ OpenDue)
  replies-member named = let at = replies-at (sense (Meeting meet) c.size p) _ (meeting-at Reply named) in let (one, in_it) = member-side meet c.size p at.0 in (one, in_it, at.1)

  pub takes-first : IsDueMove c p Take → get_or c.ports (suc (p - 1)) Closed ≡ ClosedDue
  takes-first named = let (one, in_it, due) = takes-member named in subst (λ q. get_or c.ports q Closed ≡ ClosedDue) one due

  pub replies-first : IsDueMove c p Reply → get_or c.ports (suc (p - 1)) Closed ≡ OpenDue
  replies-first named = let (one, in_it, due) = replies-member named in subst (λ q. get_or c.ports q Closed ≡ OpenDue) one due

  behind-is : c.size < p → p ≡ behind c.size
  behind-is past = let (d, e, narrow) = turn.due in behind-port meet c.size c.left c.ports meeting-place p d (found d e) past

  pub asks-behind : IsDueMove c p Ask → (c.size < p) × (p ≡ behind c.size) × (get_or c.ports p Closed ≡ ClosedDue)
  asks-behind named = let at = asks-at (sense (Meeting meet) c.size p) _ (meeting-at Ask named) in let past = behind-side meet c.size p at.0 in (past, behind-is past, at.1)

  pub gets-behind : IsDueMove c p Got → (c.size < p) × (p ≡ behind c.size) × (get_or c.ports p Closed ≡ OpenDue)
  gets-behind named = let at = gets-at (sense (Meeting meet) c.size p) _ (meeting-at Got named) in let past = behind-side meet c.size p at.0 in (past, behind-is past, at.1)

  pub meeting-went : (q left' : ℕ) (w' : List PortState) (s' : Store) → p ≡ q → Steps meet c.size c.left c.ports q left' w' → Goes (plan_of c.plan) c.size c.left c.ports p left' w' s'
  meeting-went q left' w' s' e st = meeting-step (plan_of c.plan) meet is c.size c.left c.ports p left' w' s' (steps-at meet c.size c.left c.ports p q left' w' e st)

  pub meeting-waits : (q : ℕ) (w' : List PortState) → p ≡ q → OneWaits (sense (Meeting meet) c.size) w' q → OneWaits (sense (plan_of c.plan) c.size) w' p
  meeting-waits q w' e waits = subst (λ (r : Plan). OneWaits (sense r c.size) w' p) (sym is) (subst (λ r. OneWaits (sense (Meeting meet) c.size) w' r) (sym e) waits)

  pub meeting-taken : (d : Due) (rides : Option ℕ) (s' : Store) → plan_due (plan_of c.plan) c.size c.left p (get_or c.ports p Closed) ≡ Some d → IsDueMove c p Take → s' ≡ stored (into meet c.size (p - 1)) rides (slots_of c.slots) → Made d rides (slots_of c.slots) s' Take rides
  meeting-taken d rides s' e named kept =
      let (one, in_it, due) = takes-member named in
      lead-taken (into meet c.size (p - 1)) (answer meet c.size (p - 1)) d rides (slots_of c.slots) s' _ (at-member meet c.size p _ d (found d e) in_it) due kept

  pub meeting-replied : (d : Due) (value : Option ℕ) → plan_due (plan_of c.plan) c.size c.left p (get_or c.ports p Closed) ≡ Some d → IsDueMove c p Reply → value ≡ value_of (answer meet c.size (p - 1)) (slots_of c.slots) → Made d None (slots_of c.slots) (slots_of c.slots) Reply value
  meeting-replied d value e named sent =
      let (one, in_it, due) = replies-member named in
      lead-replied (into meet c.size (p - 1)) (answer meet c.size (p - 1)) d None (slots_of c.slots) (slots_of c.slots) _ value (at-member meet c.size p _ d (found d e) in_it) (not-opened _ due) sent refl

  pub meeting-asked : (d : Due) (leg : Leg) (value : Option ℕ) → plan_due (plan_of c.plan) c.size c.left p (get_or c.ports p Closed) ≡ Some d → IsDueMove c p Ask → meet.leg ≡ Some leg → value ≡ value_of leg.gives (slots_of c.slots) → Made d None (slots_of c.slots) (slots_of c.slots) Ask value
  meeting-asked d leg value e named has sent =
      let (past, last, due) = asks-behind named in
      leg-asked leg d None (slots_of c.slots) (slots_of c.slots) _ value (at-behind meet c.size p _ d leg (found d e) past has) due sent refl

  pub meeting-got : (d : Due) (leg : Leg) (rides : Option ℕ) (s' : Store) → plan_due (plan_of c.plan) c.size c.left p (get_or c.ports p Closed) ≡ Some d → IsDueMove c p Got → meet.leg ≡ Some leg → s' ≡ stored leg.into rides (slots_of c.slots) → Made d rides (slots_of c.slots) s' Got rides
  meeting-got d leg rides s' e named has kept =
      let (past, last, due) = gets-behind named in
      leg-got leg d rides (slots_of c.slots) s' _ (at-behind meet c.size p _ d leg (found d e) past has) (not-opened _ due) kept

-- as the code has it
pub meet-is : (kept : KeptPlan) (it : KeptMeet) (meet : Meet) → kept ≡ plans.Meeting it → meet ≡ meet_of it → plan_of kept ≡ Meeting meet
meet-is kept it meet e f = ap plan_of e ∙ ap (λ (meet : Meet). Meeting meet) (sym f)

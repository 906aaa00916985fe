-- A choice at whose port a move is due that is named.
use Rattle.std.proofs.Common.{◌≡◌, ◌∙◌, ◌<◌, ◌≤◌, ◌-◌, inl, inr, ℕ, suc, true, false, List, Option, None, Some, get_or, refl, sym, ap, subst, arith}
use Rattle.std.specs.Prelude.{nat_lt, not}
use Rattle.std.proofs.lemmas.Bool.{cases_eq, cases_lt, lt-ltb, le-ltb}
use Rattle.bz_kinds.specs.Choice.{IsPlace, Steps, choice_due, out}
use Rattle.bz_kinds.specs.Onward.{OneWaits}
use Rattle.bz_kinds.specs.Comp.{Goes, IsAt, plan_due}
use Rattle.bz_kinds.specs.Kept.{mix_of, plan_of}
use Rattle.bz_kinds.specs.KeptLists.{slots_of}
use Rattle.bz_kinds.specs.Riding.{Made}
use Rattle.bz_kinds.specs.Row.{Due}
use Rattle.bz_kinds.specs.Sense.{move_by, sense}
use Rattle.bz_kinds.specs.Turn.{CanTurn, IsDueMove}
use Rattle.bz_kinds.specs.declared.process.Process.{Process}
use Rattle.bz_kinds.specs.declared.kept.KeptMix.{KeptMix}
use Rattle.bz_kinds.specs.declared.kept.KeptPlan.{KeptPlan}
use Rattle.bz_kinds.specs.declared.kept.KeptPlan.TheVariants as plans
use Rattle.bz_kinds.specs.declared.row.Plan.{Plan}
use Rattle.bz_model.specs.Terms.{Store, stored, value_of}
use Rattle.bz_model.specs.declared.channel.Move.{Move}
use Rattle.bz_model.specs.declared.channel.Move.TheVariants.{Ask, Take, Reply, Got}
use Rattle.bz_kinds.proofs.ChoiceDue.{chosen-at, idle-at, out-at, some-port, steps-as, taken-at}
use Rattle.bz_kinds.proofs.MadeLaws.{at-branch, at-out, lead-replied, lead-taken, leg-got, not-opened}
use Rattle.bz_kinds.proofs.OnwardLaws.{asks-at, gets-at, replies-at, takes-at}
use Rattle.bz_kinds.proofs.PlanLaws.{choice-step, due-of}
use Rattle.bz_kinds.specs.declared.ports.PortState.{PortState}
use Rattle.bz_kinds.specs.declared.ports.PortState.TheVariants.{Closed, ClosedDue, OpenDue}
use Rattle.bz_kinds.specs.declared.row.Mix.{Mix}
use Rattle.bz_kinds.specs.declared.row.Plan.TheVariants.{Choice}

-- the port's side, by its sense
branch-side : (mix : Mix) (n p : ℕ) → sense (Choice mix) n p ≡ Some true → p ≤ n
branch-side mix n p e = elim (cases_lt n p) [ inl lt ↦ absurd (let f : Some (not (nat_lt n p)) ≡ Some false = ap (λ b. Some (not b)) (lt-ltb n p lt) in cc) | inr le ↦ le ]

behind-side : (mix : Mix) (n p : ℕ) → sense (Choice mix) n p ≡ Some false → n < p
behind-side mix n p e = elim (cases_lt n p) [ inl lt ↦ lt | inr le ↦ absurd (let f : Some (not (nat_lt n p)) ≡ Some true = ap (λ b. Some (not b)) (le-ltb n p le) in cc) ]

-- of a process of this plan, at whose port p a move is due
module _ (c : Process) (mix : Mix) (is : plan_of c.plan ≡ Choice mix) (p : ℕ) (turn : CanTurn c p) where
  choice-place : IsPlace mix c.size c.left c.ports
  choice-place = subst (λ (q : Plan). IsAt q c.size c.left c.ports (slots_of c.slots)) is turn.place

  found : (d : Due) × (choice_due mix c.size p (get_or c.ports p Closed) ≡ Some d)
  found = let (d, e, narrow) = turn.due in (d, due-of (plan_of c.plan) (Choice mix) is c.size c.left p (get_or c.ports p Closed) d e)

  pub choice-at : (mv : Move) → IsDueMove c p mv → move_by (sense (Choice mix) c.size p) (get_or c.ports p Closed) ≡ Some mv
  choice-at mv named = subst (λ (q : Plan). move_by (sense q c.size p) (get_or c.ports p Closed) ≡ Some mv) is named

  pub choice-first : p ≡ suc (p - 1)
  choice-first = let up = some-port mix c.size c.left c.ports p found.0 choice-place found.1 in omega (arith, up)

  pub takes-branch : IsDueMove c p Take → (p ≤ c.size) × (get_or c.ports p Closed ≡ ClosedDue)
  takes-branch named = let at = takes-at (sense (Choice mix) c.size p) _ (choice-at Take named) in (branch-side mix c.size p at.0, at.1)

  pub takes-idle : IsDueMove c p Take → c.left ≡ 0
  takes-idle named =
      let at = takes-branch named in
      idle-at mix c.size c.left c.ports p choice-place (some-port mix c.size c.left c.ports p found.0 choice-place found.1) at.0 at.1

  pub replies-branch : IsDueMove c p Reply → (p ≤ c.size) × (get_or c.ports p Closed ≡ OpenDue)
  replies-branch named = let at = replies-at (sense (Choice mix) c.size p) _ (choice-at Reply named) in (branch-side mix c.size p at.0, at.1)

  pub replies-chosen : IsDueMove c p Reply → c.left ≡ p
  replies-chosen named =
      let at = replies-branch named in
      let busy : 0 < c.left = elim (cases_eq c.left 0) [ inl none ↦ absurd (let idle = (taken-at mix c.size c.left c.ports p found.0 choice-place found.1 none).1 in let due = at.1 in cc) | inr some ↦ omega (arith, some) ] in
      chosen-at mix c.size c.left c.ports p found.0 choice-place found.1 busy at.0

  pub out-busy : c.size < p → 0 < c.left
  out-busy past = elim (cases_eq c.left 0) [ inl none ↦ absurd (let idle = (taken-at mix c.size c.left c.ports p found.0 choice-place found.1 none).0 in omega (arith, idle, past)) | inr some ↦ omega (arith, some) ]

  pub out-is : c.size < p → out mix c.size (c.left - 1) ≡ p
  out-is past = out-at mix c.size c.left c.ports p found.0 choice-place found.1 (out-busy past) past

  pub asks-out : IsDueMove c p Ask → (c.size < p) × (get_or c.ports p Closed ≡ ClosedDue)
  asks-out named = let at = asks-at (sense (Choice mix) c.size p) _ (choice-at Ask named) in (behind-side mix c.size p at.0, at.1)

  pub gets-out : IsDueMove c p Got → (c.size < p) × (get_or c.ports p Closed ≡ OpenDue)
  gets-out named = let at = gets-at (sense (Choice mix) c.size p) _ (choice-at Got named) in (behind-side mix c.size p at.0, at.1)

  -- the branch that goes on
  pub choice-goes-on : c.size < p → IsPlace mix c.size (suc (c.left - 1)) c.ports
  choice-goes-on past = subst (λ k. IsPlace mix c.size k c.ports) (let busy = out-busy past in let e : c.left ≡ suc (c.left - 1) = omega (arith, busy) in e) choice-place

  pub choice-is-chosen : IsDueMove c p Reply → IsPlace mix c.size (suc (p - 1)) c.ports
  choice-is-chosen named = subst (λ k. IsPlace mix c.size k c.ports) (replies-chosen named ∙ choice-first) choice-place

  pub choice-went : (a q x left' : ℕ) (w' : List PortState) (s' : Store) → a ≡ c.left → q ≡ p → x ≡ left' → Steps mix c.size a c.ports q x w' → Goes (plan_of c.plan) c.size c.left c.ports p left' w' s'
  choice-went a q x left' w' s' e f g st = choice-step (plan_of c.plan) mix is c.size c.left c.ports p left' w' s' (steps-as mix c.size a c.left q p x left' c.ports w' e f g st)

  pub choice-waits : c.size < p → (w' : List PortState) → OneWaits (sense (Choice mix) c.size) w' (out mix c.size (c.left - 1)) → OneWaits (sense (plan_of c.plan) c.size) w' p
  choice-waits past w' waits = subst (λ (r : Plan). OneWaits (sense r c.size) w' p) (sym is) (subst (λ q. OneWaits (sense (Choice mix) c.size) w' q) (out-is past) waits)

  pub choice-taken : (d : Due) (rides : Option ℕ) (s' : Store) → plan_due (plan_of c.plan) c.size c.left p (get_or c.ports p Closed) ≡ Some d → IsDueMove c p Take → s' ≡ stored mix.into rides (slots_of c.slots) → Made d rides (slots_of c.slots) s' Take rides
  choice-taken d rides s' e named kept =
      let at = takes-branch named in
      lead-taken mix.into mix.answer d rides (slots_of c.slots) s' _ (at-branch mix c.size p _ d (due-of (plan_of c.plan) (Choice mix) is c.size c.left p (get_or c.ports p Closed) d e) at.0) at.1 kept

  pub choice-replied : (d : Due) (value : Option ℕ) → plan_due (plan_of c.plan) c.size c.left p (get_or c.ports p Closed) ≡ Some d → IsDueMove c p Reply → value ≡ value_of mix.answer (slots_of c.slots) → Made d None (slots_of c.slots) (slots_of c.slots) Reply value
  choice-replied d value e named sent =
      let at = replies-branch named in
      lead-replied mix.into mix.answer d None (slots_of c.slots) (slots_of c.slots) _ value (at-branch mix c.size p _ d (due-of (plan_of c.plan) (Choice mix) is c.size c.left p (get_or c.ports p Closed) d e) at.0) (not-opened _ at.1) sent refl

  pub choice-got : (d : Due) (rides : Option ℕ) (s' : Store) → plan_due (plan_of c.plan) c.size c.left p (get_or c.ports p Closed) ≡ Some d → IsDueMove c p Got → s' ≡ stored mix.leg.into rides (slots_of c.slots) → Made d rides (slots_of c.slots) s' Got rides
  choice-got d rides s' e named kept =
      let at = gets-out named in
      leg-got mix.leg d rides (slots_of c.slots) s' _ (at-out mix c.size p _ d (due-of (plan_of c.plan) (Choice mix) is c.size c.left p (get_or c.ports p Closed) d e) at.0) (not-opened _ at.1) kept

-- as the code has it
pub mix-is : (kept : KeptPlan) (it : KeptMix) (mix : Mix) → kept ≡ plans.Choice it → mix ≡ mix_of it → plan_of kept ≡ Choice mix
mix-is kept it mix e f = ap plan_of e ∙ ap (λ (mix : Mix). Choice mix) (sym f)

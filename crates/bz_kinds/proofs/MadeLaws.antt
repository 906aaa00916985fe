-- What the move due at a port carries and keeps.
use Rattle.std.proofs.Common.{◌≡◌, ◌≢◌, ◌≤◌, ◌<◌, ℕ, zero, suc, ◌-◌, Option, Some, refl, subst, arith}
use Rattle.std.specs.Prelude.{if◌then◌else◌}
use Rattle.std.proofs.lemmas.Bool.{lt-ltb, le-ltb}
use Rattle.bz_model.specs.declared.channel.Move.TheVariants.{Ask, Take, Reply, Got}
use Rattle.bz_model.specs.declared.expr.Expr.{Expr}
use Rattle.bz_model.specs.declared.expr.Expr.TheVariants.{Nothing}
use Rattle.bz_model.specs.Terms.{Store, stored, value_of}
use Rattle.bz_kinds.specs.declared.ports.PortState.{PortState}
use Rattle.bz_kinds.specs.declared.ports.PortState.TheVariants.{Closed, ClosedDue, Open, OpenDue}
use Rattle.bz_kinds.specs.declared.row.Leg.{Leg}
use Rattle.bz_kinds.specs.declared.row.Meet.{Meet}
use Rattle.bz_kinds.specs.declared.row.Mix.{Mix}
use Rattle.bz_kinds.specs.declared.row.Row.{Row}
use Rattle.bz_kinds.specs.Row.{Due, row_due, lead_due, leg_due, leg_of}
use Rattle.bz_kinds.specs.Choice.{choice_due}
use Rattle.bz_kinds.specs.Meeting.{into, answer, behind_due, meeting_due}
use Rattle.bz_kinds.specs.Riding.{Made}

-- at a passive port
module _ (into : ℕ) (answer : Expr) (d : Due) (rides : Option ℕ) (s s' : Store) where
  pub lead-taken : (a : PortState) → lead_due into answer a ≡ Some d → a ≡ ClosedDue → s' ≡ stored into rides s → Made d rides s s' Take rides
  lead-taken a e is kept =
      let f : lead_due into answer ClosedDue ≡ Some d = subst (λ a. lead_due into answer a ≡ Some d) is e in
      let q : record { mv = Take; gives = Nothing; into = into } ≡ d = cc in
      subst (λ (d : Due). Made d rides s s' Take rides) q (record { move_is = refl; value_is = refl; kept = kept })

  pub lead-replied : (a : PortState) (value : Option ℕ) → lead_due into answer a ≡ Some d → a ≢ ClosedDue → value ≡ value_of answer s → s' ≡ s → Made d rides s s' Reply value
  lead-replied Closed value e ne is same = absurd (cc)
  lead-replied ClosedDue value e ne is same = absurd (ne refl)
  lead-replied Open value e ne is same = absurd (cc)
  lead-replied OpenDue value e ne is same =
      let q : record { mv = Reply; gives = answer; into = 0 } ≡ d = cc in
      subst (λ (d : Due). Made d rides s s' Reply value) q (record { move_is = refl; value_is = is; kept = same })

-- at an active port
module _ (leg : Leg) (d : Due) (rides : Option ℕ) (s s' : Store) where
  pub leg-asked : (a : PortState) (value : Option ℕ) → leg_due leg a ≡ Some d → a ≡ ClosedDue → value ≡ value_of leg.gives s → s' ≡ s → Made d rides s s' Ask value
  leg-asked a value e is sent same =
      let f : leg_due leg ClosedDue ≡ Some d = subst (λ a. leg_due leg a ≡ Some d) is e in
      let q : record { mv = Ask; gives = leg.gives; into = 0 } ≡ d = cc in
      subst (λ (d : Due). Made d rides s s' Ask value) q (record { move_is = refl; value_is = sent; kept = same })

  pub leg-got : (a : PortState) → leg_due leg a ≡ Some d → a ≢ ClosedDue → s' ≡ stored leg.into rides s → Made d rides s s' Got rides
  leg-got Closed e ne kept = absurd (cc)
  leg-got ClosedDue e ne kept = absurd (ne refl)
  leg-got Open e ne kept = absurd (cc)
  leg-got OpenDue e ne kept =
      let q : record { mv = Got; gives = Nothing; into = leg.into } ≡ d = cc in
      subst (λ (d : Due). Made d rides s s' Got rides) q (record { move_is = refl; value_is = refl; kept = kept })

-- of a row
pub at-lead : (row : Row) (p : ℕ) (a : PortState) (d : Due) → row_due row p a ≡ Some d → p ≡ 1 → lead_due row.into row.answer a ≡ Some d
at-lead row p a d e is = subst (λ p. row_due row p a ≡ Some d) is e

pub at-leg : (row : Row) (p : ℕ) (a : PortState) (d : Due) → row_due row p a ≡ Some d → p ≢ 1 → leg_due (leg_of row.legs (p - 2)) a ≡ Some d
at-leg row zero a d e ne = absurd (cc)
at-leg row (suc zero) a d e ne = absurd (ne refl)
at-leg row (suc (suc i)) a d e ne =
    let back : i ≡ suc (suc i) - 2 = omega arith in
    subst (λ i. leg_due (leg_of row.legs i) a ≡ Some d) back e

-- of a meeting: at a member, and behind
pub at-member : (meet : Meet) (n p : ℕ) (a : PortState) (d : Due) → meeting_due meet n p a ≡ Some d → p ≤ n → lead_due (into meet n (p - 1)) (answer meet n (p - 1)) a ≡ Some d
at-member meet n zero a d e le = absurd (cc)
at-member meet n (suc i) a d e le =
    let lt : i < n = omega (arith, le) in
    let back : i ≡ suc i - 1 = omega arith in
    subst (λ i. lead_due (into meet n i) (answer meet n i) a ≡ Some d) back
    (subst (λ b. (if b then lead_due (into meet n i) (answer meet n i) a else behind_due meet n meet.leg a) ≡ Some d) (lt-ltb i n lt) e)

pub at-behind : (meet : Meet) (n p : ℕ) (a : PortState) (d : Due) (leg : Leg) → meeting_due meet n p a ≡ Some d → n < p → meet.leg ≡ Some leg → leg_due leg a ≡ Some d
at-behind meet n zero a d leg e lt is = absurd (cc)
at-behind meet n (suc i) a d leg e lt is =
    let le : n ≤ i = omega (arith, lt) in
    subst (λ o. behind_due meet n o a ≡ Some d) is
    (subst (λ b. (if b then lead_due (into meet n i) (answer meet n i) a else behind_due meet n meet.leg a) ≡ Some d) (le-ltb i n le) e)

-- of a choice: at a branch, and behind
pub at-branch : (mix : Mix) (n p : ℕ) (a : PortState) (d : Due) → choice_due mix n p a ≡ Some d → p ≤ n → lead_due mix.into mix.answer a ≡ Some d
at-branch mix n p a d e le = subst (λ b. (if b then leg_due mix.leg a else lead_due mix.into mix.answer a) ≡ Some d) (le-ltb n p le) e

pub at-out : (mix : Mix) (n p : ℕ) (a : PortState) (d : Due) → choice_due mix n p a ≡ Some d → n < p → leg_due mix.leg a ≡ Some d
at-out mix n p a d e lt = subst (λ b. (if b then leg_due mix.leg a else lead_due mix.into mix.answer a) ≡ Some d) (lt-ltb n p lt) e

-- what closes a port opens none
pub not-opened : (a : PortState) → a ≡ OpenDue → a ≢ ClosedDue
not-opened a is closed = cc

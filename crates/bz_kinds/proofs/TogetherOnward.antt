-- What handshakes that go on at once leave due.
use Rattle.std.proofs.Common.{◌≡◌, ◌≢◌, ◌∙◌, ℕ, zero, suc, true, false, List, Some, get_or, set, refl, sym, ap, subst, arith}
use Rattle.std.proofs.lemmas.List.{get_or-set_same, get_or-set_other}
use Rattle.bz_model.specs.declared.channel.Move.{Move}
use Rattle.bz_model.specs.Processes.{member}
use Rattle.bz_model.specs.Terms.{Store}
use Rattle.bz_kinds.specs.declared.process.Process.{Process}
use Rattle.bz_kinds.specs.declared.ports.PortState.{PortState}
use Rattle.bz_kinds.specs.declared.ports.PortState.TheVariants.{Closed, ClosedDue, Open, OpenDue}
use Rattle.bz_kinds.specs.declared.row.Plan.{Plan}
use Rattle.bz_kinds.specs.declared.row.Plan.TheVariants.{Together}
use Rattle.bz_kinds.specs.declared.row.Row.{Row}
use Rattle.bz_kinds.specs.Comp.{Goes}
use Rattle.bz_kinds.specs.Kept.{plan_of}
use Rattle.bz_kinds.specs.Onward.{OneWaits, SomeSure, is_sure}
use Rattle.bz_kinds.specs.Ports.{is_due}
use Rattle.bz_kinds.specs.Sense.{enclosing, move_by, sense}
use Rattle.bz_kinds.specs.Together.{IsPlace, Steps}
use Rattle.bz_kinds.proofs.PlanLaws.{whole-step}
use Rattle.bz_kinds.proofs.TogetherSteps.{leg_waits, steps-at}

-- with nothing enclosed the reply is due at once
pub none-begins : (n left : ℕ) (w : List PortState) → IsPlace n left w → SomeSure enclosing (set w 1 OpenDue)
none-begins n left w ok = (1, ap (is_sure (Some true)) (get_or-set_same w 1 OpenDue Closed (let l = ok.long in omega (arith, l))))

-- else the first one begins
pub begins : (u : List PortState) → get_or u 2 Closed ≡ ClosedDue → SomeSure enclosing (set u 1 Open)
begins u due = (2, ap (is_sure (Some false)) (get_or-set_other u 1 2 Open Closed (omega arith) ∙ due))

-- after the reply nothing enclosed goes on
pub ended-waits : (n left : ℕ) (w : List PortState) → IsPlace n left w → get_or w 1 Closed ≡ OpenDue → OneWaits enclosing (set w 1 ClosedDue) 1
ended-waits n left w ok due = record {
  waits = ap (is_sure (Some true)) (get_or-set_same w 1 ClosedDue Closed (let l = ok.long in omega (arith, l)));
  alone = alone;
}
  where
    closed : (a : PortState) → (a ≢ Closed → get_or w 1 Closed ≡ Open) → is_due a ≡ false
    closed Closed up = refl
    closed ClosedDue up = absurd (let z = up (λ e. cc) in cc)
    closed Open up = refl
    closed OpenDue up = absurd (let z = up (λ e. cc) in cc)

    alone : (q : ℕ) → q ≢ 1 → is_due (get_or (set w 1 ClosedDue) q Closed) ≡ false
    alone zero ne = ap is_due (get_or-set_other w 1 0 ClosedDue Closed ne ∙ ok.none)
    alone (suc zero) ne = absurd (ne refl)
    alone (suc (suc j)) ne = ap is_due (get_or-set_other w 1 (member j) ClosedDue Closed ne) ∙ closed (get_or w (member j) Closed) (λ up. (leg_waits n left w ok j up).0)

-- of a process of this plan
pub at-once-at : (plan : Plan) (row : Row) → plan ≡ Together row → (n p : ℕ) (a : PortState) (mv : Move) → move_by (sense plan n p) a ≡ Some mv → move_by (enclosing p) a ≡ Some mv
at-once-at plan row is n p a mv e = subst (λ (q : Plan). move_by (sense q n p) a ≡ Some mv) is e

pub went-at-once : (own c : Process) → own ≡ c → (row : Row) → plan_of c.plan ≡ Together row → (p q left' : ℕ) (w' : List PortState) (s' : Store) → p ≡ q → Steps row own.size own.left own.ports q left' w' → Goes (plan_of c.plan) c.size c.left c.ports p left' w' s'
went-at-once own c same row is p q left' w' s' at = subst (λ (it : Process). Steps row it.size it.left it.ports q left' w' → Goes (plan_of c.plan) c.size c.left c.ports p left' w' s') (sym same) (λ st. whole-step (plan_of c.plan) row is c.size c.left c.ports p left' w' s' (steps-at row c.size c.left c.ports p q left' w' at st))

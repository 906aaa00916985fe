-- What a component of one move at a time leaves due that waits for nothing.
use Rattle.std.proofs.Common.{◌≡◌, ◌≢◌, ◌∙◌, ◌==◌, ℕ, zero, suc, true, false, List, Option, None, Some, get_or, set, refl, ap, sym, subst, arith}
use Rattle.std.specs.Option.{option_map}
use Rattle.bz_model.specs.declared.channel.Move.{Move}
use Rattle.bz_model.specs.declared.channel.Move.TheVariants.{Ask, Take, Reply, Got}
use Rattle.bz_model.specs.declared.expr.Expr.{Expr}
use Rattle.bz_model.specs.declared.expr.Expr.TheVariants.{Nothing}
use Rattle.bz_model.specs.Terms.{Store, stored}
use Rattle.bz_kinds.specs.Comp.{Goes}
use Rattle.bz_kinds.specs.Kept.{plan_of}
use Rattle.bz_kinds.specs.Riding.{Made}
use Rattle.bz_kinds.specs.Row.{Due}
use Rattle.bz_kinds.specs.declared.process.Process.{Process}
use Rattle.bz_kinds.specs.declared.row.Plan.{Plan}
use Rattle.bz_kinds.specs.declared.row.Plan.TheVariants.{OneByOne}
use Rattle.bz_kinds.specs.declared.ports.PortState.{PortState}
use Rattle.bz_kinds.specs.declared.ports.PortState.TheVariants.{Closed, ClosedDue, Open, OpenDue}
use Rattle.bz_kinds.specs.declared.row.Script.{Script}
use Rattle.bz_kinds.specs.declared.row.Script.TheVariants.{Loop, While, Halt}
use Rattle.bz_kinds.specs.Onward.{SomeSure}
use Rattle.bz_kinds.specs.Script.{GoesRound, Steps, got_into, script_due, states, taken_into}
use Rattle.bz_kinds.specs.Sense.{move_by, script_sense, sense}
use Rattle.bz_kinds.proofs.OnwardLaws.{gets-at, replies-at, takes-at}
use Rattle.bz_kinds.proofs.PlanLaws.{script-step}
use Rattle.bz_kinds.proofs.SenseLaws.{due-move}

-- once port 1 is taken, port 2 is to be called
enters : (script : Script) (stage : ℕ) → GoesRound script → SomeSure script_sense (set (set (states script stage) 1 Open) 2 ClosedDue)
enters Loop zero goes = (2, refl)
enters Loop (suc zero) goes = (2, refl)
enters Loop (suc (suc k)) goes = (2, refl)
enters While zero goes = (2, refl)
enters While (suc zero) goes = (2, refl)
enters While (suc (suc zero)) goes = (2, refl)
enters While (suc (suc (suc zero))) goes = (2, refl)
enters While (suc (suc (suc (suc zero)))) goes = (2, refl)
enters While (suc (suc (suc (suc (suc k))))) goes = (2, refl)
enters (Halt slot) zero goes = absurd goes
enters (Halt slot) (suc k) goes = absurd goes

-- a Loop calls again
again : (stage : ℕ) → SomeSure script_sense (set (states Loop stage) 2 ClosedDue)
again zero = (2, refl)
again (suc zero) = (2, refl)
again (suc (suc k)) = (2, refl)

-- where a guard brought 1, port 3 is to be called
goes-on : (script : Script) (stage : ℕ) → script ≢ Loop → get_or (states script stage) 2 Closed ≡ OpenDue → SomeSure script_sense (set (set (states script stage) 2 Closed) 3 ClosedDue)
goes-on Loop zero other e = absurd (other refl)
goes-on Loop (suc zero) other e = absurd (other refl)
goes-on Loop (suc (suc k)) other e = absurd (other refl)
goes-on While zero other e = absurd (cc)
goes-on While (suc zero) other e = absurd (cc)
goes-on While (suc (suc zero)) other e = (3, refl)
goes-on While (suc (suc (suc zero))) other e = absurd (cc)
goes-on While (suc (suc (suc (suc zero)))) other e = absurd (cc)
goes-on While (suc (suc (suc (suc (suc k))))) other e = absurd (cc)
goes-on (Halt slot) zero other e = absurd (cc)
goes-on (Halt slot) (suc k) other e = absurd (cc)

-- and then port 2
comes-back : (script : Script) (stage p : ℕ) → script ≢ Loop → p ≢ 2 → move_by (script_sense p) (get_or (states script stage) p Closed) ≡ Some Got → SomeSure script_sense (set (set (states script stage) 3 Closed) 2 ClosedDue)
comes-back Loop zero p other ne e = absurd (other refl)
comes-back Loop (suc zero) p other ne e = absurd (other refl)
comes-back Loop (suc (suc k)) p other ne e = absurd (other refl)
comes-back While zero zero other ne e = absurd (cc)
comes-back While zero (suc zero) other ne e = absurd (cc)
comes-back While zero (suc (suc zero)) other ne e = absurd (cc)
comes-back While zero (suc (suc (suc zero))) other ne e = absurd (cc)
comes-back While zero (suc (suc (suc (suc j)))) other ne e = absurd (cc)
comes-back While (suc zero) zero other ne e = absurd (cc)
comes-back While (suc zero) (suc zero) other ne e = absurd (cc)
comes-back While (suc zero) (suc (suc zero)) other ne e = absurd (cc)
comes-back While (suc zero) (suc (suc (suc zero))) other ne e = absurd (cc)
comes-back While (suc zero) (suc (suc (suc (suc j)))) other ne e = absurd (cc)
comes-back While (suc (suc zero)) zero other ne e = absurd (cc)
comes-back While (suc (suc zero)) (suc zero) other ne e = absurd (cc)
comes-back While (suc (suc zero)) (suc (suc zero)) other ne e = absurd (ne refl)
comes-back While (suc (suc zero)) (suc (suc (suc zero))) other ne e = absurd (cc)
comes-back While (suc (suc zero)) (suc (suc (suc (suc j)))) other ne e = absurd (cc)
comes-back While (suc (suc (suc zero))) zero other ne e = absurd (cc)
comes-back While (suc (suc (suc zero))) (suc zero) other ne e = absurd (cc)
comes-back While (suc (suc (suc zero))) (suc (suc zero)) other ne e = absurd (cc)
comes-back While (suc (suc (suc zero))) (suc (suc (suc zero))) other ne e = absurd (cc)
comes-back While (suc (suc (suc zero))) (suc (suc (suc (suc j)))) other ne e = absurd (cc)
comes-back While (suc (suc (suc (suc zero)))) p other ne e = (2, refl)
comes-back While (suc (suc (suc (suc (suc k))))) zero other ne e = absurd (cc)
comes-back While (suc (suc (suc (suc (suc k))))) (suc zero) other ne e = absurd (cc)
comes-back While (suc (suc (suc (suc (suc k))))) (suc (suc zero)) other ne e = absurd (cc)
comes-back While (suc (suc (suc (suc (suc k))))) (suc (suc (suc zero))) other ne e = absurd (cc)
comes-back While (suc (suc (suc (suc (suc k))))) (suc (suc (suc (suc j)))) other ne e = absurd (cc)
comes-back (Halt slot) zero zero other ne e = absurd (cc)
comes-back (Halt slot) zero (suc zero) other ne e = absurd (cc)
comes-back (Halt slot) zero (suc (suc j)) other ne e = absurd (cc)
comes-back (Halt slot) (suc k) zero other ne e = absurd (cc)
comes-back (Halt slot) (suc k) (suc zero) other ne e = absurd (cc)
comes-back (Halt slot) (suc k) (suc (suc j)) other ne e = absurd (cc)

-- the same where the states are another list
module _ (script : Script) (stage : ℕ) (w : List PortState) (is : w ≡ states script stage) where
  pub entered : GoesRound script → SomeSure script_sense (set (set w 1 Open) 2 ClosedDue)
  entered goes = rw is (enters script stage goes)

  pub called-again : script ≡ Loop → SomeSure script_sense (set w 2 ClosedDue)
  called-again loop = rw (is, loop) (again stage)

  pub went-on : script ≢ Loop → get_or w 2 Closed ≡ OpenDue → SomeSure script_sense (set (set w 2 Closed) 3 ClosedDue)
  went-on other = rw is (goes-on script stage other)

  pub came-back : (p : ℕ) → script ≢ Loop → p ≢ 2 → move_by (script_sense p) (get_or w p Closed) ≡ Some Got → SomeSure script_sense (set (set w 3 Closed) 2 ClosedDue)
  came-back p other ne = rw is (comes-back script stage p other ne)

-- the port, by the move
one-of : (p : ℕ) → script_sense p ≡ Some true → p ≡ 1
one-of zero e = absurd (cc)
one-of (suc zero) e = refl
one-of (suc (suc i)) e = absurd (let f : (suc (suc i) == 1) ≡ false = grind (arith) in cc)

pub takes-first : (p : ℕ) (a : PortState) → move_by (script_sense p) a ≡ Some Take → p ≡ 1
takes-first p a e = one-of p (takes-at (script_sense p) a e).0

pub replies-first : (p : ℕ) (a : PortState) → move_by (script_sense p) a ≡ Some Reply → p ≡ 1
replies-first p a e = one-of p (replies-at (script_sense p) a e).0

loop-calls : (stage p : ℕ) → move_by (script_sense p) (get_or (states Loop stage) p Closed) ≡ Some Ask → p ≡ 2
loop-calls zero zero e = absurd (cc)
loop-calls zero (suc zero) e = absurd (cc)
loop-calls zero (suc (suc zero)) e = refl
loop-calls zero (suc (suc (suc p))) e = absurd (cc)
loop-calls (suc zero) zero e = absurd (cc)
loop-calls (suc zero) (suc zero) e = absurd (cc)
loop-calls (suc zero) (suc (suc zero)) e = refl
loop-calls (suc zero) (suc (suc (suc p))) e = absurd (cc)
loop-calls (suc (suc k)) zero e = absurd (cc)
loop-calls (suc (suc k)) (suc zero) e = absurd (cc)
loop-calls (suc (suc k)) (suc (suc zero)) e = refl
loop-calls (suc (suc k)) (suc (suc (suc p))) e = absurd (cc)

pub loop-asks : (stage : ℕ) (w : List PortState) (p : ℕ) → w ≡ states Loop stage → move_by (script_sense p) (get_or w p Closed) ≡ Some Ask → p ≡ 2
loop-asks stage w p is e = loop-calls stage p (subst (λ (l : List PortState). move_by (script_sense p) (get_or l p Closed) ≡ Some Ask) is e)

-- nothing is sent
gives-nothing : (script : Script) (p : ℕ) (a : PortState) (d : Due) → script_due script p a ≡ Some d → d.gives ≡ Nothing
gives-nothing script p Closed d e = absurd (cc)
gives-nothing script zero ClosedDue d e = let q : d ≡ record { mv = Ask; gives = Nothing; into = 0 } = cc in ap (λ (d : Due). d.gives) q
gives-nothing script (suc zero) ClosedDue d e = let q : d ≡ record { mv = Take; gives = Nothing; into = taken_into script } = cc in ap (λ (d : Due). d.gives) q
gives-nothing script (suc (suc p)) ClosedDue d e = let q : d ≡ record { mv = Ask; gives = Nothing; into = 0 } = cc in ap (λ (d : Due). d.gives) q
gives-nothing script p Open d e = absurd (cc)
gives-nothing script zero OpenDue d e = let q : d ≡ record { mv = Got; gives = Nothing; into = got_into script 0 } = cc in ap (λ (d : Due). d.gives) q
gives-nothing script (suc zero) OpenDue d e = let q : d ≡ record { mv = Reply; gives = Nothing; into = 0 } = cc in ap (λ (d : Due). d.gives) q
gives-nothing script (suc (suc p)) OpenDue d e = let q : d ≡ record { mv = Got; gives = Nothing; into = got_into script (suc (suc p)) } = cc in ap (λ (d : Due). d.gives) q

move-due : (script : Script) (p : ℕ) (a : PortState) (d : Due) (mv : Move) → script_due script p a ≡ Some d → move_by (script_sense p) a ≡ Some mv → d.mv ≡ mv
move-due script p a d mv e is =
    let same : Some d.mv ≡ Some mv = ap (option_map (λ (d : Due). d.mv)) (sym e) ∙ due-move (OneByOne script) 0 0 p a ∙ is in
    cc

pub script-asked : (script : Script) (p : ℕ) (a : PortState) (d : Due) (rides : Option ℕ) (s : Store) → script_due script p a ≡ Some d → move_by (script_sense p) a ≡ Some Ask → Made d rides s s Ask None
script-asked script p a d rides s e is =
    let same : record { mv = Ask; gives = Nothing; into = d.into } ≡ d = ap (λ (m : Move). record { mv = m; gives = Nothing; into = d.into }) (sym (move-due script p a d Ask e is)) ∙ ap (λ (g : Expr). record { mv = d.mv; gives = g; into = d.into }) (sym (gives-nothing script p a d e)) in
    subst (λ (d : Due). Made d rides s s Ask None) same (record { move_is = refl; value_is = refl; kept = refl })

pub script-replied : (script : Script) (p : ℕ) (a : PortState) (d : Due) (rides : Option ℕ) (s : Store) → script_due script p a ≡ Some d → move_by (script_sense p) a ≡ Some Reply → Made d rides s s Reply None
script-replied script p a d rides s e is =
    let same : record { mv = Reply; gives = Nothing; into = d.into } ≡ d = ap (λ (m : Move). record { mv = m; gives = Nothing; into = d.into }) (sym (move-due script p a d Reply e is)) ∙ ap (λ (g : Expr). record { mv = d.mv; gives = g; into = d.into }) (sym (gives-nothing script p a d e)) in
    subst (λ (d : Due). Made d rides s s Reply None) same (record { move_is = refl; value_is = refl; kept = refl })

-- and what comes in goes into its slot
pub script-taken : (script : Script) (p : ℕ) (a : PortState) (d : Due) (rides : Option ℕ) (s s' : Store) → script_due script p a ≡ Some d → move_by (script_sense p) a ≡ Some Take → s' ≡ stored (taken_into script) rides s → Made d rides s s' Take rides
script-taken script p a d rides s s' e is kept =
    let at : script_due script 1 ClosedDue ≡ Some d = ap (λ q. script_due script q ClosedDue) (sym (takes-first p a is)) ∙ ap (script_due script p) (sym (takes-at (script_sense p) a is).1) ∙ e in
    let same : record { mv = Take; gives = Nothing; into = taken_into script } ≡ d = cc in
    subst (λ (d : Due). Made d rides s s' Take rides) same (record { move_is = refl; value_is = refl; kept = kept })

into-got : (script : Script) (p : ℕ) (d : Due) → script_due script p OpenDue ≡ Some d → move_by (script_sense p) OpenDue ≡ Some Got → record { mv = Got; gives = Nothing; into = got_into script p } ≡ d
into-got script zero d e is = cc
into-got script (suc zero) d e is = absurd (cc)
into-got script (suc (suc p)) d e is = cc

pub script-got : (script : Script) (p : ℕ) (a : PortState) (d : Due) (rides : Option ℕ) (s s' : Store) → script_due script p a ≡ Some d → move_by (script_sense p) a ≡ Some Got → s' ≡ stored (got_into script p) rides s → Made d rides s s' Got rides
script-got script p a d rides s s' e is kept =
    let due = (gets-at (script_sense p) a is).1 in
    let same = into-got script p d (ap (script_due script p) (sym due) ∙ e) (ap (move_by (script_sense p)) (sym due) ∙ is) in
    subst (λ (d : Due). Made d rides s s' Got rides) same (record { move_is = refl; value_is = refl; kept = kept })

-- of a process of this plan
pub script-at : (plan : Plan) (script : Script) → plan ≡ OneByOne script → (n p : ℕ) (a : PortState) (mv : Move) → move_by (sense plan n p) a ≡ Some mv → move_by (script_sense p) a ≡ Some mv
script-at plan script is n p a mv e = subst (λ (q : Plan). move_by (sense q n p) a ≡ Some mv) is e

pub script-went : (c : Process) (script : Script) → plan_of c.plan ≡ OneByOne script → (p q left' : ℕ) (w' : List PortState) (s' : Store) → p ≡ q → Steps script c.left c.ports q left' w' s' → Goes (plan_of c.plan) c.size c.left c.ports p left' w' s'
script-went c script is p q left' w' s' at st = script-step (plan_of c.plan) script is c.size c.left c.ports p left' w' s' (subst (λ r. Steps script c.left c.ports r left' w' s') (sym at) st)

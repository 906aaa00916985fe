-- What lies under the lock after a call comes of what lay there before, so that it is seen.
use Rattle.std.specs.Prelude.{IfOk, IfErr, IsErrAnd}
use Rattle.bz_model.specs.declared.event.NetError.{NetError}
use Rattle.std.proofs.Common.{Result, Ok, Err, false, true≢false, ⊎_elim, Option, None, length, arith, length-append, ◌≡◌, ℕ, Bool, true, List, [], ◌∷◌, refl, sym, ap, ◌∙◌, subst}
use Rattle.bz_model.specs.declared.event.Entry.{Entry}
use Rattle.bz_net.specs.Simulation.{Simulation, Adds}
use Rattle.bz_past.specs.Moments.{moment, Leads}
use Rattle.bz_past.specs.Owners.{who_of, LeadsBy, MayMake}
use Rattle.bz_model.specs.declared.event.Who.{Who}
use Rattle.bz_model.specs.declared.event.Who.TheVariants.{Worker}
use Rattle.bz_model.specs.declared.event.HostCmd.{HostCmd}
use Rattle.bz_locked.specs.declared.locked.Polled.{Polled}
use Rattle.bz_locked.specs.declared.locked.Polled.TheVariants as told
use Rattle.bz_past.specs.declared.view.Moment.{Moment}
use Rattle.std.proofs.lemmas.List.{append-nil}
use Rattle.bz_past.proofs.Leading.{onward}
use Rattle.bz_past.specs.Standings.{standings_of, turned}
use Rattle.bz_past.specs.declared.standing.Standing.{Standing}
use Rattle.bz_past.specs.declared.standing.Turn.{Turn}
use Rattle.bz_locked.specs.Terms.{Terms}
use Rattle.bz_locked.proofs.Turning.{MayTurn, later_by, later_of, later_within, turned_is}
use Rattle.bz_locked.specs.Working.{During, is_wait, IsHeld, IsLast, IsTurn, Once}

-- by one entry, and a turn
leads_added : (w : Who) (old new : Simulation) (entry : Entry) (a b : Bool) (us : List Turn) (turn : Option Standing) → Adds old entry new → b ≡ a → Leads (moment old a us) (moment new b (turned us w (length new.journal) turn))
leads_added w old new entry a b us turn adds same = record {
  wiring = adds.wiring;
  limit = adds.limit;
  rest = entry ∷ [];
  journal = adds.journal;
  run = (new.state, adds.follows, refl);
  stays = λ h. same ∙ h;
  later = later_of w (length new.journal) turn;
  turns = turned_is us w (length new.journal) turn;
  within = let long = ap length adds.journal ∙ length-append old.journal (entry ∷ []) in later_within w (length old.journal) (length new.journal) (length new.journal) turn (omega (arith, long)) (omega arith);
}

-- by none
leads_still : (w : Who) (old : Simulation) (a b : Bool) (us : List Turn) (turn : Option Standing) → (a ≡ true → b ≡ true) → Leads (moment old a us) (moment old b (turned us w (length old.journal) turn))
leads_still w old a b us turn stays = record {
  wiring = refl;
  limit = refl;
  rest = [];
  journal = sym (append-nil old.journal);
  run = refl;
  stays = stays;
  later = later_of w (length old.journal) turn;
  turns = turned_is us w (length old.journal) turn;
  within = later_within w (length old.journal) (length old.journal) (length old.journal) turn (omega arith) (omega arith);
}

-- by none, and no turn
pub leads_same : (old new : Simulation) (a b : Bool) (us : List Turn) → new ≡ old → (a ≡ true → b ≡ true) → (leads : Leads (moment old a us) (moment new b us)) × (leads.rest ≡ []) × (leads.later ≡ [])
unfolding leads_still
leads_same old new a b us same stays =
    subst (λ n. (leads : Leads (moment old a us) (moment n b us)) × (leads.rest ≡ []) × (leads.later ≡ [])) (sym same) (leads_still (Worker 0) old a b us None stays, refl, refl)

-- by an entry of one's own
pub by_added : (w : Who) (old new : Simulation) (entry : Entry) (a b : Bool) (us : List Turn) (turn : Option Standing) → MayTurn w turn → Adds old entry new → b ≡ a → who_of entry ≡ w → MayMake w entry → LeadsBy w (moment old a us) (moment new b (turned us w (length new.journal) turn))
unfolding leads_added
by_added w old new entry a b us turn turns adds same of may = (leads_added w old new entry a b us turn adds same, (of, may, tt), later_by w (length new.journal) turn turns)

-- by none, so by none of another
pub by_none : (w : Who) (old new : Simulation) (a b : Bool) (us : List Turn) (turn : Option Standing) → MayTurn w turn → new ≡ old → (a ≡ true → b ≡ true) → LeadsBy w (moment old a us) (moment new b (turned us w (length new.journal) turn))
unfolding leads_still
by_none w old new a b us turn turns same stays =
    subst (λ n. LeadsBy w (moment old a us) (moment n b (turned us w (length n.journal) turn))) (sym same) (leads_still w old a b us turn stays, tt, later_by w (length old.journal) turn turns)

-- what the keeper knew is what lay there
pub known : (now : Moment) (net : Simulation) (stopped : Bool) → now.net ≡ net → now.stopped ≡ stopped → moment net stopped now.turns ≡ now
known now net stopped n s = sym (ap (λ x. moment x now.stopped now.turns) n ∙ ap (λ x. moment net x now.turns) s)

-- at a moment between what had been seen and what was seen
pub during : (t : Terms) (had saw : Moment) (P : Simulation → ℕ → Bool → List Turn → Type 0) (net : Simulation) (fuel : ℕ) (stopped : Bool) (turns : List Turn)
    → IsHeld t net fuel (standings_of t.sessions turns) → Leads had (moment net stopped turns) → Leads (moment net stopped turns) saw → P net fuel stopped turns → During t had saw P
during t had saw P net fuel stopped turns held after leads fact =
    let once : Once t saw P = record {
      net = net;
      fuel = fuel;
      stopped = stopped;
      turns = turns;
      held = held;
      leads = leads;
      fact = fact;
    } in (once, after)

-- what led to this has led to what comes of it
pub once_on : (t : Terms) (a b : Moment) (P : Simulation → ℕ → Bool → List Turn → Type 0) → Leads a b → Once t a P → Once t b P
once_on t a b P on o = record {
  net = o.net;
  fuel = o.fuel;
  stopped = o.stopped;
  turns = o.turns;
  held = o.held;
  leads = onward (moment o.net o.stopped o.turns) a b o.leads on;
  fact = o.fact;
}

pub during_on : (t : Terms) (had a b : Moment) (P : Simulation → ℕ → Bool → List Turn → Type 0) → Leads a b → During t had a P → During t had b P
during_on t had a b P on o =
    let once : Once t b P = record {
      net = o.0.net;
      fuel = o.0.fuel;
      stopped = o.0.stopped;
      turns = o.0.turns;
      held = o.0.held;
      leads = onward (moment o.0.net o.0.stopped o.0.turns) a b o.0.leads on;
      fact = o.0.fact;
    } in (once, o.1)

-- what had led to what had been seen comes before
pub during_back : (t : Terms) (a b saw : Moment) (P : Simulation → ℕ → Bool → List Turn → Type 0) → Leads a b → During t b saw P → During t a saw P
during_back t a b saw P on o = (o.0, onward a b (moment o.0.net o.0.stopped o.0.turns) on o.1)

pub last_back : (t : Terms) (a b saw : Moment) (who : Who) (cmd : HostCmd) (p : Polled) → Leads a b → IsLast t b saw who cmd p → IsLast t a saw who cmd p
last_back t a b saw who cmd (told.Answered entry reply len) on is = (is.0, is.1, during_back t a b saw _ on is.2)
last_back t a b saw who cmd told.Resting on is = during_back t a b saw _ on is
last_back t a b saw who cmd told.Spent on is = during_back t a b saw _ on is
last_back t a b saw who cmd told.Stopped on is = during_back t a b saw _ on is
last_back t a b saw who cmd told.Wait on is = absurd is

not_wait : (p : Polled) → is_wait (Ok p) ≡ false → p ≡ told.Wait → ⊥
not_wait p goes is = true≢false (sym (ap (λ q. is_wait (Ok q)) is) ∙ goes)

-- what is told in place of having to wait, and why a command was refused, of a session that had seen more meanwhile
pub ended_by : (t : Terms) (a b saw : Moment) (who : Who) (cmd : HostCmd) (r : Result Polled NetError) → is_wait r ≡ false → Leads a b → IfOk r (IsTurn t b saw who cmd) → IfOk r (IsLast t a saw who cmd)
ended_by t a b saw who cmd (Ok told.Wait) goes on turn = absurd (true≢false goes)
ended_by t a b saw who cmd (Ok (told.Answered entry reply len)) goes on turn = ⊎_elim (λ w. absurd (not_wait (told.Answered entry reply len) goes w.0)) (last_back t a b saw who cmd (told.Answered entry reply len) on) turn
ended_by t a b saw who cmd (Ok told.Resting) goes on turn = ⊎_elim (λ w. absurd (not_wait told.Resting goes w.0)) (last_back t a b saw who cmd told.Resting on) turn
ended_by t a b saw who cmd (Ok told.Spent) goes on turn = ⊎_elim (λ w. absurd (not_wait told.Spent goes w.0)) (last_back t a b saw who cmd told.Spent on) turn
ended_by t a b saw who cmd (Ok told.Stopped) goes on turn = ⊎_elim (λ w. absurd (not_wait told.Stopped goes w.0)) (last_back t a b saw who cmd told.Stopped on) turn
ended_by t a b saw who cmd (Err e) goes on turn = tt

pub refused_by : {A E : Type 0} (t : Terms) (a b saw : Moment) (Q : E → Simulation → ℕ → Bool → List Turn → Type 0) (r : Result A E) → Leads a b → IfErr r (λ e. During t b saw (Q e)) → IfErr r (λ e. During t a saw (Q e))
refused_by t a b saw Q (Ok x) on cause = tt
refused_by t a b saw Q (Err e) on cause = during_back t a b saw (Q e) on cause

-- what holds of an error that is handed on
pub err_so : {A E : Type 0} (P : E → Type 0) (r : Result A E) (e : E) → IsErrAnd r (λ y. y ≡ e) → P e → IfErr r P
err_so P (Ok x) e is fact = tt
err_so P (Err y) e is fact = subst P (sym is) fact

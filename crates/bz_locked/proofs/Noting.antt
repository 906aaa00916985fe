-- What a call on the locked value did leads on, by an entry of its owner or by none, and is told of that moment.
use Rattle.std.proofs.Common.{true≢false, false, ◌⊎◌, ◌≡◌, ℕ, ◌+◌, ◌<◌, Bool, true, List, [], ◌∷◌, length, refl, sym, ap, ◌∙◌, subst, inl, inr, Option, Some, None, arith, Result, Ok, Err}
use Rattle.std.specs.Prelude.{IfOk, IfErr, OnOk, OnErr, MatchOption, MatchResult}
use Rattle.bz_model.specs.declared.event.Who.{Who}
use Rattle.bz_model.specs.declared.event.Who.TheVariants as who
use Rattle.bz_model.specs.declared.event.Reply.{Reply}
use Rattle.bz_model.specs.declared.event.HostCmd.{HostCmd}
use Rattle.bz_model.specs.declared.event.Entry.{Entry}
use Rattle.bz_model.specs.declared.event.Entry.TheVariants.{Fired as FiredAt, Host, Rested}
use Rattle.bz_model.specs.declared.event.NetError.{NetError}
use Rattle.bz_model.specs.declared.event.NetError.TheVariants as neterr
use Rattle.bz_model.specs.Names.{External}
use Rattle.bz_net.specs.declared.event.RestReply.{RestReply}
use Rattle.bz_net.specs.declared.event.RestReply.TheVariants as rest
use Rattle.bz_net.specs.Simulation.{Simulation, Adds}
use Rattle.bz_net.specs.Replies.{IsLowestFiring, RefusesEntry}
use Rattle.bz_past.specs.Moments.{moment, Leads}
use Rattle.bz_past.specs.Owners.{who_of, is_host, LeadsBy, LeadsWithout, MayMake}
use Rattle.bz_past.specs.Standings.{HasTurned, listed, standing_of, standings_of, turned}
use Rattle.bz_past.specs.Stopping.{IsRefused}
use Rattle.bz_past.specs.declared.view.Moment.{Moment}
use Rattle.bz_past.proofs.Leading.{onward}
use Rattle.bz_model.specs.Runs.{Rest}
use Rattle.bz_past.specs.declared.standing.Standing.{Standing}
use Rattle.bz_past.specs.declared.standing.Turn.{Turn}
use Rattle.bz_locked.specs.declared.locked.FireError.{FireError}
use Rattle.bz_locked.specs.declared.locked.FireError.TheVariants as refused
use Rattle.bz_locked.specs.declared.locked.Fired.{Fired}
use Rattle.bz_locked.specs.declared.locked.Work.{Work}
use Rattle.bz_locked.specs.declared.locked.Work.TheVariants as work
use Rattle.bz_locked.specs.declared.locked.Polled.{Polled}
use Rattle.bz_locked.specs.declared.locked.Polled.TheVariants as told
use Rattle.bz_locked.specs.Terms.{Terms}
use Rattle.bz_locked.specs.Commands.{IsEntryOf}
use Rattle.bz_locked.specs.Making.{MadeNone, MadeOne, MadeTold}
use Rattle.bz_locked.specs.Quiet.{AwaitsIn}
use Rattle.bz_locked.specs.Waking.{FiresFor, Wakes}
use Rattle.bz_locked.specs.Working.{IsHeld, During, HasFired, HasToWait, IsTurn, MatchRest, MustWait, PollIs, RefusesFiring, RefusesRest, TellsFirst, WasAdded, WasFirst, WorkIs, stops}
use Rattle.bz_locked.proofs.Making.{made_none, made_one}
use Rattle.bz_locked.proofs.Seeing.{by_added, by_none, during, known}
use Rattle.bz_locked.proofs.Turning.{MayTurn, has_turned, standing_led}

-- what the keeper knew leads on, where what lay there does
pub from_keeper : (P : Moment → Type 0) (now : Moment) (old : Simulation) (a : Bool) → now.net ≡ old → now.stopped ≡ a → P (moment old a now.turns) → P now
from_keeper P now old a n s is = subst P (known now old a n s) is

pub to_keeper : (P : Moment → Type 0) (now : Moment) (old : Simulation) (a : Bool) → now.net ≡ old → now.stopped ≡ a → P now → P (moment old a now.turns)
to_keeper P now old a n s is = subst P (sym (known now old a n s)) is

-- what the owner had seen has led to what it sees
pub seen_on : (v w : Who) (had now n saw : Moment) → LeadsWithout v had now → LeadsBy w now n → saw ≡ n → Leads had saw
seen_on v w had now n saw led by is = subst (λ m. Leads had m) (sym is) (onward had now n led.0 by.0)

-- the owner is the one who calls
pub kept_by : (v w : Who) (now : Moment) (old new : Simulation) (a b : Bool) (turn : Option Standing) → now.net ≡ old → now.stopped ≡ a → v ≡ w → LeadsBy w (moment old a now.turns) (moment new b (turned now.turns w (length new.journal) turn))
    → LeadsBy v now (moment new b (turned now.turns v (length new.journal) turn))
kept_by v w now old new a b turn n s is by =
    from_keeper (λ m. LeadsBy v m (moment new b (turned now.turns v (length new.journal) turn))) now old a n s
    (subst (λ u. LeadsBy u (moment old a now.turns) (moment new b (turned now.turns u (length new.journal) turn))) (sym is) by)

pub seen_as : (v w : Who) (us : List Turn) (new : Simulation) (b : Bool) (turn : Option Standing) (saw : Moment) → saw ≡ moment new b (turned us v (length new.journal) turn) → v ≡ w → saw ≡ moment new b (turned us w (length new.journal) turn)
seen_as v w us new b turn saw is same = is ∙ ap (λ u. moment new b (turned us u (length new.journal) turn)) same

-- whose entry it is
pub entry_of : (ports : List External) (w : Who) (cmd : HostCmd) (reply : Reply) (entry : Entry) → IsEntryOf ports w cmd reply entry → who_of entry ≡ w
entry_of ports w cmd reply entry is = ap who_of is.entry_is

-- a command of a host
may_command : (ports : List External) (w : Who) (cmd : HostCmd) (reply : Reply) (entry : Entry) → is_host w ≡ true → IsEntryOf ports w cmd reply entry → MayMake w entry
may_command ports w cmd reply entry host is = subst (MayMake w) (sym is.entry_is) host

may_fire : (net : Simulation) (w : Who) (c : ℕ) (entry : Entry) → IsLowestFiring net w c entry → MayMake w entry
may_fire net w c (FiredAt v d p k mv value) is = tt
may_fire net w c (Host v verb port value reply) is = absurd is
may_fire net w c (Rested v) is = absurd is

firing_of : (net : Simulation) (w : Who) (c : ℕ) (entry : Entry) → IsLowestFiring net w c entry → who_of entry ≡ w
firing_of net w c (FiredAt v d p k mv value) is = is.0
firing_of net w c (Host v verb port value reply) is = absurd is
firing_of net w c (Rested v) is = absurd is

-- a command that was carried out at once
pub host_by : (ports : List External) (who : Who) (cmd : HostCmd) (old new : Simulation) (a b : Bool) (us : List Turn) (turn : Option Standing) → MayTurn who turn → (r : Result (Entry × Reply × ℕ) NetError) → is_host who ≡ true → b ≡ a → IfOk r (λ x. IsEntryOf ports who cmd x.1 x.0) → IfOk r (λ x. Adds old x.0 new) → OnErr r (new ≡ old)
    → LeadsBy who (moment old a us) (moment new b (turned us who (length new.journal) turn))
host_by ports who cmd old new a b us turn may (Ok x) host same entry adds err = by_added who old new x.0 a b us turn may adds same (entry_of ports who cmd x.1 x.0 entry) (may_command ports who cmd x.1 x.0 host entry)
host_by ports who cmd old new a b us turn may (Err e) host same entry adds err = by_none who old new a b us turn may err (λ h. same ∙ h)

-- what a waiting session was told
polled_by : (old new : Simulation) (fuel : ℕ) (a b : Bool) (us : List Turn) (turn : Option Standing) (standings : List Standing) (who : Who) → MayTurn who turn → (cmd : HostCmd) (p : Polled) → is_host who ≡ true → b ≡ a → PollIs old new fuel a standings who cmd p
    → LeadsBy who (moment old a us) (moment new b (turned us who (length new.journal) turn))
polled_by old new fuel a b us turn standings who may cmd (told.Answered entry reply len) host same is = by_added who old new entry a b us turn may is.2 same (entry_of old.wiring.ports who cmd reply entry is.1) (may_command old.wiring.ports who cmd reply entry host is.1)
polled_by old new fuel a b us turn standings who may cmd told.Resting host same is = by_none who old new a b us turn may is.1 (λ h. same ∙ h)
polled_by old new fuel a b us turn standings who may cmd told.Spent host same is = by_none who old new a b us turn may is.1 (λ h. same ∙ h)
polled_by old new fuel a b us turn standings who may cmd told.Stopped host same is = by_none who old new a b us turn may is.1 (λ h. same ∙ h)
polled_by old new fuel a b us turn standings who may cmd told.Wait host same is = by_none who old new a b us turn may is.1 (λ h. same ∙ h)

pub turn_by : (old new : Simulation) (fuel : ℕ) (a b : Bool) (us : List Turn) (turn : Option Standing) (standings : List Standing) (who : Who) → MayTurn who turn → (cmd : HostCmd) (r : Result Polled NetError) → is_host who ≡ true → b ≡ a → IfOk r (PollIs old new fuel a standings who cmd) → OnErr r (new ≡ old)
    → LeadsBy who (moment old a us) (moment new b (turned us who (length new.journal) turn))
turn_by old new fuel a b us turn standings who may cmd (Ok p) host same ok err = polled_by old new fuel a b us turn standings who may cmd p host same ok
turn_by old new fuel a b us turn standings who may cmd (Err e) host same ok err = by_none who old new a b us turn may err (λ h. same ∙ h)

-- a firing
stops_on : (a b : Bool) (e : FireError) → b ≡ stops a e → a ≡ true → b ≡ true
stops_on a b refused.Spent is h = is ∙ h
stops_on a b (refused.Net neterr.NotEnabled) is h = is ∙ h
stops_on a b (refused.Net neterr.UnknownPort) is h = is
stops_on a b (refused.Net neterr.WrongSide) is h = is
stops_on a b (refused.Net neterr.ValueMissing) is h = is
stops_on a b (refused.Net neterr.ValueUnwanted) is h = is
stops_on a b (refused.Net neterr.TooLarge) is h = is
stops_on a b (refused.Net neterr.JournalFull) is h = is
stops_on a b (refused.Net neterr.Memory) is h = is

-- what is refused to a worker
refused_one : (v : Who) (old : Simulation) (e : NetError) → is_host v ≡ false → RefusesEntry old e → IsRefused v old
refused_one (who.Host k) old e hand refuses = absurd (true≢false hand)
refused_one (who.Worker k) old e hand refuses = (e, refuses)

-- Why all is stopped after a call of a worker, by what the keeper knew before it.
module _ (now : Moment) (w v : Who) (old : Simulation) (a b : Bool) where
  refused_to : (e : NetError) → is_host v ≡ false → w ≡ v → now.net ≡ old → RefusesEntry old e → (now.stopped ≡ true) ⊎ IsRefused w now.net
  refused_to e hand same is refuses = inr (subst (λ u. IsRefused u now.net) (sym same) (subst (IsRefused v) (sym is) (refused_one v old e hand refuses)))

  firing_why : (fuel c : ℕ) → is_host v ≡ false → w ≡ v → now.net ≡ old → now.stopped ≡ a → (e : FireError) → b ≡ stops a e → RefusesFiring old fuel c e → b ≡ true → (now.stopped ≡ true) ⊎ IsRefused w now.net
  firing_why fuel c hand same is stop refused.Spent then cause s = inl (stop ∙ sym then ∙ s)
  firing_why fuel c hand same is stop (refused.Net neterr.NotEnabled) then cause s = inl (stop ∙ sym then ∙ s)
  firing_why fuel c hand same is stop (refused.Net neterr.UnknownPort) then cause s = absurd cause.1
  firing_why fuel c hand same is stop (refused.Net neterr.WrongSide) then cause s = absurd cause.1
  firing_why fuel c hand same is stop (refused.Net neterr.ValueMissing) then cause s = absurd cause.1
  firing_why fuel c hand same is stop (refused.Net neterr.ValueUnwanted) then cause s = absurd cause.1
  firing_why fuel c hand same is stop (refused.Net neterr.TooLarge) then cause s = absurd cause.1
  firing_why fuel c hand same is stop (refused.Net neterr.JournalFull) then cause s = refused_to neterr.JournalFull hand same is cause.1.1
  firing_why fuel c hand same is stop (refused.Net neterr.Memory) then cause s = refused_to neterr.Memory hand same is cause.1.1

  pub fire_why : (fuel c : ℕ) → is_host v ≡ false → w ≡ v → now.net ≡ old → now.stopped ≡ a → (r : Result (Fired × ℕ) FireError) → MatchResult r (λ f. b ≡ a) (λ e. b ≡ stops a e) → IfErr r (RefusesFiring old fuel c) → b ≡ true → (now.stopped ≡ true) ⊎ IsRefused w now.net
  fire_why fuel c hand same is stop (Ok f) then cause s = inl (stop ∙ sym then ∙ s)
  fire_why fuel c hand same is stop (Err e) then cause s = firing_why fuel c hand same is stop e then cause s

  pub first_why : is_host v ≡ false → w ≡ v → now.net ≡ old → now.stopped ≡ a → (r : Result (RestReply × ℕ) NetError) → OnOk r (b ≡ a) → IfErr r (RefusesEntry old) → b ≡ true → (now.stopped ≡ true) ⊎ IsRefused w now.net
  first_why hand same is stop (Ok x) then cause s = inl (stop ∙ sym then ∙ s)
  first_why hand same is stop (Err e) then cause s = refused_to e hand same is cause

pub fire_by : (X : Type 0) (old new : Simulation) (a b : Bool) (us : List Turn) (who : Who) (c : ℕ) (r : Result (Fired × ℕ) FireError) → IfOk r (λ f. IsLowestFiring old who c f.0.entry) → IfOk r (λ f. Adds old f.0.entry new) → OnErr r ((new ≡ old) × X) → MatchResult r (λ f. b ≡ a) (λ e. b ≡ stops a e) → LeadsBy who (moment old a us) (moment new b us)
fire_by X old new a b us who c (Ok f) lowest adds err stop = by_added who old new f.0.entry a b us None tt adds stop (firing_of old who c f.0.entry lowest) (may_fire old who c f.0.entry lowest)
fire_by X old new a b us who c (Err e) lowest adds err stop = by_none who old new a b us None tt err.0 (stops_on a b e stop)

-- the entry of a firing tells its worker and its component
fires_for : (net : Simulation) (who : Who) (c : ℕ) (entry : Entry) → IsLowestFiring net who c entry → FiresFor who c entry
fires_for net who c (FiredAt w d p k mv value) is = (is.0, is.1)
fires_for net who c (Host w verb port value reply) is = absurd is
fires_for net who c (Rested w) is = absurd is

-- the next component, or rest
first_on : (old new : Simulation) (a b : Bool) (us : List Turn) (who : Who) (from : ℕ) (x : RestReply) → b ≡ a → TellsFirst old new who from x → LeadsBy who (moment old a us) (moment new b us)
first_on old new a b us who from rest.Rest same is = by_added who old new (Rested who) a b us None tt is same refl tt
first_on old new a b us who from (rest.Ready c) same is = by_none who old new a b us None tt is.1 (λ h. same ∙ h)

pub first_by : (old new : Simulation) (a b : Bool) (us : List Turn) (who : Who) (from : ℕ) (r : Result (RestReply × ℕ) NetError) → IfOk r (λ x. TellsFirst old new who from x.0) → OnErr r ((new ≡ old) × (b ≡ true)) → OnOk r (b ≡ a) → LeadsBy who (moment old a us) (moment new b us)
first_by old new a b us who from (Ok x) ok err same = first_on old new a b us who from x.0 same ok
first_by old new a b us who from (Err e) ok err same = by_none who old new a b us None tt err.0 (λ h. err.1)

-- who turned alone has added no entry
pub stood_none : (w : Who) (had saw : Moment) (old new : Simulation) (a b : Bool) (us vs : List Turn) → LeadsWithout w had (moment old a us) → new ≡ old → saw ≡ moment new b vs → MadeNone w had saw
stood_none w had saw old new a b us vs led same is = made_none w had (moment old a us) saw led (ap (λ (m : Moment). m.net.journal) is ∙ ap (λ (n : Simulation). n.journal) same)

pub stood_so : (w : Who) (now had saw : Moment) (new : Simulation) (b : Bool) (s : Standing) → LeadsWithout w had now → saw ≡ moment new b (turned now.turns w (length new.journal) (Some s)) → HasTurned w (s ∷ []) had saw
stood_so w now had saw new b s led is = has_turned w had now saw (length new.journal) (Some s) led (ap (λ (m : Moment). m.turns) is)

-- Below lie the net and whether all was stopped, before a call and after it, with the fuel and the standings before it. Who called
-- had seen `had`, and sees what comes of the call, with a turn or none.
module _ (t : Terms) (who : Who) (had saw : Moment) (old new : Simulation) (fuel : ℕ) (a b : Bool) (standings : List Standing) (us : List Turn) (turn : Option Standing) (may : MayTurn who turn) (stands : standings ≡ standings_of t.sessions us) (held : IsHeld t old fuel standings)
    (led : LeadsWithout who had (moment old a us)) (is : saw ≡ moment new b (turned us who (length new.journal) turn)) where
  abbrev Then : Moment
  Then = moment new b (turned us who (length new.journal) turn)

  -- what held before the call
  was : (P : Simulation → ℕ → Bool → List Turn → Type 0) → LeadsBy who (moment old a us) Then → P old fuel a us → During t had saw P
  was P by fact = during t had saw P old fuel a us (subst (IsHeld t old fuel) stands held) led.0 (subst (λ m. Leads (moment old a us) m) (sym is) by.0) fact

  reaches : b ≡ a → Leads (moment new a us) saw
  reaches same = subst (λ m. Leads (moment new a us) m) (sym is) (by_none who new new a b us turn may refl (λ h. same ∙ h)).0

  one_entry : (e : Entry) (len : ℕ) → Adds old e new → who_of e ≡ who → len ≡ length new.journal → MadeOne who e len had saw
  one_entry e len adds of long = subst (MadeOne who e len had) (sym is) (made_one who e len had (moment old a us) Then led adds.journal of long)

  no_entry : new ≡ old → MadeNone who had saw
  no_entry same = subst (MadeNone who had) (sym is) (made_none who had (moment old a us) Then led (ap (λ (n : Simulation). n.journal) same))

  -- why it was refused
  pub refused_so : {A E : Type 0} (Refuses : Simulation → ℕ → E → Type 0) (r : Result A E) → LeadsBy who (moment old a us) Then → IfErr r (Refuses old fuel) → IfErr r (λ e. During t had saw (λ net fuel stopped turns. Refuses net fuel e))
  refused_so Refuses (Ok x) by cause = tt
  refused_so Refuses (Err e) by cause = was (λ net fuel stopped turns. Refuses net fuel e) by cause

  -- a command that was carried out at once
  pub host_added : (ports : List External) (cmd : HostCmd) (r : Result (Entry × Reply × ℕ) NetError) → is_host who ≡ true → b ≡ a → IfOk r (λ x. IsEntryOf ports who cmd x.1 x.0) → IfOk r (λ x. Adds old x.0 new) → IfOk r (λ x. x.2 ≡ length new.journal) → IfOk r (λ x. WasAdded t had saw x.0 x.2)
  host_added ports cmd (Ok x) host same entry adds len = was _ (by_added who old new x.0 a b us turn may adds same (entry_of ports who cmd x.1 x.0 entry) (may_command ports who cmd x.1 x.0 host entry)) (new, adds, reaches same, len)
  host_added ports cmd (Err e) host same entry adds len = tt

  pub host_made : (ports : List External) (cmd : HostCmd) (r : Result (Entry × Reply × ℕ) NetError) → IfOk r (λ x. IsEntryOf ports who cmd x.1 x.0) → IfOk r (λ x. Adds old x.0 new) → IfOk r (λ x. x.2 ≡ length new.journal) → OnErr r (new ≡ old)
      → MatchResult r (λ x. MadeOne who x.0 x.2 had saw) (λ _. MadeNone who had saw)
  host_made ports cmd (Ok x) entry adds len err = one_entry x.0 x.2 adds (entry_of ports who cmd x.1 x.0 entry) len
  host_made ports cmd (Err e) entry adds len err = no_entry err

  -- a session that had begun to wait still did
  stood : (cmd : HostCmd) → AwaitsIn t.wiring cmd (standing_of who had.turns) → AwaitsIn t.wiring cmd (standing_of who us)
  stood cmd awaits = subst (AwaitsIn t.wiring cmd) (sym (standing_led who had (moment old a us) led)) awaits

  -- what a waiting session was told
  polled_told : (cmd : HostCmd) (p : Polled) → is_host who ≡ true → b ≡ a → AwaitsIn t.wiring cmd (standing_of who had.turns) → PollIs old new fuel a standings who cmd p → IsTurn t had saw who cmd p
  polled_told cmd (told.Answered entry reply len) host same awaits polled =
      let entry_is : IsEntryOf t.wiring.ports who cmd reply entry = subst (λ w. IsEntryOf w.ports who cmd reply entry) held.wiring polled.1 in
      inr (polled.0, entry_is, was _ (by_added who old new entry a b us turn may polled.2 same (entry_of old.wiring.ports who cmd reply entry polled.1) (may_command old.wiring.ports who cmd reply entry host polled.1)) (new, polled.2, reaches same, polled.3))
  polled_told cmd told.Resting host same awaits polled = inr (was _ (by_none who old new a b us turn may polled.1 (λ h. same ∙ h)) (polled.0, subst (λ l. WorkIs old fuel a l work.Resting) stands polled.2, stood cmd awaits))
  polled_told cmd told.Spent host same awaits polled = inr (was _ (by_none who old new a b us turn may polled.1 (λ h. same ∙ h)) (polled.0, subst (λ l. WorkIs old fuel a l work.Spent) stands polled.2, stood cmd awaits))
  polled_told cmd told.Stopped host same awaits polled = inr (was _ (by_none who old new a b us turn may polled.1 (λ h. same ∙ h)) (polled.0, subst (λ l. WorkIs old fuel a l work.Stopped) stands polled.2, stood cmd awaits))
  polled_told cmd told.Wait host same awaits polled = inl (refl, was _ (by_none who old new a b us turn may polled.1 (λ h. same ∙ h)) (polled.0, subst (HasToWait old fuel a) stands polled.2, stood cmd awaits))

  pub turn_told : (cmd : HostCmd) (r : Result Polled NetError) → is_host who ≡ true → b ≡ a → AwaitsIn t.wiring cmd (standing_of who had.turns) → IfOk r (PollIs old new fuel a standings who cmd) → IfOk r (IsTurn t had saw who cmd)
  turn_told cmd (Ok p) host same awaits ok = polled_told cmd p host same awaits ok
  turn_told cmd (Err e) host same awaits ok = tt

  polled_made : (cmd : HostCmd) (p : Polled) → PollIs old new fuel a standings who cmd p → MadeTold who p had saw
  polled_made cmd (told.Answered entry reply len) polled = one_entry entry len polled.2 (entry_of old.wiring.ports who cmd reply entry polled.1) polled.3
  polled_made cmd told.Resting polled = no_entry polled.1
  polled_made cmd told.Spent polled = no_entry polled.1
  polled_made cmd told.Stopped polled = no_entry polled.1
  polled_made cmd told.Wait polled = no_entry polled.1

  pub turn_made : (cmd : HostCmd) (r : Result Polled NetError) → IfOk r (PollIs old new fuel a standings who cmd) → OnErr r (new ≡ old) → MatchResult r (λ p. MadeTold who p had saw) (λ _. MadeNone who had saw)
  turn_made cmd (Ok p) ok err = polled_made cmd p ok
  turn_made cmd (Err e) ok err = no_entry err

  -- a firing
  pub fire_told : (left c : ℕ) (r : Result (Fired × ℕ) FireError) → IfOk r (λ f. IsLowestFiring old who c f.0.entry) → IfOk r (λ f. Adds old f.0.entry new) → IfOk r (λ f. Wakes new f.0.entry f.0.wake) → IfOk r (λ f. f.1 ≡ length new.journal)
      → OnOk r (left + 1 ≡ fuel) → MatchResult r (λ f. b ≡ a) (λ e. b ≡ stops a e) → IfOk r (λ f. FiresFor who c f.0.entry × HasFired t had saw who c f.0.entry f.0.wake f.1)
  fire_told left c (Ok f) lowest adds wake len spent stop =
      let fueled : 0 < fuel = omega (arith, spent) in (
        fires_for old who c f.0.entry lowest,
        was _ (by_added who old new f.0.entry a b us turn may adds stop (firing_of old who c f.0.entry lowest) (may_fire old who c f.0.entry lowest)) (fueled, lowest, (new, adds, wake, reaches stop, len)),
      )
  fire_told left c (Err e) lowest adds wake len spent stop = tt

  pub fire_made : (X : Type 0) (c : ℕ) (r : Result (Fired × ℕ) FireError) → IfOk r (λ f. IsLowestFiring old who c f.0.entry) → IfOk r (λ f. Adds old f.0.entry new) → IfOk r (λ f. f.1 ≡ length new.journal) → OnErr r ((new ≡ old) × X)
      → MatchResult r (λ f. MadeOne who f.0.entry f.1 had saw) (λ _. MadeNone who had saw)
  fire_made X c (Ok f) lowest adds len err = one_entry f.0.entry f.1 adds (firing_of old who c f.0.entry lowest) len
  fire_made X c (Err e) lowest adds len err = no_entry err.0

  -- the next component, or rest
  first_by_turn : (from : ℕ) (x : RestReply) → b ≡ a → TellsFirst old new who from x → LeadsBy who (moment old a us) Then
  first_by_turn from rest.Rest same is = by_added who old new (Rested who) a b us turn may is same refl tt
  first_by_turn from (rest.Ready c) same is = by_none who old new a b us turn may is.1 (λ h. same ∙ h)

  pub first_told : (from : ℕ) (r : Result (RestReply × ℕ) NetError) → IfOk r (λ x. TellsFirst old new who from x.0) → IfOk r (λ x. x.1 ≡ length new.journal) → OnOk r (b ≡ a) → IfOk r (λ x. WasFirst t had saw who from x.0 x.1)
  first_told from (Ok x) ok len same = was _ (first_by_turn from x.0 same ok) (new, ok, reaches same, len)
  first_told from (Err e) ok len same = tt

  first_so : (from : ℕ) (x : RestReply) (len : ℕ) → TellsFirst old new who from x → len ≡ length new.journal → MatchRest x (MadeOne who (Rested who) len had saw) (MadeNone who had saw)
  first_so from rest.Rest len ok long = one_entry (Rested who) len ok refl long
  first_so from (rest.Ready c) len ok long = no_entry ok.1

  pub first_made : (from : ℕ) (r : Result (RestReply × ℕ) NetError) → IfOk r (λ x. TellsFirst old new who from x.0) → IfOk r (λ x. x.1 ≡ length new.journal) → OnErr r ((new ≡ old) × (b ≡ true))
      → MatchResult r (λ x. MatchRest x.0 (MadeOne who (Rested who) x.1 had saw) (MadeNone who had saw)) (λ _. MadeNone who had saw)
  first_made from (Ok x) ok len err = first_so from x.0 x.1 ok len
  first_made from (Err e) ok len err = no_entry err.0

  pub rest_refused : (r : Result (RestReply × ℕ) NetError) → LeadsBy who (moment old a us) Then → OnErr r (Rest old.wiring.sites old.state) → IfErr r (RefusesEntry old) → IfErr r (λ e. During t had saw (λ net fuel stopped turns. RefusesRest net e))
  rest_refused (Ok x) by resting cause = tt
  rest_refused (Err e) by resting cause = was (λ net fuel stopped turns. RefusesRest net e) by (resting, cause)

  -- what a waiting worker was told
  pub work_told : (r : Option Work) → LeadsBy who (moment old a us) Then → MatchOption r (MustWait old fuel a standings) (WorkIs old fuel a standings)
      → MatchOption r (During t had saw (λ net fuel stopped turns. MustWait net fuel stopped (standings_of t.sessions turns))) (λ work. During t had saw (λ net fuel stopped turns. WorkIs net fuel stopped (standings_of t.sessions turns) work))
  work_told None by fact = was (λ net fuel stopped turns. MustWait net fuel stopped (standings_of t.sessions turns)) by (subst (MustWait old fuel a) stands fact)
  work_told (Some work) by fact = was (λ net fuel stopped turns. WorkIs net fuel stopped (standings_of t.sessions turns) work) by (subst (λ l. WorkIs old fuel a l work) stands fact)

  pub work_made : new ≡ old → MadeNone who had saw
  work_made same = no_entry same

  -- how it has turned
  pub has_stood : HasTurned who (listed turn) had saw
  has_stood = has_turned who had (moment old a us) saw (length new.journal) turn led (ap (λ (m : Moment). m.turns) is)

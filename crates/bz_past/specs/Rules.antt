-- The rule of the tokens of one past, and what each step tells the token that makes it.
use Rattle.std.specs.Prelude.{◌≡◌, ℕ, zero, suc, ◌+◌, ◌-◌, ◌≤◌, max, Bool, true, false, ⊤, List, [], length}
use Rattle.std.specs.List.{All, sum_by}
use Rattle.atomic_table.specs.Table.{State, Me}
use Rattle.bz_model.specs.declared.event.Who.{Who}
use Rattle.bz_model.specs.declared.event.Who.TheVariants.{Host, Worker}
use Rattle.bz_net.specs.Simulation.{Simulation}
use Rattle.bz_past.specs.Moments.{moment}
use Rattle.bz_past.specs.Owners.{same_who, last_of, IsNamed, AreNamed, LeadsBy, LeadsWithout}
use Rattle.bz_past.specs.Seen.{nobody}
use Rattle.bz_past.specs.Stopping.{IsStoppedFor}
use Rattle.bz_past.specs.declared.view.Moment.{Moment}
use Rattle.bz_past.specs.declared.view.Roll.{Roll}
use Rattle.bz_past.specs.declared.view.View.{View}
use Rattle.bz_past.specs.declared.view.View.TheVariants.{Knows, Acts, Halts, Owns, Stops, Spent}

abbrev pub one_if : Bool → ℕ
one_if true = 1
one_if false = 0

-- whether it is the keeper
abbrev pub keeps : View → ℕ
keeps (Knows r) = 1
keeps (Acts r w a) = 1
keeps (Halts r u) = 1
keeps (Owns w a) = 0
keeps (Stops u) = 0
keeps Spent = 0

-- whether it may add entries of some who
abbrev pub owns : View → ℕ
owns (Knows r) = 0
owns (Acts r w a) = 1
owns (Halts r u) = 0
owns (Owns w a) = 1
owns (Stops u) = 0
owns Spent = 0

-- whether it may add those of this one
abbrev pub mine : Who → View → ℕ
mine v (Knows r) = 0
mine v (Acts r w a) = one_if (same_who v w)
mine v (Halts r u) = 0
mine v (Owns w a) = one_if (same_who v w)
mine v (Stops u) = 0
mine v Spent = 0

-- whether it is the stopper
abbrev pub halts : View → ℕ
halts (Knows r) = 0
halts (Acts r w a) = 0
halts (Halts r u) = 1
halts (Owns w a) = 0
halts (Stops u) = 1
halts Spent = 0

-- An owner knows all entries of its own: none was added since it saw what lay there.
abbrev pub IsOwner : Roll → Who → Moment → Type 0
IsOwner now w a = LeadsWithout w a now.now × IsNamed now.hosts now.workers w

-- what a token knows, where this is so now
abbrev pub Fits : Roll → View → Type 0
Fits now (Knows r) = r ≡ now
Fits now (Acts r w a) = (r ≡ now) × IsOwner now w a
Fits now (Halts r u) = (r ≡ now) × (u ≡ now.used)
Fits now (Owns w a) = IsOwner now w a
Fits now (Stops u) = u ≡ now.used
Fits now Spent = ⊤

-- Every token knows something of what is so now. There is one keeper at most, one stopper at most, one owner of each who at most,
-- and so many owners in all. Each entry is of one who has been named, and an entry of one who has no owner left stands no further
-- than `last`. Where all is stopped the stopper was used, or an entry was refused to a worker.
pub record IsKept (now : Roll) (ts : List View) : Type 0 where
  pub fit : All (Fits now) ts
  pub keeper : sum_by keeps ts ≤ 1
  pub stopper : sum_by halts ts ≤ 1
  pub once : (w : Who) → sum_by (mine w) ts ≤ 1
  pub count : sum_by owns ts ≤ now.out
  pub named : AreNamed now.hosts now.workers now.now.net.journal
  pub last : (w : Who) → sum_by (mine w) ts ≡ 0 → last_of w now.now.net.journal ≤ now.last
  pub why : IsStoppedFor now.used now.workers now.now

abbrev pub Holds : Simulation → State (Unit {0}) View → Type 0
Holds net s = (now : Roll) × IsKept now s.views

-- the keeper with the stopper, where nobody owns anything yet
abbrev pub first : Simulation → View
first net = Halts (nobody (moment net false [])) false

-- the same with another moment
abbrev pub at_moment : Roll → Moment → Roll
at_moment r now = record { now = now; hosts = r.hosts; workers = r.workers; out = r.out; last = r.last; used = r.used }

-- the same where the stopper was used
abbrev pub halted : Roll → Moment → Roll
halted r now = record { now = now; hosts = r.hosts; workers = r.workers; out = r.out; last = r.last; used = true }

-- the same where one owner more was given, to one of so many hosts and workers
abbrev pub one_more : Roll → ℕ → ℕ → Roll
one_more r hosts workers = record { now = r.now; hosts = hosts; workers = workers; out = r.out + 1; last = r.last; used = r.used }

abbrev pub host_more : Roll → Roll
host_more r = one_more r (r.hosts + 1) r.workers

abbrev pub worker_more : Roll → Roll
worker_more r = one_more r r.hosts (r.workers + 1)

-- the same once an owner was taken in whose last entry stands there
abbrev pub one_less : Roll → ℕ → Roll
one_less r place = record { now = r.now; hosts = r.hosts; workers = r.workers; out = r.out - 1; last = max r.last place; used = r.used }

-- a keeper, and nothing beside it
abbrev pub keeper_of : View → View
keeper_of v = v

abbrev pub nothing_of : View → View
nothing_of v = Spent

abbrev pub gone : View
gone = Spent

-- a keeper with the next host's token, or the next worker's
abbrev pub with_host : View → View
with_host (Knows r) = Knows (host_more r)
with_host v = v

abbrev pub host_of : View → View
host_of (Knows r) = Owns (Host (r.hosts + 1)) r.now
host_of v = Spent

abbrev pub with_worker : View → View
with_worker (Knows r) = Knows (worker_more r)
with_worker v = v

abbrev pub worker_of : View → View
worker_of (Knows r) = Owns (Worker (r.workers + 1)) r.now
worker_of v = Spent

-- a keeper with an owner that acts, or with the stopper, and both again
abbrev pub joined : View → View → View
joined (Knows r) (Owns w a) = Acts r w a
joined (Knows r) (Stops u) = Halts r u
joined v w = v

abbrev pub keeper_again : View → View
keeper_again (Acts r w a) = Knows r
keeper_again (Halts r u) = Knows r
keeper_again v = v

abbrev pub other_again : View → View
other_again (Acts r w a) = Owns w a
other_again (Halts r u) = Stops u
other_again v = Spent

-- A load by the keeper while an owner acts: something else lies there now, by the owner's entries and turns. What the owner saw has
-- led by those of others to what lay there before.
abbrev pub Acted : Moment → Me (Unit {0}) View → Me (Unit {0}) View → Type 0
Acted now m n =
    (r : Roll) × (w : Who) × (a : Moment) × (m.0 ≡ Acts r w a) × LeadsWithout w a r.now × IsNamed r.hosts r.workers w
    × (n ≡ (Acts (at_moment r now) w now, m.1))

-- a load by the keeper with the stopper: something else lies there now, with no entry more, and the stopper was used
abbrev pub Halted : Moment → Me (Unit {0}) View → Me (Unit {0}) View → Type 0
Halted now m n = (r : Roll) × (u : Bool) × (m.0 ≡ Halts r u) × (n ≡ (Halts (halted r now) true, m.1))

-- a load by the keeper, which takes the stopper in
abbrev pub TakenBack : Me (Unit {0}) View → Me (Unit {0}) View → Type 0
TakenBack m n = (r : Roll) × (u : Bool) × (m.0 ≡ Halts r u) × (r.used ≡ u) × (n ≡ (Knows r, m.1))

-- a load by the keeper, which takes the owner in
abbrev pub TakenIn : Me (Unit {0}) View → Me (Unit {0}) View → Type 0
TakenIn m n =
    (r : Roll) × (w : Who) × (a : Moment) × (m.0 ≡ Acts r w a) × LeadsWithout w a r.now × (1 ≤ r.out)
    × (n ≡ (Knows (one_less r (last_of w a.net.journal)), m.1))

-- a load by the keeper: each entry is of one who was named; once all owners were taken in, none stands behind `last`; and why all
-- was stopped
abbrev pub Told : Me (Unit {0}) View → Me (Unit {0}) View → Type 0
Told m n =
    (r : Roll) × (m.0 ≡ Knows r) × AreNamed r.hosts r.workers r.now.net.journal
    × (r.out ≡ 0 → length r.now.net.journal ≤ r.last) × IsStoppedFor r.used r.workers r.now × (n ≡ (Knows r, m.1))

-- What is known of the cases of a call of `test`, and what its status says of them.
use Rattle.std.specs.Prelude.{◌≡◌, ◌⊎◌, ℕ, zero, suc, ◌+◌, ◌-◌, ◌==◌, nat_lt, ⊤, Bool, true, false, if◌then◌else◌, Option, None, Some, Result, Ok, Err, List, [], ◌∷◌, ◌++◌, map, length, slice_get}
use Rattle.std.specs.List.{AllByRecursion, flat_map, list_any}
use Rattle.bz_cli_bench.specs.declared.asked.Seeds.{Seeds}
use Rattle.bz_cli_bench.specs.declared.asked.Seeds.TheVariants.{Without, One, Upto}
use Rattle.bz_cli_bench.specs.declared.blessing.Blessing.{Blessing}
use Rattle.bz_cli_bench.specs.declared.blessing.Blessing.TheVariants.{Unwritten}
use Rattle.bz_bench.specs.declared.stream.Stream.{Stream}
use Rattle.bz_cli_bench.specs.Verdicts.{Judges}
use Rattle.bz_cli_bench.specs.declared.verdict.Verdict.{Verdict}
use Rattle.bz_cli_bench.specs.declared.verdict.Verdict.TheVariants.{Passed, Differs, Extra, Stuck, Spins, Spent}
use Rattle.bz_cli_bench.specs.declared.ended.Ended.{Ended}
use Rattle.bz_cli_bench.specs.declared.ended.Ended.TheVariants.{Judged, Unlike, BadBench, NoNet}
use Rattle.bz_cli_input.specs.Opening.{Denotes}
use Rattle.bz_cli_input.specs.declared.fault.Fault.{Fault}
use Rattle.bz_model.specs.declared.event.Entry.{Entry}
use Rattle.bz_model.specs.Nets.{State, Wiring, opening}
use Rattle.bz_model.specs.Runs.{Run}

-- some text has a part with this net
abbrev pub IsNet : Wiring → Type 0
IsNet w = (text : List ℕ) × (part : Option (List ℕ)) × Denotes text part w

-- A play that has this verdict: a net, what was to pass at each of its ports, whether it might go round for ever after that, and the
-- entries of a run from its opening.
pub record IsPlayed (verdict : Verdict) : Type 0 where
  pub net : Wiring
  pub netlist : IsNet net
  pub streams : List Stream
  pub each : length streams ≡ length net.ports
  pub spins : Bool
  pub entries : List Entry
  pub state : State
  pub run : Run net (opening net) entries state
  pub judged : Judges net state entries streams spins verdict

-- where a verdict is told there was such a play
abbrev pub IsCase : Ended → Type 0
IsCase (Judged verdict) = IsPlayed verdict
IsCase (Unlike other) = ⊤
IsCase (BadBench at cause) = ⊤
IsCase NoNet = ⊤

-- the cases in which a net does not what its bench says
abbrev pub is_against : Verdict → Bool
is_against Passed = false
is_against (Differs port place due came) = true
is_against (Extra port came) = true
is_against (Stuck group) = true
is_against (Spins from group) = true
is_against Spent = false

abbrev pub is_failed : Ended → Bool
is_failed (Judged verdict) = is_against verdict
is_failed (Unlike other) = true
is_failed (BadBench at cause) = false
is_failed NoNet = false

-- whether what came was to be written into a bench and was not
abbrev pub is_unwritten : Blessing → Bool
is_unwritten (Unwritten why) = true
is_unwritten blessing = false

-- What is known of a case: how it ended, the place of its bench among those of the call, from 0, its seed, and whether what came was
-- to be written into its bench and was not.
pub record CaseSeen : Type 0 where
  pub ended : Ended
  pub bench : ℕ
  pub seed : Option ℕ
  pub unwritten : Bool

-- a case that passed, and one that failed
pub record IsPassed (case : CaseSeen) : Type 0 where
  pub passed : case.ended ≡ Judged Passed
  pub is_case : IsCase case.ended

pub record IsFailed (case : CaseSeen) : Type 0 where
  pub failed : is_failed case.ended ≡ true
  pub is_case : IsCase case.ended

-- the status of a call that has one case alone
abbrev pub status_by : Ended → ℕ
status_by (Judged Passed) = 0
status_by (Judged Spent) = 4
status_by (Judged verdict) = 1
status_by (Unlike other) = 1
status_by (BadBench at cause) = 2
status_by NoNet = 2

abbrev pub status_of : CaseSeen → ℕ
status_of case = if case.unwritten then 2 else status_by case.ended

-- how grave a status is: the least is that all is well; then that a case came to no end, that one failed, and that one was refused
abbrev pub gravity : ℕ → ℕ
gravity status = if status == 0 then 0 else (if status == 4 then 1 else (if status == 1 then 2 else 3))

abbrev pub graver : ℕ → ℕ → ℕ
graver left right = if nat_lt (gravity left) (gravity right) then right else left

-- whether a case has this status
abbrev pub has_status : ℕ → List CaseSeen → Bool
has_status status cases = list_any (λ case. status_of case == status) cases

-- the gravest status of cases: 2, then 1, then 4, then 0
abbrev pub gravest : List CaseSeen → ℕ
gravest cases = if has_status 2 cases then 2 else (if has_status 1 cases then 1 else (if has_status 4 cases then 4 else 0))

-- At status 0 all cases passed, and at status 1 one failed.
abbrev pub AllPassed : List CaseSeen → Type 0
AllPassed cases = (place : ℕ) (case : CaseSeen) → slice_get cases place ≡ Some case → IsPassed case

abbrev pub SomeFailed : List CaseSeen → Type 0
SomeFailed cases = (place : ℕ) × (case : CaseSeen) × (slice_get cases place ≡ Some case) × IsFailed case

-- It is the gravest of the cases; or 2, where a report of what was exercised is asked for and can't be written.
pub record IsStatus (cases : List CaseSeen) (covers : Bool) (status : ℕ) : Type 0 where
  pub passed : status ≡ 0 → AllPassed cases
  pub failed : status ≡ 1 → SomeFailed cases
  pub gravest : (status ≡ gravest cases) ⊎ ((covers ≡ true) × (status ≡ 2))

-- the seed of a round, counted from 0, and of so many rounds from one on
abbrev pub seed_at : Seeds → ℕ → Option ℕ
seed_at Without round = None
seed_at (One seed) round = Some seed
seed_at (Upto last) round = Some (round + 1)

abbrev pub seeds_from : Seeds → ℕ → ℕ → List (Option ℕ)
seeds_from seeds round zero = []
seeds_from seeds round (suc n) = seed_at seeds round ∷ seeds_from seeds (suc round) n

-- how often a bench is played behind the first time
abbrev pub more_of : Seeds → ℕ
more_of Without = 0
more_of (One seed) = 0
more_of (Upto last) = last - 1

-- whether a case says why its bench isn't played
abbrev pub is_unplayed : Ended → Bool
is_unplayed (BadBench at cause) = true
is_unplayed NoNet = true
is_unplayed ended = false

abbrev pub IsRefusal : List CaseSeen → Type 0
IsRefusal group = (case : CaseSeen) × (group ≡ case ∷ []) × (is_unplayed case.ended ≡ true)

-- The cases of the bench at a place: one for each seed, in their order; or one that says why the bench isn't played. That a case is
-- played by its seed is not said.
pub record IsGroup (seeds : Seeds) (place : ℕ) (group : List CaseSeen) : Type 0 where
  pub bench : AllByRecursion (λ case. case.bench ≡ place) group
  pub plays : (map (λ case. case.seed) group ≡ seeds_from seeds 0 (suc (more_of seeds))) ⊎ IsRefusal group

-- a case is added, of which this is said
abbrev pub AddsCase : (CaseSeen → Type 0) → List CaseSeen → List CaseSeen → Type 0
AddsCase Is old new = (case : CaseSeen) × (new ≡ old ++ case ∷ []) × Is case

-- the case of this bench that is told with this seed, and one that says why this bench isn't played
abbrev pub IsPlay : ℕ → Option ℕ → CaseSeen → Type 0
IsPlay place seed case = (case.bench ≡ place) × (case.seed ≡ seed)

abbrev pub IsRefused : ℕ → CaseSeen → Type 0
IsRefused place case = (case.bench ≡ place) × (is_unplayed case.ended ≡ true)

-- the cases of the bench at a place are added
abbrev pub AddsGroup : Seeds → ℕ → List CaseSeen → List CaseSeen → Type 0
AddsGroup seeds place old new = (group : List CaseSeen) × (new ≡ old ++ group) × IsGroup seeds place group

-- those of so many benches, one bench after another
abbrev pub AreOf : Seeds → ℕ → List CaseSeen → Type 0
AreOf seeds benches cases =
    (groups : List (List CaseSeen)) × (length groups ≡ benches) × (cases ≡ flat_map (λ group. group) groups)
    × ((place : ℕ) (group : List CaseSeen) → slice_get groups place ≡ Some group → IsGroup seeds place group)

-- What a call of so many benches answers, with these seeds, and with a report or none: there are cases of each bench, and the status is
-- theirs.
abbrev pub Tests : Seeds → ℕ → Bool → Result ℕ Fault → Type 0
Tests seeds benches covers (Ok status) = (cases : List CaseSeen) × AreOf seeds benches cases × IsStatus cases covers status
Tests seeds benches covers (Err fault) = ⊤

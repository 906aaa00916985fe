-- What becomes of traces, how many of them are of each fate, and the lines that tell it.
use Rattle.std.specs.Prelude.{ℕ, ◌+◌, Bool, true, false, if◌then◌else◌, List, [], ◌∷◌, ◌++◌, codes, decimal, max, min}
use Rattle.std.specs.List.{count_by}
use Rattle.bz_text.specs.FileNames.{file_text}
use Rattle.bz_cli_trace.specs.Judging.{is_passed}
use Rattle.bz_cli_trace.specs.declared.finding.Finding.{Finding}
use Rattle.bz_cli_several.specs.declared.judging.Fate.{Fate}
use Rattle.bz_cli_several.specs.declared.judging.Fate.TheVariants.{Failed, Passed, Unread}
use Rattle.bz_cli_several.specs.declared.judging.Tally.{Tally}

-- the status of a call with this trace alone
abbrev pub status_one : Fate → ℕ
status_one Passed = 0
status_one Failed = 1
status_one Unread = 2

-- 0 where all passed, else the gravest
abbrev pub status_of : List Fate → ℕ
status_of [] = 0
status_of (fate ∷ fates) = max (status_one fate) (status_of fates)

abbrev pub fate_of : Finding → Fate
fate_of found = if is_passed found then Passed else Failed

abbrev pub has_passed : Fate → Bool
has_passed Passed = true
has_passed fate = false

abbrev pub has_failed : Fate → Bool
has_failed Failed = true
has_failed fate = false

abbrev pub is_unread : Fate → Bool
is_unread Unread = true
is_unread fate = false

-- the most that is counted
abbrev pub most : ℕ
most = 18446744073709551615

abbrev pub tally_of : List Fate → Tally
tally_of fates = record {
  passed = min (count_by has_passed fates) most;
  failed = min (count_by has_failed fates) most;
  unread = min (count_by is_unread fates) most;
  status = status_of fates;
}

-- with one trace more
abbrev pub added : Tally → Fate → Tally
added tally Passed = record tally { passed = min (tally.passed + 1) most; status = max tally.status 0 }
added tally Failed = record tally { failed = min (tally.failed + 1) most; status = max tally.status 1 }
added tally Unread = record tally { unread = min (tally.unread + 1) most; status = max tally.status 2 }

abbrev pub tally_text : ℕ → Tally → List ℕ
tally_text count tally =
    decimal count ++ (codes " traces: " ++ (decimal tally.passed ++ (codes " passed, " ++ (decimal tally.failed
    ++ (codes " failed, " ++ (decimal tally.unread ++ codes " not read\n"))))))

-- what stands in front of a verdict
abbrev pub front_text : List ℕ → List ℕ
front_text name = file_text name ++ codes ": "

abbrev pub unread_text : List ℕ → List ℕ
unread_text name = file_text name ++ codes ": not read\n"

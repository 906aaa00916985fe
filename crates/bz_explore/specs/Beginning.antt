-- A net that was played before its session begins.
use Rattle.std.specs.Prelude.{◌≤◌, List, length}
use Rattle.bz_model.specs.declared.event.Entry.{Entry}
use Rattle.bz_model.specs.Limits.{max_entries}
use Rattle.bz_model.specs.Nets.{opening}
use Rattle.bz_net.specs.Progress.{IsToldBy, Progress}
use Rattle.bz_net.specs.Unbroken.{UnbrokenRun}

-- these are the entries of the run that led it to where it is, no more than a trace may have
pub record IsPlayed (net : Progress) (entries : List Entry) : Type 0 where
  pub told : IsToldBy net entries
  pub unbroken : UnbrokenRun net.wiring (opening net.wiring) entries net.state
  pub few : length entries ≤ max_entries

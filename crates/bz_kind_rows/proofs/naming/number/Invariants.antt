use Rattle.std.proofs.Common.{◌≡◌, ◌-◌, ◌≤◌, drop}
use Rattle.bz_kind_rows.specs.Naming.{number}
use Rattle.bz_kind_rows.proofs.naming.number.Given as goal

abbrev pub invariant-loop-param : goal.invariant-loop-param
invariant-loop-param l = (l.before ≤ l.place) × (number l.params l.place ≡ number (drop l.param-index l.params) (l.place - l.before))

use Rattle.std.proofs.Common.{◌≡◌, ◌-◌, ◌≤◌, drop}
use Rattle.bz_kind_rows.specs.Naming.{given_flag}
use Rattle.bz_kind_rows.proofs.naming.given_flag.Given as goal

abbrev pub invariant-loop-param : goal.invariant-loop-param
invariant-loop-param l = (l.before ≤ l.place) × (given_flag l.params l.place ≡ given_flag (drop l.param-index l.params) (l.place - l.before))

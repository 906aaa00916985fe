use Rattle.std.proofs.Common.{◌≡◌, ◌-◌, ◌≤◌, drop}
use Rattle.bz_kind_rows.specs.Naming.{text}
use Rattle.bz_kind_rows.proofs.naming.text.Given as goal

abbrev pub invariant-loop-param : goal.invariant-loop-param
invariant-loop-param l = (l.before ≤ l.place) × (text l.params l.place ≡ text (drop l.param-index l.params) (l.place - l.before))

use Rattle.std.proofs.Common.{◌≡◌, drop}
use Rattle.bz_kind_rows.specs.Naming.{text}
use Rattle.bz_source.proofs.detail.first_text.Given as goal

abbrev pub invariant-loop-param : goal.invariant-loop-param
invariant-loop-param l = text l.params 0 ≡ text (drop l.param-index l.params) 0

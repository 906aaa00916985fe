use Rattle.std.proofs.Common.{◌≡◌, drop, filter_map}
use Rattle.std.specs.Option.{option_copied}
use Rattle.bz_kind_rows.specs.Naming.{text_of, last_or, last_text}
use Rattle.bz_kind_rows.proofs.naming.last_text.Given as goal

abbrev pub invariant-loop-param : goal.invariant-loop-param
invariant-loop-param l = last_text l.params ≡ last_or (option_copied l.last) (filter_map text_of (drop l.param-index l.params))

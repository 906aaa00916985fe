use Rattle.std.proofs.Common.{◌≡◌, ◌++◌, map, length}
use Rattle.std.specs.List.{filter_map}
use Rattle.bz_sexpr.specs.Forms.{forms_view}
use Rattle.bz_breeze_records.specs.Records.{param_record}
use Rattle.bz_breeze.specs.Forms.{param}
use Rattle.bz_breeze.proofs.forms.params.Given as goal

abbrev pub invariant-loop-form : goal.invariant-loop-form
invariant-loop-form l = filter_map param (forms_view l.list) ≡ map param_record l.params.items ++ filter_map param (forms_view l.rest)

abbrev pub decreases-loop-form : goal.decreases-loop-form
decreases-loop-form l = length (forms_view l.rest)

use Rattle.std.proofs.Common.{◌≡◌, ◌++◌, map, length}
use Rattle.std.specs.Option.{option_map}
use Rattle.bz_sexpr.specs.Forms.{forms_view}
use Rattle.bz_source.specs.Labels.{chan_name}
use Rattle.bz_source.proofs.labels.names_of.Given as goal

abbrev pub invariant-loop-channel : goal.invariant-loop-channel
invariant-loop-channel l = map chan_name (forms_view l.channels) ≡ map (option_map (λ name. name.items)) l.names.items ++ map chan_name (forms_view l.rest)

abbrev pub decreases-loop-channel : goal.decreases-loop-channel
decreases-loop-channel l = length (forms_view l.rest)

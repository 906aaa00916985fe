use Rattle.std.proofs.Common.{◌≡◌, ◌++◌, map, length}
use Rattle.std.specs.Option.{option_map}
use Rattle.bz_sexpr.specs.Forms.{forms_view}
use Rattle.bz_source.specs.Labels.{behind, first_source}
use Rattle.bz_source.specs.Views.{mark_at}
use Rattle.bz_source.proofs.labels.sources_of.Given as goal

abbrev pub invariant-loop-item : goal.invariant-loop-item
invariant-loop-item l =
    map (λ d. first_source (behind l.fields d)) (forms_view l.records) ≡ map (option_map mark_at) l.sources.items ++ map (λ d. first_source (behind l.fields d)) (forms_view l.rest)

abbrev pub decreases-loop-item : goal.decreases-loop-item
decreases-loop-item l = length (forms_view l.rest)

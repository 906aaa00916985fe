use Rattle.std.proofs.Common.{◌≡◌, ◌-◌, drop}
use Rattle.bz_sexpr.specs.Forms.{forms_view}
use Rattle.bz_source.proofs.labels.after.Given as goal

abbrev pub invariant-loop : goal.invariant-loop
invariant-loop l = drop l.count (forms_view l.items) ≡ drop (l.count - l.counter) (forms_view l.rest)

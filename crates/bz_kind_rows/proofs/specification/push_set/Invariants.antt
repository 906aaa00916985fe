use Rattle.std.proofs.Common.{◌≡◌, Some}
use Rattle.std.specs.Option.{option_copied}
use Rattle.bz_kind_rows.specs.Texts.{later, both, spans_from, set_spans, comma}
use Rattle.bz_kind_rows.proofs.Pieces.{size_left}
use Rattle.bz_kind_rows.proofs.specification.push_set.Given as goal

abbrev pub invariant-loop-rest : goal.invariant-loop-rest
invariant-loop-rest l = both (Some l.list.items) (spans_from l.set (later comma (option_copied l.rest))) ≡ both (Some l.fn.list.items) (set_spans l.set l.fn.text)

abbrev pub decreases-loop-rest : goal.decreases-loop-rest
decreases-loop-rest l = size_left (option_copied l.rest)

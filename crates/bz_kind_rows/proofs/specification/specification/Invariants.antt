use Rattle.std.proofs.Common.{◌≡◌, ◌+◌, ◌≤◌, length, Some}
use Rattle.std.specs.Option.{option_copied}
use Rattle.bz_kind_rows.specs.Texts.{later, both, sets_from, specification, semicolon}
use Rattle.bz_kind_rows.proofs.Pieces.{size_left}
use Rattle.bz_kind_rows.proofs.specification.specification.Given as goal

abbrev pub invariant-loop-rest : goal.invariant-loop-rest
invariant-loop-rest l = (both (Some l.list.items) (sets_from l.set (later semicolon (option_copied l.rest))) ≡ specification l.fn.text) × (l.set + size_left (option_copied l.rest) ≤ length l.fn.text + 1)

abbrev pub decreases-loop-rest : goal.decreases-loop-rest
decreases-loop-rest l = size_left (option_copied l.rest)

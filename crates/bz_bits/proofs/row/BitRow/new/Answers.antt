use Rattle.std.proofs.Common.{ℕ, List, ap, ◌∙◌}
use Rattle.bz_bits.specs.Row.{bits}
use Rattle.bz_bits.proofs.Rows.{bits_none}
use Rattle.bz_bits.proofs.row.BitRow.new.Goals as goal

pub returns : goal.returns
returns g c = ap (λ (ws : List ℕ). bits ws c.args.len) (c.in_ok-words.ensures.items_if_clones_equal (λ y e. e)) ∙ bits_none c.args.len _

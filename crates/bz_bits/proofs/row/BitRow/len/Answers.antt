use Rattle.std.proofs.Common.{length, sym, ap, ◌∙◌}
use Rattle.bz_bits.proofs.Rows.{length-bits}
use Rattle.bz_bits.proofs.row.BitRow.len.Goals as goal

pub returns : goal.returns
returns g c = sym (length-bits c.self.inside.words.items c.self.inside.len) ∙ ap length c.self.view_is

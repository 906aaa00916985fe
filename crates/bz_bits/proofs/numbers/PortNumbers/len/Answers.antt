use Rattle.std.proofs.Common.{◌∷◌, length, sym, ap, ◌∙◌}
use Rattle.bz_bits.proofs.Words.{length-numbers}
use Rattle.bz_bits.proofs.numbers.PortNumbers.len.Goals as goal

pub returns : goal.returns
returns g c = sym (length-numbers (c.self.inside.first ∷ c.self.inside.more.items) c.self.inside.len) ∙ ap length c.self.view_is

use Rattle.std.proofs.Common.{sym, ap, ◌∙◌}
use Rattle.bz_locked.specs.Parts.{SharedView}
use Rattle.bz_locked.proofs.shared.SharedNet.answer.Goals as goal

pub host-answered-requires : goal.host-answered-requires
host-answered-requires g c = (c.self.invariant.0, c.requires.0 ∙ sym (ap (λ (v : SharedView). v.table.past) c.self.view_is) ∙ c.self.invariant.0, c.requires.1, c.requires.2)

use Rattle.std.proofs.Common.{◌∙◌, ap}
use Rattle.bz_kinds.specs.Ports.{state_at}
use Rattle.bz_kinds.proofs.PortLaws.{state_fill, filled_before, filled_from, filled_after}
use Rattle.bz_kinds.proofs.ports.Ports.set_between.Goals as goal

pub returns-clause-below : goal.returns-clause-below
returns-clause-below c p lt =
    filled_before _ _ c.args.from c.args.to c.args.state (state_fill _ _ _ _ _ _ c.number.ensures.stands c.set_between.ensures.each) p lt ∙ ap (λ w. state_at w p) c.self.view_is

pub returns-clause-within : goal.returns-clause-within
returns-clause-within c p le lt =
    filled_from _ _ c.args.from c.args.to c.args.state (state_fill _ _ _ _ _ _ c.number.ensures.stands c.set_between.ensures.each) p le lt

pub returns-clause-above : goal.returns-clause-above
returns-clause-above c p le =
    filled_after _ _ c.args.from c.args.to c.args.state (state_fill _ _ _ _ _ _ c.number.ensures.stands c.set_between.ensures.each) p le ∙ ap (λ w. state_at w p) c.self.view_is

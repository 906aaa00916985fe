use Rattle.std.proofs.Common.{◌∙◌, length, ap, arith}
use Rattle.std.proofs.lemmas.List.{length-map}
use Rattle.bz_kinds.specs.Ports.{state_at, state_of}
use Rattle.bz_kinds.proofs.PortLaws.{state_fill, filled_before, filled_from}
use Rattle.bz_kinds.proofs.ports.Ports.set_from.Goals as goal

pub returns-clause-below : goal.returns-clause-below
returns-clause-below c p lt =
    filled_before _ _ c.args.from c.len-to.result c.args.state (state_fill _ _ _ _ _ _ c.number.ensures.stands c.set_between.ensures.each) p lt ∙ ap (λ w. state_at w p) c.self.view_is

pub returns-clause-above : goal.returns-clause-above
returns-clause-above c p le lt =
    let n = c.len-to.ensures in
    let l = length-map c.self.inside.numbers state_of in
    let v = ap length c.self.view_is in
    filled_from _ _ c.args.from c.len-to.result c.args.state (state_fill _ _ _ _ _ _ c.number.ensures.stands c.set_between.ensures.each) p le (omega arith)

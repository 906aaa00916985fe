use Rattle.std.proofs.Common.{◌∙◌, ◌+◌, ◌*◌, ap, sym}
use Rattle.bz_kinds.specs.Ports.{state_at, state_of}
use Rattle.bz_kinds.proofs.PortLaws.{state_map}
use Rattle.bz_kinds.proofs.ports.Ports.word.Goals as goal

pub returns : goal.returns
returns c i lt = ap state_of (c.word.ensures i lt) ∙ sym (state_map c.self.inside.numbers (64 * c.args.at + i)) ∙ ap (λ w. state_at w (64 * c.args.at + i)) c.self.view_is

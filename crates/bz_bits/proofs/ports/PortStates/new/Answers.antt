use Rattle.std.proofs.Common.{Bool, List, false, replicate, ap, ◌∙◌}
use Rattle.bz_bits.specs.Ports.{states}
use Rattle.bz_bits.proofs.States.{states-replicate}
use Rattle.bz_bits.proofs.ports.PortStates.new.Goals as goal

pub returns : goal.returns
returns g c =
    ap (λ (l : List Bool). states l c.in_ok-high.high) c.in_ok-low.ensures ∙ ap (states (replicate c.args.count false)) c.in_ok-high.ensures ∙ states-replicate c.args.count

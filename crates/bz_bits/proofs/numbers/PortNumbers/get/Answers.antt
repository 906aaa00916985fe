use Rattle.std.proofs.Common.{ℕ, List, get_or, sym, ap, ◌∙◌}
use Rattle.bz_bits.proofs.Words.{near-number}
use Rattle.bz_bits.proofs.numbers.PortNumbers.get.Goals as goal

pub returns-then-port-lt64 : goal.returns-then-port-lt64
returns-then-port-lt64 g c =
    c.number.ensures ∙ sym (near-number c.self.inside.first c.self.inside.more.items c.self.inside.len c.args.port c.self.invariant.0 c.if-port-lt64.true)
    ∙ ap (λ (l : List ℕ). get_or l c.args.port 0) c.self.view_is

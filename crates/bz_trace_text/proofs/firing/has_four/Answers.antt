use Rattle.std.proofs.Common.{arith}
use Rattle.std.proofs.lemmas.Bool.{eqb-true}
use Rattle.bz_trace_text.proofs.Firings.{four_same}
use Rattle.bz_trace_text.proofs.firing.has_four.Goals as goal

pub returns : goal.returns
returns c = λ h.
    four_same c.args.text.now c.args.four.now c.args.at c.from_le_bytes-there.result c.from_le_bytes.result c.requires c.told-four (λ i. omega (arith, c.type_inv.text i)) c.fits-four
    c.from_le_bytes-there.ensures c.from_le_bytes.ensures (eqb-true _ _ h)

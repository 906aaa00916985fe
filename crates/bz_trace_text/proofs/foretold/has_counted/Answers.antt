use Rattle.std.proofs.lemmas.Bool.{eqb-true}
use Rattle.std.proofs.lemmas.Nat.{le_bytes_8}
use Rattle.bz_trace_text.proofs.Compared.{counted_there}
use Rattle.bz_trace_text.proofs.foretold.has_counted.Goals as goal

pub returns : goal.returns
returns c = λ h.
    counted_there c.args.text.now c.args.word.now c.args.at c.eight_at.result c.from_le_bytes.result _ c.mask-mask.result c.requires.count c.mask-mask.ensures c.eight_at.ensures
    (le_bytes_8 c.args.word.now c.from_le_bytes.result c.told-word c.fits-word c.from_le_bytes.ensures) (eqb-true _ _ h)

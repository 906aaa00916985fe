use Rattle.std.proofs.lemmas.Bool.{eqb-true}
use Rattle.std.proofs.lemmas.Nat.{le_bytes_8}
use Rattle.bz_trace_text.proofs.Compared.{eight_there}
use Rattle.bz_trace_text.proofs.foretold.begins_with.Goals as goal

pub returns : goal.returns
returns c = λ h.
    eight_there c.args.text.now c.args.word.now c.eight_at.result c.from_le_bytes.result c.eight_at.ensures
    (le_bytes_8 c.args.word.now c.from_le_bytes.result c.told-word c.fits-word c.from_le_bytes.ensures) (eqb-true _ _ h)

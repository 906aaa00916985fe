use Rattle.std.proofs.Common.{arith}
use Rattle.std.proofs.lemmas.Result.{err_from_is_err_and}
use Rattle.bz_text.specs.Pieces.{atom_text}
use Rattle.bz_text.proofs.Sent.{stops_at}
use Rattle.bz_text.proofs.pieces.put_atoms.Goals as goal

pub returns-in_err-put_atom : goal.returns-in_err-put_atom
returns-in_err-put_atom g c =
    let p = err_from_is_err_and c.from_residual.result c.from_residual.ensures.1 in
    rw p.1 (stops_at _ _ _ atom_text c.args.atoms.now c.loop-atom.atom-index _ (omega arith) c.loop-atom.invariant c.in_err-put_atom.ensures)

use Rattle.bz_run_laws.proofs.Embedded.{copy-is-part}
use Rattle.bz_run_laws.proofs.parts.copies_are_parts.Goals as goal

pub returns : goal.returns
returns c = λ parts name top part i up is. copy-is-part parts name top part i up is

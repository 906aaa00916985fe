use Rattle.bz_cli_input.proofs.Written.{all_kept}
use Rattle.bz_cli_source.specs.PartLists.{parts_text}
use Rattle.bz_cli_source.proofs.parts.write_out.Goals as goal

pub returns-in-Err-clause-err : goal.returns-in-Err-clause-err
returns-in-Err-clause-err g c = all_kept _ _ _ (parts_text c.args.parts.now c.args.lines.now) c.in_ok-put_parts.ensures c.in-Err.ensures.bytes

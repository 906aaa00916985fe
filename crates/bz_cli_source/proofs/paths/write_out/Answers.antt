use Rattle.bz_cli_input.proofs.Written.{all_kept}
use Rattle.bz_cli_source.specs.Listing.{paths_text}
use Rattle.bz_cli_source.proofs.paths.write_out.Goals as goal

pub returns-in-Err-clause-err : goal.returns-in-Err-clause-err
returns-in-Err-clause-err g c = all_kept _ _ _ (paths_text c.args.net.now c.args.survey.now c.args.name.now) c.in_ok-put_paths.ensures c.in-Err.ensures.bytes

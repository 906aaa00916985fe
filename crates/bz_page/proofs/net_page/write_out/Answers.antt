use Rattle.bz_cli_input.proofs.Written.{all_kept}
use Rattle.bz_page.specs.Pages.{blank_of, page_text}
use Rattle.bz_page.proofs.net_page.write_out.Goals as goal

pub returns-in-Err-clause-err : goal.returns-in-Err-clause-err
returns-in-Err-clause-err g c = all_kept _ _ _ (page_text (blank_of c.args.template) c.args.list.now c.args.rows.now c.args.trace.now) c.in_ok-put_around.ensures c.in-Err.ensures.bytes

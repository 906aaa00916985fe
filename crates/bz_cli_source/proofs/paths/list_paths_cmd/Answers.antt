use Rattle.std.proofs.Common.{arith}
use Rattle.std.specs.Option.{option_copied}
use Rattle.bz_cli_input.specs.Stopping.{IsOfInput}
use Rattle.bz_cli_input.proofs.Answered.{taken}
use Rattle.bz_cli_source.specs.Listed.{ListsPaths}
use Rattle.bz_cli_source.proofs.paths.list_paths_cmd.Goals as goal

pub returns-clause-lists : goal.returns-clause-lists
returns-clause-lists g c =
    let lists = rw c.as_slice.ensures.value at c.list_text.ensures in
    taken IsOfInput (λ text. ListsPaths text (option_copied c.args.asked) _ _ c.list_text.result) _ _ _ _ c.in_ok-text.text.items c.in_ok-text.ensures.whole (omega (arith, c.in_ok-text.text.ok.0, c.in_ok-text.ensures.limit)) lists

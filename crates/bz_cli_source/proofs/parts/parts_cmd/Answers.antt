use Rattle.std.proofs.Common.{arith}
use Rattle.bz_cli_input.specs.Stopping.{IsOfInput}
use Rattle.bz_cli_input.proofs.Answered.{taken}
use Rattle.bz_cli_source.specs.PartLists.{TellsParts}
use Rattle.bz_cli_source.proofs.parts.parts_cmd.Goals as goal

pub returns-clause-lists : goal.returns-clause-lists
returns-clause-lists g c =
    let tells = rw c.as_slice.ensures.value at c.list_parts.ensures in
    taken IsOfInput (λ text. TellsParts text _ _ c.list_parts.result) _ _ _ _ c.in_ok-text.text.items c.in_ok-text.ensures.whole (omega (arith, c.in_ok-text.text.ok.0, c.in_ok-text.ensures.limit)) tells

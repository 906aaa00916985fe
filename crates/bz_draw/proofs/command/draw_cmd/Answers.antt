use Rattle.std.proofs.Common.{arith}
use Rattle.std.specs.Option.{option_copied}
use Rattle.bz_cli_input.specs.Stopping.{IsOfInput}
use Rattle.bz_cli_input.proofs.Answered.{taken}
use Rattle.bz_draw.specs.Drawing.{DrawsText}
use Rattle.bz_draw.proofs.command.draw_cmd.Goals as goal

pub returns-clause-draws : goal.returns-clause-draws
returns-clause-draws g c =
    let draws = rw c.as_slice.ensures.value at c.draw_text.ensures in
    taken IsOfInput (λ text. DrawsText text (option_copied c.args.asked) _ _ c.draw_text.result) _ _ _ _ c.in_ok-text.text.items c.in_ok-text.ensures.whole (omega (arith, c.in_ok-text.text.ok.0, c.in_ok-text.ensures.limit)) draws

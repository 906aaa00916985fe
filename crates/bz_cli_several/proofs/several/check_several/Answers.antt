use Rattle.std.proofs.Common.{arith}
use Rattle.std.specs.Option.{option_copied}
use Rattle.bz_words.specs.Words.{texts}
use Rattle.bz_cli_input.specs.Stopping.{IsOfInput}
use Rattle.bz_cli_input.proofs.Answered.{taken}
use Rattle.bz_cli_several.specs.Several.{ChecksNames}
use Rattle.bz_cli_several.proofs.several.check_several.Goals as goal

pub returns-in-Ok-clause-checks : goal.returns-in-Ok-clause-checks
returns-in-Ok-clause-checks g c =
    let part = option_copied c.args.given.now.part in let names = texts c.args.given.now.words.now in
    let old = g.W.Write.contents c.args.output.now in let new = g.W.Write.contents c.check_text.new.output in
    taken IsOfInput (λ netlist. ChecksNames c.args.options (g.X.Traces.text c.args.traces.now) names netlist part old new c.check_text.result) old new c.check_text.result (g.R.Read.remaining c.args.input.now) c.in-Ok.netlist.items
    c.in-Ok.ensures.whole (omega (arith, c.in-Ok.netlist.ok.0, c.in-Ok.ensures.limit)) (rw c.as_slice.ensures.value at c.check_text.ensures)

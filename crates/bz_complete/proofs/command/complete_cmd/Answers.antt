use Rattle.std.specs.Prelude.{⊤}
use Rattle.std.specs.Option.{option_copied}
use Rattle.bz_cli_input.proofs.Answered.{is_of_input, not_both}
use Rattle.bz_cli_input.specs.Statuses.{of_input}
use Rattle.bz_cli_trace.proofs.Takes.{taken_two}
use Rattle.bz_complete.specs.declared.fault.CompleteFault.TheVariants.{Command}
use Rattle.bz_complete.specs.Completions.{CompletesTexts, IsOfInput}
use Rattle.bz_complete.proofs.command.complete_cmd.Goals as goal

pub returns-in-Ok-clause-completes : goal.returns-in-Ok-clause-completes
returns-in-Ok-clause-completes g c =
    taken_two IsOfInput (λ netlist short. CompletesTexts netlist short (option_copied c.args.part) _ _ c.complete_texts.result) c.in-Ok.texts _ _ _ _ _ c.in-Ok.ensures.taken c.complete_texts.ensures

pub returns-in-Err-clause-completes : goal.returns-in-Err-clause-completes
returns-in-Err-clause-completes g c = rw c.from.ensures (not_both ⊤ IsOfInput _ _ (Command (of_input c.in-Err.fault)) (is_of_input c.in-Err.fault) _ _)

-- Several traces, each checked by itself or as pieces of one run.
use Rattle.std.specs.Prelude.{◌≡◌, ℕ, true, false, List, Option, Result}
use Rattle.bz_cli_args.specs.declared.asked.CheckOptions.{CheckOptions}
use Rattle.bz_cli_input.specs.Answering.{AnswersInput}
use Rattle.bz_cli_input.specs.Stopping.{IsOfInput}
use Rattle.bz_cli_input.specs.declared.fault.Fault.{Fault}
use Rattle.bz_cli_several.specs.Each.{ChecksEach}
use Rattle.bz_cli_several.specs.Holding.{Asked}
use Rattle.bz_cli_several.specs.Joined.{ChecksJoined}

abbrev pub asked_by : CheckOptions → List ℕ → Option (List ℕ) → Asked
asked_by options netlist part = record { netlist = netlist; part = part; to_first = options.first; to_rest = options.to_rest }

abbrev pub ChecksNames : CheckOptions → (List ℕ → Option (List ℕ)) → List (List ℕ) → List ℕ → Option (List ℕ) → Option (List ℕ) → Option (List ℕ) → Result ℕ Fault → Type 0
ChecksNames options texts names netlist part old new result =
    (options.joined ≡ false → ChecksEach (asked_by options netlist part) texts names options.json old new result)
    × (options.joined ≡ true → ChecksJoined (asked_by options netlist part) texts names options.json old new result)

-- the same on the netlist that is the input
abbrev pub ChecksSeveral : CheckOptions → (List ℕ → Option (List ℕ)) → List (List ℕ) → List ℕ → Option (List ℕ) → Option (List ℕ) → Option (List ℕ) → Result ℕ Fault → Type 0
ChecksSeveral options texts names text part old new result =
    AnswersInput IsOfInput (λ netlist. ChecksNames options texts names netlist part old new result) text old new result

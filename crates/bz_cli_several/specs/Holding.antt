-- What traces are checked against, and what is at hand from one to the next.
use Rattle.std.specs.Prelude.{◌≡◌, ◌⊎◌, ℕ, Bool, List, Option, IfSome}
use Rattle.std.specs.Option.{option_copied}
use Rattle.bz_model.specs.Nets.{Wiring}
use Rattle.bz_cli_input.specs.Opening.{Denotes, RefusesNet}
use Rattle.bz_cli_input.specs.Stopping.{IsOfInput}
use Rattle.bz_cli_input.specs.declared.fault.Fault.{Fault}
use Rattle.bz_cli_input.specs.declared.fault.Fault.TheVariants.{Write}
use Rattle.bz_cli_trace.specs.Judging.{IsFound}
use Rattle.bz_cli_trace.specs.declared.judged.Judged.{Judged}
use Rattle.bz_cli_several.specs.declared.held.Held.{Held}
use Rattle.bz_cli_several.specs.declared.judging.Judge.{Judge}

-- the netlist and its part, and whether no more of a trace is looked at than up to its first stop, and whether a run has to end at rest
pub record Asked : Type 0 where
  pub netlist : List ℕ
  pub part : Option (List ℕ)
  pub to_first : Bool
  pub to_rest : Bool

abbrev pub asked_of : Judge → Asked
asked_of judge = record { netlist = judge.netlist.now; part = option_copied judge.part; to_first = judge.way.to_first; to_rest = judge.way.to_rest }

abbrev pub IsOf : Asked → Wiring → Type 0
IsOf asked w = Denotes asked.netlist asked.part w

-- the net that is held, where one is
abbrev pub Holds : Asked → Held → Type 0
Holds asked held = IfSome held.net (λ net. IsOf asked net.wiring)

-- A trace, which is this text where that is known, was judged on a net of the netlist.
abbrev pub IsJudgedOf : Asked → Option (List ℕ) → Judged → Type 0
IsJudgedOf asked text judged = IsOf asked judged.net.wiring × IfSome text (λ t. IsFound asked.to_first asked.to_rest judged.net.wiring t judged)

abbrev pub StopsJudging : Asked → Fault → Type 0
StopsJudging asked fault = IsOfInput fault ⊎ RefusesNet asked.netlist asked.part fault

-- why a call comes to no end: the writer failed, the netlist is refused, or memory is
abbrev pub IsCause : Asked → Fault → Type 0
IsCause asked fault = (fault ≡ Write) ⊎ RefusesNet asked.netlist asked.part fault

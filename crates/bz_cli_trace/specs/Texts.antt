-- A netlist and a trace, in one text or in two.
use Rattle.std.specs.Prelude.{ℕ, ◌≤◌, List, length, take, drop}
use Rattle.bz_cli_input.specs.Limits.{input_limit}
use Rattle.bz_cli_trace.specs.declared.held.Held.{Held}
use Rattle.bz_cli_trace.specs.declared.held.Held.TheVariants.{Joined, Apart}

pub record TextPair : Type 0 where
  pub netlist : List ℕ
  pub trace : List ℕ

abbrev pub netlist_held : Held → List ℕ
netlist_held (Joined text place) = take place text.items
netlist_held (Apart netlist trace) = netlist.items

abbrev pub trace_held : Held → List ℕ
trace_held (Joined text place) = drop place text.items
trace_held (Apart netlist trace) = trace.items

-- each text is within the limit, and a place is one of its text
abbrev pub IsTaken : Held → Type 0
IsTaken (Joined text place) = (place ≤ length text.items) × (length text.items ≤ input_limit)
IsTaken (Apart netlist trace) = (length netlist.items ≤ input_limit) × (length trace.items ≤ input_limit)

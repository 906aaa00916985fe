-- Where a netlist and a trace come from, and what a command does with them.
use Rattle.std.specs.Prelude.{◌≡◌, ℕ, ◌≤◌, List, length, Option, Some, None, IfSome, Result}
use Rattle.bz_cli_input.specs.Answering.{AnswersInput}
use Rattle.bz_cli_input.specs.Limits.{input_limit}
use Rattle.bz_cli_input.specs.Stopping.{IsOfInput}
use Rattle.bz_cli_input.specs.declared.fault.Fault.{Fault}
use Rattle.bz_cli_trace.specs.Splitting.{Splits}
use Rattle.bz_cli_trace.specs.Texts.{TextPair}

-- These are the netlist and the trace of a text.
pub record AreOfText (text : List ℕ) (texts : TextPair) : Type 0 where
  pub fits : length text ≤ input_limit
  pub splits : Splits text texts.netlist texts.trace

-- They are these two texts.
pub record AreOfTwo (netlist trace : List ℕ) (texts : TextPair) : Type 0 where
  pub fits : length netlist ≤ input_limit
  pub short : length trace ≤ input_limit
  pub netlist_is : texts.netlist ≡ netlist
  pub trace_is : texts.trace ≡ trace

-- They are those of the input where it is known: the trace after the netlist, or that of a reader of its own.
abbrev pub AreTaken : Option (List ℕ) → Option (Option (List ℕ)) → TextPair → Type 0
AreTaken known None texts = IfSome known (λ text. AreOfText text texts)
AreTaken known (Some apart) texts = IfSome known (λ netlist. IfSome apart (λ trace. AreOfTwo netlist trace texts))

-- A text is not taken, and nothing goes out; or the command does `Does` with its netlist and its trace.
abbrev pub AnswersText : {A F : Type 0} → (F → Type 0) → (List ℕ → List ℕ → Type 0) → List ℕ → Option (List ℕ) → Option (List ℕ) → Result A F → Type 0
AnswersText IsOf Does text old new answer = AnswersInput IsOf (λ t. (netlist trace : List ℕ) × Splits t netlist trace × Does netlist trace) text old new answer

-- The same of a netlist and a trace apart.
abbrev pub AnswersTwo : {A F : Type 0} → (F → Type 0) → (List ℕ → List ℕ → Type 0) → List ℕ → List ℕ → Option (List ℕ) → Option (List ℕ) → Result A F → Type 0
AnswersTwo IsOf Does netlist trace old new answer = AnswersInput IsOf (λ n. (length trace ≤ input_limit) × Does n trace) netlist old new answer

-- The same of either, with what a command ends: its netlist, and the trace after it or that of a reader of its own, where they are known.
abbrev pub OnTexts : (List ℕ → List ℕ → Type 0) → Option (List ℕ) → Option (Option (List ℕ)) → Option (List ℕ) → Option (List ℕ) → Result ℕ Fault → Type 0
OnTexts Does known None old new result = IfSome known (λ text. AnswersText IsOfInput Does text old new result)
OnTexts Does known (Some apart) old new result = IfSome known (λ netlist. IfSome apart (λ trace. AnswersTwo IsOfInput Does netlist trace old new result))

use Rattle.std.proofs.Common.{◌≡◌, ◌+◌, ◌≤◌, ◌++◌, ℕ, List, length}
use Rattle.std.specs.List.{AllByRecursion}
use Rattle.bz_model.specs.Entries.{IsNumber32}
use Rattle.bz_trace_text.specs.Texts.{clash_lines}
use Rattle.bz_trace_text.proofs.text.skip_clashes.Given as goal

abbrev pub invariant-loop-after : goal.invariant-loop-after
invariant-loop-after l = record {
  clashes : List ℕ;
  numbers : AllByRecursion IsNumber32 clashes;
  text_is : l.fn.text ≡ clash_lines clashes ++ l.rest;
  line_is : l.line ≡ l.first + length clashes;
  bound : l.line + length l.rest ≤ l.first + length l.fn.text;
}

abbrev pub decreases-loop-after : goal.decreases-loop-after
decreases-loop-after l = length l.rest

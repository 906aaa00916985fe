use Rattle.std.proofs.Common.{◌≡◌, ◌++◌, take}
use Rattle.std.specs.List.{AllByRecursion}
use Rattle.bz_model.specs.Entries.{IsNumber32}
use Rattle.bz_trace_text.specs.Texts.{clash_lines}
use Rattle.bz_trace.proofs.checking.other_clash.Given as goal

abbrev pub invariant-loop-comp : goal.invariant-loop-comp
invariant-loop-comp l = record {
  place_is : l.place ≡ l.comp-index;
  own : AllByRecursion IsNumber32 (take l.comp-index l.due);
  text_is : l.fn.text ≡ clash_lines (take l.comp-index l.due) ++ l.rest;
}

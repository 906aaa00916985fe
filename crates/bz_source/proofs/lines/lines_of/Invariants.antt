use Rattle.std.proofs.Common.{◌≡◌, ◌++◌, map, length}
use Rattle.bz_sexpr.specs.Forms.{forms_view}
use Rattle.bz_source.specs.Lines.{lines_in}
use Rattle.bz_source.specs.Views.{part_lines_of}
use Rattle.bz_source.proofs.lines.lines_of.Given as goal

abbrev pub invariant-loop-form : goal.invariant-loop-form
invariant-loop-form l = record {
  parts : l.parts.text.now ≡ l.text;
  channels : l.channels.text.now ≡ l.text;
  components : l.components.text.now ≡ l.text;
  read : lines_in l.text (forms_view l.netlist) ≡ map part_lines_of l.lines.items ++ lines_in l.text (forms_view l.rest);
}

abbrev pub decreases-loop-form : goal.decreases-loop-form
decreases-loop-form l = length (forms_view l.rest)

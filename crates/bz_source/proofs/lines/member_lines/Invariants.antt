use Rattle.std.proofs.Common.{◌≡◌, ◌++◌, length}
use Rattle.bz_sexpr.specs.Forms.{forms_view}
use Rattle.bz_source.specs.Lines.{member_lines}
use Rattle.bz_source.proofs.lines.member_lines.Given as goal

abbrev pub invariant-loop-member : goal.invariant-loop-member
invariant-loop-member l = record {
  same : l.counter.text.now ≡ l.initial.counter.text.now;
  read : member_lines l.initial.counter.text.now (forms_view l.members) ≡ l.lines.items ++ member_lines l.initial.counter.text.now (forms_view l.rest);
}

abbrev pub decreases-loop-member : goal.decreases-loop-member
decreases-loop-member l = length (forms_view l.rest)

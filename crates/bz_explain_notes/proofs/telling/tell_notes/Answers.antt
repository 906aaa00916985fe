use Rattle.std.proofs.Common.{map, subst}
use Rattle.bz_text.specs.Writing.{Writes}
use Rattle.bz_explain_notes.specs.Notes.{letters_of}
use Rattle.bz_explain_notes.proofs.Lines.{lines_are}
use Rattle.bz_explain_notes.proofs.telling.tell_notes.Goals as goal

pub returns : goal.returns
returns g c = (
  map letters_of c.ended.result.now,
  subst (λ t. Writes (g.W.Write.contents c.args.out.now) (g.W.Write.contents c.put_notes.new.out) c.put_notes.result t) (lines_are c.ended.result.now) c.put_notes.ensures,
)

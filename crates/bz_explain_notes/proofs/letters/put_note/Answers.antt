use Rattle.std.proofs.Common.{◌++◌, ◌∙◌, codes, subst}
use Rattle.bz_text.specs.Writing.{Writes}
use Rattle.bz_explain_notes.proofs.letters.put_note.Goals as goal

pub returns : goal.returns
returns g c =
    let e = c.as_slice.ensures.value ∙ c.in-Ok.ensures in
    subst (λ t. Writes (g.W.Write.contents c.args.out.now) (g.W.Write.contents c.put_pieces.new.out) c.put_pieces.result (codes "breezesim: note: " ++ (t ++ codes "\n"))) e c.put_pieces.ensures

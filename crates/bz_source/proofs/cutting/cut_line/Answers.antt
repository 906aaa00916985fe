use Rattle.std.proofs.Common.{sym, ◌∙◌}
use Rattle.std.proofs.lemmas.Bool.{eqb-false, eqb-true}
use Rattle.bz_source.proofs.Cut.{cut_behind, cut_last}
use Rattle.bz_source.proofs.cutting.cut_line.Goals as goal

pub returns-then-is_empty-clause-lines : goal.returns-then-is_empty-clause-lines
returns-then-is_empty-clause-lines c =
    cut_last c.args.text.now c.split_line.result.0.now c.split_line.result.1.now c.requires c.split_line.ensures.whole c.split_line.ensures.line (eqb-true _ _ (sym c.is_empty.ensures ∙ c.if-is_empty.true))

pub returns-clause-lines : goal.returns-clause-lines
returns-clause-lines c =
    rw c.split_at.ensures.back
    (cut_behind c.args.text.now c.split_line.result.0.now c.split_line.result.1.now c.split_line.ensures.whole c.split_line.ensures.line c.split_line.ensures.ended (eqb-false _ _ (sym c.is_empty.ensures ∙ c.if-is_empty.false)))

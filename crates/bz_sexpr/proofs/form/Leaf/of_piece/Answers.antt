use Rattle.std.proofs.Common.{Some, ap, sym, ◌∙◌, arith, rules}
use Rattle.std.proofs.lemmas.List.{nil_from_length}
use Rattle.bz_sexpr.proofs.Laid.{empty_piece, list_piece, quoted_piece, run_piece}
use Rattle.bz_sexpr.proofs.form.Leaf.of_piece.Goals as goal

pub returns-in_default : goal.returns-in_default
returns-in_default c = sym (empty_piece _ (nil_from_length _ (omega (arith, c.in_default.ensures.cases))))

pub returns-in-40 : goal.returns-in-40
returns-in-40 c = sym (list_piece _ _ _ c.in-Some.ensures.cases.0 c.in-40.is)

pub returns-in-34 : goal.returns-in-34
returns-in-34 c = sym (quoted_piece _ _ _ _ c.in-Some.ensures.cases.0 c.in-34.is (c.split_at.ensures.front ∙ search rules))

pub returns-in_default-first : goal.returns-in_default-first
returns-in_default-first c =
    ap Some c.of_run.ensures ∙ sym (run_piece _ _ _ c.in-Some.ensures.cases.0 (λ e. search rules) (λ e. search rules))

use Rattle.std.proofs.Common.{◌≢◌, [], ◌∷◌, ◌++◌, refl, sym, ap, ◌∙◌, append_assoc}
use Rattle.std.specs.Cmp.Lexicographic.{other_text}
use Rattle.bz_words.specs.Words.{percent, nothing}
use Rattle.bz_words.proofs.NameForms.{spells_append, no_name}
use Rattle.bz_words.proofs.words.read_name.Goals as goal

pub loop-first-init : goal.loop-first-init
loop-first-init c = ([], refl, rw c.new-name.ensures.items nothing)

pub returns-in_default-name_byte-clause-none : goal.returns-in_default-name_byte-clause-none
returns-in_default-name_byte-clause-none c = λ name is.
    let other : c.args.form.now ≢ percent ∷ [] = λ e. other_text c.args.form.now c.as_slice.result.now (sym c.if-eq.false ∙ c.eq.ensures) (e ∙ sym c.as_slice.ensures) in
    let before = c.loop-first.invariant in
    no_name c.args.form.now before.0 _ _ name other (before.1 ∙ ap (λ s. before.0 ++ s) c.in-Some.ensures.cases.0) before.2 c.in_default-name_byte.ensures.none is

pub loop-first-preserved : goal.loop-first-preserved
loop-first-preserved c =
    let before = c.loop-first.invariant in
    let piece = c.in-Some-name_byte.ensures.some in
    (before.0 ++ piece.0, before.1 ∙ ap (λ s. before.0 ++ s) (c.in-Some.ensures.cases.0 ∙ piece.1) ∙ sym (append_assoc before.0 piece.0 _), rw c.in_ok-push.ensures.items (spells_append before.2 piece.2))

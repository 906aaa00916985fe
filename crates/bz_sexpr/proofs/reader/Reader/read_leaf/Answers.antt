use Rattle.std.proofs.Common.{◌≡◌, ◌+◌, ◌∷◌, ◌++◌, [], length, drop, sym, ap, ◌∙◌, subst, arith, rules, length-append}
use Rattle.bz_sexpr.specs.Bytes.{quote}
use Rattle.bz_sexpr.specs.Spelling.{IsCutText}
use Rattle.bz_sexpr.specs.Reading.{places_of, ClosesText, SpellsLeaf}
use Rattle.bz_sexpr.proofs.Readings.{front_at, semicolon_left, quoted_rest, spells_quoted, spells_run, place_here, behind_front, front_within}
use Rattle.bz_sexpr.proofs.reader.Reader.read_leaf.Goals as goal

pub returns-in-None-clause-err : goal.returns-in-None-clause-err
returns-in-None-clause-err c =
    let r = c.requires.reading in
    let after = drop (c.args.self.now.at + 1) c.args.self.now.whole.now in
    let first : drop c.args.self.now.at c.args.self.now.whole.now ≡ quote ∷ after = c.requires.first ∙ ap (λ b. b ∷ after) c.if-first-eq34.true in
    let cut : IsCutText after = search rules in
    (after, places_of r.lists, front_at r.read first, cut, omega (arith, ap length first, place_here _ _ r.within))

pub add_leaf-requires-clause-first : goal.add_leaf-requires-clause-first
add_leaf-requires-clause-first c =
    let whole = c.args.self.now.whole.now in
    let at = c.args.self.now.at in
    let run = c.split_run.result.0.now in
    let rest = c.split_run.result.1.now in
    let cut : drop (at + 1) whole ≡ run ++ rest = sym (c.split_run.ensures.whole ∙ c.behind.ensures) in
    let end : drop (at + length run + 1) whole ≡ rest = behind_front whole run rest (at + 1) _ cut (omega arith) in
    subst (SpellsLeaf (drop at whole)) (sym end) (spells_run _ _ run rest c.args.first c.requires.first (sym cut) c.split_run.ensures.longest (sym c.is_run_byte.ensures ∙ c.if-is_run_byte.true))

pub add_leaf-requires-clause-within : goal.add_leaf-requires-clause-within
add_leaf-requires-clause-within c =
    let whole = c.args.self.now.whole.now in
    let run = c.split_run.result.0.now in
    let rest = c.split_run.result.1.now in
    omega (arith, front_within whole run rest (c.args.self.now.at + 1) (omega (arith, c.requires.within)) (sym (c.split_run.ensures.whole ∙ c.behind.ensures)))

pub add_leaf-requires-in-Some-clause-first : goal.add_leaf-requires-in-Some-clause-first
add_leaf-requires-in-Some-clause-first c =
    let whole = c.args.self.now.whole.now in
    let at = c.args.self.now.at in
    let raw = c.in-Some.raw.now in
    let rest = c.in-Some._rest.now in
    let after = drop (at + 1) whole in
    let first : drop at whole ≡ quote ∷ after = c.requires.first ∙ ap (λ b. b ∷ after) c.if-first-eq34.true in
    let closes = subst (λ s. ClosesText s raw rest) c.behind-then-first-eq34.ensures c.in-Some.ensures.closed in
    let end : drop (at + length raw + 2) whole ≡ rest = behind_front whole (quote ∷ (raw ++ quote ∷ [])) rest at _ (quoted_rest _ after raw rest first closes.whole) (omega (arith, length-append raw (quote ∷ []))) in
    subst (SpellsLeaf (drop at whole)) (sym end) (spells_quoted _ _ _ _ first closes)

pub add_leaf-requires-in-Some-clause-within : goal.add_leaf-requires-in-Some-clause-within
add_leaf-requires-in-Some-clause-within c =
    let whole = c.args.self.now.whole.now in
    let raw = c.in-Some.raw.now in
    let rest = c.in-Some._rest.now in
    let closes = subst (λ s. ClosesText s raw rest) c.behind-then-first-eq34.ensures c.in-Some.ensures.closed in
    omega (arith, front_within whole raw (quote ∷ rest) (c.args.self.now.at + 1) (omega (arith, c.requires.within)) closes.whole)

pub skip_comment-requires-clause-first : goal.skip_comment-requires-clause-first
skip_comment-requires-clause-first c =
    let after = drop (c.args.self.now.at + 1) c.args.self.now.whole.now in
    let is = semicolon_left c.args.first (sym c.is_run_byte.ensures ∙ c.if-is_run_byte.false) c.requires.no_blank c.requires.no_list.0 c.requires.no_list.1 c.if-first-eq34.false in
    c.requires.first ∙ ap (λ b. b ∷ after) is

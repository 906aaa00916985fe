use Rattle.std.proofs.Common.{◌≢◌, get_or, sym, ◌∙◌}
use Rattle.bz_sexpr.specs.Bytes.{quote, backslash}
use Rattle.bz_sexpr.proofs.Texts.{neither, no_end, of_eight}
use Rattle.bz_sexpr.proofs.bytes.plain_front.Goals as goal

pub returns-else-left-right-clause-plain : goal.returns-else-left-right-clause-plain
returns-else-left-right-clause-plain c =
    let bytes = c.args.bytes.now in
    let halves = neither c.if-left-right.false in
    let (abc, d) = neither halves.0 in
    let (efg, h) = neither halves.1 in
    let (ab, third) = neither abc in
    let (ef, g) = neither efg in
    let (a, b) = neither ab in
    let (e, f) = neither ef in
    of_eight (λ k. (get_or bytes k 0 ≢ quote) × (get_or bytes k 0 ≢ backslash))
    (no_end _ (sym c.is_end.ensures ∙ a))
    (no_end _ (sym c.is_end-2.ensures ∙ b))
    (no_end _ (sym c.is_end-3.ensures ∙ third))
    (no_end _ (sym c.is_end-4.ensures ∙ d))
    (no_end _ (sym c.is_end-5.ensures ∙ e))
    (no_end _ (sym c.is_end-6.ensures ∙ f))
    (no_end _ (sym c.is_end-7.ensures ∙ g))
    (no_end _ (sym c.is_end-8.ensures ∙ h))

use Rattle.std.specs.List.{list_any}
use Rattle.std.proofs.lemmas.List.{length-drop, take_all}
use Rattle.std.proofs.Common.{ap, drop, ◌-◌, length, sym, ◌∙◌, arith, ◌==◌}
use Rattle.bz_sexpr.specs.Bytes.{backslash}
use Rattle.bz_sexpr.proofs.Texts.{neither, any_behind}
use Rattle.bz_sexpr.proofs.bytes.+has_backslash.Goals as goal

pub returns : goal.returns
returns t c =
    let bytes = c.args.bytes.now in
    let behind = any_behind (λ b. b == backslash) bytes in
    let halves = neither c.if-front-back.false in
    let (abc, d) = neither halves.0 in
    let (efg, h) = neither halves.1 in
    let (ab, third) = neither abc in
    let (ef, g) = neither efg in
    let (a, b) = neither ab in
    let (e, f) = neither ef in
    c.has_backslash.ensures
    ∙ ap (list_any (λ x. x == backslash)) (take_all (length bytes - 8) (drop 8 bytes) (omega (arith, length-drop 8 bytes)))
    ∙ behind 7 (omega (arith, c.in-len8-up.len_at_least)) (sym c.is_mark-8.ensures ∙ h)
    ∙ behind 6 (omega (arith, c.in-len8-up.len_at_least)) (sym c.is_mark-7.ensures ∙ g)
    ∙ behind 5 (omega (arith, c.in-len8-up.len_at_least)) (sym c.is_mark-6.ensures ∙ f)
    ∙ behind 4 (omega (arith, c.in-len8-up.len_at_least)) (sym c.is_mark-5.ensures ∙ e)
    ∙ behind 3 (omega (arith, c.in-len8-up.len_at_least)) (sym c.is_mark-4.ensures ∙ d)
    ∙ behind 2 (omega (arith, c.in-len8-up.len_at_least)) (sym c.is_mark-3.ensures ∙ third)
    ∙ behind 1 (omega (arith, c.in-len8-up.len_at_least)) (sym c.is_mark-2.ensures ∙ b)
    ∙ behind 0 (omega (arith, c.in-len8-up.len_at_least)) (sym c.is_mark.ensures ∙ a)

use Rattle.std.proofs.Common.{◌≤◌, ap, arith, length, subst}
use Rattle.bz_model.specs.Nets.{Wiring}
use Rattle.bz_page.proofs.Paged.{placed_of}
use Rattle.bz_page.proofs.command.place.Goals as goal

pub returns-in-Ok-take_apart : goal.returns-in-Ok-take_apart
returns-in-Ok-take_apart c =
    let e = c.into_parts-net.ensures in
    placed_of c.args.case c.into_parts-net.result.0.wiring c.into_parts-net.result.1 c.into_parts-net.result.2 _ c.in-Ok-take_apart.net c.in-Ok.survey (ap (λ n. n.wiring) e.net) e.source e.part c.as_slice.ensures.value c.in-Ok-take_apart.ensures
    c.in-Ok.ensures.parts c.in-Ok.ensures.lines c.in-Ok.ensures.places c.in-Ok.ensures.net (subst (λ (w : Wiring). length w.sites ≤ 100000) c.core.ensures.wiring (omega (arith, c.if-comps-gt-MOST_COMPS.false, c.comp_count-comps.ensures)))

use Rattle.std.proofs.Common.{rules, ◌≡◌, ◌≢◌, Some, map, sym, ap, ◌∙◌}
use Rattle.bz_flat.specs.Flats.{site_of}
use Rattle.bz_net.specs.Due.{next_of}
use Rattle.bz_net.specs.Nodes.{comps_of, heres_of}
use Rattle.bz_net.specs.Sides.{answers}
use Rattle.bz_net.proofs.Stepping.{found_by, none_same, not_next, rides}
use Rattle.bz_net.proofs.here.has_step_by.Goals as goal

pub returns-then-ne : goal.returns-then-ne
returns-then-ne c =
    let a = c.args in let nodes = a.nodes.now in
    let differ : c.next_of.result ≢ Some a.mv = search rules in
    not_next (map site_of a.sites.now) a.phases.now (comps_of nodes) (heres_of nodes) c.requires.sighted a.comp a.port a.chan (answers a.mv) c.requires.end
    (c.has_step.ensures.turning c.if-not-has_step.false) a.mv a.value
    (λ e. differ (c.next_of.ensures ∙ ap next_of c.get.ensures ∙ e))

pub returns-in-Take : goal.returns-in-Take
returns-in-Take c =
    let a = c.args in let nodes = a.nodes.now in
    let next : c.next_of.result ≡ Some a.mv = search rules in
    found_by (map site_of a.sites.now) a.phases.now (comps_of nodes) (heres_of nodes) c.requires.sighted a.comp a.port a.chan (answers a.mv) c.requires.end
    (c.has_step.ensures.turning c.if-not-has_step.false) a.mv a.value c.eq.result c.if-not-has_step.ensures.steps (sym (c.next_of.ensures ∙ ap next_of c.get.ensures) ∙ next)
    (λ other next step.
    let is = rides (map site_of a.sites.now) a.phases.now (comps_of nodes) (heres_of nodes) c.requires.sighted a.comp a.port a.chan (answers a.mv) c.requires.end a.mv c.in-Take.is other next step ∙ sym c.riding.ensures in
    (λ t. let same : c.riding.result ≡ a.value = search rules in is ∙ same, λ e. let same : c.riding.result ≡ a.value = sym is ∙ e in search rules))

pub returns-then-is_none : goal.returns-then-is_none
returns-then-is_none c =
    let a = c.args in let nodes = a.nodes.now in
    let next : c.next_of.result ≡ Some a.mv = search rules in
    let none = c.if-is_none.true in let some = c.is_none.ensures in
    found_by (map site_of a.sites.now) a.phases.now (comps_of nodes) (heres_of nodes) c.requires.sighted a.comp a.port a.chan (answers a.mv) c.requires.end
    (c.has_step.ensures.turning c.if-not-has_step.false) a.mv a.value c.is_none.result c.if-not-has_step.ensures.steps (sym (c.next_of.ensures ∙ ap next_of c.get.ensures) ∙ next)
    (λ other next step. (λ t. none_same other a.value (c.requires.given a.port other next step) (cc), λ e. none))

pub returns-else-is_none : goal.returns-else-is_none
returns-else-is_none c =
    let a = c.args in let nodes = a.nodes.now in
    let next : c.next_of.result ≡ Some a.mv = search rules in
    found_by (map site_of a.sites.now) a.phases.now (comps_of nodes) (heres_of nodes) c.requires.sighted a.comp a.port a.chan (answers a.mv) c.requires.end
    (c.has_step.ensures.turning c.if-not-has_step.false) a.mv a.value c.carries.result c.if-not-has_step.ensures.steps (sym (c.next_of.ensures ∙ ap next_of c.get.ensures) ∙ next)
    (λ other next step. c.carries.ensures a.chan a.mv other next step)

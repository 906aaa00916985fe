use Rattle.std.proofs.Common.{◌≡◌, true, false, Some, ◌∙◌, ap, sym, rules, bytes_eq, codes}
use Rattle.std.specs.Option.{option_map}
use Rattle.bz_sexpr.specs.Forms.{forms_view}
use Rattle.bz_breeze.specs.Turns.{head_and_rest}
use Rattle.bz_breeze.proofs.Heads.{components_headed}
use Rattle.bz_breeze.proofs.netlist.headed_form.Goals as goal

pub returns-then-eq-3-clause-ok : goal.returns-then-eq-3-clause-ok
returns-then-eq-3-clause-ok c =
    let next : head_and_rest (forms_view c.args.items) ≡ Some (c.in-Some.head.now, forms_view c.in-Some.members) = sym c.headed.ensures ∙ ap (option_map (λ p. (p.0.now, forms_view p.1))) c.in-Some.is in
    let ports : bytes_eq c.in-Some.head.now (codes "ports") ≡ false = search rules in
    let channels : bytes_eq c.in-Some.head.now (codes "channels") ≡ false = search rules in
    let is : bytes_eq c.in-Some.head.now (codes "components") ≡ true = search rules in
    rw (components_headed _ _ _ _ _ next ports channels is) c.components_form.ensures.ok

pub returns-then-eq-3-clause-err : goal.returns-then-eq-3-clause-err
returns-then-eq-3-clause-err c =
    let next : head_and_rest (forms_view c.args.items) ≡ Some (c.in-Some.head.now, forms_view c.in-Some.members) = sym c.headed.ensures ∙ ap (option_map (λ p. (p.0.now, forms_view p.1))) c.in-Some.is in
    let ports : bytes_eq c.in-Some.head.now (codes "ports") ≡ false = search rules in
    let channels : bytes_eq c.in-Some.head.now (codes "channels") ≡ false = search rules in
    let is : bytes_eq c.in-Some.head.now (codes "components") ≡ true = search rules in
    rw (components_headed _ _ _ _ _ next ports channels is) c.components_form.ensures.err

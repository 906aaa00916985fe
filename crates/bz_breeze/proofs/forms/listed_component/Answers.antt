use Rattle.std.proofs.Common.{◌≡◌, true, Some, ◌∙◌, ap, sym, rules, bytes_eq, codes}
use Rattle.std.specs.Option.{option_map}
use Rattle.bz_sexpr.specs.Forms.{forms_view}
use Rattle.bz_breeze.specs.Turns.{head_and_rest}
use Rattle.bz_breeze.specs.Forms.{fields_of}
use Rattle.bz_breeze.specs.Views.{fields_view}
use Rattle.bz_breeze.proofs.Heads.{component_headed}
use Rattle.bz_breeze.proofs.forms.listed_component.Goals as goal

pub returns-in-Some-fields_of-clause-ok : goal.returns-in-Some-fields_of-clause-ok
returns-in-Some-fields_of-clause-ok c =
    let next : head_and_rest (forms_view c.args.items) ≡ Some (c.in-Some.head.now, forms_view c.in-Some.rest) = sym c.headed.ensures ∙ ap (option_map (λ p. (p.0.now, forms_view p.1))) c.in-Some.is in
    let is : bytes_eq c.in-Some.head.now (codes "component") ≡ true = search rules in
    let fields : fields_of (forms_view c.in-Some.rest) ≡ Some (fields_view c.in-Some-fields_of.component) = sym c.fields_of.ensures ∙ ap (option_map fields_view) c.in-Some-fields_of.is in
    rw (component_headed _ _ _ next is, fields) c.component_of.ensures.ok

pub returns-in-Some-fields_of-clause-err : goal.returns-in-Some-fields_of-clause-err
returns-in-Some-fields_of-clause-err c =
    let next : head_and_rest (forms_view c.args.items) ≡ Some (c.in-Some.head.now, forms_view c.in-Some.rest) = sym c.headed.ensures ∙ ap (option_map (λ p. (p.0.now, forms_view p.1))) c.in-Some.is in
    let is : bytes_eq c.in-Some.head.now (codes "component") ≡ true = search rules in
    let fields : fields_of (forms_view c.in-Some.rest) ≡ Some (fields_view c.in-Some-fields_of.component) = sym c.fields_of.ensures ∙ ap (option_map fields_view) c.in-Some-fields_of.is in
    rw (component_headed _ _ _ next is, fields) c.component_of.ensures.err

use Rattle.std.proofs.Common.{◌≡◌, ◌∷◌, ◌++◌, [], Ok, Some, map, sym, ap, ◌∙◌}
use Rattle.std.proofs.lemmas.Result.{err_from_is_err_and}
use Rattle.std.proofs.lemmas.List.{map-append}
use Rattle.std.proofs.lemmas.List.Elements.{All-push}
use Rattle.std.specs.Option.{option_map}
use Rattle.bz_sexpr.specs.Forms.{form_view, forms_view, first_and_rest}
use Rattle.bz_breeze_records.specs.Records.{part_record}
use Rattle.bz_breeze.specs.Turns.{if_read, in_turn}
use Rattle.bz_breeze.specs.Parts.{part, parts, part_items, named_part}
use Rattle.bz_breeze_records.specs.Parts.{HasPortChannels}
use Rattle.bz_breeze.proofs.Reading.{turn_fault, turn_more, tells_of, part_of_item}
use Rattle.bz_breeze.proofs.Bounds.{all_fit}
use Rattle.bz_breeze.proofs.netlist.read_parts.Goals as goal

pub returns-in_err-part-clause-err : goal.returns-in_err-part-clause-err
returns-in_err-part-clause-err c =
    let p = err_from_is_err_and c.from_residual.result c.from_residual.ensures.1 in
    let d = form_view c.in-Some.form in
    let list = map part_record c.loop-form.list.items in
    let ds = forms_view c.in-Some-part_items.items in
    let first : d ∷ forms_view c.in-Some.after ≡ forms_view c.loop-form.rest = sym (ap first_and_rest c.in-Some.is) ∙ c.split_first.ensures in
    let items : part_items d ≡ Some ds = sym c.part_items.ensures ∙ ap (option_map forms_view) c.in-Some-part_items.is in
    rw (p.1, p.2)
    (tells_of (named_part c.loop-form.names c.span.result ds) (parts (forms_view c.args.netlist)) _ c.in_err-part.ensures.err
    (λ fault at_fault.
    c.loop-form.invariant.read ∙ turn_fault part list d (forms_view c.in-Some.after) (forms_view c.loop-form.rest) fault first
    (part_of_item c.loop-form.list.items _ _ d ds c.loop-form.invariant.names c.span.ensures items
    ∙ ap (λ r. if_read r (λ p. Ok (list ++ p ∷ []))) at_fault)))

pub loop-form-preserved-in_ok-push : goal.loop-form-preserved-in_ok-push
loop-form-preserved-in_ok-push c =
    let d = form_view c.in-Some.form in
    let list = map part_record c.loop-form.list.items in
    let found = c.in_ok-part.part in
    let ds = forms_view c.in-Some-part_items.items in
    let first : d ∷ forms_view c.in-Some.after ≡ forms_view c.loop-form.rest = sym (ap first_and_rest c.in-Some.is) ∙ c.split_first.ensures in
    let items : part_items d ≡ Some ds = sym c.part_items.ensures ∙ ap (option_map forms_view) c.in-Some-part_items.is in
    record {
      read = rw (c.in_ok-push.ensures.items, map-append part_record c.loop-form.list.items (found ∷ []))
          (c.loop-form.invariant.read ∙ turn_more part list d (forms_view c.in-Some.after) (forms_view c.loop-form.rest) (list ++ part_record found ∷ []) first
          (part_of_item c.loop-form.list.items _ _ d ds c.loop-form.invariant.names c.span.ensures items
          ∙ ap (λ r. if_read r (λ p. Ok (list ++ p ∷ []))) c.in_ok-part.ensures.ok));
      names = rw (c.in_ok-push.ensures.items, map-append (λ p. p.name.items) c.loop-form.list.items (found ∷ []))
          (c.in_ok-part.ensures.names ∙ ap (λ names. names ++ found.name.items ∷ []) c.loop-form.invariant.names);
      fits = rw c.in_ok-push.ensures.items (All-push HasPortChannels c.loop-form.list.items found c.loop-form.invariant.fits c.in_ok-part.ensures.fits);
    }

pub new-requires-clause-fit : goal.new-requires-clause-fit
new-requires-clause-fit c =
    let list = c.loop-form.list.items in
    let none : forms_view c.loop-form.rest ≡ [] = sym c.split_first.ensures ∙ ap first_and_rest c.in_default.is in
    all_fit (forms_view c.args.netlist) list (c.loop-form.invariant.read ∙ ap (in_turn part (map part_record list)) none)

use Rattle.std.proofs.Common.{map, Some, None, add-one}
use Rattle.bz_model.specs.Names.{external}
use Rattle.bz_trace_text.proofs.FormLaws.{found_by_form, port_none}
use Rattle.bz_trace_text.proofs.ports.port_by_form.Goals as goal

pub returns-in_default : goal.returns-in_default
returns-in_default c = port_none 1 (map external c.args.ports.now) c.args.text.now c.in_default.ensures

pub returns-in-Some-place : goal.returns-in-Some-place
returns-in-Some-place c =
    let word = c.in-Some.ensures in
    rw (add-one c.in-Some-place.place) (found_by_form (map external c.args.ports.now) c.args.forms.now c.in-Some.form.now c.in-Some.rest.now c.args.text.now (Some c.in-Some-place.place) word.0 word.1 c.requires.forms c.in-Some-place.ensures.place)

pub returns-in-None : goal.returns-in-None
returns-in-None c =
    let word = c.in-Some.ensures in
    found_by_form (map external c.args.ports.now) c.args.forms.now c.in-Some.form.now c.in-Some.rest.now c.args.text.now None word.0 word.1 c.requires.forms c.in-None.ensures.place

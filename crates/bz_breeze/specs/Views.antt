-- How contracts see what the reader holds on its way.
use Rattle.std.specs.Prelude.{map}
use Rattle.std.specs.Option.{option_map}
use Rattle.bz_model.specs.Names.{external}
use Rattle.bz_sexpr.specs.Forms.{forms_view, text_view}
use Rattle.bz_breeze_records.specs.Records.{component_record}
use Rattle.bz_breeze.specs.Forms as form
use Rattle.bz_breeze.specs.Parts as part
use Rattle.bz_breeze.specs.declared.netlist.Lists.{Lists}
use Rattle.bz_breeze.specs.declared.forms.Fields.{Fields}

abbrev pub fields_view : Fields → form.Fields
fields_view c = record { name = text_view c.name; params = forms_view c.params; entries = forms_view c.entries }

abbrev pub lists_view : Lists → part.Lists
lists_view l = record {
  ports = option_map (λ v. map external v.items) l.ports;
  channels = option_map (λ v. v.items) l.channels;
  components = option_map (λ v. map component_record v.items) l.components;
}

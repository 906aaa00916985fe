-- The text of `list --paths`: a net's ports, channels, instances and components, a line for each, with where it stands.
use Rattle.std.specs.Prelude.{ℕ, suc, Bool, true, false, not, Option, None, Some, List, [], ◌++◌, length, codes, decimal, map, slice_get, if◌then◌else◌}
use Rattle.std.specs.List.{flat_map}
use Rattle.std.specs.Option.{option_and_then}
use Rattle.bz_model.specs.declared.channel.Chan.{Chan}
use Rattle.bz_model.specs.Names.{External, external, numbered, port_sense}
use Rattle.bz_model.specs.Nets.{Site, chan_in}
use Rattle.bz_model.specs.Traces.{name_form}
use Rattle.bz_breeze_records.specs.declared.part.Part.{Part}
use Rattle.bz_elab.specs.Paths.{component}
use Rattle.bz_flat.specs.Flats.{site_of}
use Rattle.bz_flat.specs.declared.flat.Ends.{Ends}
use Rattle.bz_flat.specs.declared.flat.Pieces.{Pieces}
use Rattle.bz_flat.specs.Wires.{ends_in}
use Rattle.bz_text.specs.Pieces.{stepped}
use Rattle.bz_source.specs.declared.survey.Survey.{Survey}
use Rattle.bz_source.specs.Found.{PathAt}
use Rattle.bz_source.specs.Texts.{at_text, placed_comp_text}
use Rattle.bz_source.specs.Labels.{label_text}
use Rattle.bz_source.specs.Views.{chan_label, chan_line_at, comp_label, comp_line_at}
use Rattle.bz_model.specs.Words.{carried_text}
use Rattle.bz_cli_input.specs.Listing.{head_text, lines, ports_text}

-- whether the host holds the end of channel k of this sense: the one that the port's component does not
abbrev pub host_holds : List External → ℕ → Bool → Bool
host_holds ports k passive = elim (port_sense ports k) [ None ↦ false | Some sense ↦ if sense then not passive else passive ]

-- port p of component c, the host, or nobody
abbrev pub end_text : Option ℕ → ℕ → Bool → List ℕ
end_text (Some c) p host = decimal c ++ (codes "." ++ decimal p)
end_text None p true = codes "host"
end_text None p false = codes "-"

-- channel k: what it carries, its active end and its passive end, its place, what it is called and where it comes from
abbrev pub placed_chan : Pieces → Survey → ℕ → Chan → Ends → PathAt → List ℕ
placed_chan net s k chan ends at =
    codes "channel " ++ (decimal k ++ (codes " " ++ (carried_text chan.kind chan.width
    ++ (codes " " ++ (end_text ends.active ends.active_port (host_holds (map external net.ports.items) k false)
    ++ (codes " " ++ (end_text ends.passive ends.passive_port (host_holds (map external net.ports.items) k true)
    ++ (at_text (chan_line_at s.parts s.lines.items at) ++ (label_text (chan_label s.lines.items at) ++ codes "\n")))))))))

abbrev pub chan_line : Pieces → Survey → ℕ → PathAt → List ℕ
chan_line net s k at = placed_chan net s k (chan_in net.chans k) (ends_in net.ends.items k) at

-- the name that a component has in the text
abbrev pub comp_name : List Part → PathAt → List ℕ
comp_name parts at = elim (option_and_then (λ p. component p at.position) (slice_get parts at.part)) [ None ↦ [] | Some c ↦ c.name.items ]

-- the path of an instance, the name of its part, and its place
abbrev pub instance_line : Survey → ℕ → PathAt → List ℕ
instance_line s k at =
    codes "instance " ++ (flat_map stepped at.path ++ (decimal at.position ++ (codes " " ++ (name_form (comp_name s.parts at)
    ++ (at_text (comp_line_at s.parts s.lines.items at) ++ codes "\n")))))

-- component k, its place, what it is called and where it comes from
abbrev pub placed_comp : Survey → ℕ → Site → PathAt → List ℕ
placed_comp s k site at = placed_comp_text k site (comp_line_at s.parts s.lines.items at) ++ (label_text (comp_label s.parts s.lines.items at) ++ codes "\n")

abbrev pub comp_line : Survey → ℕ → Site → List ℕ
comp_line s k site = elim (numbered s.places.comps k) [ None ↦ [] | Some at ↦ placed_comp s k site at ]

abbrev pub count_line : List ℕ → ℕ → List ℕ
count_line word n = word ++ (decimal n ++ codes "\n")

abbrev pub chans_text : Pieces → Survey → List ℕ
chans_text net s = count_line (codes "channels ") (length s.places.chans) ++ lines (chan_line net s) 1 s.places.chans

abbrev pub instances_text : Survey → List ℕ
instances_text s = count_line (codes "instances ") (length s.places.instances) ++ lines (instance_line s) 1 s.places.instances

abbrev pub comps_text : Pieces → Survey → List ℕ
comps_text net s = count_line (codes "components ") (length (map site_of net.comps)) ++ lines (comp_line s) 1 (map site_of net.comps)

abbrev pub paths_text : Pieces → Survey → List ℕ → List ℕ
paths_text net s name = head_text name ++ (ports_text net.chans (map external net.ports.items) ++ (chans_text net s ++ (instances_text s ++ comps_text net s)))

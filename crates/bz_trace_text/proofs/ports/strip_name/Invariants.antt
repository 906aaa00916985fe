use Rattle.std.proofs.Common.{◌≡◌, drop}
use Rattle.std.specs.List.{flat_map}
use Rattle.bz_model.specs.Traces.{byte_form, name_form}
use Rattle.bz_trace_text.specs.Reading.{strip}
use Rattle.bz_trace_text.proofs.ports.strip_name.Given as goal

abbrev pub invariant-loop-byte : goal.invariant-loop-byte
invariant-loop-byte l = strip (name_form l.name) l.fn.text ≡ strip (flat_map byte_form (drop l.byte-index l.name)) l.rest

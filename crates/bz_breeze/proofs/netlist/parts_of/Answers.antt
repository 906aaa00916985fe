use Rattle.std.proofs.Common.{map}
use Rattle.bz_sexpr.specs.Forms.{forms_view}
use Rattle.bz_breeze_records.specs.Records.{part_record}
use Rattle.bz_breeze.proofs.Verdicts.{named_answer, faultless_answer, fault_answer, least_answer}
use Rattle.bz_breeze.proofs.netlist.parts_of.Goals as goal

pub returns-clause-named : goal.returns-clause-named
returns-clause-named c = named_answer (forms_view c.args.netlist) c.read_parts.result (λ ps. map part_record ps) c.read_parts.ensures.ok

pub returns-clause-faultless : goal.returns-clause-faultless
returns-clause-faultless c = faultless_answer (forms_view c.args.netlist) c.read_parts.result (λ ps. map part_record ps) c.read_parts.ensures.ok

pub returns-clause-fault : goal.returns-clause-fault
returns-clause-fault c = fault_answer (forms_view c.args.netlist) c.read_parts.result c.read_parts.ensures.err

pub returns-clause-least : goal.returns-clause-least
returns-clause-least c = least_answer (forms_view c.args.netlist) c.read_parts.result c.read_parts.ensures.err

use Rattle.std.specs.Option.{option_copied}
use Rattle.bz_cli_source.proofs.Placed.{no_miss, surveyed}
use Rattle.bz_cli_source.proofs.surveying.survey_of.Goals as goal

pub returns-in-Ok-clause-survey : goal.returns-in-Ok-clause-survey
returns-in-Ok-clause-survey c =
    let read = c.in_ok-flat in
    let places = rw c.as_slice.ensures.value at c.in-Ok.ensures.places in
    let named = rw c.as_slice.ensures.value at c.in-Ok.ensures.net in
    surveyed c.args.text.now (option_copied c.args.asked) read.name.items read.flat.wiring read.source.parts read.source.lines c.in-Ok.survey c.in-Ok.ensures.parts c.in-Ok.ensures.lines read.ensures.read places named

pub unreachable-requires : goal.unreachable-requires
unreachable-requires c =
    let read = c.in_ok-flat in
    let is = c.in-Err-NoPart.field-0-is in
    let missed = rw c.as_slice.ensures.value at c.in-Err-NoPart.ensures.err in
    no_miss c.args.text.now (option_copied c.args.asked) read.name.items read.flat.wiring read.source.parts read.source.lines.items c.in-Err-NoPart.field-0 read.ensures.read missed (λ wanting. cc)

pub unreachable-requires-in-Err-TooDeep : goal.unreachable-requires-in-Err-TooDeep
unreachable-requires-in-Err-TooDeep c =
    let read = c.in_ok-flat in
    let is = c.in-Err-TooDeep.field-0-is in
    let missed = rw c.as_slice.ensures.value at c.in-Err-TooDeep.ensures.err in
    no_miss c.args.text.now (option_copied c.args.asked) read.name.items read.flat.wiring read.source.parts read.source.lines.items c.in-Err-TooDeep.field-0 read.ensures.read missed (λ wanting. cc)

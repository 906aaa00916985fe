use Rattle.std.proofs.Common.{ap, ◌∙◌, codes}
use Rattle.bz_model.specs.Traces.{name_form}
use Rattle.bz_trace_text.specs.Reading.{strip, ◌>>=◌}
use Rattle.bz_trace_text.proofs.Strips.{strip_append}
use Rattle.bz_trace_text.proofs.ports.strip_word.Goals as goal

pub returns-in-Some : goal.returns-in-Some
returns-in-Some c =
    let whole = strip_append (name_form c.args.name.now) (codes " ") c.args.text.now ∙ ap (λ o. o >>= strip (codes " ")) c.in-Some.ensures in
    rw whole c.strip.ensures

pub returns-in-None : goal.returns-in-None
returns-in-None c = strip_append (name_form c.args.name.now) (codes " ") c.args.text.now ∙ ap (λ o. o >>= strip (codes " ")) c.in-None.ensures

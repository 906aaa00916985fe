use Rattle.std.proofs.Common.{◌∙◌}
use Rattle.bz_trace_text.proofs.Kept.{kept_front, kept_value}
use Rattle.bz_trace_text.proofs.page.Page.fired_again.Goals as goal

pub returns-in-Some-clause-text : goal.returns-in-Some-clause-text
returns-in-Some-clause-text c = λ comp chan mv is.
    let a = c.args in
    let whole = c.kept.ensures.text ∙ kept_front a.who comp chan mv a.self.now _ is in
    rw c.in-Some.is (c.end_with.ensures.text _ whole ∙ kept_value a.who comp chan c.in-Some.value mv a.self.now)

use Rattle.std.proofs.Common.{◌≡◌, ◌≤◌, ◌++◌, take, ap, ◌∙◌, arith, rules, append_assoc, length, length-append, codes}
use Rattle.bz_model.specs.Traces.{who_text}
use Rattle.bz_trace_text.specs.Keeping.{kept_text}
use Rattle.bz_trace_text.proofs.Kept.{word_part}
use Rattle.bz_trace_text.proofs.line.set_kept.Goals as goal

pub returns-clause-text : goal.returns-clause-text
returns-clause-text c =
    let line = c.args.line in
    let start = c.set_front-after_word in
    let one : length line.first ≡ 8 = search rules in
    let two : length line.second ≡ 8 = search rules in
    let few : line.len ≤ length (line.first ++ line.second) = omega (arith, line.within, one, two, length-append line.first line.second) in
    let fits : start.result ≤ length start.new.bytes = search (rules, arith) in
    word_part start.result line.len start.new.bytes c.set_words.new.bytes (line.first ++ line.second) _ fits few c.set_words.ensures
    ∙ ap (λ t. t ++ kept_text line) start.ensures.text
    ∙ append_assoc (take c.args.at c.args.bytes.now) (who_text c.args.who ++ codes " fire ") (kept_text line)

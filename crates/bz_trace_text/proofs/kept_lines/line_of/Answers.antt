use Rattle.std.proofs.Common.{◌+◌, ◌∙◌}
use Rattle.bz_trace_text.proofs.Kept.{told_is, words_of}
use Rattle.bz_trace_text.proofs.kept_lines.line_of.Goals as goal

pub returns : goal.returns
returns c = λ fits.
    let len = c.set_told-len.result in
    let text = c.set_told-len.new.bytes in
    let told = told_is text len c.args.comp c.args.chan c.args.mv c.set_told-len.ensures.text c.set_told-len.ensures.ended in
    rw (c.copy_from_slice.ensures.after, c.copy_from_slice-2.ensures.after, c.from.ensures) (words_of text (len + 1) c.if-len-gt16.false ∙ told)

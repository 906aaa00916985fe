use Rattle.std.proofs.Common.{sym, ◌∙◌}
use Rattle.std.proofs.lemmas.Bool.{false≢true}
use Rattle.bz_complete.proofs.Naming.{is_digit}
use Rattle.bz_complete.proofs.reading.is_number.Goals as goal

pub returns-then-not-is_ascii_digit : goal.returns-then-not-is_ascii_digit
returns-then-not-is_ascii_digit c = λ e numeral.
    let same = c.as_bytes-byte-items.ensures.value in
    false≢true (sym c.if-not-is_ascii_digit.true ∙ rw same at c.is_ascii_digit.ensures.value ∙ is_digit c.args.word.now c.loop-byte.byte-index numeral (rw same at c.loop-byte-test.true))

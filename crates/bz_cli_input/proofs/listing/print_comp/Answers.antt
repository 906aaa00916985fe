use Rattle.std.proofs.Common.{◌+◌, codes, decimal}
use Rattle.bz_trace_text.proofs.Printed.{prints_then}
use Rattle.bz_cli_input.proofs.listing.print_comp.Goals as goal

pub returns : goal.returns
returns g c =
    prints_then _ _ _ _ _ _ _ _ _ _ _ c.text.ensures
    (prints_then _ _ _ _ _ _ _ _ _ _ _ c.number.ensures
    (prints_then _ _ _ _ _ _ _ _ _ _ _ c.text-2.ensures
    (prints_then _ _ _ _ _ _ _ _ _ _ _ (rw c.short_word.ensures.text at c.text-3.ensures)
    (prints_then _ _ _ _ _ _ _ _ _ _ _ (rw c.deref.ensures.value at c.spaced.ensures) c.text-4.ensures))))

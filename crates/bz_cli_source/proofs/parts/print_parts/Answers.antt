use Rattle.std.proofs.Common.{ap, arith, subst}
use Rattle.std.proofs.lemmas.List.{map-id}
use Rattle.bz_trace_text.specs.Printing.{Prints}
use Rattle.bz_trace_text.proofs.Printed.{printed_nothing}
use Rattle.bz_cli_input.specs.Listing.{lines}
use Rattle.bz_cli_input.proofs.Lines.{printed_line, printed_lines}
use Rattle.bz_cli_source.specs.PartLists.{numbered_text}
use Rattle.bz_cli_source.proofs.parts.print_parts.Goals as goal

pub loop-i-init : goal.loop-i-init
loop-i-init g c = printed_nothing _ _ _

pub loop-i-preserved : goal.loop-i-preserved
loop-i-preserved g c =
    printed_line (numbered_text c.args.parts.now c.args.lines.now) (λ p. p) c.args.parts.now c.loop-i.i c.part-item.result (rw c.list-part-items.ensures.value at c.loop-i-test.true) (rw c.list-part-items.ensures.value at c.part-item.is) _ _ _ _ _ _ _ _ _ c.loop-i.invariant c.print_numbered.ensures

pub returns : goal.returns
returns g c =
    let line = numbered_text c.args.parts.now c.args.lines.now in
    let long = rw c.list-part-items.ensures.value at c.loop-i-test.false in
    subst (Prints (g.W.Write.contents c.args.out.now) c.args.printer.now (g.W.Write.contents c.loop-i.out) c.loop-i.printer) (ap (lines line 1) (map-id c.args.parts.now)) (printed_lines line (λ p. p) c.args.parts.now c.loop-i.i (omega (arith, long)) _ _ _ _ _ _ c.loop-i.invariant)

use Rattle.std.proofs.Common.{take, sym, subst, arith}
use Rattle.std.proofs.lemmas.List.{length-take-le, take_more}
use Rattle.bz_trace_text.specs.Counting.{Tells}
use Rattle.bz_trace_text.proofs.Counted.{fewer}
use Rattle.bz_trace_text.proofs.counting.counts.Goals as goal

pub add-requires : goal.add-requires
add-requires c =
    let l = c.loop-entry in let entries = c.args.entries.now in
    let at = length-take-le l.entry-index entries (let i = c.loop-entry-test.true in omega (arith, i)) in
    fewer l.counts (take l.entry-index entries) 18446744073709551615 l.invariant (let i = c.loop-entry-test.true in omega (arith, at, i))

pub loop-entry-preserved : goal.loop-entry-preserved
loop-entry-preserved c =
    let l = c.loop-entry in let entries = c.args.entries.now in
    subst (Tells c.add.new.self) (sym (take_more entries l.entry-index _ c.loop-entry-test.true)) (c.add.ensures (take l.entry-index entries) l.invariant)

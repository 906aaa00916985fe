use Rattle.std.proofs.Common.{inl, inr, refl, length, arith}
use Rattle.std.proofs.lemmas.Grind.{common_steps}
use Rattle.bz_cli_trace.proofs.Splits.{not_before, one_more}
use Rattle.bz_cli_trace.proofs.splitting.split_trace.Goals as goal

pub returns-then-is_trace_at : goal.returns-then-is_trace_at
returns-then-is_trace_at c = record {
  place = c.loop-place.place;
  netlist_is = grind (arith, common_steps);
  trace_is = grind (arith, common_steps);
  here = inl c.if-is_trace_at.ensures;
  first = λ other at. not_before c.args.text.now c.loop-place.place other c.loop-place.invariant at;
}

pub loop-place-preserved : goal.loop-place-preserved
loop-place-preserved c k lt = one_more c.args.text.now c.loop-place.place k c.loop-place.invariant c.if-is_trace_at.ensures (omega arith)

pub returns : goal.returns
returns c = record {
  place = length c.args.text.now;
  netlist_is = grind (arith, common_steps);
  trace_is = grind (arith, common_steps);
  here = inr refl;
  first = λ other at. not_before c.args.text.now (length c.args.text.now) other (λ k lt. c.loop-place.invariant k (grind (arith, common_steps))) at;
}

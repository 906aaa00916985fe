use Rattle.std.proofs.Common.{inl}
use Rattle.bz_waits.proofs.searching.free_outer.Goals as goal

pub free_on-requires-clause-open : goal.free_on-requires-clause-open
free_on-requires-clause-open c = inl c.if-is_inner.ensures

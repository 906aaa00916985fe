use Rattle.std.proofs.Common.{ap, sym, ◌∙◌}
use Rattle.std.specs.Int.{from_bool}
use Rattle.std.proofs.lemmas.Nat.Bits.{bit_at_ones}
use Rattle.bz_bits.proofs.numbers.all_or_none.Goals as goal

pub returns-then-bit-clause-each : goal.returns-then-bit-clause-each
returns-then-bit-clause-each c i lt = bit_at_ones 64 i lt ∙ ap from_bool (sym c.if-bit.true)

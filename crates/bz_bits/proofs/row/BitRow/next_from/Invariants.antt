use Rattle.std.proofs.Common.{◌≡◌, ℕ, ◌*◌, ◌<◌, ◌≤◌, false, get_or}
use Rattle.bz_bits.proofs.row.BitRow.next_from.Given as goal

abbrev pub invariant-loop-at : goal.invariant-loop-at
invariant-loop-at g l = (j : ℕ) → l.from ≤ j → j < 64 * l.at → get_or l.self j false ≡ false

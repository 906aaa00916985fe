use Rattle.std.proofs.Common.{◌≡◌, ◌<◌, ◌≤◌, ℕ, length, is_some, true, false, not, None, map}
use Rattle.bz_model.specs.Names.{external}
use Rattle.bz_model.specs.Hosts.{port_is_passive}
use Rattle.bz_flat.specs.Wires.{end_at}
use Rattle.bz_elab.proofs.ends.wire.Given as goal

abbrev pub invariant-loop-k : goal.invariant-loop-k
invariant-loop-k l = (j : ℕ) → length l.ports < j → j ≤ l.k → is_some (end_at l.ends.items j false) ≡ is_some (end_at l.ends.items j true)

abbrev pub invariant-loop-k-2 : goal.invariant-loop-k-2
invariant-loop-k-2 l = (j : ℕ) → 0 < j → j ≤ l.k → end_at l.ends.items j (not (port_is_passive (map external l.ports) j)) ≡ None

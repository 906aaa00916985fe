use Rattle.std.proofs.Common.{◌≡◌, ℕ, Some, length, slice_get}
use Rattle.bz_elab.specs.Numbers.{Spread}
use Rattle.bz_elab.proofs.reach.mark_inner.Given as goal

abbrev pub invariant-loop-component : goal.invariant-loop-component
invariant-loop-component l = record {
  len : length l.reached.marks.items ≡ length l.parts;
  spread : (start head n : ℕ) → slice_get l.parts n ≡ Some l.part → slice_get l.fn.reached.queue.items head ≡ Some n → Spread l.parts start head 0 l.fn.reached
      → Spread l.parts start head l.component-index l.reached × (slice_get l.reached.queue.items head ≡ Some n);
}

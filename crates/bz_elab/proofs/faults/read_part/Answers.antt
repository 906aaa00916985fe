use Rattle.std.proofs.Common.{arith, ◌+◌, length, refl, ap, add-one}
use Rattle.bz_elab.proofs.Growing.{component_at}
use Rattle.bz_elab.proofs.Slots.{take_item}
use Rattle.bz_elab.proofs.Leasts.{upto_sound, upto_fault_at, upto_part}
use Rattle.bz_elab.proofs.Items.{read_push, read_skip}
use Rattle.bz_elab.proofs.Looking.{seen_same}
use Rattle.bz_elab.proofs.faults.read_part.Goals as goal
use Rattle.bz_elab.proofs.faults.read_part.Goals.{in-Nothing, in-Adds+in_ok-add_item-in-Adds, in-Wrong}

pub loop-place-init : goal.loop-place-init
loop-place-init c = record {
  least = λ marks marked h. h;
  kept = λ e. e;
  read = λ e. rw c.requires.reading tt;
}

pub loop-place-preserved : goal.loop-place-preserved
loop-place-preserved c =
    let parts = c.args.parts.now in
    let part = c.args.part.now in
    let own = part.channels.items in
    let items = c.deref-component-items.result.now in
    let i = c.loop-place.place in
    let x = c.component-item.result in
    let has = component_at part items i x c.deref-component-items.ensures.value c.component-item.is (omega arith) in
    let inv = c.loop-place.invariant in
    let seen = rw c.as_slice.ensures.value at c.in_ok-look.ensures.ok in
    elim c.match-branch-2.branch [
      | in-Nothing w ↦
          let s = seen_same parts own x _ _ w.in-Nothing.is seen in
          rw (w.least-is, w.reading-is) (record {
            least = λ marks marked h. rw add-one (upto_sound parts marks c.args.number i part x c.loop-place.least c.requires.part_is has s.0 (inv.least marks marked h));
            kept = inv.kept;
            read = λ e. rw (take_item items i x (omega arith) c.component-item.is) (read_skip parts own _ _ x (inv.read e) s.1);
          })
      | in-Adds+in_ok-add_item-in-Adds w ↦
          let s = seen_same parts own x _ _ w.in-Adds.is seen in
          rw (w.least-is, w.reading-is, w.in_ok-add_item-in-Adds.ensures) (record {
            least = λ marks marked h. rw add-one (upto_sound parts marks c.args.number i part x c.loop-place.least c.requires.part_is has s.0 (inv.least marks marked h));
            kept = inv.kept;
            read = λ e. rw (take_item items i x (omega arith) c.component-item.is) (read_push parts own _ _ x _ (inv.read e) s.1);
          })
      | in-Wrong w ↦
          let s = seen_same parts own x _ _ w.in-Wrong.is seen in
          rw (w.least-is, w.reading-is, w.lesser.ensures) (record {
            least = λ marks marked h. upto_fault_at parts marks c.args.number i (i + 1) part x c.loop-place.least _ (add-one i) c.requires.part_is has marked refl (add-one i) s.0 s.1 (inv.least marks marked h);
            kept = λ e. cc;
            read = λ e. cc;
          })
    ]

pub returns-clause-ok : goal.returns-clause-ok
returns-clause-ok c marks marked h =
    upto_part c.args.parts.now marks c.args.number c.loop-place.place c.args.part.now c.loop-place.least c.requires.part_is (omega (arith, ap length c.deref-component-items.ensures.value))
    (c.loop-place.invariant.least marks marked h)

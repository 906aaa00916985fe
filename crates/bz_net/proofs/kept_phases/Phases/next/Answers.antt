use Rattle.std.proofs.Common.{rules, ◌≡◌, ◌≢◌, ◌<◌, Some, length, get_or, slice_index_or, sym, subst}
use Rattle.bz_model.specs.declared.channel.Phase.TheVariants.{Broken, Idle}
use Rattle.bz_net.specs.Due.{next_of}
use Rattle.bz_net.proofs.Marks.{length_phases, next_read}
use Rattle.bz_net.proofs.kept_phases.Phases.next.Goals as goal

pub returns : goal.returns
returns c =
    let ms = c.self.inside.marks.items in let vs = c.self.inside.values.items in let at = c.args.place in let mv = c.next_after.result.0 in
    let here : at < length ms = subst (λ n. at < n) (length_phases ms vs c.self.invariant) (subst (λ l. at < length l) (sym c.self.view_is) c.requires) in
    let read : c.index.result.now ≡ get_or ms at c.index.result.now = search rules in
    subst (λ l. slice_index_or l at Idle ≢ Broken → next_of (slice_index_or l at Idle) ≡ Some mv) c.self.view_is
    (next_read ms vs at c.index.result.now mv c.self.invariant here read c.next_after.ensures.next)

use Rattle.std.proofs.Common.{rules, ◌≡◌, ◌≢◌, ◌<◌, ◌∙◌, Bool, Some, length, get_or, slice_index_or, sym, ap, subst, arith}
use Rattle.std.proofs.lemmas.List.{get_or_default}
use Rattle.bz_model.specs.declared.channel.Phase.TheVariants.{Broken, Idle}
use Rattle.bz_kinds.specs.Riding.{held, riding}
use Rattle.bz_net.specs.Due.{next_of}
use Rattle.bz_net.proofs.Marks.{length_phases, next_read, riding_read}
use Rattle.bz_net.proofs.kept_phases.Phases.next_riding.Goals as goal

pub returns-then-rides-clause-next : goal.returns-then-rides-clause-next
returns-then-rides-clause-next c =
    let ms = c.self.inside.marks.items in let vs = c.self.inside.values.items in let at = c.args.place in let mv = c.next_after-next.result.0 in
    let here : at < length ms = subst (λ n. at < n) (length_phases ms vs c.self.invariant) (subst (λ l. at < length l) (sym c.self.view_is) c.requires) in
    let read : c.index.result.now ≡ get_or ms at c.index.result.now = search rules in
    subst (λ l. slice_index_or l at Idle ≢ Broken → next_of (slice_index_or l at Idle) ≡ Some mv) c.self.view_is
    (next_read ms vs at c.index.result.now mv c.self.invariant here read c.next_after-next.ensures.next)

pub returns-else-rides-clause-next : goal.returns-else-rides-clause-next
returns-else-rides-clause-next c =
    let ms = c.self.inside.marks.items in let vs = c.self.inside.values.items in let at = c.args.place in let mv = c.next_after-next.result.0 in
    let here : at < length ms = subst (λ n. at < n) (length_phases ms vs c.self.invariant) (subst (λ l. at < length l) (sym c.self.view_is) c.requires) in
    let read : c.index.result.now ≡ get_or ms at c.index.result.now = search rules in
    subst (λ l. slice_index_or l at Idle ≢ Broken → next_of (slice_index_or l at Idle) ≡ Some mv) c.self.view_is
    (next_read ms vs at c.index.result.now mv c.self.invariant here read c.next_after-next.ensures.next)

pub returns-then-rides-clause-rides : goal.returns-then-rides-clause-rides
returns-then-rides-clause-rides c =
    let ms = c.self.inside.marks.items in let vs = c.self.inside.values.items in let at = c.args.place in let rides = c.next_after-next.result.1 in
    let here : at < length ms = subst (λ n. at < n) (length_phases ms vs c.self.invariant) (subst (λ l. at < length l) (sym c.self.view_is) c.requires) in
    let m = c.index.result.now in let v = c.index-then-rides.result.now in
    let read : m ≡ get_or ms at m = search rules in
    let value : v ≡ get_or vs at v = search rules in
    subst (λ l. held rides v ≡ riding (slice_index_or l at Idle)) c.self.view_is
    (c.next_after-next.ensures.rides v ∙ riding_read ms vs at m v c.self.invariant here read value)

pub returns-else-rides-clause-rides : goal.returns-else-rides-clause-rides
returns-else-rides-clause-rides c =
    let ms = c.self.inside.marks.items in let vs = c.self.inside.values.items in let at = c.args.place in let rides = c.next_after-next.result.1 in
    let here : at < length ms = subst (λ n. at < n) (length_phases ms vs c.self.invariant) (subst (λ l. at < length l) (sym c.self.view_is) c.requires) in
    let m = c.index.result.now in let v = get_or vs at 0 in
    let read : m ≡ get_or ms at m = search rules in
    let value : v ≡ get_or vs at v = get_or_default vs at 0 v (omega (arith, here, c.self.invariant)) in
    let none = c.if-rides.false in
    subst (λ l. held rides c.args.value.now ≡ riding (slice_index_or l at Idle)) c.self.view_is
    (ap (λ (b : Bool). held b c.args.value.now) none ∙ sym (ap (λ (b : Bool). held b v) none) ∙ c.next_after-next.ensures.rides v ∙ riding_read ms vs at m v c.self.invariant here read value)

use Rattle.std.proofs.Common.{Global, Vec, ℕ, refl, subst}
use Rattle.std.proofs.lemmas.List.Elements.{All-push}
use Rattle.bz_waits.specs.Cycles.{IsCycle}
use Rattle.bz_waits.proofs.cycles.add_cycle.Goals as goal

pub returns-in_ok-push : goal.returns-in_ok-push
returns-in_ok-push c =
    let waits = c.args.waits.now in
    rw c.in_ok-push.ensures.items
    (All-push (λ (cycle : Vec ℕ Global). IsCycle waits cycle.items) c.args.found.now.items c.args.cycle c.requires (subst (IsCycle waits) c.deref.ensures.value (c.if-is_cycle.ensures refl)))

use Rattle.std.proofs.Common.{ℕ, subst, sym, arith}
use Rattle.std.specs.Int.{bit_not, w64}
use Rattle.bz_kinds.specs.Ready.{IsActive}
use Rattle.bz_kinds.specs.Kept.{plan_of}
use Rattle.bz_kinds.proofs.ReadyLaws.{ready_at, none_due, at_ports, opens_closed, turned_over}
use Rattle.bz_kinds.proofs.comp.far_word.Goals as goal
use Rattle.bz_kinds.proofs.comp.far_word.Goals.{then-is_active_behind, else-is_active_behind}

pub returns-clause-ready : goal.returns-clause-ready
returns-clause-ready c =
    let plan = plan_of c.comp.inside.proc.plan in let size = c.comp.inside.proc.size in let at = c.args.at in
    let known : IsActive plan size at (bit_not w64 c.if-is_active_behind.passive) =
    elim c.if-is_active_behind.branch [
      | then-is_active_behind w ↦ subst (λ (k : ℕ). IsActive plan size at (bit_not w64 k)) (sym w.passive-is) (turned_over plan size at 0 (omega arith) (c.is_active_behind.ensures w.if-is_active_behind.true size at c.requires.far))
      | else-is_active_behind w ↦ subst (λ (k : ℕ). IsActive plan size at (bit_not w64 k)) (sym w.passive-is) (turned_over plan size at w.passive_word-passive.result w.passive_word-passive.type_inv w.passive_word-passive.ensures)
    ] in
    ready_at _ _ _ _ _ _ _ c.comp.view_is c.comp.invariant.0 at (bit_not w64 c.if-is_active_behind.passive) c.args.here c.ready.result c.word-word.result known c.word-word.ensures c.ready.ensures

pub returns-then-word-eq0-clause-ready : goal.returns-then-word-eq0-clause-ready
returns-then-word-eq0-clause-ready c = none_due _ _ _ _ _ _ _ c.comp.view_is c.comp.invariant.0 c.args.at c.args.here c.word-word.result c.if-word-eq0.true c.word-word.ensures

pub returns-then-word-eq0-clause-held : goal.returns-then-word-eq0-clause-held
returns-then-word-eq0-clause-held c = at_ports _ _ _ _ _ _ _ c.comp.view_is c.comp.invariant.0 c.comp.invariant.1.2

pub returns-then-word-eq0-clause-turns : goal.returns-then-word-eq0-clause-turns
returns-then-word-eq0-clause-turns c = opens_closed _ _ _ _ _ _ _ c.comp.view_is c.comp.invariant.0 c.comp.invariant.1.2

pub returns-clause-held : goal.returns-clause-held
returns-clause-held c = at_ports _ _ _ _ _ _ _ c.comp.view_is c.comp.invariant.0 c.comp.invariant.1.2

pub returns-clause-turns : goal.returns-clause-turns
returns-clause-turns c = opens_closed _ _ _ _ _ _ _ c.comp.view_is c.comp.invariant.0 c.comp.invariant.1.2

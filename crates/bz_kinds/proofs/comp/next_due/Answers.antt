use Rattle.bz_kinds.proofs.ReadyLaws.{none_due, stops_at}
use Rattle.bz_kinds.proofs.comp.next_due.Goals as goal

pub returns-clause-passed : goal.returns-clause-passed
returns-clause-passed c k le lt here =
    let even = c.next_due.ensures.passed k le lt in
    none_due _ _ _ _ _ _ _ c.comp.view_is c.comp.invariant.0 k here even.word even.none_due even.each

pub returns-clause-stops : goal.returns-clause-stops
returns-clause-stops c = stops_at _ _ _ _ _ _ _ c.comp.view_is c.comp.invariant.0 c.args.at c.next_due.result c.next_due.ensures.passed c.next_due.ensures.stops

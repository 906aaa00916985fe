use Rattle.std.proofs.Common.{◌∷◌, [], ap, ◌∙◌, sym, subst}
use Rattle.bz_past.specs.Standings.{HasTurned}
use Rattle.bz_past.specs.declared.standing.Standing.TheVariants.{Ended}
use Rattle.bz_locked.specs.Parts.{SessionView, SharedView, Tables}
use Rattle.bz_locked.proofs.shared.SharedNet.end.Goals as goal

pub stand-requires : goal.stand-requires
stand-requires g c =
    let past = sym (ap (λ (v : SharedView). v.table.past) c.self.view_is) ∙ c.self.invariant.0 in
    (c.self.invariant.0, ap (λ (s : SessionView). s.seat.table.past) c.session.view_is ∙ ap (λ (t : Tables). t.past) c.requires ∙ past, c.session.invariant.1, c.session.invariant.4)

pub returns-clause-turned : goal.returns-clause-turned
returns-clause-turned g c = subst (λ (s : SessionView). HasTurned s.who (Ended ∷ []) s.seat.saw c.stand.new.owner.seen) c.session.view_is c.stand.ensures.turned

use Rattle.std.proofs.Common.{◌+◌, ap, sym, ◌∙◌, replicate}
use Rattle.bz_past.specs.Standings.{standings_of}
use Rattle.bz_past.specs.declared.standing.Standing.TheVariants.{Running}
use Rattle.bz_past.specs.declared.view.Moment.{Moment}
use Rattle.bz_locked.specs.Parts.{new_session, new_worker, tables}
use Rattle.bz_locked.proofs.Turning.{all_run}
use Rattle.bz_locked.proofs.shared.SharedNet.new.Goals as goal

pub returns-clause-sessions : goal.returns-clause-sessions
returns-clause-sessions g c =
    let made = c.in_ok-made.ensures.sessions in
    (made.0, λ k d lt. made.1 k d lt ∙ ap (λ (m : Moment). new_session (tables c.in_ok-made.made.front.table c.args.opened.0) m (k + 1)) c.requires.past.1.1)

pub returns-clause-workers : goal.returns-clause-workers
returns-clause-workers g c =
    let made = c.in_ok-made.ensures.workers in
    (made.0, λ k d lt. made.1 k d lt ∙ ap (λ (m : Moment). new_worker (tables c.in_ok-made.made.front.table c.args.opened.0) m (k + 1)) c.requires.past.1.1)

pub invariant_of-new-clause-stands : goal.invariant_of-new-clause-stands
invariant_of-new-clause-stands g c =
    let count = g.L.NetLedger.terms.sessions in
    let made = c.in_ok-made.ensures in
    let turns = ap (λ (m : Moment). m.turns) (made.keeper.1 ∙ c.requires.past.1.1) in
    made.standings ∙ ap (λ n. replicate n Running) c.requires.opening.3 ∙ sym (all_run 0 count) ∙ ap (standings_of count) (sym turns)

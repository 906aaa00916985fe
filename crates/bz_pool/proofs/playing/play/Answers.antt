use Rattle.std.proofs.Common.{◌∷◌, [], sym, ◌∙◌, subst}
use Rattle.bz_model.specs.declared.event.Who.{Who}
use Rattle.bz_past.specs.Standings.{HasTurned}
use Rattle.bz_past.specs.declared.standing.Standing.TheVariants.{Ended}
use Rattle.bz_pool.specs.Playing.{Played}
use Rattle.bz_pool.proofs.Growing.{ended_then, played_on, stays_on}
use Rattle.bz_pool.proofs.playing.play.Goals as goal

pub end-requires : goal.end-requires
end-requires g c = c.play_words-end.ensures.who.1.0 ∙ c.requires

pub returns-clause-who : goal.returns-clause-who
returns-clause-who g c = (c.end.ensures.who.0 ∙ c.play_words-end.ensures.who.0, stays_on c.args.session.now.seat c.play_words-end.new.session.seat c.end.new.session.seat c.play_words-end.ensures.who.1 c.end.ensures.who.1)

pub returns-clause-record : goal.returns-clause-record
returns-clause-record g c =
    subst (λ own. Played g.L.NetLedger.terms c.args.session.now.seat.saw c.end.new.session.seat.saw c.args.session.now.who c.args.words.now c.play_words-end.result c.args.session.now.own own) (sym c.end.ensures.same.0)
    (played_on g.L.NetLedger.terms c.args.session.now.seat.saw c.play_words-end.new.session.seat.saw c.end.new.session.seat.saw c.args.session.now.who c.args.words.now c.play_words-end.result c.args.session.now.own c.play_words-end.new.session.own c.end.ensures.who.1.1 c.play_words-end.ensures.record)

pub returns-clause-stood : goal.returns-clause-stood
returns-clause-stood g c =
    let b = c.play_words-end.new.session.seat.saw in
    let ended = subst (λ (who : Who). HasTurned who (Ended ∷ []) b c.end.new.session.seat.saw) c.play_words-end.ensures.who.0 c.end.ensures.turned in
    ended_then g.L.NetLedger.terms.wiring c.args.session.now.who c.args.words.now c.args.session.now.seat.saw b c.end.new.session.seat.saw c.play_words-end.ensures.stood ended

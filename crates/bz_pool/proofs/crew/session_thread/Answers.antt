use Rattle.std.proofs.Common.{◌≡◌, ◌∷◌, ◌++◌, [], List, sym, ap, ◌∙◌, subst}
use Rattle.bz_model.specs.declared.event.Entry.{Entry}
use Rattle.bz_model.specs.declared.event.Who.{Who}
use Rattle.bz_past.specs.Standings.{turned_by}
use Rattle.bz_past.specs.declared.standing.Standing.TheVariants.{Ended}
use Rattle.bz_past.specs.declared.standing.Turn.{Turn}
use Rattle.bz_pool.specs.Playing.{Played}
use Rattle.bz_pool.specs.Pooled.{HasStood}
use Rattle.bz_pool.proofs.crew.session_thread.Goals as goal

pub returns-clause-played : goal.returns-clause-played
returns-clause-played g c =
    let play = rw c.deref.ensures.value at c.play-end.ensures in
    let Has : Who → List Entry → Type 0 = λ w own. Played g.L.NetLedger.terms c.args.session.seat.saw c.play-end.new.session.seat.saw w c.args.words.items c.play-end.result own c.play-end.new.session.own in
    let w = g.L.NetLedger.terms.wiring in
    let stood : HasStood w c.args.session.who c.args.words.items c.play-end.new.session.seat.saw =
    (play.stood.0, play.stood.1, play.stood.2 ∙ ap (λ (us : List Turn). turned_by c.args.session.who us ++ (play.stood.0 ++ Ended ∷ [])) c.requires.2) in
    record {
      had = c.args.session.seat.saw;
      answers = subst (λ w. Has w []) (sym play.who.0) (subst (Has c.args.session.who) c.requires.1 play.record);
      word = play.word;
      stood = subst (λ (who : Who). HasStood w who c.args.words.items c.play-end.new.session.seat.saw) (sym play.who.0) stood;
    }

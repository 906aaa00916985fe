use Rattle.std.proofs.Common.{◌++◌, ◌∷◌, [], ◌∙◌, List, take, ap, sym, subst, arith}
use Rattle.std.proofs.lemmas.List.{take_all, take_more}
use Rattle.bz_net.specs.Headline.{Asked, Outcome}
use Rattle.bz_net.proofs.Events.{AnsweredAll, answered_more, headline}
use Rattle.bz_net.proofs.Soundness.{UnbrokenRun-last}
use Rattle.bz_net.proofs.headline.play_events.Goals as goal

pub loop-who-preserved : goal.loop-who-preserved
loop-who-preserved c =
    let net = c.args.net.now in let events = c.args.events.now in
    let at = c.loop-who.who-index in let asked = c.loop-who-item.result in
    let inv = c.loop-who.invariant in let is = c.serve.ensures in
    let unbroken = UnbrokenRun-last _ _ _ _ c.journal.ensures.unbroken in
    let more = take_more events at asked (omega arith) ∙ ap (λ (a : Asked). take at events ++ a ∷ []) (sym c.loop-who-item.is) in
    record {
      answered =
          subst (λ (es : List Asked). AnsweredAll net c.serve.new.self es c.push_reserved.new.self.items) (sym more)
          (subst (λ (ts : List Outcome). AnsweredAll net c.serve.new.self (take at events ++ asked ∷ []) ts) (sym c.push_reserved.ensures.items)
          (answered_more net c.loop-who.net c.serve.new.self (take at events) c.loop-who.answers.items asked c.serve.result inv.answered is.ok is.cause is.err unbroken));
      count = omega (arith, inv.count, c.push_reserved.ensures.len);
      room = c.push_reserved.ensures.capacity ∙ inv.room;
    }

pub returns-clause-headline : goal.returns-clause-headline
returns-clause-headline c =
    let net = c.args.net.now in let events = c.args.events.now in let l = c.loop-who in
    let all = subst (λ (es : List Asked). AnsweredAll net l.net es l.answers.items) (take_all l.who-index events (omega arith)) l.invariant.answered in
    headline net l.net events l.answers.items all c.journal-2.ensures.run c.journal-2.ensures.unbroken

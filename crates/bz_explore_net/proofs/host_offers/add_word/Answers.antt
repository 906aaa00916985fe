use Rattle.bz_explore_net.proofs.Answered.{word_one}
use Rattle.bz_explore_net.proofs.host_offers.add_word.Goals as goal

pub returns-in_ok-push-in-Some : goal.returns-in_ok-push-in-Some
returns-in_ok-push-in-Some c =
    let n = c.args.net.now in
    rw c.in_ok-push-in-Some.ensures.items
    (word_one n.wiring n.state c.args.port c.args.passive c.args.offers.now.items c.in-Some.verb c.requires.from c.requires.sense c.requires.before (rw c.in-Some.is at c.answered_at.ensures))

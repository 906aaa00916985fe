use Rattle.bz_complete.proofs.Completed.{run_of}
use Rattle.bz_complete.proofs.command.made.Goals as goal

pub returns-in-None : goal.returns-in-None
returns-in-None c = λ w completed dead refuted. rw c.into_net.ensures (rw c.in-None.is at completed)

pub returns-in-Some : goal.returns-in-Some
returns-in-Some c = λ w completed dead refuted.
    let front = rw c.in-Some.is at completed in
    let none = rw c.in-Some.is at dead in
    ((front.0, front.1, front.2, run_of w c.args.moves.now _ _ c.args.completed.net c.journal.ensures.run front.3 none), rw c.in-Some.is at refuted)

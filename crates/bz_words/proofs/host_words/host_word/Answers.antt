use Rattle.bz_words.specs.Words.{host}
use Rattle.bz_words.proofs.HostSessions.{runs_alone}
use Rattle.bz_words.proofs.host_words.host_word.Goals as goal

pub returns-in-Some-Run-clause-none : goal.returns-in-Some-Run-clause-none
returns-in-Some-Run-clause-none c =
    let spelt = rw c.in-Some-Run.is at c.in_ok-command.ensures.some in
    runs_alone c.args.word.now _ (rw c.in-Some-Run.field-0-is at spelt)

pub returns-in-None-clause-none : goal.returns-in-None-clause-none
returns-in-None-clause-none c =
    let none = rw c.in-None.is at c.in_ok-command.ensures.none in
    λ verb name value spelt. none (host verb name value) spelt

use Rattle.std.proofs.Common.{◌≡◌, ◌+◌, arith}
use Rattle.bz_model.specs.Processes.{behind}
use Rattle.bz_kinds.proofs.MeetingOnward.{asked-waits}
use Rattle.bz_kinds.proofs.meeting.ask.Goals as goal

pub returns-clause-waits : goal.returns-clause-waits
returns-clause-waits c =
    let last : c.args.size + 1 ≡ behind c.args.size = omega arith in
    rw (c.set.ensures, last) (asked-waits c.args.meet.now c.args.size _ _ c.requires.place c.requires.due)

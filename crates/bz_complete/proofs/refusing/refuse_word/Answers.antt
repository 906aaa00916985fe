use Rattle.std.proofs.Common.{refl}
use Rattle.bz_complete.specs.Stopping.{word_of}
use Rattle.bz_complete.proofs.Refusals.{word_refused, word_stops}
use Rattle.bz_complete.proofs.refusing.refuse_word.Goals as goal

pub returns-in_default : goal.returns-in_default
returns-in_default c =
    let net = c.args.net.now in let due = c.args.due in
    let refused = word_refused net (word_of due.sent) due.chan due.value c.args.error c.in_default.not-JournalFull c.in_default.not-Memory c.requires.cause in
    (refl, word_stops net due c.journal.ensures.wired c.journal.ensures.run c.requires.maker refused)

use Rattle.bz_complete.proofs.Spelling.{stands_named}
use Rattle.bz_complete.proofs.reading.chan.Goals as goal

pub returns-then-not-is_number : goal.returns-then-not-is_number
returns-then-not-is_number c =
    stands_named c.args.names.now c.as_bytes.result.now c.args.word.now c.chan.result c.as_bytes.ensures.value (c.is_number.ensures c.if-not-is_number.true) c.chan.ensures

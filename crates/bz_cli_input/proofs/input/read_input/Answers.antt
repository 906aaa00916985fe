use Rattle.std.proofs.Common.{arith, length-append, ◌++◌, take}
use Rattle.std.proofs.lemmas.List.{length-take}
use Rattle.std.proofs.KnownBytes.{Consumes-trans}
use Rattle.bz_cli_input.proofs.input.read_input.Goals as goal

pub returns-in_err-append-in-Ok-clause-bounded : goal.returns-in_err-append-in-Ok-clause-bounded
returns-in_err-append-in-Ok-clause-bounded g c =
    let text = c.reading.text in
    let piece = take c.in-Ok.n c.read.new.buf in
    let b = c.in-Ok.ensures.bound in
    let m = c.min-room.ensures in
    let k = c.read.auto.buf in
    let l = c.len-in-reading.ensures in
    let room = length-take c.min-room.result c.reading.chunk in
    let both = length-append text.items piece in
    (text.items ++ piece, omega (arith, text.ok.0, c.reading-test.true, c.len.ensures), Consumes-trans _ _ _ text.items piece c.reading.invariant.taken c.in-Ok.ensures.bytes.0)

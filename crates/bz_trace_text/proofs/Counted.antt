-- What counts tell of a list.
use Rattle.std.proofs.Common.{ℕ, ◌<◌, List, length, arith}
use Rattle.std.proofs.lemmas.List.Sums.{count_by-le-length}
use Rattle.bz_model.specs.declared.event.Entry.{Entry}
use Rattle.bz_trace_text.specs.declared.tally.Counts.{Counts}
use Rattle.bz_trace_text.specs.Counting.{AreFewer, Tells, is_fired, is_host, is_rest}

-- of a kind there are no more than there are entries
pub fewer : (counts : Counts) (entries : List Entry) (most : ℕ) → Tells counts entries → length entries < most → AreFewer counts most
fewer counts entries most tells less =
    let fired = count_by-le-length is_fired entries in
    let host = count_by-le-length is_host entries in
    let rests = count_by-le-length is_rest entries in
    let f = tells.fired in
    let h = tells.host in
    let r = tells.rests in
    (omega (arith, fired, f, less), omega (arith, host, h, less), omega (arith, rests, r, less))

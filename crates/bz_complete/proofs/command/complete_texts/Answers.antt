use Rattle.std.proofs.Common.{inl, inr, refl}
use Rattle.std.proofs.KnownBytes.{Keeps-refl}
use Rattle.bz_complete.proofs.Completed.{completes}
use Rattle.bz_complete.proofs.command.complete_texts.Goals as goal

pub returns-in-Err : goal.returns-in-Err
returns-in-Err g c =
    let none = rw c.both.ensures.netlist at c.in-Err.ensures in
    inl (rw c.both.ensures.trace at none, Keeps-refl _)

pub returns : goal.returns
returns g c =
    let found = rw c.both.ensures.netlist at c.in-Ok.ensures in
    let sent = c.in-Err-put_net.ensures.err in
    inr (refl, (tt, sent.0, completes _ _ _ c.in-Ok.net sent.0 (rw c.both.ensures.trace at found) sent.2, sent.1))

pub returns-in-Ok-put_net : goal.returns-in-Ok-put_net
returns-in-Ok-put_net g c =
    let found = rw c.both.ensures.netlist at c.in-Ok.ensures in
    let sent = c.in-Ok-put_net.ensures.ok in
    inr (sent.0, completes _ _ _ c.in-Ok.net sent.0 (rw c.both.ensures.trace at found) sent.2, sent.1)

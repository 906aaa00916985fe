use Rattle.std.proofs.KnownBytes.{Keeps-refl}
use Rattle.bz_cli_commands.proofs.Found.{found_told, found_untold}
use Rattle.bz_cli_commands.proofs.checking.told.Goals as goal

pub returns-in-Err : goal.returns-in-Err
returns-in-Err g c = rw c.in-Err.is (c.of.ensures, Keeps-refl _)

pub returns-in-Ok-tell_found : goal.returns-in-Ok-tell_found
returns-in-Ok-tell_found g c =
    rw c.in-Ok.is (found_told c.in-Ok.case c.found.result c.status_of-status.result _ _ _ c.found.ensures (rw c.passes.ensures at c.status_of-status.ensures) c.judged.ensures c.in-Ok-tell_found.ensures)

pub returns-in-Err-tell_found : goal.returns-in-Err-tell_found
returns-in-Err-tell_found g c =
    rw c.in-Ok.is (found_untold c.in-Ok.case c.found.result c.in-Err-tell_found.fault _ _ _ c.found.ensures c.of-in-Err-tell_found.ensures c.in-Err-tell_found.ensures)

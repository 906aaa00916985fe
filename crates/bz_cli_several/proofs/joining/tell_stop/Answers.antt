use Rattle.std.proofs.lemmas.Result.{err_from_is_err_and}
use Rattle.bz_cli_several.specs.Fates.{front_text}
use Rattle.bz_cli_several.specs.declared.joining.Next.TheVariants.{Ends}
use Rattle.bz_cli_several.proofs.Told.{verdict_failed}
use Rattle.bz_cli_several.proofs.joining.tell_stop.Goals as goal

pub returns-in_err-tell_named-clause-plainly : goal.returns-in_err-tell_named-clause-plainly
returns-in_err-tell_named-clause-plainly g c = λ plain.
    let fault = err_from_is_err_and c.from_residual.result c.from_residual.ensures.1 in
    rw (fault.1, fault.2) (verdict_failed (Ends 1) (front_text c.args.name.now) c.args.piece.found _ _ c.in_err-tell_named.field-0.0 (rw c.into_parts-net.ensures.found at c.in_err-tell_named.ensures))

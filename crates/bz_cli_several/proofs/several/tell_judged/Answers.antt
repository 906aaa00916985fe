use Rattle.std.proofs.lemmas.Result.{err_from_is_err_and}
use Rattle.bz_cli_several.specs.Fates.{front_text}
use Rattle.bz_cli_several.specs.declared.judging.Fate.TheVariants.{Failed}
use Rattle.bz_cli_several.proofs.Told.{verdict_failed, verdict_told}
use Rattle.bz_cli_several.proofs.several.tell_judged.Goals as goal
use Rattle.bz_cli_several.proofs.several.tell_judged.Goals.{then-not-judge+in_ok-tell_named, else-not-judge}

pub returns-in_err-tell_named-clause-plainly : goal.returns-in_err-tell_named-clause-plainly
returns-in_err-tell_named-clause-plainly g c = λ plain.
    let fault = err_from_is_err_and c.from_residual.result c.from_residual.ensures.1 in
    rw (fault.1, fault.2) (verdict_failed Failed (front_text c.args.name.now) c.args.judged.found _ _ c.in_err-tell_named.field-0.0 (rw c.into_parts-net.ensures.found at c.in_err-tell_named.ensures))

pub returns-clause-plainly : goal.returns-clause-plainly
returns-clause-plainly g c = λ plain.
    elim c.if-not-judge.branch [
      | then-not-judge+in_ok-tell_named w ↦
          verdict_told c.if-passes.result (front_text c.args.name.now) c.args.judged.found _ (g.W.Write.contents w.tell_named.new.output) _ w.in_ok-tell_named.field-0 (rw c.into_parts-net.ensures.found at w.in_ok-tell_named.ensures)
          (λ some. ((rw (c.into_parts-net.ensures.found, w.output-is) at (c.tell_left.ensures.plainly plain)) some).1)
      | else-not-judge w ↦ let clash = rw plain at w.if-not-judge.false in cc
    ]

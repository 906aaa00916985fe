use Rattle.std.proofs.Common.{inl, inr}
use Rattle.std.proofs.KnownBytes.{Keeps-refl}
use Rattle.std.specs.Option.{option_copied}
use Rattle.bz_words.specs.Words.{texts}
use Rattle.bz_cli_several.specs.Several.{asked_by}
use Rattle.bz_cli_several.proofs.Lines.{both, stops_before}
use Rattle.bz_cli_several.proofs.several.check_text.Goals as goal
use Rattle.bz_cli_several.proofs.several.check_text.Goals.{then-options, else-options}

pub returns-in-Err : goal.returns-in-Err
returns-in-Err g c =
    let asked = asked_by c.args.options c.args.netlist.now (option_copied c.args.given.now.part) in let old = g.W.Write.contents c.args.output.now in (
      λ each. (inr c.in-Err.ensures.err, λ plain. stops_before asked (g.X.Traces.text c.args.traces.now) (texts c.args.given.now.words.now) old),
      λ joined. (inr c.in-Err.ensures.err, λ plain. inl (Keeps-refl old)),
    )

pub returns : goal.returns
returns g c = (
  λ each. elim c.if-options.branch [
    | then-options w ↦ absurd (both c.args.options.joined w.if-options.true each)
    | else-options w ↦ rw (w.output-is, w.status-is) w.check_all-status.ensures
  ],
  λ joined. elim c.if-options.branch [
    | then-options w ↦ rw (w.output-is, w.status-is) w.check_joined-status.ensures
    | else-options w ↦ absurd (both c.args.options.joined joined w.if-options.false)
  ],
)

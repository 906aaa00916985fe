use Rattle.bz_cli_input.proofs.Chosen.{top_more, used_more, tops_all}
use Rattle.bz_cli_input.proofs.tops.unused_names.Goals.{then-not-used-number+in_ok-push_name, else-not-used-number}
use Rattle.bz_cli_input.proofs.tops.unused_names.Goals as goal

pub loop-number-preserved : goal.loop-number-preserved
loop-number-preserved c = elim c.if-not-used-number.branch [
  | then-not-used-number+in_ok-push_name w ↦
      let grown = rw w.as_slice.ensures.value at w.in_ok-push_name.ensures in
      rw w.names-is (top_more c.args.parts.now c.loop-number.number c.index-parts-number.result c.loop-number-test.true c.index-parts-number.is _ _ c.args.used.now w.if-not-used-number.true c.requires c.loop-number.invariant grown)
  | else-not-used-number w ↦
      rw w.names-is (used_more c.args.parts.now c.loop-number.number c.index-parts-number.result c.loop-number-test.true c.index-parts-number.is _ c.args.used.now w.if-not-used-number.false c.requires c.loop-number.invariant)
]

pub returns : goal.returns
returns c = tops_all c.args.parts.now c.loop-number.number _ c.loop-number-test.false c.loop-number.invariant

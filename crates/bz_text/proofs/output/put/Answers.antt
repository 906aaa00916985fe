use Rattle.bz_text.proofs.Sent.{sent_more}
use Rattle.bz_text.proofs.output.put.Goals as goal

pub loop-rest-preserved : goal.loop-rest-preserved
loop-rest-preserved g c = rw c.split_at.ensures.back (sent_more _ _ _ c.args.bytes.now c.loop-rest.rest.now c.in-Ok.n c.loop-rest.invariant c.in-Ok.ensures.bytes)

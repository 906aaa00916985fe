use Rattle.bz_page.proofs.Escapes.{closes_nothing, reads_back, sends_more}
use Rattle.bz_page.proofs.escaping.put_escaped.Goals as goal

pub returns-in_err-rest-clause-reads_back : goal.returns-in_err-rest-clause-reads_back
returns-in_err-rest-clause-reads_back g c = reads_back c.args.text.now (λ k. (c.type_inv.text k).fits)

pub returns-in_err-rest-clause-closes_nothing : goal.returns-in_err-rest-clause-closes_nothing
returns-in_err-rest-clause-closes_nothing g c = closes_nothing c.args.text.now

pub loop-rest-preserved : goal.loop-rest-preserved
loop-rest-preserved g c = sends_more _ _ _ c.args.text.now c.loop-rest.rest.now c.in_ok-rest.rest.now c.loop-rest.invariant c.in_ok-rest.ensures.ok

pub returns-clause-reads_back : goal.returns-clause-reads_back
returns-clause-reads_back g c = reads_back c.args.text.now (λ k. (c.type_inv.text k).fits)

pub returns-clause-closes_nothing : goal.returns-clause-closes_nothing
returns-clause-closes_nothing g c = closes_nothing c.args.text.now

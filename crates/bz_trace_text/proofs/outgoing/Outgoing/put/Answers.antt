use Rattle.std.proofs.Common.{Bool, subst}
use Rattle.bz_trace_text.specs.Writing.{GoneBut}
use Rattle.bz_trace_text.proofs.Going.{gone_out}
use Rattle.bz_trace_text.proofs.outgoing.Outgoing.put.Goals as goal

pub returns-else-self-clause-gone : goal.returns-else-self-clause-gone
returns-else-self-clause-gone g c = λ start text gone.
    let waited = c.args.self.now.page in let now = g.W.Write.contents c.args.out.now in let after = g.W.Write.contents c.put.new.out in
    rw (c.put.ensures.empty, c.is_err-self.ensures.value) (gone_out start now after c.put.result waited text c.put.ensures.out (subst (λ (b : Bool). GoneBut start now b waited text) c.if-self.false gone))

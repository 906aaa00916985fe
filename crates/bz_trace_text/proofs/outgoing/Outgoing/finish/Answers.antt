use Rattle.std.proofs.Common.{subst}
use Rattle.bz_trace_text.specs.Writing.{GoneBut}
use Rattle.bz_trace_text.proofs.outgoing.Outgoing.finish.Goals as goal

pub returns : goal.returns
returns g c = λ start text gone.
    subst (λ waits. GoneBut start (g.W.Write.contents c.put.new.out) c.put.new.self.failed waits text) c.put.ensures.empty (c.put.ensures.gone start text gone)

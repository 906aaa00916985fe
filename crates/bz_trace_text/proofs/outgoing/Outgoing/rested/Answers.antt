use Rattle.bz_model.specs.Traces.{rested_text}
use Rattle.bz_trace_text.proofs.Going.{gone_more}
use Rattle.bz_trace_text.proofs.outgoing.Outgoing.rested.Goals as goal

pub returns : goal.returns
returns g c = λ start text gone.
    let ready = c.make_room.new.self in
    rw c.add_rested.ensures (gone_more start (g.W.Write.contents c.make_room.new.out) ready.failed ready.page text (rested_text c.args.who) (c.make_room.ensures.gone start text gone))

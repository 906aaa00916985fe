use Rattle.std.proofs.Common.{Bool, subst}
use Rattle.std.proofs.lemmas.Result.{err_from_is_err_and}
use Rattle.bz_model.specs.Traces.{trace_text}
use Rattle.bz_cli_core.specs.Sending.{SentUp}
use Rattle.bz_cli_core.proofs.Pieces.{all_sent, puts_all, some_of_trace}
use Rattle.std.proofs.KnownBytes.{Appends-kept}
use Rattle.bz_cli_input.proofs.Written.{some_front}
use Rattle.bz_cli_core.proofs.pending.Pending.finish.Goals as goal

pub returns-then-self : goal.returns-then-self
returns-then-self g c = λ start played sent.
    let ports = c.args.names.now.ports in
    let p = c.put.new.self in
    let now = g.W.Write.contents c.put.new.out in
    some_of_trace ports start now played c.args.clashes.now (subst (λ (b : Bool). SentUp ports start played now b p.entries.items) c.if-self.true (c.put.ensures.sent start played sent))

pub returns-in_err-put_clashes : goal.returns-in_err-put_clashes
returns-in_err-put_clashes g c = λ start played sent.
    let ports = c.args.names.now.ports in
    let p = c.put.new.self in
    let now = g.W.Write.contents c.put.new.out in
    let fault = err_from_is_err_and c.from_residual.result c.from_residual.ensures.1 in
    let has = all_sent ports start p.failed now played p.entries.items c.if-self.false c.put.ensures.none (c.put.ensures.sent start played sent) in
    rw fault.1 (some_front start (g.W.Write.contents c.put_clashes.new.out) (trace_text ports played c.args.clashes.now) (c.in_err-put_clashes.ensures.whole ports start played has))

pub returns : goal.returns
returns g c = λ start played sent.
    let ports = c.args.names.now.ports in
    let p = c.put.new.self in
    let now = g.W.Write.contents c.put.new.out in
    let has = all_sent ports start p.failed now played p.entries.items c.if-self.false c.put.ensures.none (c.put.ensures.sent start played sent) in
    let text = trace_text ports played c.args.clashes.now in
    puts_all c.map_err.result start (g.W.Write.contents c.flush.new.self) text
    (Appends-kept start (g.W.Write.contents c.put_clashes.new.out) (g.W.Write.contents c.flush.new.self) text (c.in_ok-put_clashes.ensures.whole ports start played has) c.flush.ensures.bytes)

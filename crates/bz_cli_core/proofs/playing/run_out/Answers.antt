use Rattle.std.proofs.Common.{◌++◌}
use Rattle.bz_trace_text.specs.Writing.{first_lines}
use Rattle.bz_cli_core.proofs.Running.{all_went, none_waits}
use Rattle.bz_cli_core.proofs.playing.run_out.Goals as goal

pub returns-clause-goes : goal.returns-clause-goes
returns-clause-goes g c =
    let ports = c.args.play.now.wiring.ports in let ready = c.put.new.self in let run = c.fire_out-end.ensures in
    let now = g.W.Write.contents c.put.new.out in let after = g.W.Write.contents c.finish-pending.new.out in
    let put = rw c.names.ensures.value at c.put.ensures.sent in
    record {
      entries = run.entries;
      made = run.made;
      leads = run.leads;
      sent = λ start played sent.
          let begun = c.begin.ensures start now (first_lines ports played) (none_waits ports start now ready.failed played ready.entries.items c.put.ensures.none (put start played sent)) in
          let ended = c.finish-pending.ensures start (first_lines ports (played ++ run.entries)) (run.gone ports start played begun) in
          all_went ports start after c.finish-pending.result (played ++ run.entries) ready.entries.items c.put.ensures.none ended;
    }

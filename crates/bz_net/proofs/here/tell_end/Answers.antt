use Rattle.bz_net.specs.Nodes.{heres_of}
use Rattle.bz_net.proofs.Nodes.{bits_read, heres_changed, comps_stay}
use Rattle.bz_net.proofs.Telling.{put_end}
use Rattle.bz_net.proofs.here.tell_end.Goals as goal

pub returns-in-Some : goal.returns-in-Some
returns-in-Some c =
    let nodes = c.args.nodes.now in let x = c.get_mut.result.now in let comp = c.in-Some.comp in let i = c.node_id.result in
    let at = c.node_id.ensures in let is = c.get_mut.ensures.value in
    record {
      put =
          rw (heres_changed nodes comp i x at is c.put.new.self)
          (put_end (heres_of nodes) c.args.end comp c.args.port c.args.bit x.here c.put.new.self c.in-Some.is c.requires (bits_read nodes comp i x at is) c.put.ensures.long c.put.ensures.here c.put.ensures.others);
      comps = comps_stay nodes comp i x at is c.put.new.self;
    }

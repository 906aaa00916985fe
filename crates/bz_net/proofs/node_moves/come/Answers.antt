use Rattle.std.proofs.Common.{◌↔◌, Bool, IsTrue, true, false, refl, subst}
use Rattle.bz_kinds.specs.Ready.{CanGo}
use Rattle.bz_net.specs.Nodes.{comps_of, heres_of}
use Rattle.bz_net.proofs.Nodes.{bits_read, heres_changed, comps_stay}
use Rattle.bz_net.proofs.Telling.{put_end}
use Rattle.bz_net.proofs.Moving.{comp_is, end_there, marked_due}
use Rattle.bz_net.proofs.node_moves.come.Goals as goal

pub returns-then-is_due : goal.returns-then-is_due
returns-then-is_due c =
    let nodes = c.args.nodes.now in let comp = c.in-Some.comp in let x = c.get_mut-node.result.now in let i = c.node_id.result in
    let at = c.node_id.ensures in let is = c.get_mut-node.ensures.value in
    let there = rw c.in-Some.is at (end_there nodes c.args.end c.args.port c.requires.bit) in
    record {
      came = record {
        put =
            rw (heres_changed nodes comp i x at is c.put.new.self)
            (put_end (heres_of nodes) c.args.end comp c.args.port true x.here c.put.new.self c.in-Some.is c.requires.bit (bits_read nodes comp i x at is) c.put.ensures.long c.put.ensures.here c.put.ensures.others);
        marked =
            rw c.in-Some.is
            (marked_due (comps_of nodes) c.args.ready.now c.insert.new.self comp c.args.port x.comp true
            (comp_is nodes comp i x there.0 there.1 at is)
            c.has_move-is_due.ensures.turns
            (subst (λ (b : Bool). IsTrue b ↔ CanGo x.comp.proc c.args.port true) c.if-is_due.true c.has_move-is_due.ensures.due)
            c.insert.ensures);
      };
      comps = comps_stay nodes comp i x at is c.put.new.self;
    }

pub returns-else-is_due : goal.returns-else-is_due
returns-else-is_due c =
    let nodes = c.args.nodes.now in let comp = c.in-Some.comp in let x = c.get_mut-node.result.now in let i = c.node_id.result in
    let at = c.node_id.ensures in let is = c.get_mut-node.ensures.value in
    let there = rw c.in-Some.is at (end_there nodes c.args.end c.args.port c.requires.bit) in
    record {
      came = record {
        put =
            rw (heres_changed nodes comp i x at is c.put.new.self)
            (put_end (heres_of nodes) c.args.end comp c.args.port true x.here c.put.new.self c.in-Some.is c.requires.bit (bits_read nodes comp i x at is) c.put.ensures.long c.put.ensures.here c.put.ensures.others);
        marked =
            rw c.in-Some.is
            (marked_due (comps_of nodes) c.args.ready.now c.args.ready.now comp c.args.port x.comp false
            (comp_is nodes comp i x there.0 there.1 at is)
            c.has_move-is_due.ensures.turns
            (subst (λ (b : Bool). IsTrue b ↔ CanGo x.comp.proc c.args.port true) c.if-is_due.false c.has_move-is_due.ensures.due)
            refl);
      };
      comps = comps_stay nodes comp i x at is c.put.new.self;
    }

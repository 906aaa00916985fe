use Rattle.std.proofs.Common.{Bool, map, subst}
use Rattle.bz_flat.specs.Flats.{site_of}
use Rattle.bz_net.specs.Told.{PutEnd, is_here}
use Rattle.std.proofs.Common.{true, false}
use Rattle.bz_net.proofs.Telling.{retold, still_bit}
use Rattle.bz_net.specs.Nodes.{heres_of}
use Rattle.bz_net.proofs.here.retell.Goals as goal

pub returns-clause-told : goal.returns-clause-told
returns-clause-told c =
    let first : PutEnd (heres_of c.args.nodes.now) (heres_of c.tell_end.new.nodes) c.args.ends.active c.args.ends.active_port (is_here c.args.phase false) =
    subst (λ (b : Bool). PutEnd (heres_of c.args.nodes.now) (heres_of c.tell_end.new.nodes) c.args.ends.active c.args.ends.active_port b) c.is_here.ensures c.tell_end.ensures.put in
    let second : PutEnd (heres_of c.tell_end.new.nodes) (heres_of c.tell_end-2.new.nodes) c.args.ends.passive c.args.ends.passive_port (is_here c.args.phase true) =
    subst (λ (b : Bool). PutEnd (heres_of c.tell_end.new.nodes) (heres_of c.tell_end-2.new.nodes) c.args.ends.passive c.args.ends.passive_port b) c.is_here-2.ensures c.tell_end-2.ensures.put in
    retold (map site_of c.args.sites.now) (heres_of c.args.nodes.now) (heres_of c.tell_end.new.nodes) (heres_of c.tell_end-2.new.nodes) c.args.chan c.args.ends c.args.phase c.requires.ends first second

pub tell_end-requires-2 : goal.tell_end-requires-2
tell_end-requires-2 c =
    let first : PutEnd (heres_of c.args.nodes.now) (heres_of c.tell_end.new.nodes) c.args.ends.active c.args.ends.active_port (is_here c.args.phase false) =
    subst (λ (b : Bool). PutEnd (heres_of c.args.nodes.now) (heres_of c.tell_end.new.nodes) c.args.ends.active c.args.ends.active_port b) c.is_here.ensures c.tell_end.ensures.put in
    still_bit (map site_of c.args.sites.now) (heres_of c.args.nodes.now) (heres_of c.tell_end.new.nodes) (heres_of c.tell_end.new.nodes) c.args.chan c.args.ends c.args.phase c.requires.ends c.args.ends.passive c.args.ends.passive_port first c.requires.passive

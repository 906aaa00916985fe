use Rattle.std.specs.Prelude.{not}
use Rattle.std.proofs.Common.{◌∙◌, suc, length, map, set, refl, sym, ap, subst, arith}
use Rattle.std.proofs.lemmas.List.{length-map}
use Rattle.bz_flat.specs.Flats.{site_of}
use Rattle.bz_flat.specs.Wires.{ends_in}
use Rattle.bz_kinds.specs.Riding.{held}
use Rattle.bz_net.specs.Nodes.{comp_of, comps_of, heres_of}
use Rattle.bz_net.specs.Sides.{answers}
use Rattle.bz_net.specs.Told.{Left, ToldOther}
use Rattle.bz_net.proofs.Hints as hints
use Rattle.bz_net.proofs.Hints.{next_read, told_read}
use Rattle.bz_net.proofs.LinkRows.{far_end, told_by_link}
use Rattle.bz_net.proofs.Nodes.{bits_read, comp_read, node_comps, node_heres}
use Rattle.bz_net.proofs.Telling.{has_bit, few_read, room_read}
use Rattle.bz_net.proofs.Moving.{bit_stays, bits_at, left_long, node_refreshed, node_turned, whole_by}
use Rattle.bz_net.proofs.node_moves.move_as.Goals as goal

pub make-carries-requires-clause-next : goal.make-carries-requires-clause-next
make-carries-requires-clause-next g c =
    let sites = map site_of c.args.sites.now in let nodes = c.args.nodes.now in let phases = c.args.phases.now in
    let steps = c.requires.steps in let above = steps.is_port.comp_from in let below = steps.is_port.comp_to in
    let x = c.get_mut-node.result.now in let i = c.node_id.result in let at = c.node_id.ensures in let is = c.get_mut-node.ensures.value in
    let x_is = comp_read nodes c.args.comp i x at is in let h_is = bits_read nodes c.args.comp i x at is in
    let p = c.args.port in let k = c.args.link.now.chan in
    next_read sites phases (comps_of nodes) (heres_of nodes) c.requires.sighted c.args.comp p k c.requires.turning steps c.requires.link.on g.M.NodeMove.MOVE c.requires.next x.comp x_is

pub make-carries-requires-clause-told : goal.make-carries-requires-clause-told
make-carries-requires-clause-told g c =
    let sites = map site_of c.args.sites.now in let nodes = c.args.nodes.now in let phases = c.args.phases.now in
    let steps = c.requires.steps in let above = steps.is_port.comp_from in let below = steps.is_port.comp_to in
    let x = c.get_mut-node.result.now in let i = c.node_id.result in let at = c.node_id.ensures in let is = c.get_mut-node.ensures.value in
    let x_is = comp_read nodes c.args.comp i x at is in let h_is = bits_read nodes c.args.comp i x at is in
    let p = c.args.port in let k = c.args.link.now.chan in
    told_read sites phases (comps_of nodes) (heres_of nodes) c.requires.sighted c.args.comp p k c.requires.turning steps c.requires.link.on g.M.NodeMove.MOVE c.requires.next x.here h_is

pub make-carries-requires-clause-bit : goal.make-carries-requires-clause-bit
make-carries-requires-clause-bit g c =
    let sites = map site_of c.args.sites.now in let nodes = c.args.nodes.now in let phases = c.args.phases.now in
    let steps = c.requires.steps in let above = steps.is_port.comp_from in let below = steps.is_port.comp_to in
    let x = c.get_mut-node.result.now in let i = c.node_id.result in let at = c.node_id.ensures in let is = c.get_mut-node.ensures.value in
    let x_is = comp_read nodes c.args.comp i x at is in let h_is = bits_read nodes c.args.comp i x at is in
    let p = c.args.port in let k = c.args.link.now.chan in
    let from = c.requires.placed.chan_from c.args.comp p steps.is_port in let to = c.requires.placed.chan_to c.args.comp p steps.is_port in
    let chan_is = c.requires.link.on in
    let last = steps.is_port.port_to in let nodes_len = length-map nodes comp_of in let len = c.requires.sighted.comps_len in
    let bits = bits_at nodes c.args.comp i x above (omega (arith, below, len, nodes_len)) at is in
    let words = ap length bits in let room = c.requires.sighted.room c.args.comp above below in omega (arith, last, room, words)

pub make-carries-requires-clause-room : goal.make-carries-requires-clause-room
make-carries-requires-clause-room g c =
    let sites = map site_of c.args.sites.now in let nodes = c.args.nodes.now in let phases = c.args.phases.now in
    let steps = c.requires.steps in let above = steps.is_port.comp_from in let below = steps.is_port.comp_to in
    let x = c.get_mut-node.result.now in let i = c.node_id.result in let at = c.node_id.ensures in let is = c.get_mut-node.ensures.value in
    let x_is = comp_read nodes c.args.comp i x at is in let h_is = bits_read nodes c.args.comp i x at is in
    let p = c.args.port in let k = c.args.link.now.chan in
    room_read sites phases (comps_of nodes) (heres_of nodes) c.requires.sighted c.args.comp above below x.comp x.here x_is h_is

pub make-carries-requires-clause-few : goal.make-carries-requires-clause-few
make-carries-requires-clause-few g c =
    let sites = map site_of c.args.sites.now in let nodes = c.args.nodes.now in let phases = c.args.phases.now in
    let steps = c.requires.steps in let above = steps.is_port.comp_from in let below = steps.is_port.comp_to in
    let x = c.get_mut-node.result.now in let i = c.node_id.result in let at = c.node_id.ensures in let is = c.get_mut-node.ensures.value in
    let x_is = comp_read nodes c.args.comp i x at is in let h_is = bits_read nodes c.args.comp i x at is in
    let p = c.args.port in let k = c.args.link.now.chan in
    few_read sites phases (comps_of nodes) (heres_of nodes) c.requires.sighted c.args.comp above below x.comp x.here x_is h_is

pub tell-requires-clause-bit : goal.tell-requires-clause-bit
tell-requires-clause-bit g c =
    let sites = map site_of c.args.sites.now in let nodes = c.args.nodes.now in let phases = c.args.phases.now in
    let steps = c.requires.steps in let above = steps.is_port.comp_from in let below = steps.is_port.comp_to in
    let x = c.get_mut-node.result.now in let i = c.node_id.result in let at = c.node_id.ensures in let is = c.get_mut-node.ensures.value in
    let x_is = comp_read nodes c.args.comp i x at is in let h_is = bits_read nodes c.args.comp i x at is in
    let p = c.args.port in let k = c.args.link.now.chan in
    let from = c.requires.placed.chan_from c.args.comp p steps.is_port in let to = c.requires.placed.chan_to c.args.comp p steps.is_port in
    let chan_is = c.requires.link.on in
    let last = steps.is_port.port_to in let nodes_len = length-map nodes comp_of in let len = c.requires.sighted.comps_len in
    let bits = bits_at nodes c.args.comp i x above (omega (arith, below, len, nodes_len)) at is in
    let y = c.make-carries.new.node in
    let heres_len = c.requires.sighted.heres_len in
    let side = hints.side sites phases (comps_of nodes) (heres_of nodes) c.requires.sighted c.args.comp p k c.requires.turning steps chan_is g.M.NodeMove.MOVE c.requires.next in
    let end = far_end sites c.args.ends.now c.args.comp p c.args.link.now c.requires.link g.M.NodeMove.MOVE side in
    rw (end.0, end.1) (bit_stays (heres_of nodes) (heres_of (set nodes i y)) c.args.comp y.here above (omega (arith, below, heres_len)) (node_heres nodes c.args.comp i x at is y) (left_long g.M.NodeMove.MOVE x.here y.here p c.make-carries.ensures.left ∙ ap length bits) _ _
    (has_bit sites phases (comps_of nodes) (heres_of nodes) k (ends_in c.args.ends.now k) c.requires.sighted (c.requires.are_ends k (omega (arith, chan_is, from))) (not (answers g.M.NodeMove.MOVE)) _ refl))

pub make-requires-clause-whole : goal.make-requires-clause-whole
make-requires-clause-whole g c =
    let sites = map site_of c.args.sites.now in let nodes = c.args.nodes.now in let phases = c.args.phases.now in
    let steps = c.requires.steps in let above = steps.is_port.comp_from in let below = steps.is_port.comp_to in
    let x = c.get_mut-node.result.now in let i = c.node_id.result in let at = c.node_id.ensures in let is = c.get_mut-node.ensures.value in
    let x_is = comp_read nodes c.args.comp i x at is in let h_is = bits_read nodes c.args.comp i x at is in
    let p = c.args.port in let k = c.args.link.now.chan in
    let from = c.requires.placed.chan_from c.args.comp p steps.is_port in let to = c.requires.placed.chan_to c.args.comp p steps.is_port in
    let chan_is = c.requires.link.on in
    let last = steps.is_port.port_to in let nodes_len = length-map nodes comp_of in let len = c.requires.sighted.comps_len in
    let bits = bits_at nodes c.args.comp i x above (omega (arith, below, len, nodes_len)) at is in
    let y = c.make-carries.new.node in
    rw c.MOVE.ensures (whole_by sites phases (comps_of nodes) (heres_of nodes) c.requires.sighted c.args.comp p k c.requires.turning steps chan_is g.M.NodeMove.MOVE (held c.make-carries.result.0 c.make-carries.new.value) x.comp y.comp x_is c.requires.next c.make-carries.ensures.turns)

pub returns-clause-told : goal.returns-clause-told
returns-clause-told g c =
    let sites = map site_of c.args.sites.now in let nodes = c.args.nodes.now in let phases = c.args.phases.now in
    let steps = c.requires.steps in let above = steps.is_port.comp_from in let below = steps.is_port.comp_to in
    let x = c.get_mut-node.result.now in let i = c.node_id.result in let at = c.node_id.ensures in let is = c.get_mut-node.ensures.value in
    let x_is = comp_read nodes c.args.comp i x at is in let h_is = bits_read nodes c.args.comp i x at is in
    let p = c.args.port in let k = c.args.link.now.chan in
    let from = c.requires.placed.chan_from c.args.comp p steps.is_port in let to = c.requires.placed.chan_to c.args.comp p steps.is_port in
    let chan_is = c.requires.link.on in
    let last = steps.is_port.port_to in let nodes_len = length-map nodes comp_of in let len = c.requires.sighted.comps_len in
    let bits = bits_at nodes c.args.comp i x above (omega (arith, below, len, nodes_len)) at is in
    let side = hints.side sites phases (comps_of nodes) (heres_of nodes) c.requires.sighted c.args.comp p k c.requires.turning steps chan_is g.M.NodeMove.MOVE c.requires.next in
    let y = c.make-carries.new.node in
    rw c.make.ensures (rw c.MOVE.ensures
    (node_turned sites phases (comps_of nodes) (comps_of c.tell.new.nodes) (heres_of nodes) (heres_of (set nodes i y)) (heres_of c.tell.new.nodes) c.args.comp p k g.M.NodeMove.MOVE (held c.make-carries.result.0 c.make-carries.new.value) x.comp y.comp (ends_in c.args.ends.now k) c.args.ready.now c.keep_marked.new.ready c.tell.new.ready y.here c.make-carries.result.1
    c.requires.sighted steps chan_is x_is (c.make-carries.ensures.moves _ c.requires.next c.requires.rides) c.make-carries.ensures.turns c.make-carries.ensures.one c.make-carries.ensures.chans
    (c.requires.are_ends k (omega (arith, chan_is, from))) (c.tell.ensures.comps ∙ node_comps nodes c.args.comp i x at is y) (node_heres nodes c.args.comp i x at is y) c.keep_marked.ensures
    (subst (λ l. Left g.M.NodeMove.MOVE l y.here p) bits c.make-carries.ensures.left)
    (subst (λ l. ToldOther l (heres_of (set nodes i y)) (heres_of c.tell.new.nodes) c.keep_marked.new.ready c.tell.new.ready (ends_in c.args.ends.now k) g.M.NodeMove.MOVE) (sym c.tell.ensures.comps) (told_by_link sites c.args.ends.now c.args.comp p c.args.link.now c.requires.link g.M.NodeMove.MOVE side _ _ _ _ _ c.tell.ensures.told))))

pub returns-clause-refreshed : goal.returns-clause-refreshed
returns-clause-refreshed g c =
    let sites = map site_of c.args.sites.now in let nodes = c.args.nodes.now in let phases = c.args.phases.now in
    let steps = c.requires.steps in let above = steps.is_port.comp_from in let below = steps.is_port.comp_to in
    let x = c.get_mut-node.result.now in let i = c.node_id.result in let at = c.node_id.ensures in let is = c.get_mut-node.ensures.value in
    let x_is = comp_read nodes c.args.comp i x at is in let h_is = bits_read nodes c.args.comp i x at is in
    let p = c.args.port in let k = c.args.link.now.chan in
    let from = c.requires.placed.chan_from c.args.comp p steps.is_port in let to = c.requires.placed.chan_to c.args.comp p steps.is_port in
    let chan_is = c.requires.link.on in
    let last = steps.is_port.port_to in let nodes_len = length-map nodes comp_of in let len = c.requires.sighted.comps_len in
    let bits = bits_at nodes c.args.comp i x above (omega (arith, below, len, nodes_len)) at is in
    let side = hints.side sites phases (comps_of nodes) (heres_of nodes) c.requires.sighted c.args.comp p k c.requires.turning steps chan_is g.M.NodeMove.MOVE c.requires.next in
    let y = c.make-carries.new.node in
    let turned = node_turned sites phases (comps_of nodes) (comps_of c.tell.new.nodes) (heres_of nodes) (heres_of (set nodes i y)) (heres_of c.tell.new.nodes) c.args.comp p k g.M.NodeMove.MOVE (held c.make-carries.result.0 c.make-carries.new.value) x.comp y.comp (ends_in c.args.ends.now k) c.args.ready.now c.keep_marked.new.ready c.tell.new.ready y.here c.make-carries.result.1
    c.requires.sighted steps chan_is x_is (c.make-carries.ensures.moves _ c.requires.next c.requires.rides) c.make-carries.ensures.turns c.make-carries.ensures.one c.make-carries.ensures.chans
    (c.requires.are_ends k (omega (arith, chan_is, from))) (c.tell.ensures.comps ∙ node_comps nodes c.args.comp i x at is y) (node_heres nodes c.args.comp i x at is y) c.keep_marked.ensures
    (subst (λ l. Left g.M.NodeMove.MOVE l y.here p) bits c.make-carries.ensures.left)
    (subst (λ l. ToldOther l (heres_of (set nodes i y)) (heres_of c.tell.new.nodes) c.keep_marked.new.ready c.tell.new.ready (ends_in c.args.ends.now k) g.M.NodeMove.MOVE) (sym c.tell.ensures.comps) (told_by_link sites c.args.ends.now c.args.comp p c.args.link.now c.requires.link g.M.NodeMove.MOVE side _ _ _ _ _ c.tell.ensures.told)) in
    rw c.make.ensures (rw c.MOVE.ensures
    (node_refreshed sites phases (comps_of nodes) (comps_of c.tell.new.nodes) (heres_of nodes) (heres_of (set nodes i y)) (heres_of c.tell.new.nodes) c.args.comp p k g.M.NodeMove.MOVE (held c.make-carries.result.0 c.make-carries.new.value) x.comp y.comp (ends_in c.args.ends.now k) c.args.ready.now c.keep_marked.new.ready c.tell.new.ready y.here c.make-carries.result.1
    c.requires.sighted steps chan_is x_is (c.make-carries.ensures.moves _ c.requires.next c.requires.rides) c.make-carries.ensures.turns c.make-carries.ensures.one c.make-carries.ensures.chans
    (c.requires.are_ends k (omega (arith, chan_is, from))) (c.tell.ensures.comps ∙ node_comps nodes c.args.comp i x at is y) (node_heres nodes c.args.comp i x at is y) c.keep_marked.ensures
    (subst (λ l. Left g.M.NodeMove.MOVE l y.here p) bits c.make-carries.ensures.left)
    (subst (λ l. ToldOther l (heres_of (set nodes i y)) (heres_of c.tell.new.nodes) c.keep_marked.new.ready c.tell.new.ready (ends_in c.args.ends.now k) g.M.NodeMove.MOVE) (sym c.tell.ensures.comps) (told_by_link sites c.args.ends.now c.args.comp p c.args.link.now c.requires.link g.M.NodeMove.MOVE side _ _ _ _ _ c.tell.ensures.told))
    (c.requires.stays _ _ _ k g.M.NodeMove.MOVE (held c.make-carries.result.0 c.make-carries.new.value) turned) (c.requires.row ∙ ap suc (sym (length-map c.args.sites.now site_of))) c.requires.exact c.make-carries.ensures.turning c.make-carries.ensures.goes))

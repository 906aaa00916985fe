use Rattle.std.proofs.Common.{◌≡◌, map, refl, sym, arith}
use Rattle.bz_flat.specs.Flats.{site_of}
use Rattle.bz_model.specs.Nets.{chan_at, passive_at}
use Rattle.bz_net.specs.Nodes.{comps_of, heres_of}
use Rattle.bz_net.proofs.Stepping.{step_next}
use Rattle.bz_net.proofs.foretelling.foretell.Goals as goal

pub link-requires : goal.link-requires
link-requires c =
    let at = c.in-Some.ensures.steps_at.is_port in
    (map site_of c.args.sites.now, c.args.ends.now, at, c.requires.links c.args.comp c.in-Some.port at)

pub returns-clause-foretold : goal.returns-clause-foretold
returns-clause-foretold c =
    let sites = map site_of c.args.sites.now in let phases = c.args.phases.now in let nodes = c.args.nodes.now in
    let comp = c.args.comp in let port = c.in-Some.port in let k = c.link.result.now.chan in
    let steps = c.in-Some.ensures.steps_at in
    let chan_is : k ≡ chan_at sites comp port = (c.link.ensures sites c.args.ends.now (c.requires.links comp port steps.is_port)).on in
    step_next sites phases (comps_of nodes) (heres_of nodes) c.requires.sighted comp port k (passive_at sites comp port) (record { is_port = steps.is_port; on = sym chan_is; sense = refl }) c.look_at.ensures c.next-mv.result
    steps (c.next-mv.ensures (c.requires.sighted.kept k))

pub overflow_sub-chan : goal.overflow_sub-chan
overflow_sub-chan c =
    let sites = map site_of c.args.sites.now in let comp = c.args.comp in let port = c.in-Some.port in
    let at = c.in-Some.ensures.steps_at.is_port in
    let chan_is : c.link.result.now.chan ≡ chan_at sites comp port = (c.link.ensures sites c.args.ends.now (c.requires.links comp port at)).on in
    omega (arith, chan_is, c.requires.placed.chan_from comp port at)

pub next-mv-requires : goal.next-mv-requires
next-mv-requires c =
    let sites = map site_of c.args.sites.now in let comp = c.args.comp in let port = c.in-Some.port in
    let at = c.in-Some.ensures.steps_at.is_port in
    let chan_is : c.link.result.now.chan ≡ chan_at sites comp port = (c.link.ensures sites c.args.ends.now (c.requires.links comp port at)).on in
    let from = c.requires.placed.chan_from comp port at in let to = c.requires.placed.chan_to comp port at in
    omega (arith, chan_is, from, to)

use Rattle.std.proofs.Common.{map, sym, ap, ◌∷◌, [], ◌∙◌, arith}
use Rattle.std.proofs.lemmas.List.{map-append}
use Rattle.bz_flat.specs.Flats.{site_of}
use Rattle.bz_net.proofs.Opening.{chans_here, row_here, site_here, start_comp, started_more}
use Rattle.bz_net.specs.Nodes.{comp_of, here_of, comps_of, heres_of}
use Rattle.bz_net.proofs.Cores.{blank_more}
use Rattle.bz_net.proofs.node.start_all.Goals as goal

pub start_one-requires-clause-chans : goal.start_one-requires-clause-chans
start_one-requires-clause-chans c k d to =
    chans_here c.args.chans.now c.args.sites.now c.loop-place.place c.get.result.now c.requires (omega (arith, c.loop-place-test.true)) (rw c.at.ensures at c.get.ensures) k d to

pub start_one-requires-clause-meets : goal.start_one-requires-clause-meets
start_one-requires-clause-meets c =
    row_here c.args.chans.now c.args.sites.now c.loop-place.place c.get.result.now c.requires (omega (arith, c.loop-place-test.true)) (rw c.at.ensures at c.get.ensures)

pub loop-place-preserved : goal.loop-place-preserved
loop-place-preserved c =
    let chans = c.args.chans.now in
    let sites = c.args.sites.now in
    let nodes = c.loop-place.nodes in
    let node = c.in_ok-node.node in
    let x = c.get.result.now in
    let here = site_here chans sites c.loop-place.place x c.requires (omega (arith, c.loop-place-test.true)) (rw c.at.ensures at c.get.ensures) in
    record {
      begun =
          rw (c.in-Ok-push.ensures, map-append comp_of nodes (node ∷ []))
          (started_more chans (map site_of sites) (comps_of nodes) c.loop-place.place node.comp c.loop-place.invariant.begun (c.in_ok-node.ensures.comp ∙ ap (start_comp chans) (sym here)));
      blank =
          rw (c.in-Ok-push.ensures, map-append here_of nodes (node ∷ []))
          (blank_more sites (heres_of nodes) c.loop-place.place x node.here c.loop-place.invariant.blank (omega (arith, c.loop-place-test.true)) (rw c.at.ensures at c.get.ensures) c.in_ok-node.ensures.words c.in_ok-node.ensures.none);
    }

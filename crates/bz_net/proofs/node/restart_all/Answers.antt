use Rattle.std.proofs.Common.{map, take, sym, ap, ◌∷◌, [], ◌∙◌, arith}
use Rattle.std.proofs.lemmas.List.{length-set, map-append, get_or-set_other, take_more_set}
use Rattle.bz_flat.specs.Flats.{site_of}
use Rattle.bz_net.proofs.Opening.{chans_here, row_here, site_here, start_comp, started_more}
use Rattle.bz_net.specs.Nodes.{comp_of, here_of, comps_of, heres_of}
use Rattle.bz_net.proofs.Cores.{blank_more, unmoved_here}
use Rattle.bz_net.proofs.node.restart_all.Goals as goal

pub restart_one-requires-clause-chans : goal.restart_one-requires-clause-chans
restart_one-requires-clause-chans c k d to =
    chans_here c.args.names.now.chans c.args.sites.now c.loop-place.place c.get-site.result.now c.requires.starts (omega (arith, c.loop-place-test.true)) (rw c.at.ensures at c.get-site.ensures) k d to

pub restart_one-requires-clause-meets : goal.restart_one-requires-clause-meets
restart_one-requires-clause-meets c =
    row_here c.args.names.now.chans c.args.sites.now c.loop-place.place c.get-site.result.now c.requires.starts (omega (arith, c.loop-place-test.true)) (rw c.at.ensures at c.get-site.ensures)

pub restart_one-requires-clause-unless : goal.restart_one-requires-clause-unless
restart_one-requires-clause-unless c unmoved =
    let i = c.loop-place.place in let y = c.get_mut-node.result.now in
    let lies = (rw c.at-in-loop-place.ensures at c.get_mut-node.ensures.value) ∙ c.loop-place.invariant.rest i y (omega arith) in
    unmoved_here c.args.names.now.chans c.args.sites.now i c.get-site.result.now c.requires.starts (omega (arith, c.loop-place-test.true)) (rw c.at.ensures at c.get-site.ensures)
    c.args.nodes.now c.args.moved.now y c.requires.unless c.requires.each lies unmoved

pub loop-place-preserved : goal.loop-place-preserved
loop-place-preserved c =
    let chans = c.args.names.now.chans in
    let sites = c.args.sites.now in
    let l = c.loop-place in
    let x = c.get-site.result.now in
    let node = c.restart_one.new.node in
    let each = l.invariant.each in
    let test = c.loop-place-test.true in
    let found = rw c.at.ensures at c.get-site.ensures in
    let more = take_more_set l.nodes l.place node (omega (arith, test, each)) in
    let here = site_here chans sites l.place x c.requires.starts (omega (arith, test)) found in
    rw c.at-in-loop-place.ensures (record {
      each = length-set l.nodes l.place node ∙ each;
      begun =
          rw (more, map-append comp_of (take l.place l.nodes) (node ∷ []))
          (started_more chans (map site_of sites) (comps_of (take l.place l.nodes)) l.place node.comp l.invariant.begun (c.in_ok-restart_one.ensures.comp ∙ ap (start_comp chans) (sym here)));
      blank =
          rw (more, map-append here_of (take l.place l.nodes) (node ∷ []))
          (blank_more sites (heres_of (take l.place l.nodes)) l.place x node.here l.invariant.blank (omega (arith, test)) found c.in_ok-restart_one.ensures.words c.in_ok-restart_one.ensures.none);
      rest = λ k y le. get_or-set_other l.nodes l.place k node y (λ e. omega (arith, le, e)) ∙ l.invariant.rest k y (omega (arith, le));
    })

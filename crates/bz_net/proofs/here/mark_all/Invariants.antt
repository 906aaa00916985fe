use Rattle.std.proofs.Common.{map}
use Rattle.bz_flat.specs.Flats.{site_of}
use Rattle.bz_net.specs.Keeping.{state_of, MarksAll}
use Rattle.bz_net.specs.Nodes.{comps_of}
use Rattle.bz_net.proofs.here.mark_all.Given as goal

abbrev pub invariant-loop-place : goal.invariant-loop-place
invariant-loop-place l = MarksAll (map site_of l.sites) (state_of l.phases (comps_of l.nodes)) l.ready l.place

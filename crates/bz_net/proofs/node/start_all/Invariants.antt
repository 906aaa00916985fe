use Rattle.std.proofs.Common.{map}
use Rattle.bz_flat.specs.Flats.{site_of}
use Rattle.bz_net.specs.Keeping.{Started}
use Rattle.bz_net.specs.Nodes.{comps_of, heres_of}
use Rattle.bz_net.specs.Told.{AreBlank}
use Rattle.bz_net.proofs.node.start_all.Given as goal

abbrev pub invariant-loop-place : goal.invariant-loop-place
invariant-loop-place l = record { begun : Started l.chans (map site_of l.sites) (comps_of l.nodes) l.place; blank : AreBlank (map site_of l.sites) (heres_of l.nodes) l.place }

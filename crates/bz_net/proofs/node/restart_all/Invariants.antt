use Rattle.std.proofs.Common.{◌≡◌, ◌≤◌, ℕ, get_or, length, map, take}
use Rattle.bz_flat.specs.Flats.{site_of}
use Rattle.bz_net.specs.Keeping.{Started}
use Rattle.bz_net.specs.Nodes.{comps_of, heres_of}
use Rattle.bz_net.specs.Told.{AreBlank}
use Rattle.bz_net.specs.declared.node.Node.{Node}
use Rattle.bz_net.proofs.node.restart_all.Given as goal

-- the nodes so far are as at the opening, and the others as they were
abbrev pub invariant-loop-place : goal.invariant-loop-place
invariant-loop-place l = record {
  each : length l.nodes ≡ length l.sites;
  begun : Started l.names.chans (map site_of l.sites) (comps_of (take l.place l.nodes)) l.place;
  blank : AreBlank (map site_of l.sites) (heres_of (take l.place l.nodes)) l.place;
  rest : (k : ℕ) (x : Node) → l.place ≤ k → get_or l.nodes k x ≡ get_or l.fn.nodes k x;
}

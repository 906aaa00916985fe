-- The components of a net, and the bits that each is told, as they lie in its row of nodes.
use Rattle.std.specs.Prelude.{ℕ, List, map}
use Rattle.bz_model.specs.Heads.{Component, Proc}
use Rattle.bz_net.specs.Keeping.{proc_of}
use Rattle.bz_net.specs.declared.node.Node.{Node}

abbrev pub comp_of : Node → Component
comp_of node = node.comp

abbrev pub here_of : Node → List ℕ
here_of node = node.here

abbrev pub comps_of : List Node → List Component
comps_of nodes = map comp_of nodes

abbrev pub procs_of : List Node → List Proc
procs_of nodes = map proc_of (comps_of nodes)

abbrev pub heres_of : List Node → List (List ℕ)
heres_of nodes = map here_of nodes

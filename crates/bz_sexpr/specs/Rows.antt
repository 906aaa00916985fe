-- Some of the nodes of a text, one behind the other.
use Rattle.std.specs.Prelude.{List, take, drop}
use Rattle.bz_sexpr.specs.declared.node.Node.{Node}
use Rattle.bz_sexpr.specs.declared.nodes.NodeRow.{NodeRow}

abbrev pub nodes_seen : NodeRow → List Node
nodes_seen r = take r.count (drop r.from r.nodes.now)

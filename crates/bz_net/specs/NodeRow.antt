-- What the nodes of a net end as, once a `&mut` into them has ended.
use Rattle.std.specs.Prelude.{ℕ, List, slice_set}
use Rattle.std.specs.Borrow.{Fml, MutBor, Lends}
use Rattle.bz_net.specs.declared.node.Node.{Node}
use Rattle.bz_net.specs.contracts.node.Node.{the_row as node_row}
use Rattle.bz_net.specs.contracts.node_row.NodeRow.{the_row}

-- once the borrow r ends, the node at i has the last value written through r
abbrev pub LendsNode : MutBor (List Node) → ℕ → MutBor Node → Fml
LendsNode nodes i r = Lends the_row node_row nodes r (slice_set nodes.now i)

-- What is drawn of a net: its channels, as edges from what stands at their active to what stands at their passive end.
use Rattle.std.specs.Prelude.{◌≡◌, ℕ, zero, suc, ◌<◌, ◌≤◌, Bool, true, false, not, Option, None, Some, List, [], ◌∷◌, ◌++◌, length, slice_index_or, is_none, if◌then◌else◌, ⊤}
use Rattle.std.specs.List.Sorted.{IsPermutation}
use Rattle.std.specs.List.{All, Contains}
use Rattle.bz_model.specs.Nets.{Wiring}
use Rattle.bz_model.specs.Hosts.{port_is_passive}
use Rattle.bz_flat.specs.Wires.{IsEnd}
use Rattle.bz_draw.specs.declared.drawing.Tip.{Tip}
use Rattle.bz_draw.specs.declared.drawing.Tip.TheVariants.{Port, Comp, Folded}
use Rattle.bz_draw.specs.declared.drawing.Edge.{Edge}

-- where port p of component c is drawn: at the component, or at the box that it is in
abbrev pub drawn_at : Option ℕ → ℕ → ℕ → Tip
drawn_at None c p = Comp c p
drawn_at (Some i) c p = Folded i

-- the box of component c, if it is in one
abbrev pub box_of : List (Option ℕ) → ℕ → Option ℕ
box_of boxes zero = None
box_of boxes (suc c) = slice_index_or boxes c None

-- What stands at the end of channel k of this sense, passive where `side` is true: a component, at one of its ports, or the
-- host, at an external port of the other sense.
pub data StandsAt (w : Wiring) (boxes : List (Option ℕ)) (k : ℕ) (side : Bool) (tip : Tip) : Type 0 where
  component : (c p : ℕ) → IsEnd w.sites k side c p → tip ≡ drawn_at (box_of boxes c) c p → StandsAt w boxes k side tip
  host : 0 < k → k ≤ length w.ports → port_is_passive w.ports k ≡ not side → tip ≡ Port k → StandsAt w boxes k side tip

-- a channel that is drawn: from its active to its passive end, which are not in one box
pub record IsEdge (w : Wiring) (boxes : List (Option ℕ)) (e : Edge) : Type 0 where
  pub from : StandsAt w boxes e.chan false e.from
  pub to : StandsAt w boxes e.chan true e.to
  pub apart : (i : ℕ) → e.from ≡ Folded i → e.to ≡ Folded i → ⊥

-- components 1 to n that are in no box
abbrev pub alone : List (Option ℕ) → ℕ → List ℕ
alone boxes zero = []
alone boxes (suc c) = if is_none (box_of boxes (suc c)) then alone boxes c ++ suc c ∷ [] else alone boxes c

-- of n components each has one node, unless it is in a box
abbrev pub AreNodes : List (Option ℕ) → ℕ → List ℕ → Type 0
AreNodes boxes n nodes = IsPermutation (alone boxes n) nodes

-- the channels' numbers rise from one edge to the next, and are above k
abbrev pub Rise : ℕ → List Edge → Type 0
Rise k [] = ⊤
Rise k (e ∷ es) = (k < e.chan) × Rise e.chan es

-- Each edge is a channel's, and each channel of which both ends are drawn, and not in one box, has one edge.
pub record AreEdges (w : Wiring) (boxes : List (Option ℕ)) (edges : List Edge) : Type 0 where
  pub each : All (IsEdge w boxes) edges
  pub all : (e : Edge) → IsEdge w boxes e → Contains edges e
  pub once : Rise 0 edges

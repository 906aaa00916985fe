-- The edges of a net, read from the table of its ends.
use Rattle.std.specs.Prelude.{ℕ, suc, Bool, true, false, ◌==◌, Option, None, Some, List, [], ◌∷◌, if◌then◌else◌}
use Rattle.std.specs.List.{cons_option}
use Rattle.bz_model.specs.Names.{External}
use Rattle.bz_flat.specs.declared.flat.Ends.{Ends}
use Rattle.bz_cli_source.specs.Listing.{host_holds}
use Rattle.bz_draw.specs.declared.drawing.Tip.{Tip}
use Rattle.bz_draw.specs.declared.drawing.Tip.TheVariants.{Port, Folded}
use Rattle.bz_draw.specs.declared.drawing.Edge.{Edge}
use Rattle.bz_draw.specs.Drawn.{drawn_at, box_of}

-- what stands at an end of channel k: this port of a component, or the host where it holds the end
abbrev pub tip_at : List (Option ℕ) → ℕ → Option ℕ → ℕ → Bool → Option Tip
tip_at boxes k (Some c) p host = Some (drawn_at (box_of boxes c) c p)
tip_at boxes k None p true = Some (Port k)
tip_at boxes k None p false = None

abbrev pub is_within : Tip → Tip → Bool
is_within (Folded i) (Folded j) = i == j
is_within a b = false

abbrev pub edge : ℕ → Tip → Tip → Edge
edge k a b = record { chan = k; from = a; to = b }

abbrev pub joined : ℕ → Option Tip → Option Tip → Option Edge
joined k (Some a) (Some b) = if is_within a b then None else Some (edge k a b)
joined k a b = None

abbrev pub edge_at : List External → List (Option ℕ) → ℕ → Ends → Option Edge
edge_at ports boxes k ends =
    joined k (tip_at boxes k ends.active ends.active_port (host_holds ports k false)) (tip_at boxes k ends.passive ends.passive_port (host_holds ports k true))

-- those of the channels from k on
abbrev pub edges_from : List External → List (Option ℕ) → ℕ → List Ends → List Edge
edges_from ports boxes k [] = []
edges_from ports boxes k (e ∷ es) = cons_option (edge_at ports boxes k e) (edges_from ports boxes (suc k) es)

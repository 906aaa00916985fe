-- The entries of a trace that are gathered.
use Rattle.std.proofs.Common.{◌≡◌, ◌⊎◌, ℕ, List, [], ◌∷◌, ◌++◌, map, Option, Some, None, inl, inr, sym, ap₂, ◌∙◌}
use Rattle.std.specs.Prelude.{unwrap_or}
use Rattle.std.specs.List.{AllByRecursion}
use Rattle.std.proofs.lemmas.List.{map-append}
use Rattle.bz_model.specs.declared.channel.Move.{Move}
use Rattle.bz_model.specs.declared.event.Entry.{Entry}
use Rattle.bz_model.specs.declared.event.Entry.TheVariants.{Fired}
use Rattle.bz_model.specs.declared.event.Who.{Who}
use Rattle.bz_model.specs.Entries.{told}
use Rattle.bz_model.specs.Nets.{Site}
use Rattle.bz_net.specs.Ends.{TellsPort}
use Rattle.bz_net.specs.Sides.{answers}
use Rattle.bz_trace.proofs.Along.{all_both}
use Rattle.bz_since.specs.Keeping.{IsAtPort}

-- the port that is found, or the one that an entry has where none is
pub at_port : (sites : List Site) (who : Who) (c p k : ℕ) (mv : Move) (value port : Option ℕ) → TellsPort sites k (answers mv) c port → IsAtPort sites (Fired who c (unwrap_or port p) k mv value)
at_port sites who c p k mv value None none = inl none
at_port sites who c p k mv value (Some q) end = inr end

-- one entry more
pub gathers_more : (sites : List Site) (past old : List Entry) (line made : Entry) → (map told old ≡ map told past) × AllByRecursion (IsAtPort sites) old → told made ≡ told line → IsAtPort sites made
    → (map told (old ++ made ∷ []) ≡ map told (past ++ line ∷ [])) × AllByRecursion (IsAtPort sites) (old ++ made ∷ [])
gathers_more sites past old line made had same at = (
  map-append told old (made ∷ []) ∙ ap₂ (λ xs x. xs ++ x ∷ []) had.0 same ∙ sym (map-append told past (line ∷ [])),
  all_both (IsAtPort sites) old (made ∷ []) had.1 (at, tt),
)

use Rattle.std.proofs.Common.{◌∙◌, sym}
use Rattle.std.proofs.lemmas.Bool.Decides.{Decides-eqb}
use Rattle.std.proofs.lemmas.Slice.Eq.{slice_eq-Decides}
use Rattle.bz_kinds.proofs.kept_lists.KeptSlots.is_same.Goals as goal

pub returns : goal.returns
returns c is = sym c.get.ensures ∙ (slice_eq-Decides Decides-eqb _ _ _ c.eq.ensures).0 is ∙ c.get-2.ensures

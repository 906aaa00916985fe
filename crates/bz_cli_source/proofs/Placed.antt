-- What was read of a net, with its places.
use Rattle.std.proofs.Common.{◌≡◌, ◌≢◌, ◌⊎◌, ℕ, Option, List, inl, inr, subst, sym}
use Rattle.std.specs.declared.alloc.Global.{Global}
use Rattle.std.specs.declared.vec.Vec.{Vec}
use Rattle.bz_model.specs.Nets.{Wiring}
use Rattle.bz_breeze_records.specs.declared.part.Part.{Part}
use Rattle.bz_flat.specs.Wires.{EndsOf, WellWired}
use Rattle.bz_flat.specs.declared.flat.Pieces.{Pieces}
use Rattle.bz_source.specs.declared.lines.PartLines.{PartLines}
use Rattle.bz_source.specs.declared.survey.Survey.{Survey}
use Rattle.bz_source.specs.declared.error.PlacesError.{PlacesError}
use Rattle.bz_source.specs.declared.error.PlacesError.TheVariants.{Memory}
use Rattle.bz_source.specs.Found.{Locates, Misses}
use Rattle.bz_source.specs.Net.{FindsNamed}
use Rattle.bz_source.proofs.Missing.{never_misses}
use Rattle.bz_cli_source.specs.Surveys.{IsPlaced, IsRead, IsSurvey, wiring_in}

module _ (text : List ℕ) (asked : Option (List ℕ)) (name : List ℕ) (w : Wiring) (listed : List Part) where
  -- what was read, with the places of the net
  pub surveyed : (lines : Vec PartLines Global) (s : Survey) → s.parts ≡ listed → s.lines ≡ lines → IsRead text asked name w listed lines.items → Locates listed name s.places → FindsNamed listed name s.places → IsSurvey text asked name w s
  surveyed lines s parts_are lines_are read places named = record {
    source = subst (λ p. IsRead text asked name w p s.lines.items) (sym parts_are) (subst (λ (l : Vec PartLines Global). IsRead text asked name w listed l.items) (sym lines_are) read);
    places = subst (λ p. Locates p name s.places) (sym parts_are) places;
    named = subst (λ p. FindsNamed p name s.places) (sym parts_are) named;
  }

  -- a net that was read has places
  pub no_miss : (lines : List PartLines) (e : PlacesError) → IsRead text asked name w listed lines → (e ≡ Memory) ⊎ Misses listed name e → e ≢ Memory → ⊥
  no_miss lines e read (inl wanting) some = some wanting
  no_miss lines e read (inr misses) some = never_misses listed name w e read.net misses

-- a net that was taken apart stands where its survey says
pub placed : (text : List ℕ) (asked : Option (List ℕ)) (name : List ℕ) (net : Pieces) (s : Survey) (w : Wiring) → w ≡ wiring_in net → IsSurvey text asked name w s → WellWired (wiring_in net) → EndsOf (wiring_in net) net.ends.items → IsPlaced text asked name net s
placed text asked name net s w same survey wired ends = record { survey = subst (λ v. IsSurvey text asked name v s) same survey; wired = wired; ends = ends }

-- Data read in turn, a step at a time.
use Rattle.std.proofs.Common.{◌≡◌, ℕ, List, [], ◌∷◌, ◌++◌, Result, Ok, Err, map, Some, refl, sym, ap, ◌∙◌}
use Rattle.bz_sexpr.specs.Data.{Datum, span_of}
use Rattle.bz_sexpr.specs.declared.datum.Span.{Span}
use Rattle.bz_sexpr.specs.Views.{list_of, data_of}
use Rattle.std.proofs.lemmas.Option.{IfSome_then}
use Rattle.std.proofs.lemmas.Simd.{map-map}
use Rattle.bz_breeze_records.specs.Records.{part_record}
use Rattle.bz_breeze_records.specs.declared.part.Part.{Part}
use Rattle.bz_breeze.specs.Turns.{in_turn, if_read}
use Rattle.bz_breeze.specs.Faults.{Fault, Tells, fault_of}
use Rattle.bz_breeze.specs.Parts.{part, part_items, part_names, listed_part, named_part}
use Rattle.bz_breeze.specs.declared.error.BreezeError.{BreezeError}

module _ {S E : Type 0} (step : S → Datum → Result S E) (s : S) (d : Datum) (ds all : List Datum) where
  -- a step that reads the first datum
  pub turn_more : (t : S) → d ∷ ds ≡ all → step s d ≡ Ok t → in_turn step s all ≡ in_turn step t ds
  turn_more t is h = ap (in_turn step s) (sym is) ∙ ap (λ r. if_read r (λ t. in_turn step t ds)) h

  -- a step that finds it at fault
  pub turn_fault : (e : E) → d ∷ ds ≡ all → step s d ≡ Err e → in_turn step s all ≡ Err e
  turn_fault e is h = ap (in_turn step s) (sym is) ∙ ap (λ r. if_read r (λ t. in_turn step t ds)) h

-- the data of a list, there and back
pub list_of-data_of : (ds : List Datum) → list_of (data_of ds) ≡ ds
list_of-data_of [] = refl
list_of-data_of (d ∷ ds) = ap (λ es. d ∷ es) (list_of-data_of ds)

-- what is told of a reading that is at fault is told of a reading whose fault that is
pub tells_of : {A B : Type 0} (r : Result A Fault) (s : Result B Fault) (e : BreezeError) → Tells r e → ((fault : Fault) → r ≡ Err fault → s ≡ Err fault) → Tells s e
tells_of r s e told same = IfSome_then (fault_of e) told same

-- what an item that is a part names, after these parts
pub part_of_item : (list : List Part) (names : List (List ℕ)) (span : Span) (d : Datum) (ds : List Datum)
    → names ≡ map (λ p. p.name.items) list → span ≡ span_of d → part_items d ≡ Some ds
    → part (map part_record list) d ≡ if_read (named_part names span ds) (λ p. Ok (map part_record list ++ p ∷ []))
part_of_item list names span d ds names_are span_is is =
    let before = map part_record list in
    let same : part_names before ≡ names = map-map (λ p. p.name) part_record list ∙ sym names_are in
    ap (listed_part before d) is ∙ ap (λ r. if_read r (λ p. Ok (before ++ p ∷ [])))
    (ap (λ ns. named_part ns (span_of d) ds) same ∙ ap (λ at. named_part names at ds) (sym span_is))

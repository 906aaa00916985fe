-- Going through the data of a list, up to the first fault.
use Rattle.std.specs.Prelude.{ℕ, List, [], ◌∷◌, ◌++◌, Option, Some, None, Result, Ok, Err}
use Rattle.bz_sexpr.specs.Data.{Datum, leaf, symbol, items, span_of}
use Rattle.bz_sexpr.specs.Views.{list_of}
use Rattle.bz_breeze.specs.declared.error.Code.{Code}

-- the data of a datum that is a list
abbrev pub inside : Datum → Option (List Datum)
inside (items ds span) = Some (list_of ds)
inside (leaf l span) = None

-- the symbol at the head of a list, and what follows it
abbrev pub head_and_rest : List Datum → Option (List ℕ × List Datum)
head_and_rest (leaf (symbol head) span ∷ rest) = Some (head, rest)
head_and_rest ds = None

-- the byte at which a datum begins
abbrev pub place_of : Datum → ℕ
place_of d = (span_of d).from

-- what comes of a record that was read, or the fault that came in its place
abbrev pub if_read : {A B E : Type 0} → Result A E → (A → Result B E) → Result B E
if_read (Ok x) f = f x
if_read (Err e) f = Err e

-- what comes of going from one datum to the next, up to the first fault
abbrev pub in_turn : {S E : Type 0} → (S → Datum → Result S E) → S → List Datum → Result S E
in_turn step s [] = Ok s
in_turn step s (d ∷ ds) = if_read (step s d) (λ t. in_turn step t ds)

-- the records before a datum, and then the one that it names
abbrev pub beside : {A E : Type 0} → (List A → Datum → Result A E) → List A → Datum → Result (List A) E
beside f before d = if_read (f before d) (λ x. Ok (before ++ x ∷ []))

-- what each datum names, beside what those before it name
abbrev pub each : {A E : Type 0} → (List A → Datum → Result A E) → List Datum → Result (List A) E
each f = in_turn (beside f) []

-- a fault and the byte at which it stands
pub record FaultAt : Type 0 where
  pub code : Code
  pub at : ℕ

abbrev pub at_byte : {A : Type 0} → ℕ → Result A Code → Result A FaultAt
at_byte at (Ok x) = Ok x
at_byte at (Err code) = Err (record { code = code; at = at })

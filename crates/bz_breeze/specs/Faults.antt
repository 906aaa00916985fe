-- What a refusal tells. A want of memory says nothing of the text.
use Rattle.std.specs.Prelude.{◌≡◌, ℕ, List, Option, Some, None, Result, Err, IfSome}
use Rattle.std.specs.Option.{option_map}
use Rattle.bz_breeze.specs.Turns.{FaultAt}
use Rattle.bz_breeze.specs.declared.error.Code.{Code}
use Rattle.bz_breeze.specs.declared.error.Code.TheVariants as code
use Rattle.bz_breeze.specs.declared.error.Refusal.{Refusal}
use Rattle.bz_breeze.specs.declared.error.Refusal.TheVariants.{At, NoMemory}
use Rattle.bz_breeze.specs.declared.error.ByteAt.{ByteAt}
use Rattle.bz_breeze.specs.declared.error.BreezeError.{BreezeError}
use Rattle.bz_breeze.specs.declared.error.BreezeError.TheVariants.{BadForm, DoublePart, ArrayedPort, Undeclared, TooWide, Memory}

-- it tells this fault
abbrev pub HasFault : {A : Type 0} → Result A FaultAt → Refusal → Type 0
HasFault read (At c at) = read ≡ Err (record { code = c; at = at })
HasFault read NoMemory = Unit {0}

-- a fault, the name of the part that it is in, where that has one, and the byte at which it stands
pub record Fault : Type 0 where
  pub code : Code
  pub part : Option (List ℕ)
  pub at : ℕ

abbrev pub fault_in : List ℕ → Refusal → Option Fault
fault_in name (At c at) = Some (record { code = c; part = Some name; at = at })
fault_in name NoMemory = None

abbrev pub fault_at : Code → ByteAt → Fault
fault_at c place = record { code = c; part = option_map (λ v. v.items) place.part; at = place.at }

abbrev pub fault_of : BreezeError → Option Fault
fault_of (BadForm place) = Some (fault_at code.BadForm place)
fault_of (DoublePart place) = Some (fault_at code.DoublePart place)
fault_of (ArrayedPort place) = Some (fault_at code.ArrayedPort place)
fault_of (Undeclared place) = Some (fault_at code.Undeclared place)
fault_of (TooWide place) = Some (fault_at code.TooWide place)
fault_of Memory = None

abbrev pub place_in : BreezeError → Option ByteAt
place_in (BadForm place) = Some place
place_in (DoublePart place) = Some place
place_in (ArrayedPort place) = Some place
place_in (Undeclared place) = Some place
place_in (TooWide place) = Some place
place_in Memory = None

abbrev pub Tells : {A : Type 0} → Result A Fault → BreezeError → Type 0
Tells read e = IfSome (fault_of e) (λ fault. read ≡ Err fault)

-- The kinds by their names.
use Rattle.std.proofs.Common.{◌≡◌, ◌≤◌, ℕ, true, cond, if◌then◌else◌, Option, None, Some, List, [], ◌∷◌, length, map, refl, ap, ap₂, ◌∙◌, arith}
use Rattle.std.specs.List.{find}
use Rattle.std.specs.Str.{bytes_eq}
use Rattle.std.proofs.lemmas.Slice.Eq.{bytes_eq-Decides}
use Rattle.bz_model.specs.Rows.{KindRow, rows, name_of}
use Rattle.bz_kind_rows.specs.Naming.{named}
use Rattle.bz_model.specs.declared.kind.KindName.{KindName}
use Rattle.bz_model.specs.declared.kind.KindName.TheVariants as name

-- of each kind: it is found by its name, its row is its own, and its name is short
abbrev Told : KindName → Type 0
Told kind = (named (name_of kind) ≡ Some kind) × ((rows kind).kind ≡ kind) × (length (name_of kind) ≤ 21)

told : (kind : KindName) → Told kind
told name.Loop = (refl, refl, omega arith)
told name.Sequence = (refl, refl, omega arith)
told name.SequenceOptimised = (refl, refl, omega arith)
told name.Concur = (refl, refl, omega arith)
told name.Fork = (refl, refl, omega arith)
told name.WireFork = (refl, refl, omega arith)
told name.ForkPush = (refl, refl, omega arith)
told name.While = (refl, refl, omega arith)
told name.Case = (refl, refl, omega arith)
told name.CaseFetch = (refl, refl, omega arith)
told name.Fetch = (refl, refl, omega arith)
told name.Variable = (refl, refl, omega arith)
told name.Constant = (refl, refl, omega arith)
told name.UnaryFunc = (refl, refl, omega arith)
told name.BinaryFunc = (refl, refl, omega arith)
told name.BinaryFuncConstR = (refl, refl, omega arith)
told name.Slice = (refl, refl, omega arith)
told name.Combine = (refl, refl, omega arith)
told name.CombineEqual = (refl, refl, omega arith)
told name.Adapt = (refl, refl, omega arith)
told name.Split = (refl, refl, omega arith)
told name.Halt = (refl, refl, omega arith)
told name.HaltPush = (refl, refl, omega arith)
told name.Continue = (refl, refl, omega arith)
told name.ContinuePush = (refl, refl, omega arith)
told name.Call = (refl, refl, omega arith)
told name.CallMux = (refl, refl, omega arith)
told name.CallDemux = (refl, refl, omega arith)
told name.Passivator = (refl, refl, omega arith)
told name.PassivatorPush = (refl, refl, omega arith)
told name.Synch = (refl, refl, omega arith)
told name.SynchPull = (refl, refl, omega arith)
told name.DecisionWait = (refl, refl, omega arith)
told name.Arbiter = (refl, refl, omega arith)
told name.FalseVariable = (refl, refl, omega arith)
told name.Bar = (refl, refl, omega arith)

pub short_name : (kind : KindName) → length (name_of kind) ≤ 21
short_name kind = (told kind).2

pub is_named : (text : List ℕ) (kind : KindName) → bytes_eq text (name_of kind) ≡ true → named text ≡ Some kind
is_named text kind e = ap named ((bytes_eq-Decides text (name_of kind)).0 e) ∙ (told kind).0

-- the kind of the first of these rows that has this name
abbrev pub found : List ℕ → List KindRow → Option KindName
found text [] = None
found text (row ∷ rows) = if bytes_eq text row.name then Some row.kind else found text rows

pub found_named : (names : List KindName) (text : List ℕ) → found text (map rows names) ≡ find (λ n. bytes_eq text (name_of n)) names
found_named [] text = refl
found_named (n ∷ names) text = ap₂ (cond (bytes_eq text (name_of n))) (ap Some (told n).1) (found_named names text)

-- The kind that a netlist names, with its parameters.
use Rattle.std.specs.Prelude.{if◌then◌else◌, ℕ, ◌&&◌, nat_le, Bool, true, false, bytes_eq, Option, Some, None, List, [], ◌∷◌, codes, find, map, filter_map, slice_get, Result, Ok, Err}
use Rattle.std.specs.Option.{option_map, option_and_then}
use Rattle.bz_model.specs.Limits.{max_width}
use Rattle.bz_model.specs.declared.operation.UnaryOp.{UnaryOp}
use Rattle.bz_model.specs.declared.operation.UnaryOp.TheVariants.{Negate, Invert}
use Rattle.bz_model.specs.declared.operation.BinaryOp.{BinaryOp}
use Rattle.bz_model.specs.declared.operation.BinaryOp.TheVariants.{Add, Subtract, ReverseSubtract, Equals, NotEquals, LessThan, GreaterThan, LessOrEquals, GreaterOrEquals, And, Or, Xor}
use Rattle.bz_model.specs.declared.kind.Kind.{Kind}
use Rattle.bz_model.specs.declared.kind.Kind.TheVariants.{Loop, Sequence, SequenceOptimised, Concur, Fork, WireFork, ForkPush, While, Case, CaseFetch, Fetch, Variable, Constant, UnaryFunc, BinaryFunc, BinaryFuncConstR, Slice, Combine, CombineEqual, Adapt, Split, Halt, HaltPush, Continue, ContinuePush, Call, CallMux, CallDemux, Passivator, PassivatorPush, Synch, SynchPull, DecisionWait, Arbiter, FalseVariable, Bar}
use Rattle.bz_model.specs.declared.kind_rules.ParamMeaning.{ParamMeaning}
use Rattle.bz_model.specs.declared.kind_rules.ParamMeaning.TheVariants.{Unary, Binary}
use Rattle.bz_model.specs.declared.kind.Param.{Param}
use Rattle.bz_model.specs.declared.kind.Param.TheVariants.{Num, Flag, Word}
use Rattle.bz_kind_rows.specs.Texts.{specification}
use Rattle.bz_model.specs.declared.kind.KindName.{KindName}
use Rattle.bz_model.specs.declared.kind.KindName.TheVariants as name
use Rattle.bz_model.specs.Rows.{all_names, name_of}
use Rattle.bz_model.specs.declared.error.KindError.{KindError}
use Rattle.bz_model.specs.declared.error.KindError.TheVariants.{UnknownComponent, BadParameter}

-- the kind of this name
abbrev pub named : List ℕ → Option KindName
named text = find (λ n. bytes_eq text (name_of n)) all_names

-- what stands beside a name in a table, where it stands first
abbrev pub meant : {A : Type 0} → List (List ℕ × A) → List ℕ → Option A
meant [] text = None
meant (row ∷ rows) text = if bytes_eq text row.0 then Some row.1 else meant rows text

-- the operations by name
abbrev pub unary_named : List ℕ → Option UnaryOp
unary_named text =
    if bytes_eq text (codes "Negate") then Some Negate
    else (if bytes_eq text (codes "Invert") then Some Invert
    else None)

abbrev pub binary_name : BinaryOp → List ℕ
binary_name Add = codes "Add"
binary_name Subtract = codes "Subtract"
binary_name ReverseSubtract = codes "ReverseSubtract"
binary_name Equals = codes "Equals"
binary_name NotEquals = codes "NotEquals"
binary_name LessThan = codes "LessThan"
binary_name GreaterThan = codes "GreaterThan"
binary_name LessOrEquals = codes "LessOrEquals"
binary_name GreaterOrEquals = codes "GreaterOrEquals"
binary_name And = codes "And"
binary_name Or = codes "Or"
binary_name Xor = codes "Xor"

abbrev pub binary_ops : List BinaryOp
binary_ops = Add ∷ Subtract ∷ ReverseSubtract ∷ Equals ∷ NotEquals ∷ LessThan ∷ GreaterThan ∷ LessOrEquals ∷ GreaterOrEquals ∷ And ∷ Or ∷ Xor ∷ []

abbrev pub binary_named : List ℕ → Option BinaryOp
binary_named text = find (λ op. bytes_eq text (binary_name op)) binary_ops

-- the names of the operations that a parameter may be
abbrev pub operation_names : ParamMeaning → List (List ℕ)
operation_names Unary = codes "Negate" ∷ codes "Invert" ∷ []
operation_names Binary = map binary_name binary_ops
operation_names meaning = []

-- Parameters go by their shape, each shape counted in its own order from 0.

abbrev pub number_of : Param → Option ℕ
number_of (Num n) = Some n
number_of param = None

abbrev pub flag_of : Param → Option Bool
flag_of (Flag b) = Some b
flag_of param = None

abbrev pub text_of : Param → Option (List ℕ)
text_of (Word text) = Some text.items
text_of param = None

abbrev pub number : List Param → ℕ → Option ℕ
number params i = slice_get (filter_map number_of params) i

abbrev pub text : List Param → ℕ → Option (List ℕ)
text params i = slice_get (filter_map text_of params) i

-- the last of them, or `found` where there is none
abbrev pub last_or : {A : Type 0} → Option A → List A → Option A
last_or found [] = found
last_or found (x ∷ xs) = last_or (Some x) xs

abbrev pub last_text : List Param → Option (List ℕ)
last_text params = last_or None (filter_map text_of params)

abbrev pub given_flag : List Param → ℕ → Option Bool
given_flag params i = slice_get (filter_map flag_of params) i

-- a truth value that is missing is false
abbrev pub is_set : Option Bool → Bool
is_set None = false
is_set (Some b) = b

abbrev pub flag : List Param → ℕ → Bool
flag params i = is_set (given_flag params i)

-- What the parameters make of a kind, `None` where it cannot have them.

-- a read specification, where there is one, must be empty
abbrev pub reads_whole : Option (List ℕ) → Bool
reads_whole None = true
reads_whole (Some []) = true
reads_whole (Some (b ∷ bs)) = false

abbrev pub variable_by : List Param → Option Kind
variable_by params = if reads_whole (text params 1) then Some Variable else None

abbrev pub false_variable_by : List Param → Option Kind
false_variable_by params = if reads_whole (last_text params) then Some FalseVariable else None

abbrev pub case_by : List Param → Option Kind
case_by params = option_map (λ spans. Case spans) (option_and_then specification (text params 0))

abbrev pub case_fetch_by : List Param → Option Kind
case_fetch_by params = option_map (λ spans. CaseFetch spans) (option_and_then specification (text params 0))

abbrev pub constant_by : List Param → Option Kind
constant_by params = option_map (λ value. Constant value) (number params 1)

abbrev pub unary_by : List Param → Option Kind
unary_by params = option_map (λ op. UnaryFunc op (flag params 0)) (option_and_then unary_named (text params 0))

abbrev pub binary_by : List Param → Option Kind
binary_by params = option_map (λ op. BinaryFunc op (flag params 1) (flag params 2)) (option_and_then binary_named (text params 0))

-- a width that an operand may have, and its value
abbrev pub given : Option ℕ → Option ℕ → Option (ℕ × ℕ)
given (Some width) (Some value) = if nat_le 1 width && nat_le width max_width then Some (width, value) else None
given width value = None

abbrev pub const_by : List Param → Option Kind
const_by params =
    option_and_then (λ op. option_map (λ right. BinaryFuncConstR op (flag params 1) (flag params 2) right.0 right.1) (given (number params 2) (number params 3)))
    (option_and_then binary_named (text params 0))

abbrev pub slice_by : List Param → Option Kind
slice_by params = option_map (λ low. Slice low) (number params 2)

-- parameters that are not named here are ignored
abbrev pub kind_by : KindName → List Param → Option Kind
kind_by name.Loop params = Some Loop
kind_by name.Sequence params = Some Sequence
kind_by name.SequenceOptimised params = Some SequenceOptimised
kind_by name.Concur params = Some Concur
kind_by name.Fork params = Some Fork
kind_by name.WireFork params = Some WireFork
kind_by name.ForkPush params = Some ForkPush
kind_by name.While params = Some While
kind_by name.Case params = case_by params
kind_by name.CaseFetch params = case_fetch_by params
kind_by name.Fetch params = Some Fetch
kind_by name.Variable params = variable_by params
kind_by name.Constant params = constant_by params
kind_by name.UnaryFunc params = unary_by params
kind_by name.BinaryFunc params = binary_by params
kind_by name.BinaryFuncConstR params = const_by params
kind_by name.Slice params = slice_by params
kind_by name.Combine params = Some Combine
kind_by name.CombineEqual params = Some CombineEqual
kind_by name.Adapt params = Some (Adapt (flag params 1))
kind_by name.Split params = Some Split
kind_by name.Halt params = Some Halt
kind_by name.HaltPush params = Some HaltPush
kind_by name.Continue params = Some Continue
kind_by name.ContinuePush params = Some ContinuePush
kind_by name.Call params = Some Call
kind_by name.CallMux params = Some CallMux
kind_by name.CallDemux params = Some CallDemux
kind_by name.Passivator params = Some Passivator
kind_by name.PassivatorPush params = Some PassivatorPush
kind_by name.Synch params = Some Synch
kind_by name.SynchPull params = Some SynchPull
kind_by name.DecisionWait params = Some DecisionWait
kind_by name.Arbiter params = Some Arbiter
kind_by name.FalseVariable params = false_variable_by params
kind_by name.Bar params = Some Bar

abbrev pub made : Option Kind → Result Kind KindError
made None = Err BadParameter
made (Some kind) = Ok kind

abbrev pub checked : Option KindName → List Param → Result Kind KindError
checked None params = Err UnknownComponent
checked (Some n) params = made (kind_by n params)

-- the kind of this name with these parameters, or why there is none
abbrev pub kind_with : List ℕ → List Param → Result Kind KindError
kind_with text params = checked (named text) params

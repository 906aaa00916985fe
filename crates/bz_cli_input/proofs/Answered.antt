-- What a command answers, from what was read and what was written.
use Rattle.std.proofs.Common.{◌≡◌, ◌≤◌, ℕ, Option, None, Some, Result, Ok, Err, List, length, inl, inr, ap, subst}
use Rattle.std.proofs.KnownBytes.{Keeps-refl}
use Rattle.std.specs.Prelude.{IfSome, IsErrAnd}
use Rattle.bz_cli_input.specs.declared.input.InputFault.{InputFault}
use Rattle.bz_cli_input.specs.declared.input.InputFault.TheVariants as input
use Rattle.bz_cli_input.specs.Answering.{Answers, AnswersInput}
use Rattle.bz_cli_input.specs.Limits.{input_limit}
use Rattle.bz_cli_input.specs.Statuses.{of_input}
use Rattle.bz_cli_input.specs.Stopping.{AppendsSome, IsOfInput}

pub whatever : (known : Option (List ℕ)) (P : List ℕ → Type 0) → ((text : List ℕ) → P text) → IfSome known P
whatever None P all = tt
whatever (Some text) P all = all text

pub is_of_input : (f : InputFault) → IsOfInput (of_input f)
is_of_input input.Read = tt
is_of_input input.Memory = tt

-- what the reader had is the text
pub taken : {A F : Type 0} (IsOf : F → Type 0) (Does : List ℕ → Type 0) (old new : Option (List ℕ)) (answer : Result A F) (known : Option (List ℕ)) (items : List ℕ) → IfSome known (λ xs. items ≡ xs) → length items ≤ input_limit → Does items
    → IfSome known (λ text. AnswersInput IsOf Does text old new answer)
taken IsOf Does old new answer None items whole fits does = tt
taken IsOf Does old new answer (Some xs) items whole fits does = inr (subst (λ text. (length text ≤ input_limit) × Does text) whole (fits, does))

module _ (A : Type 0) {F : Type 0} (IsOf : F → Type 0) (old known : Option (List ℕ)) (f : F) (is : IsOf f) where
  -- the reader doesn't give it
  pub not_taken : (Does : List ℕ → Type 0) → IfSome known (λ text. AnswersInput {A = A} IsOf Does text old old (Err f))
  not_taken Does = whatever known _ (λ text. inl (is, Keeps-refl old))

  -- one of two readers doesn't give it
  pub not_both : (had : Option (List ℕ)) (Does : List ℕ → List ℕ → Type 0) → IfSome known (λ netlist. IfSome had (λ text. AnswersInput {A = A} IsOf (λ n. Does n text) netlist old old (Err f)))
  not_both had Does = whatever known _ (λ netlist. whatever had _ (λ text. inl (is, Keeps-refl old)))

module _ {A F : Type 0} (write : F) (Texts : A → List ℕ → Type 0) (Causes : F → Type 0) (old new : Option (List ℕ)) where
  -- the writer failed
  pub cut_short : (r : Result A F) → IsErrAnd r (λ f. f ≡ write) → (a : A) (text : List ℕ) → Texts a text → AppendsSome old new text → Answers write Texts Causes old new r
  cut_short (Ok b) none a text is out = absurd none
  cut_short (Err f) failed a text is out = inr (failed, (a, text, is, out))

-- What is answered of a part of the work, as of the whole.
module _ {A B F G : Type 0} (lift : F → G) (write : F) (Texts : A → List ℕ → Type 0) (Causes : F → Type 0) (Others : B → List ℕ → Type 0) (Reasons : G → Type 0) (old new : Option (List ℕ)) where
  pub sent_as : (a : A) (b : B) → ((text : List ℕ) → Texts a text → Others b text) → Answers write Texts Causes old new (Ok a) → Answers (lift write) Others Reasons old new (Ok b)
  sent_as a b to (inl none) = absurd none
  sent_as a b to (inr (text, is, out)) = inr (text, to text is, out)

  pub failed_as : (f : F) (b : B) → ((a : A) (text : List ℕ) → Texts a text → Others b text) → (Causes f → Reasons (lift f)) → Answers write Texts Causes old new (Err f) → Answers (lift write) Others Reasons old new (Err (lift f))
  failed_as f b to why (inl (cause, kept)) = inl (why cause, kept)
  failed_as f b to why (inr (failed, (a, text, is, out))) = inr (ap lift failed, (b, text, to a text is, out))

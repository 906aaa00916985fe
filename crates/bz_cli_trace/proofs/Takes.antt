-- A netlist and a trace that were taken from their readers.
use Rattle.std.proofs.Common.{◌≡◌, ℕ, List, Option, Some, None, Result, Err, inl, inr, subst}
use Rattle.std.proofs.KnownBytes.{Keeps-refl}
use Rattle.std.specs.Prelude.{IfSome}
use Rattle.bz_cli_input.proofs.Answered.{whatever}
use Rattle.bz_cli_input.specs.Stopping.{IsOfInput}
use Rattle.bz_cli_input.specs.declared.fault.Fault.{Fault}
use Rattle.bz_cli_trace.specs.Taking.{AnswersText, AnswersTwo, AreOfText, AreOfTwo, AreTaken, OnTexts}
use Rattle.bz_cli_trace.specs.Texts.{TextPair}

module _ {A F : Type 0} (IsOf : F → Type 0) (Does : List ℕ → List ℕ → Type 0) (texts : TextPair) (old new : Option (List ℕ)) (answer : Result A F) where
  -- what the reader had is the text
  pub taken_text : (known : Option (List ℕ)) → IfSome known (λ text. AreOfText text texts) → Does texts.netlist texts.trace → IfSome known (λ text. AnswersText IsOf Does text old new answer)
  taken_text None are does = tt
  taken_text (Some text) are does = inr (are.fits, (texts.netlist, texts.trace, are.splits, does))

  -- the same of two readers
  pub taken_two : (known had : Option (List ℕ)) → IfSome known (λ netlist. IfSome had (λ text. AreOfTwo netlist text texts)) → Does texts.netlist texts.trace
      → IfSome known (λ netlist. IfSome had (λ text. AnswersTwo IsOf Does netlist text old new answer))
  taken_two None had are does = tt
  taken_two (Some netlist) None are does = tt
  taken_two (Some netlist) (Some text) are does =
      inr (are.fits, (are.short, subst (λ n. Does n text) are.netlist_is (subst (λ t. Does texts.netlist t) are.trace_is does)))

-- of either
pub taken_on : (Does : List ℕ → List ℕ → Type 0) (texts : TextPair) (old new : Option (List ℕ)) (result : Result ℕ Fault) (known : Option (List ℕ)) (trace : Option (Option (List ℕ))) → AreTaken known trace texts → Does texts.netlist texts.trace → OnTexts Does known trace old new result
taken_on Does texts old new result known None are does = taken_text IsOfInput Does texts old new result known are does
taken_on Does texts old new result known (Some had) are does = taken_two IsOfInput Does texts old new result known had are does

-- one of the readers doesn't give its text
pub not_taken_on : (Does : List ℕ → List ℕ → Type 0) (old : Option (List ℕ)) (known : Option (List ℕ)) (trace : Option (Option (List ℕ))) (f : Fault) → IsOfInput f → OnTexts Does known trace old old (Err f)
not_taken_on Does old known None f is = whatever known _ (λ text. inl (is, Keeps-refl old))
not_taken_on Does old known (Some had) f is = whatever known _ (λ netlist. whatever had _ (λ text. inl (is, Keeps-refl old)))

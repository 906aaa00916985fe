use Rattle.std.proofs.Common.{ℕ, List, Some, None, sym, ◌∙◌, ap, subst, arith}
use Rattle.std.proofs.lemmas.Str.Pattern.{split_parts}
use Rattle.bz_words.specs.Words.{IsName}
use Rattle.bz_words.proofs.Commands.{untaken_value, no_value, no_form, no_name_alone}
use Rattle.bz_words.proofs.words.host_command.Goals as goal
use Rattle.bz_words.proofs.words.host_command.Goals.{in-None, in-Some+else-not-takes_value+in-Some-value_of}

pub returns-then-not-takes_value-clause-none : goal.returns-then-not-takes_value-clause-none
returns-then-not-takes_value-clause-none c =
    let parts = split_parts 58 c.args.operands.now (Some (c.in-Some.form, c.in-Some.digits)) c.in-Some.ensures.cases (omega arith) in
    untaken_value c.args.operands.now _ _ c.args.verb parts.0 (sym c.if-not-takes_value.ensures)

pub returns-in_default-clause-none : goal.returns-in_default-clause-none
returns-in_default-clause-none c =
    let parts = split_parts 58 c.args.operands.now (Some (c.in-Some.form, c.in-Some.digits)) c.in-Some.ensures.cases (omega arith) in
    no_value c.args.operands.now _ _ c.args.verb parts.0 parts.1 c.in_default.ensures

pub returns-in_default-2-clause-none : goal.returns-in_default-2-clause-none
returns-in_default-2-clause-none c =
    let P : List ℕ → Type 0 = λ form. (name : List ℕ) → IsName form name → ⊥ in
    let none = rw c.in_default-2.is at c.in_ok-port.ensures.none in
    elim c.match-split_once.branch [
      | in-None w ↦
          let front = split_parts 58 c.args.operands.now None w.in-None.ensures.cases (omega arith) in
          no_name_alone c.args.operands.now c.args.verb front (subst P (c.as_bytes.ensures.value ∙ ap (λ v. v.0.now) w.value-is) none)
      | in-Some+else-not-takes_value+in-Some-value_of w ↦
          let parts = split_parts 58 c.args.operands.now (Some (w.in-Some.form, w.in-Some.digits)) w.in-Some.ensures.cases (omega arith) in
          no_form c.args.operands.now _ _ c.args.verb parts.0 parts.1 (subst P (c.as_bytes.ensures.value ∙ ap (λ v. v.0.now) w.value-is) none)
    ]

-- What the program does with a trace that is checked.
use Rattle.std.proofs.Common.{◌≡◌, ◌≢◌, ◌≤◌, ℕ, Bool, true, List, [], ◌∷◌, length, ap, arith, Option, Some, None, Result, Ok, Err, inl, inr, refl, sym, subst, if◌then◌else◌, ◌⊎◌}
use Rattle.std.proofs.KnownBytes.{Keeps-refl}
use Rattle.std.specs.Io.KnownBytes.{Keeps}
use Rattle.std.specs.Prelude.{IfErr, IfOk, IfSome}
use Rattle.bz_cli_input.specs.Answering.{AnswersInput}
use Rattle.bz_cli_input.specs.Limits.{input_limit}
use Rattle.bz_cli_input.specs.Opening.{RefusesNet}
use Rattle.bz_cli_input.specs.Stopping.{IsOfInput}
use Rattle.bz_cli_input.specs.declared.fault.Fault.{Fault}
use Rattle.bz_cli_input.proofs.Answered.{taken, whatever}
use Rattle.bz_cli_trace.specs.Judging.{IsCase, passes}
use Rattle.bz_cli_trace.specs.Taking.{OnTexts}
use Rattle.bz_cli_trace.specs.Telling.{SaysVerdict, TellsVerdict}
use Rattle.bz_cli_trace.specs.declared.case.Case.{Case}
use Rattle.bz_cli_trace.specs.declared.finding.Finding.{Finding}
use Rattle.bz_cli_trace.specs.declared.way.CheckWay.{CheckWay}
use Rattle.bz_cli_commands.specs.Endings.{ChecksOn, TellsCase}
use Rattle.bz_cli_commands.specs.Programs.{CheckBehind}

abbrev status_of : Case → ℕ
status_of case = if passes case then 0 else 1

-- what was found goes out
pub found_told : (case : Case) (found : Finding) (status : ℕ) (old new : Option (List ℕ)) (result : Result ℕ Fault) → found ≡ case.judged.found → status ≡ (if passes case then 0 else 1) → result ≡ Ok status → TellsVerdict {A = Unit {0}} [] found old new (Ok tt)
    → TellsCase (Ok case) old new result
found_told case found status old new result same is ends (inl none) = absurd none
found_told case found status old new result same is ends (inr (text, says, out)) =
    subst (TellsCase (Ok case) old new) (sym ends) (inr (text, (subst (λ f. SaysVerdict [] f text) same says, is), out))

-- or it doesn't
pub found_untold : (case : Case) (found : Finding) (fault : Fault) (old new : Option (List ℕ)) (result : Result ℕ Fault) → found ≡ case.judged.found → result ≡ Err fault → TellsVerdict {A = Unit {0}} [] found old new (Err fault) → TellsCase (Ok case) old new result
found_untold case found fault old new result same ends (inl (memory, kept)) = subst (TellsCase (Ok case) old new) (sym ends) (inl (memory, kept))
found_untold case found fault old new result same ends (inr (failed, (u, text, says, out))) =
    subst (TellsCase (Ok case) old new) (sym ends) (inr (failed, (status_of case, text, (subst (λ f. SaysVerdict [] f text) same says, refl), out)))

-- of a trace that was judged, or of the fault for which it wasn't
case_checked : (way : CheckWay) (netlist text : List ℕ) (part : Option (List ℕ)) (case : Case) (old new : Option (List ℕ)) (result : Result ℕ Fault) → IsCase way.to_first way.to_rest netlist text part case → TellsCase (Ok case) old new result
    → ChecksOn way netlist text part old new result
case_checked way netlist text part case old new (Ok status) is (inl none) = absurd none
case_checked way netlist text part case old new (Ok status) is (inr (sent, (says, ends), out)) = inr (inr (sent, (case, is, says, ends), out))
case_checked way netlist text part case old new (Err f) is (inl (memory, kept)) = inl (subst IsOfInput (sym memory) tt, kept)
case_checked way netlist text part case old new (Err f) is (inr (failed, (status, sent, (says, ends), out))) = inr (inr (failed, (status, sent, (case, is, says, ends), out)))

fault_checked : (way : CheckWay) (netlist text : List ℕ) (part : Option (List ℕ)) (f : Fault) (old new : Option (List ℕ)) → IsOfInput f ⊎ RefusesNet netlist part f → Keeps old new → ChecksOn way netlist text part old new (Err f)
fault_checked way netlist text part f old new (inl is) kept = inl (is, kept)
fault_checked way netlist text part f old new (inr refuses) kept = inr (inl (refuses, kept))

pub checked_on : (way : CheckWay) (netlist : List ℕ) (part had : Option (List ℕ)) (answer : Result Case Fault) (old new : Option (List ℕ)) (result : Result ℕ Fault)
    → IfOk answer (λ case. IfSome had (λ text. IsCase way.to_first way.to_rest netlist text part case)) → IfErr answer (λ f. IsOfInput f ⊎ RefusesNet netlist part f) → TellsCase answer old new result → IfSome had (λ text. ChecksOn way netlist text part old new result)
checked_on way netlist part None answer old new result is why tells = tt
checked_on way netlist part (Some text) (Ok case) old new result is why tells = case_checked way netlist text part case old new result is tells
checked_on way netlist part (Some text) (Err f) old new result is why tells =
    subst (ChecksOn way netlist text part old new) (sym tells.0) (fault_checked way netlist text part f old new why tells.1)

-- of a netlist that was taken, and of a trace that a reader of its own gives
pub apart_checked : (way : CheckWay) (part known had : Option (List ℕ)) (items : List ℕ) (old new : Option (List ℕ)) (result : Result ℕ Fault) → IfSome known (λ xs. items ≡ xs) → length items ≤ input_limit
    → IfSome had (λ text. ChecksOn way items text part old new result) → IfSome known (λ netlist. IfSome had (λ text. AnswersInput IsOfInput (λ n. ChecksOn way n text part old new result) netlist old new result))
apart_checked way part known None items old new result whole fits checks = whatever known _ (λ netlist. tt)
apart_checked way part known (Some text) items old new result whole fits checks = taken IsOfInput (λ n. ChecksOn way n text part old new result) old new result known items whole fits checks

checks_as : (way asked : CheckWay) (netlist text : List ℕ) (part old new : Option (List ℕ)) (result : Result ℕ Fault) → way.to_first ≡ asked.to_first → way.to_rest ≡ asked.to_rest → ChecksOn way netlist text part old new result → ChecksOn asked netlist text part old new result
checks_as way asked netlist text part old new result first rest checks =
    subst (λ f. ChecksOn (record asked { to_first = f }) netlist text part old new result) first
    (subst (λ r. ChecksOn (record asked { to_first = way.to_first; to_rest = r }) netlist text part old new result) rest checks)

behind_as : (is_file : Bool) (way asked : CheckWay) (netlist text : List ℕ) (part old new : Option (List ℕ)) (result : Result ℕ Fault) → way.to_first ≡ asked.to_first → way.to_rest ≡ asked.to_rest → CheckBehind is_file way netlist text part old new result
    → CheckBehind is_file asked netlist text part old new result
behind_as is_file way asked netlist text part old new result first rest (inl none) = inl none
behind_as is_file way asked netlist text part old new result first rest (inr (some, checks)) = inr (some, checks_as way asked netlist text part old new result first rest checks)

-- the same by what the command line asks of the trace
pub apart_as : (way asked : CheckWay) (part known had old new : Option (List ℕ)) (result : Result ℕ Fault) → way.to_first ≡ asked.to_first → way.to_rest ≡ asked.to_rest
    → IfSome known (λ netlist. IfSome had (λ text. AnswersInput IsOfInput (λ n. ChecksOn way n text part old new result) netlist old new result))
    → IfSome known (λ netlist. IfSome had (λ text. AnswersInput IsOfInput (λ n. ChecksOn asked n text part old new result) netlist old new result))
apart_as way asked part None had old new result first rest answers = tt
apart_as way asked part (Some netlist) None old new result first rest answers = tt
apart_as way asked part (Some netlist) (Some text) old new result first rest (inl none) = inl none
apart_as way asked part (Some netlist) (Some text) old new result first rest (inr (fits, checks)) = inr (fits, checks_as way asked netlist text part old new result first rest checks)

pub after_as : (is_file : Bool) (way asked : CheckWay) (part known old new : Option (List ℕ)) (result : Result ℕ Fault) → way.to_first ≡ asked.to_first → way.to_rest ≡ asked.to_rest
    → OnTexts (λ netlist trace. CheckBehind is_file way netlist trace part old new result) known None old new result → OnTexts (λ netlist trace. CheckBehind is_file asked netlist trace part old new result) known None old new result
after_as is_file way asked part None old new result first rest answers = tt
after_as is_file way asked part (Some text) old new result first rest (inl none) = inl none
after_as is_file way asked part (Some text) old new result first rest (inr (fits, (netlist, trace, splits, checks))) =
    inr (fits, (netlist, trace, splits, behind_as is_file way asked netlist trace part old new result first rest checks))

-- no trace, after the netlist of a file; or there is one, or the netlist is not that of a file
none_long : (trace : List ℕ) → length trace ≡ 0 → trace ≡ []
none_long [] empty = refl
none_long (b ∷ trace) empty = absurd (omega (arith, empty))

pub trace_missed : (is_file : Bool) (way : CheckWay) (netlist trace : List ℕ) (part old : Option (List ℕ)) (result : Result ℕ Fault) → is_file ≡ true → length trace ≡ 0 → result ≡ Ok 2 → CheckBehind is_file way netlist trace part old old result
trace_missed is_file way netlist trace part old result so empty is = inl (so, none_long trace empty, (is, Keeps-refl old))

pub trace_there : (is_file : Bool) (way : CheckWay) (netlist trace : List ℕ) (part old new : Option (List ℕ)) (result : Result ℕ Fault) → (is_file ≡ true → length trace ≢ 0) → ChecksOn way netlist trace part old new result → CheckBehind is_file way netlist trace part old new result
trace_there is_file way netlist trace part old new result some checks = inr (λ so empty. some so (ap length empty), checks)

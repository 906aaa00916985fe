-- What was told of one trace, and why something was not.
use Rattle.std.specs.Bool.{⊤}
use Rattle.std.proofs.Common.{◌≡◌, ◌≢◌, ◌⊎◌, ℕ, Bool, true, false, if◌then◌else◌, List, ◌++◌, Option, None, Result, Ok, Err, inl, inr, refl, sym, ap, subst, ◌∙◌}
use Rattle.std.specs.Prelude.{IfOk, IfErr, IfSome, OnOk}
use Rattle.std.proofs.KnownBytes.{Keeps-refl}
use Rattle.std.specs.Io.KnownBytes.{Appends, Keeps}
use Rattle.bz_trace.specs.declared.checking.Verdict.{Verdict}
use Rattle.bz_trace.specs.declared.checking.Verdict.TheVariants as verdict
use Rattle.bz_cli_input.specs.Stopping.{AppendsSome, IsOfInput}
use Rattle.bz_cli_input.specs.declared.fault.Fault.{Fault}
use Rattle.bz_cli_input.specs.declared.fault.Fault.TheVariants as fault
use Rattle.bz_model.specs.Nets.{Wiring}
use Rattle.bz_cli_trace.specs.Judging.{IsFound, is_run}
use Rattle.bz_cli_trace.specs.Telling.{SaysVerdict, TellsVerdict, verdict_text}
use Rattle.bz_cli_trace.specs.declared.finding.Finding.{Finding}
use Rattle.bz_cli_trace.specs.declared.judged.Judged.{Judged}
use Rattle.bz_cli_several.specs.declared.held.Held.{Held}
use Rattle.bz_cli_several.specs.declared.judging.Fate.{Fate}
use Rattle.bz_cli_several.specs.declared.judging.Fate.TheVariants.{Failed, Passed, Unread}
use Rattle.bz_cli_several.specs.Each.{ChecksOne, IsUnread, TellsOne}
use Rattle.bz_cli_several.specs.Fates.{fate_of, front_text, unread_text}
use Rattle.bz_cli_several.specs.Holding.{Asked, Holds, IsCause, IsJudgedOf, IsOf, StopsJudging}
use Rattle.bz_cli_several.specs.Sending.{IsLate, SendsText}

pub run_is : (v : Verdict) → is_run v ≡ true → v ≡ verdict.Run
run_is verdict.Run is = refl
run_is (verdict.Not line) is = cc
run_is (verdict.Bad line) is = cc
run_is verdict.Memory is = cc

pub no_run_is : (v : Verdict) → is_run v ≡ false → v ≢ verdict.Run
no_run_is v none run =
    let e : true ≡ false = sym (ap is_run run) ∙ none in cc

-- the line of a verdict went out
pub verdict_sent : {A : Type 0} (front : List ℕ) (found : Finding) (old new : Option (List ℕ)) (a : A) → TellsVerdict {A = A} front found old new (Ok a) → Appends old new (front ++ verdict_text found)
verdict_sent front found old new a (inl none) = absurd none
verdict_sent front found old new a (inr (line, says, sent)) = subst (λ (l : List ℕ). Appends old new l) says.1 sent

-- or a front of it
pub verdict_cut : {A : Type 0} (front : List ℕ) (found : Finding) (old new : Option (List ℕ)) (f : Fault) → TellsVerdict {A = A} front found old new (Err f) → Keeps old new ⊎ ((line : List ℕ) × SaysVerdict front found line × AppendsSome old new line)
verdict_cut front found old new f (inl (memory, kept)) = inl kept
verdict_cut front found old new f (inr (write, (a, line, says, some))) = inr (line, says, some)

-- the same with another value
pub verdict_failed : {A B : Type 0} (b : B) (front : List ℕ) (found : Finding) (old new : Option (List ℕ)) (f : Fault) → TellsVerdict {A = A} front found old new (Err f) → TellsVerdict {A = B} front found old new (Err f)
verdict_failed b front found old new f (inl (memory, kept)) = inl (memory, kept)
verdict_failed b front found old new f (inr (write, (a, line, says, some))) = inr (write, (b, line, says, some))

-- nothing more went out
pub verdict_told : {A B : Type 0} (b : B) (front : List ℕ) (found : Finding) (old mid new : Option (List ℕ)) (a : A) → TellsVerdict {A = A} front found old mid (Ok a) → (found.verdict ≢ verdict.Memory → new ≡ mid) → TellsVerdict {A = B} front found old new (Ok b)
verdict_told b front found old mid new a (inl none) left = absurd none
verdict_told b front found old mid new a (inr (line, says, sent)) left = inr (line, says, subst (λ (n : Option (List ℕ)). Appends old n line) (sym (left says.0)) sent)

module _ (asked : Asked) where
  pub holds_none : (held : Held) → held.net ≡ None → Holds asked held
  holds_none held none = rw none (tt)

  pub late_cause : (f : Fault) → IsLate f → IsCause asked f
  late_cause fault.Memory late = inr tt
  late_cause fault.Write late = inl refl
  late_cause fault.Read late = absurd late
  late_cause fault.NoThread late = absurd late
  late_cause (fault.Word n) late = absurd late
  late_cause (fault.Text e) late = absurd late
  late_cause (fault.Part e) late = absurd late
  late_cause (fault.Top names) late = absurd late
  late_cause (fault.Net e part) late = absurd late
  late_cause (fault.Event e word) late = absurd late
  late_cause (fault.Ended e who) late = absurd late
  late_cause (fault.Discord who at) late = absurd late

  -- no fault of a reader
  pub input_cause : (f : Fault) → IsOfInput f → f ≢ fault.Read → IsCause asked f
  input_cause fault.Memory is other = inr tt
  input_cause fault.Read is other = absurd (other refl)
  input_cause fault.Write is other = absurd is
  input_cause fault.NoThread is other = absurd is
  input_cause (fault.Word n) is other = absurd is
  input_cause (fault.Text e) is other = absurd is
  input_cause (fault.Part e) is other = absurd is
  input_cause (fault.Top names) is other = absurd is
  input_cause (fault.Net e part) is other = absurd is
  input_cause (fault.Event e word) is other = absurd is
  input_cause (fault.Ended e who) is other = absurd is
  input_cause (fault.Discord who at) is other = absurd is

  judging_cause : (f : Fault) → StopsJudging asked f → f ≢ fault.Read → IsCause asked f
  judging_cause f (inl is) other = input_cause f is other
  judging_cause f (inr refuses) other = inr refuses

  -- a trace was judged on a net of the netlist
  pub judged_of : (text : Option (List ℕ)) (w : Wiring) (judged : Judged) → judged.net.wiring ≡ w → IsOf asked w → IfSome text (λ t. IsFound asked.to_first asked.to_rest w t judged) → IsJudgedOf asked text judged
  judged_of text w judged is of found = subst (λ (v : Wiring). IsOf asked v × IfSome text (λ t. IsFound asked.to_first asked.to_rest v t judged)) (sym is) (of, found)

  -- nothing was told
  pub stops_one : (text : Option (List ℕ)) (name : List ℕ) (json : Bool) (old : Option (List ℕ)) (f : Fault) → StopsJudging asked f → f ≢ fault.Read → ChecksOne asked text name json old old (Err f)
  stops_one text name json old f stops other = (judging_cause f stops other, λ plain. inl (Keeps-refl old))

  -- it was told that the trace can't be read
  pub unread_one : (text : Option (List ℕ)) (name : List ℕ) (json : Bool) (old new : Option (List ℕ)) (told : Result ⊤ Fault) (result : Result Fate Fault) → IsUnread told result → (json ≡ false → SendsText (unread_text name) old new told) → IfErr told IsLate
      → ChecksOne asked text name json old new result
  unread_one text name json old new (Ok u) result is sends late = subst (λ r. ChecksOne asked text name json old new r) (sym is) (unread_text name, refl, sends)
  unread_one text name json old new (Err f) result is sends late =
      subst (λ r. ChecksOne asked text name json old new r) (sym is) (late_cause f late, λ plain. inr (Unread, unread_text name, refl, (sends plain).1))

  never_unread : (b : Bool) → Unread ≡ (if b then Passed else Failed) → ⊥
  never_unread true is = cc
  never_unread false is = cc

  one_told : (text : Option (List ℕ)) (name : List ℕ) (judged : Judged) (fate : Fate) (line : List ℕ) → IsJudgedOf asked text judged → fate ≡ fate_of judged.found → SaysVerdict (front_text name) judged.found line → TellsOne asked text name fate line
  one_told text name judged Passed line is fates says = (judged, is, fates, says)
  one_told text name judged Failed line is fates says = (judged, is, fates, says)
  one_told text name judged Unread line is fates says = absurd (never_unread _ fates)

  -- its verdict was told
  pub judged_one : (text : Option (List ℕ)) (name : List ℕ) (json : Bool) (old new : Option (List ℕ)) (judged : Judged) (result : Result Fate Fault) → IsJudgedOf asked text judged → IfOk result (λ fate. fate ≡ fate_of judged.found)
      → OnOk result (judged.found.verdict ≢ verdict.Memory) → (json ≡ false → TellsVerdict (front_text name) judged.found old new result) → IfErr result IsLate → ChecksOne asked text name json old new result
  judged_one text name json old new judged (Ok fate) is fates told tells late = (
    front_text name ++ verdict_text judged.found,
    one_told text name judged fate _ is fates (told, refl),
    λ plain. verdict_sent (front_text name) judged.found old new fate (tells plain),
  )
  judged_one text name json old new judged (Err f) is fates told tells late = (
    late_cause f late,
    λ plain. elim (verdict_cut (front_text name) judged.found old new f (tells plain)) [
      | inl kept ↦ inl kept
      | inr (line, says, some) ↦ inr (fate_of judged.found, line, one_told text name judged (fate_of judged.found) line is refl says, some)
    ],
  )

-- What ports that meet leave due.
use Rattle.std.proofs.Common.{◌≡◌, ◌≢◌, ◌∙◌, ◌<◌, ◌+◌, inl, inr, ℕ, zero, suc, true, false, Bool, List, length, Some, get_or, set, ap, arith}
use Rattle.std.specs.Prelude.{if◌then◌else◌}
use Rattle.std.proofs.lemmas.Bool.{cases_lt, lt-ltb, le-ltb}
use Rattle.std.proofs.lemmas.List.{get_or-set_same, get_or-set_other, get_or_past}
use Rattle.bz_model.specs.Processes.{behind}
use Rattle.bz_kinds.specs.Meeting.{IsCalling, IsPlace, count_by_leg}
use Rattle.bz_kinds.specs.Onward.{OneWaits, SomeSure, is_sure}
use Rattle.bz_kinds.specs.Ports.{is_due}
use Rattle.bz_kinds.specs.Sense.{sense}
use Rattle.bz_kinds.specs.Sense as senses
use Rattle.bz_kinds.specs.declared.ports.PortState.{PortState}
use Rattle.bz_kinds.specs.declared.ports.PortState.TheVariants.{Closed, ClosedDue, OpenDue}
use Rattle.bz_kinds.specs.declared.row.Meet.{Meet}
use Rattle.bz_kinds.specs.declared.row.Plan.TheVariants.{Meeting}

module _ (meet : Meet) (n moved : ℕ) (w : List PortState) where
  -- the port behind is due to be called while it is called
  calling : IsPlace meet n moved w → get_or w (behind n) Closed ≡ ClosedDue → IsCalling meet n moved w
  calling ok due = elim ok.stage [ inl x ↦ absurd (let q = x.quiet in cc) | inr (inl x) ↦ x | inr (inr x) ↦ absurd (let q = x.quiet in cc) ]

  pub asked-waits : IsPlace meet n moved w → get_or w (behind n) Closed ≡ ClosedDue → OneWaits (sense (Meeting meet) n) (set w (behind n) OpenDue) (behind n)
  asked-waits ok due =
      let calls = calling ok due in
      let active : sense (Meeting meet) n (behind n) ≡ Some false = ap (λ (b : Bool). if b then Some true else senses.behind meet.leg) (le-ltb n n (omega arith)) ∙ ap senses.behind calls.has_leg in
      let long : length w ≡ suc (n + 1) = ok.long ∙ ap (λ o. suc (n + count_by_leg o)) calls.has_leg in
      record {
        waits = ap (λ o. is_sure o (get_or (set w (behind n) OpenDue) (behind n) Closed)) active ∙ ap (is_sure (Some false)) (get_or-set_same w (behind n) OpenDue Closed (omega (arith, long)));
        alone = λ q ne. ap is_due (get_or-set_other w (behind n) q OpenDue Closed ne) ∙ quiet calls long q ne;
      }
    where
      quiet : IsCalling meet n moved w → length w ≡ suc (n + 1) → (q : ℕ) → q ≢ behind n → is_due (get_or w q Closed) ≡ false
      quiet calls long zero ne = ap is_due ok.none
      quiet calls long (suc i) ne = elim (cases_lt i n) [
        | inl lt ↦ ap is_due (calls.states i lt)
        | inr ge ↦ ap is_due (get_or_past w (suc i) Closed (omega (arith, ge, ne, long)))
      ]

  -- with the answer all are to reply, the first one too
  pub got-sure : (p : ℕ) → IsPlace meet n moved w → 1 < p → (u : List PortState) → get_or u 1 Closed ≡ OpenDue → SomeSure (sense (Meeting meet) n) (set u p Closed)
  got-sure p ok past u due =
      let passive : sense (Meeting meet) n 1 ≡ Some true = ap (λ (b : Bool). if b then Some true else senses.behind meet.leg) (lt-ltb 0 n (let some = ok.some in omega (arith, some))) in
      let apart : 1 ≢ p = omega (arith, past) in
      (1, ap (λ o. is_sure o (get_or (set u p Closed) 1 Closed)) passive ∙ ap (is_sure (Some true)) (get_or-set_other u p 1 Closed Closed apart ∙ due))

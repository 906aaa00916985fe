-- What a choice leaves due.
use Rattle.std.proofs.Common.{◌≡◌, ◌∙◌, ◌<◌, inl, inr, ℕ, suc, true, false, List, length, Some, get_or, set, ap, arith}
use Rattle.std.specs.Prelude.{not}
use Rattle.std.proofs.Math.ListN.{length-set}
use Rattle.std.proofs.lemmas.Bool.{cases_eq, lt-ltb, le-ltb}
use Rattle.std.proofs.lemmas.List.{get_or-set_same, get_or-set_other}
use Rattle.bz_kinds.specs.Choice.{IsPlace, out}
use Rattle.bz_kinds.specs.Onward.{OneWaits, SomeSure, is_sure}
use Rattle.bz_kinds.specs.Ports.{is_due}
use Rattle.bz_kinds.specs.Sense.{sense}
use Rattle.bz_kinds.specs.declared.ports.PortState.{PortState}
use Rattle.bz_kinds.specs.declared.ports.PortState.TheVariants.{Closed, ClosedDue, Open, OpenDue}
use Rattle.bz_kinds.specs.declared.row.Mix.{Mix}
use Rattle.bz_kinds.specs.declared.row.Plan.TheVariants.{Choice}
use Rattle.bz_kinds.proofs.ChoiceLaws.{out-past, out-within}

module _ (mix : Mix) (n i : ℕ) where
  active : sense (Choice mix) n (out mix n i) ≡ Some false
  active = ap (λ b. Some (not b)) (lt-ltb n (out mix n i) (out-past mix n i))

  passive : i < n → sense (Choice mix) n (suc i) ≡ Some true
  passive lt = ap (λ b. Some (not b)) (le-ltb n (suc i) (omega (arith, lt)))

  -- a branch that is taken calls
  pub calls-sure : (p : ℕ) (w u : List PortState) → IsPlace mix n 0 w → i < n → length u ≡ length w → SomeSure (sense (Choice mix) n) (set (set u p Open) (out mix n i) ClosedDue)
  calls-sure p w u ok lt same =
      let within : out mix n i < length (set u p Open) = out-within mix n i (set u p Open) lt (length-set u p Open ∙ same ∙ ok.long) in
      (out mix n i, ap (λ o. is_sure o (get_or (set (set u p Open) (out mix n i) ClosedDue) (out mix n i) Closed)) active ∙ ap (is_sure (Some false)) (get_or-set_same (set u p Open) (out mix n i) ClosedDue Closed within))

  -- and waits once it has called
  pub asked-waits : (w : List PortState) → IsPlace mix n (suc i) w → get_or w (out mix n i) Closed ≡ ClosedDue → OneWaits (sense (Choice mix) n) (set w (out mix n i) OpenDue) (out mix n i)
  asked-waits w ok due = record {
    waits = ap (λ o. is_sure o (get_or (set w (out mix n i) OpenDue) (out mix n i) Closed)) active ∙ ap (is_sure (Some false)) (get_or-set_same w (out mix n i) OpenDue Closed (out-within mix n i w ok.turn.within ok.long));
    alone = λ q ne. ap is_due (get_or-set_other w (out mix n i) q OpenDue Closed ne) ∙ elim (cases_eq q (suc i)) [
      | inl e ↦ ap (λ r. is_due (get_or w r Closed)) e ∙ elim ok.turn.goes [ inl x ↦ ap is_due x.0 | inr x ↦ absurd (let y = x.1 in cc) ]
      | inr apart ↦ ap is_due (ok.turn.quiet q apart ne)
    ];
  }

  -- with its answer it is to reply
  pub got-sure : (w : List PortState) → IsPlace mix n (suc i) w → SomeSure (sense (Choice mix) n) (set (set w (out mix n i) Closed) (suc i) OpenDue)
  got-sure w ok =
      let u : List PortState = set w (out mix n i) Closed in
      let within : suc i < length u = let l = length-set w (out mix n i) Closed in let long = ok.long in let lt = ok.turn.within in omega (arith, l, long, lt) in
      (suc i, ap (λ o. is_sure o (get_or (set u (suc i) OpenDue) (suc i) Closed)) (passive ok.turn.within) ∙ ap (is_sure (Some true)) (get_or-set_same u (suc i) OpenDue Closed within))

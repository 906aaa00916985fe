-- Where it is not over for those who wait, and where there is work.
use Rattle.std.proofs.Common.{inl, inr, ℕ, Bool, Option, Some, None, List, true≢false, sym, ◌∙◌, arith}
use Rattle.std.specs.Prelude.{is_some, MatchBool, MatchOption}
use Rattle.bz_model.specs.Runs.{CanStep, IsNext, Rest}
use Rattle.bz_net.specs.Simulation.{Simulation}
use Rattle.bz_past.specs.declared.standing.Standing.{Standing}
use Rattle.bz_locked.specs.declared.locked.Work.TheVariants.{Ready}
use Rattle.bz_locked.specs.Working.{WorkIs, MustWait}
use Rattle.bz_locked.specs.Audiences.{IsOver}

pub not_while_ready : (net : Simulation) (fuel : ℕ) (stopped : Bool) (standings : List Standing) → WorkIs net fuel stopped standings Ready → IsOver net fuel stopped standings → ⊥
not_while_ready net fuel stopped standings ready over = elim over [
  | inl stops ↦ true≢false (sym stops ∙ ready.0)
  | inr others ↦ elim others [
    | inl rests ↦ rests.1 ready.1.0 ready.1.1
    | inr spent ↦ absurd (omega (arith, ready.2, spent.2))
  ]
]

pub not_while_waiting : (net : Simulation) (fuel : ℕ) (stopped : Bool) (standings : List Standing) → MustWait net fuel stopped standings → IsOver net fuel stopped standings → ⊥
not_while_waiting net fuel stopped standings waits over = elim over [
  | inl stops ↦ true≢false (sym stops ∙ waits.runs)
  | inr others ↦ elim others [
    | inl rests ↦ waits.busy rests.2
    | inr spent ↦ waits.busy spent.3
  ]
]

pub has_work : (net : Simulation) (found : Option ℕ) → MatchOption found (Rest net.wiring.sites net.state) (IsNext (CanStep net.wiring.sites net.state) 1)
    → MatchBool (is_some found) (Rest net.wiring.sites net.state → ⊥) (Rest net.wiring.sites net.state)
has_work net None rests = rests
has_work net (Some c) next = λ rest. rest c next.is_in

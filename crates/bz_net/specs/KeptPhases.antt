-- The phases of channels, as a net keeps them: a mark for each channel, and a value beside it.
use Rattle.std.specs.Prelude.{◌≡◌, ℕ, List, [], ◌∷◌, Option, None, Some, MatchOption}
use Rattle.bz_model.specs.declared.channel.Phase.{Phase}
use Rattle.bz_model.specs.declared.channel.Phase.TheVariants as phase
use Rattle.bz_net.specs.declared.kept_phases.Mark.{Mark}
use Rattle.bz_net.specs.declared.kept_phases.Mark.TheVariants as mark

-- the phase that a mark tells, where v is the value beside it
abbrev pub phase_of : Mark → ℕ → Phase
phase_of mark.Idle v = phase.Idle
phase_of mark.Asked v = phase.Asked None
phase_of mark.AskedWith v = phase.Asked (Some v)
phase_of mark.Taken v = phase.Taken
phase_of mark.Replied v = phase.Replied None
phase_of mark.RepliedWith v = phase.Replied (Some v)
phase_of mark.Broken v = phase.Broken

abbrev pub phases_of : List Mark → List ℕ → List Phase
phases_of [] vs = []
phases_of (m ∷ ms) [] = []
phases_of (m ∷ ms) (v ∷ vs) = phase_of m v ∷ phases_of ms vs

-- the mark and the value beside it tell the phase; with no value, whatever stands beside it
abbrev pub MarksPhase : Phase → Mark → Option ℕ → Type 0
MarksPhase f m value = MatchOption value ((v : ℕ) → phase_of m v ≡ f) (λ v. phase_of m v ≡ f)

-- How a command ends that makes something of the trace of a run, and what goes out of it.
use Rattle.std.specs.Prelude.{◌≡◌, ◌⊎◌, ℕ, List, [], Option, Result}
use Rattle.bz_model.specs.Nets.{Wiring}
use Rattle.bz_trace.specs.declared.checking.Verdict.{Verdict}
use Rattle.bz_trace.specs.declared.checking.Verdict.TheVariants as verdict
use Rattle.bz_trace.specs.Verdicts.{Judges}
use Rattle.bz_cli_input.specs.Answering.{Answers}
use Rattle.bz_cli_input.specs.Opening.{Denotes, RefusesNet}
use Rattle.bz_cli_input.specs.declared.fault.Fault.{Fault}
use Rattle.bz_cli_input.specs.declared.fault.Fault.TheVariants.{Memory, Write}
use Rattle.bz_cli_trace.specs.declared.unmade.Unmade.{Unmade}
use Rattle.bz_cli_trace.specs.declared.unmade.Unmade.TheVariants.{Command, Other}

-- Why nothing is made of the trace of a run: memory was refused, or `Refuses`.
abbrev pub RefusesMaking : {C : Type 0} → (C → Type 0) → Unmade C → Type 0
RefusesMaking Refuses (Command fault) = fault ≡ Memory
RefusesMaking Refuses (Other cause) = Refuses cause

-- The netlist denotes this net, and this is the verdict on the trace.
pub record IsJudged (netlist trace : List ℕ) (asked : Option (List ℕ)) (v : Verdict) (w : Wiring) : Type 0 where
  pub net : Denotes netlist asked w
  pub judged : Judges w trace v

-- The trace is that of no run of the net, or it is no trace.
abbrev pub IsNoRun : List ℕ → List ℕ → Option (List ℕ) → Wiring → Type 0
IsNoRun netlist trace asked w = (line : ℕ) × (IsJudged netlist trace asked (verdict.Not line) w ⊎ IsJudged netlist trace asked (verdict.Bad line) w)

-- With which status a command ends and what goes out: what was `Made` of the trace of a run; or nothing, with 2, where it is `Refused`;
-- or nothing, with 1, where the trace is that of no run.
abbrev pub EndsOf : (Wiring → ℕ → List ℕ → Type 0) → (Wiring → Type 0) → List ℕ → List ℕ → Option (List ℕ) → ℕ → List ℕ → Type 0
EndsOf Made Refused netlist trace asked status text = (w : Wiring) × (
    (IsJudged netlist trace asked verdict.Run w × Made w status text)
    ⊎ (IsJudged netlist trace asked verdict.Run w × Refused w × (status ≡ 2) × (text ≡ []))
    ⊎ (IsNoRun netlist trace asked w × (status ≡ 1) × (text ≡ [])))

-- The netlist is refused, and nothing goes out; or the command ends so.
abbrev pub MakesOf : (Wiring → ℕ → List ℕ → Type 0) → (Wiring → Type 0) → List ℕ → List ℕ → Option (List ℕ) → Option (List ℕ) → Option (List ℕ) → Result ℕ Fault → Type 0
MakesOf Made Refused netlist trace asked old new result = Answers Write (EndsOf Made Refused netlist trace asked) (RefusesNet netlist asked) old new result

-- what is sent with status 0
abbrev pub Sends : (Wiring → List ℕ → Type 0) → Wiring → ℕ → List ℕ → Type 0
Sends Made w status text = (status ≡ 0) × Made w text

-- The trace of a net so far.
use Rattle.std.specs.Prelude.{ℕ, Option, List}
use Rattle.std.specs.Io.KnownBytes.{Appends}
use Rattle.bz_model.specs.Clashes.{AreClashed}
use Rattle.bz_model.specs.Traces.{trace_text}
use Rattle.bz_cli_input.specs.Stopping.{AppendsSome}
use Rattle.bz_net.specs.Simulation.{Simulation}

-- the trace text of the journal was written, with the components at which requests met
pub record SavesTrace (net : Simulation) (old new : Option (List ℕ)) : Type 0 where
  pub clashes : List ℕ
  pub clashed : AreClashed net.wiring net.journal clashes
  pub written : Appends old new (trace_text net.wiring.ports net.journal clashes)

-- a front of it was
pub record SavesSome (net : Simulation) (old new : Option (List ℕ)) : Type 0 where
  pub clashes : List ℕ
  pub clashed : AreClashed net.wiring net.journal clashes
  pub written : AppendsSome old new (trace_text net.wiring.ports net.journal clashes)

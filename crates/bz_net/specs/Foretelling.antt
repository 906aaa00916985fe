-- A step that a component has, known before it is made.
use Rattle.std.specs.Prelude.{ℕ, Option, List}
use Rattle.bz_model.specs.Nets.{Site, State}
use Rattle.bz_net.specs.declared.foretelling.Foretold.{Foretold}
use Rattle.bz_net.specs.Due.{HasStep}

-- the component that is told has a step at that port, by that move on that channel
abbrev pub IsForetold : List Site → State → Foretold → Type 0
IsForetold sites s told = (value : Option ℕ) × HasStep sites s told.comp told.port told.chan told.mv value

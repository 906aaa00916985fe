-- Which components may move otherwise behind an entry.
use Rattle.std.specs.Prelude.{◌≡◌, ℕ, Bool, Option, Some, None, List}
use Rattle.bz_model.specs.declared.event.Entry.{Entry}
use Rattle.bz_model.specs.declared.event.Entry.TheVariants.{Fired, Host, Rested}
use Rattle.bz_model.specs.Nets.{Site, State}
use Rattle.bz_net.specs.Keeping.{Refreshed}

-- the channel on which an entry moves something; a host's port is the channel of its number
abbrev pub chan_of : Entry → Option ℕ
chan_of (Fired who c p k mv value) = Some k
chan_of (Host who verb port value reply) = Some port
chan_of (Rested who) = None

-- whether a component can move was looked at again, where there is one, and no other flag changed
abbrev pub LooksAt : List Site → State → Option ℕ → List Bool → List Bool → Type 0
LooksAt sites s None old new = new ≡ old
LooksAt sites s (Some c) old new = Refreshed sites s old new c

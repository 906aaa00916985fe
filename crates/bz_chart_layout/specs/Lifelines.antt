-- Which lifelines stand at the ends of a channel, and what an entry of a trace shows between them.
use Rattle.std.specs.Prelude.{ℕ, Bool, true, false, Option, Some, None, unwrap_or}
use Rattle.bz_model.specs.declared.channel.Chan.{Chan}
use Rattle.bz_model.specs.declared.channel.ChanKind.TheVariants.{Sync}
use Rattle.bz_model.specs.declared.channel.Move.{Move}
use Rattle.bz_model.specs.declared.channel.Move.TheVariants as move
use Rattle.bz_model.specs.declared.event.Verb.{Verb}
use Rattle.bz_model.specs.declared.event.Verb.TheVariants.{Offer, Collect, Accept, Answer, Watch}
use Rattle.bz_model.specs.declared.event.Reply.{Reply}
use Rattle.bz_model.specs.declared.event.Reply.TheVariants as told
use Rattle.bz_model.specs.declared.event.Entry.{Entry}
use Rattle.bz_model.specs.declared.event.Entry.TheVariants as entry
use Rattle.bz_model.specs.Names.{channel, numbered, port_sense}
use Rattle.bz_flat.specs.declared.flat.Ends.{Ends}
use Rattle.bz_flat.specs.Flats.{Plan}
use Rattle.bz_flat.specs.Wires.{at_side}
use Rattle.bz_chart_layout.specs.declared.circuit.Lifeline.{Lifeline}
use Rattle.bz_chart_layout.specs.declared.circuit.Lifeline.TheVariants.{Port, Comp}
use Rattle.bz_chart_layout.specs.declared.event.Step.{Step}
use Rattle.bz_chart_layout.specs.declared.event.Denial.TheVariants.{NotYet, Busy, NotTaken}
use Rattle.bz_chart_layout.specs.declared.event.Event.{Event}
use Rattle.bz_chart_layout.specs.declared.event.Event.TheVariants.{Moved, Watched, Refused, Rested}

-- at a port declared passive the host calls
abbrev pub is_passive : Plan → ℕ → Bool
is_passive net port = unwrap_or (port_sense net.wiring.ports port) false

abbrev pub chan_of : Plan → ℕ → Chan
chan_of net chan = unwrap_or (channel net.wiring.chans chan) (record { kind = Sync; width = 0 })

-- the host's end of a port's channel: the active one where the port is declared passive
abbrev pub host_at : Option Bool → Bool → ℕ → Option Lifeline
host_at (Some true) false chan = Some (Port chan)
host_at (Some false) true chan = Some (Port chan)
host_at declared side chan = None

abbrev pub held_by : Option ℕ → Option Bool → Bool → ℕ → Option Lifeline
held_by (Some comp) declared side chan = Some (Comp comp)
held_by None declared side chan = host_at declared side chan

abbrev pub lifeline_in : Option Ends → Option Bool → Bool → ℕ → Option Lifeline
lifeline_in None declared side chan = None
lifeline_in (Some ends) declared side chan = held_by (at_side ends side) declared side chan

-- the lifeline at an end of a channel, the passive end where the side is true
abbrev pub lifeline_at : Plan → ℕ → Bool → Option Lifeline
lifeline_at net chan side = lifeline_in (numbered net.ends chan) (port_sense net.wiring.ports chan) side chan

-- the end of its channel to which a move goes, from which another one came
abbrev pub far_side : Move → Bool
far_side move.Ask = true
far_side move.Take = false
far_side move.Reply = false
far_side move.Got = true

-- a move on a channel joins who makes it and who stands at the other end
abbrev pub step_by : Plan → Move → ℕ → Option ℕ → Lifeline → Step
step_by net mv chan value maker = record {
  mv = mv;
  chan = chan;
  value = value;
  maker = maker;
  other = unwrap_or (lifeline_at net chan (far_side mv)) maker;
}

-- the move that a host's command makes where it is done
abbrev pub move_of : Verb → Move
move_of Offer = move.Ask
move_of Accept = move.Take
move_of Answer = move.Reply
move_of Collect = move.Got
move_of Watch = move.Got

-- what a host's command shows: one that was done is a move of the port's lifeline
abbrev pub told_of : Plan → Verb → ℕ → Option ℕ → Reply → Event
told_of net verb port value told.Done = Moved (step_by net (move_of verb) port value (Port port))
told_of net verb port value (told.Value got) = Moved (step_by net (move_of verb) port (Some got) (Port port))
told_of net verb port value told.NotYet = Refused port NotYet
told_of net verb port value (told.Busy phase) = Refused port Busy
told_of net verb port value (told.NotTaken phase) = Refused port NotTaken
told_of net verb port value (told.Watched phase) = Watched port phase

-- what an entry shows
abbrev pub shown_of : Plan → Entry → Event
shown_of net (entry.Fired who comp port chan mv value) = Moved (step_by net mv chan value (Comp comp))
shown_of net (entry.Host who verb port value reply) = told_of net verb port value reply
shown_of net (entry.Rested who) = Rested

-- A net as a part of another: where it is there, and what a run of the whole is for it.
use Rattle.std.specs.Prelude.{◌≡◌, ◌≢◌, ℕ, suc, ◌-◌, ◌<◌, ◌≤◌, not, nat_eq, Option, Some, None, List, length, map, filter_map, position, slice_index_or}
use Rattle.std.specs.Option.{option_map}
use Rattle.bz_model.specs.declared.channel.Move.{Move}
use Rattle.bz_model.specs.declared.channel.Move.TheVariants.{Ask, Take, Reply, Got}
use Rattle.bz_model.specs.declared.event.Who.{Who}
use Rattle.bz_model.specs.declared.event.Who.TheVariants.{Host as Session}
use Rattle.bz_model.specs.declared.event.Verb.{Verb}
use Rattle.bz_model.specs.declared.event.Verb.TheVariants.{Offer, Collect, Accept, Answer}
use Rattle.bz_model.specs.declared.event.Reply.{Reply as HostReply}
use Rattle.bz_model.specs.declared.event.Reply.TheVariants.{Done}
use Rattle.bz_model.specs.declared.event.Entry.{Entry}
use Rattle.bz_model.specs.declared.event.Entry.TheVariants.{Fired, Host, Rested}
use Rattle.bz_model.specs.Nets.{Site, Wiring, State, IsPort, chan_at, chan_in, passive_at, phase_at, proc_at, site_at}
use Rattle.bz_model.specs.Hosts.{port_is_passive, received}

-- the numbers that a part's components and channels have in the whole, in the part's order
pub record Embedding : Type 0 where
  pub comps : List ℕ
  pub chans : List ℕ

-- from the number in the part to that in the whole, and back
abbrev pub in_whole : List ℕ → ℕ → ℕ
in_whole numbers k = slice_index_or numbers (k - 1) 0

abbrev pub in_part : List ℕ → ℕ → Option ℕ
in_part numbers n = option_map suc (position (nat_eq n) numbers)

-- a number from 1 to `most` for each number from 1 to `count`, and no two alike
pub record AreNumbers (numbers : List ℕ) (count most : ℕ) : Type 0 where
  pub len : length numbers ≡ count
  pub from : (k : ℕ) → 0 < k → k ≤ count → 0 < in_whole numbers k
  pub to : (k : ℕ) → 0 < k → k ≤ count → in_whole numbers k ≤ most
  pub differ : (k j : ℕ) → 0 < k → k ≤ count → 0 < j → j ≤ count → in_whole numbers k ≡ in_whole numbers j → k ≡ j

-- a component of the part, as it is in the whole
abbrev pub placed : Embedding → Site → Site
placed e site = record site { chans = map (in_whole e.chans) site.chans }

-- The part has its components and channels in the whole. At a channel that is none of its ports there is nobody else; at
-- a port's channel components outside, or a host of the whole, have the end of the part's host.
pub record IsPartOf (part whole : Wiring) (e : Embedding) : Type 0 where
  pub comps : AreNumbers e.comps (length part.sites) (length whole.sites)
  pub chans : AreNumbers e.chans (length part.chans) (length whole.chans)
  pub sites : (c : ℕ) → 0 < c → c ≤ length part.sites → site_at whole.sites (in_whole e.comps c) ≡ placed e (site_at part.sites c)
  pub carry : (k : ℕ) → 0 < k → k ≤ length part.chans → chan_in whole.chans (in_whole e.chans k) ≡ chan_in part.chans k
  pub alone : (k d p : ℕ) → length part.ports < k → k ≤ length part.chans → IsPort whole.sites d p
      → chan_at whole.sites d p ≡ in_whole e.chans k → in_part e.comps d ≢ None
  pub hidden : (k : ℕ) → length part.ports < k → k ≤ length part.chans → length whole.ports < in_whole e.chans k
  pub facing : (k d p : ℕ) → 0 < k → k ≤ length part.ports → IsPort whole.sites d p
      → chan_at whole.sites d p ≡ in_whole e.chans k → in_part e.comps d ≡ None
      → passive_at whole.sites d p ≡ not (port_is_passive part.ports k)
  pub passed : (k : ℕ) → 0 < k → k ≤ length part.ports → in_whole e.chans k ≤ length whole.ports
      → port_is_passive whole.ports (in_whole e.chans k) ≡ port_is_passive part.ports k

-- the part's state within a state of the whole
abbrev pub state_in : Embedding → State → State
state_in e s = record { phases = map (phase_at s) e.chans; procs = map (proc_at s) e.comps }

-- A move at a port that is made from outside, as a host makes it: the verb, the value given, and the reply.
abbrev pub verb_of : Move → Verb
verb_of Ask = Offer
verb_of Take = Accept
verb_of Reply = Answer
verb_of Got = Collect

abbrev pub given : Move → Option ℕ → Option ℕ
given Ask value = value
given Reply value = value
given mv value = None

abbrev pub answered : Move → Option ℕ → HostReply
answered Take value = received value
answered Got value = received value
answered mv value = Done

-- who plays what surrounds the part
abbrev pub surroundings : Who
surroundings = Session 1

-- what a firing is for the part, by the part's numbers of its component and its channel
abbrev pub firing_in : Who → Option ℕ → Option ℕ → ℕ → Move → Option ℕ → Option Entry
firing_in who (Some c) (Some k) p mv value = Some (Fired who c p k mv value)
firing_in who None (Some k) p mv value = Some (Host surroundings (verb_of mv) k (given mv value) (answered mv value))
firing_in who c None p mv value = None

-- What an entry of the whole is for the part. A firing of one of its components is that firing; one of another component at
-- a channel of the part is a host's command, and so is a command of a host of the whole. A note of rest stays one.
abbrev pub entry_in : Embedding → Entry → Option Entry
entry_in e (Fired who c p k mv value) = firing_in who (in_part e.comps c) (in_part e.chans k) p mv value
entry_in e (Host who verb port value reply) = option_map (λ k. Host who verb k value reply) (in_part e.chans port)
entry_in e (Rested who) = Some (Rested who)

abbrev pub entries_in : Embedding → List Entry → List Entry
entries_in e entries = filter_map (entry_in e) entries

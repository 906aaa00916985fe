-- What each component is told of its channels: whether what a take or a got at a port waits for is there.
use Rattle.std.specs.Prelude.{◌≡◌, ◌≢◌, ◌==◌, ◌+◌, ◌*◌, ◌/◌, ◌-◌, ◌<◌, ◌≤◌, ◌^◌, ◌↔◌, ℕ, Bool, false, true, not, if◌then◌else◌, Option, Some, None, List, [], length, slice_index_or, slice_set, MatchOption, IfSome, IsTrue}
use Rattle.bz_bits.specs.Row.{bit_of}
use Rattle.bz_model.specs.declared.channel.Phase.{Phase}
use Rattle.bz_model.specs.declared.channel.Phase.TheVariants.{Idle, Asked, Taken, Replied, Broken}
use Rattle.bz_model.specs.declared.channel.Move.{Move}
use Rattle.bz_model.specs.declared.channel.Move.TheVariants.{Ask, Take, Reply, Got}
use Rattle.bz_model.specs.Heads.{Component, Head, HasOneHead, IsHeadOn, Moves, Turns, opens, open_at}
use Rattle.bz_model.specs.Phases.{phase_after}
use Rattle.bz_model.specs.Runs.{CanStep, IsLowest}
use Rattle.bz_model.specs.Nets.{Site, State, Wiring, IsPort, StepsAt, site_at, chan_at, passive_at}
use Rattle.bz_kinds.specs.Ready.{CanGo}
use Rattle.bz_net.specs.Keeping.{phase_in, comp_at, is_open, state_of}
use Rattle.bz_net.specs.Sides.{Sided, answers}
use Rattle.bz_flat.specs.declared.flat.Ends.{Ends}
use Rattle.bz_flat.specs.Wires.{IsEnd, at_side, port_of_side, ends_in}

-- whether what a passive port waits for, or an active one, is on a channel in this phase
abbrev pub is_here : Phase → Bool → Bool
is_here (Asked v) passive = passive
is_here (Replied v) passive = not passive
is_here Idle passive = false
is_here Taken passive = false
is_here Broken passive = false

-- the words of component c
abbrev pub here_at : List (List ℕ) → ℕ → List ℕ
here_at heres c = slice_index_or heres (c - 1) []

abbrev pub flag_of : List ℕ → ℕ → Bool
flag_of words p = bit_of words p == 1

-- each component has a bit for each of its ports, which tells what is on the port's channel
pub record Told (w : Wiring) (phases : List Phase) (heres : List (List ℕ)) : Type 0 where
  pub heres_len : length heres ≡ length w.sites
  pub room : (c : ℕ) → 0 < c → c ≤ length w.sites → length (site_at w.sites c).chans < 64 * length (here_at heres c)
  pub told : (c p : ℕ) → IsPort w.sites c p → flag_of (here_at heres c) p ≡ is_here (phase_in phases (chan_at w.sites c p)) (passive_at w.sites c p)

-- the first n components have a bit for each of their ports, and each is 0
pub record AreBlank (sites : List Site) (heres : List (List ℕ)) (n : ℕ) : Type 0 where
  pub len : length heres ≡ n
  pub words : (c : ℕ) → 0 < c → c ≤ n → length (here_at heres c) ≡ length (site_at sites c).chans / 64 + 1
  pub none : (c p : ℕ) → 0 < c → c ≤ n → bit_of (here_at heres c) p ≡ 0

-- the ports on channel k were told of a phase, and no others
pub record Retold (sites : List Site) (heres heres' : List (List ℕ)) (k : ℕ) (phase : Phase) : Type 0 where
  pub len : length heres' ≡ length heres
  pub room : (c : ℕ) → length (here_at heres' c) ≡ length (here_at heres c)
  pub at_ends : (c p : ℕ) → IsPort sites c p → chan_at sites c p ≡ k → flag_of (here_at heres' c) p ≡ is_here phase (passive_at sites c p)
  pub others : (c p : ℕ) → IsPort sites c p → chan_at sites c p ≢ k → flag_of (here_at heres' c) p ≡ flag_of (here_at heres c) p

-- by its bits a component can move at none of its ports
abbrev pub NoneGoes : Component → List ℕ → Type 0
NoneGoes c here = (p : ℕ) → p ≤ length c.chans → CanGo c.proc p (flag_of here p) → ⊥

-- by its bits it can move at one of them
abbrev pub Goes : Component → List ℕ → Type 0
Goes c here = (p : ℕ) × (0 < p) × (p ≤ length c.chans) × CanGo c.proc p (flag_of here p)

-- by its bits it can move at p, which is one of its ports, and at none before
pub record GoesFirst (c : Component) (here : List ℕ) (p : ℕ) : Type 0 where
  pub from : 0 < p
  pub to : p ≤ length c.chans
  pub goes : CanGo c.proc p (flag_of here p)
  pub before : (q : ℕ) → q < p → CanGo c.proc q (flag_of here q) → ⊥

-- a head opens its port where it is closed, and closes it where it is open
abbrev pub IsTurning : Component → Type 0
IsTurning c = (p : ℕ) (h : Head) → IsHeadOn c.proc p h → opens h.move ≡ not (open_at c p)

-- these are the ends of channel k, with their ports
pub record AreEnds (sites : List Site) (k : ℕ) (pair : Ends) : Type 0 where
  pub finds : (c p : ℕ) → IsPort sites c p → chan_at sites c p ≡ k → (at_side pair (passive_at sites c p) ≡ Some c) × (port_of_side pair (passive_at sites c p) ≡ p)
  pub holds : (side : Bool) (c : ℕ) → at_side pair side ≡ Some c → IsEnd sites k side c (port_of_side pair side)

-- the bit of port p of component c was written, and no other
pub record PutAt (heres heres' : List (List ℕ)) (c p : ℕ) (bit : Bool) : Type 0 where
  pub len : length heres' ≡ length heres
  pub room : (d : ℕ) → length (here_at heres' d) ≡ length (here_at heres d)
  pub at_port : flag_of (here_at heres' c) p ≡ bit
  pub others : (d q : ℕ) → 0 < d → ((d ≡ c) × (q ≡ p) → ⊥) → flag_of (here_at heres' d) q ≡ flag_of (here_at heres d) q

-- the same of the bits of one component
pub record PutBit (here here' : List ℕ) (p : ℕ) (bit : Bool) : Type 0 where
  pub long : length here' ≡ length here
  pub at_port : flag_of here' p ≡ bit
  pub others : (q : ℕ) → q ≢ p → flag_of here' q ≡ flag_of here q

abbrev pub PutEnd : List (List ℕ) → List (List ℕ) → Option ℕ → ℕ → Bool → Type 0
PutEnd heres heres' end p bit = MatchOption end (heres' ≡ heres) (λ c. PutAt heres heres' c p bit)

-- an end's port has a bit
abbrev pub HasBit : List (List ℕ) → Option ℕ → ℕ → Type 0
HasBit heres end p = IfSome end (λ c. (0 < c) × (c ≤ length heres) × (p < 64 * length (here_at heres c)))

-- component c, whose moves turn their ports, was marked where a move is due at its port p, and no other was
pub record MarkedDue (comps : List Component) (old new : List Bool) (c p : ℕ) : Type 0 where
  pub turning : IsTurning (comp_at comps c)
  pub due : Bool
  pub tells : IsTrue due ↔ CanGo (comp_at comps c).proc p true
  pub row : new ≡ (if due then slice_set old c true else old)

-- a request or a reply came to port p of the component at an end, where there is one
pub record Came (comps : List Component) (heres heres' : List (List ℕ)) (old new : List Bool) (end : Option ℕ) (p : ℕ) : Type 0 where
  pub put : PutEnd heres heres' end p true
  pub marked : MatchOption end (new ≡ old) (λ c. MarkedDue comps old new c p)

-- the bits of a component that moved at port p: what a take or a got waited for is gone from there
abbrev pub Left : Move → List ℕ → List ℕ → ℕ → Type 0
Left Ask here here' p = here' ≡ here
Left Take here here' p = PutBit here here' p false
Left Reply here here' p = here' ≡ here
Left Got here here' p = PutBit here here' p false

-- nothing came to the component at an end, whose moves turn their ports
pub record Unchanged (comps : List Component) (heres heres' : List (List ℕ)) (old new : List Bool) (end : Option ℕ) : Type 0 where
  pub bits : heres' ≡ heres
  pub row : new ≡ old
  pub turning : IfSome end (λ c. IsTurning (comp_at comps c))

-- what stands at the other end of a channel was told of a move
abbrev pub ToldFar : List Component → List (List ℕ) → List (List ℕ) → List Bool → List Bool → Option ℕ → ℕ → Move → Type 0
ToldFar comps heres heres' old new far p Ask = Came comps heres heres' old new far p
ToldFar comps heres heres' old new far p Take = Unchanged comps heres heres' old new far
ToldFar comps heres heres' old new far p Reply = Came comps heres heres' old new far p
ToldFar comps heres heres' old new far p Got = Unchanged comps heres heres' old new far

-- by its ends: the one that doesn't make the move is told of it
abbrev pub ToldOther : List Component → List (List ℕ) → List (List ℕ) → List Bool → List Bool → Ends → Move → Type 0
ToldOther comps heres heres' old new pair mv = ToldFar comps heres heres' old new (at_side pair (not (answers mv))) (port_of_side pair (not (answers mv))) mv

-- each component has as many channels as its site
abbrev pub HasChans : List Site → List Component → Type 0
HasChans sites comps = (c : ℕ) → 0 < c → c ≤ length sites → length (comp_at comps c).chans ≡ length (site_at sites c).chans

-- what is needed of a net so that a component's bits tell where it can move
pub record Sighted (sites : List Site) (phases : List Phase) (comps : List Component) (heres : List (List ℕ)) : Type 0 where
  pub comps_len : length comps ≡ length sites
  pub sides : (c : ℕ) → 0 < c → c ≤ length sites → Sided (passive_at sites c) (comp_at comps c).proc.todo
  pub opened : (c p : ℕ) → IsPort sites c p → open_at (comp_at comps c) p ≡ is_open (phase_in phases (chan_at sites c p)) (passive_at sites c p)
  pub kept : (k : ℕ) → phase_in phases k ≢ Broken
  pub chans_of : HasChans sites comps
  pub heres_len : length heres ≡ length sites
  pub room : (c : ℕ) → 0 < c → c ≤ length sites → length (site_at sites c).chans < 64 * length (here_at heres c)
  pub few : (c : ℕ) → length (here_at heres c) ≤ 2 ^ 26
  pub told : (c p : ℕ) → IsPort sites c p → flag_of (here_at heres c) p ≡ is_here (phase_in phases (chan_at sites c p)) (passive_at sites c p)

-- the table has the ends of each channel
abbrev pub AllAreEnds : List Site → List Ends → Type 0
AllAreEnds sites ends = (k : ℕ) → 0 < k → AreEnds sites k (ends_in ends k)

-- component c moved at port p, on channel k, and both ends were told; no component was looked at again yet
pub record Turned (sites : List Site) (phases : List Phase) (comps : List Component) (heres : List (List ℕ)) (phases' : List Phase) (comps' : List Component) (heres' : List (List ℕ)) (c p k : ℕ) (mv : Move) (value : Option ℕ) : Type 0 where
  pub steps_at : StepsAt sites (state_of phases comps) c p
  pub chan_is : k ≡ chan_at sites c p
  pub rest : Component
  pub moves : Moves (comp_at comps c).proc p (phase_in phases k) mv value rest.proc
  pub turns : Turns (comp_at comps c) p mv rest
  pub one : HasOneHead (comp_at comps c).proc.todo
  pub same_chans : rest.chans ≡ (comp_at comps c).chans
  pub phases_is : phases' ≡ slice_set phases (k - 1) (phase_after (phase_in phases k) mv value)
  pub comps_is : comps' ≡ slice_set comps (c - 1) rest
  pub retold : Retold sites heres heres' k (phase_after (phase_in phases k) mv value)

-- component c can move at the port that is given, or where none is given at some port
abbrev pub MayMove : List Site → State → ℕ → Option ℕ → Type 0
MayMove sites state c None = CanStep sites state c
MayMove sites state c (Some p) = StepsAt sites state c p

-- it is to move at port p: the one that is given, or the lowest at which it can
abbrev pub MovesAt : List Site → State → ℕ → Option ℕ → ℕ → Type 0
MovesAt sites state c None p = IsLowest sites state c p
MovesAt sites state c (Some q) p = p ≡ q

-- the same by the bits of the component
abbrev pub GoesAt : Component → List ℕ → Option ℕ → ℕ → Type 0
GoesAt c here None p = GoesFirst c here p × IsTurning c
GoesAt c here (Some q) p = p ≡ q

-- after each move of component c at port p the net is sighted as before
abbrev pub StaysSighted : List Site → List Phase → List Component → List (List ℕ) → ℕ → ℕ → Type 0
StaysSighted sites phases comps heres c p = (phases' : List Phase) (comps' : List Component) (heres' : List (List ℕ)) (k : ℕ) (mv : Move) (value : Option ℕ) → Turned sites phases comps heres phases' comps' heres' c p k mv value → Sighted sites phases' comps' heres'

-- once both ends of an external port's channel were told of a phase, the net is sighted as before
abbrev pub HostSighted : List Site → List Phase → List Component → List (List ℕ) → ℕ → Phase → Type 0
HostSighted sites phases comps heres port phase = (heres' : List (List ℕ)) → Retold sites heres heres' port phase → Sighted sites (slice_set phases (port - 1) phase) comps heres'

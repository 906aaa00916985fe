-- Why a short trace is not made whole: what no run shows next.
use Rattle.std.specs.Prelude.{◌≡◌, ℕ, ◌-◌, ◌<◌, ◌≤◌, Bool, true, false, Some, List, [], ◌∷◌, ◌++◌, length, take}
use Rattle.bz_model.specs.declared.channel.Phase.{Phase}
use Rattle.bz_model.specs.declared.channel.Phase.TheVariants.{Asked, Taken}
use Rattle.bz_model.specs.declared.event.Entry.{Entry}
use Rattle.bz_model.specs.declared.event.Verb.{Verb}
use Rattle.bz_model.specs.declared.event.Verb.TheVariants.{Offer, Answer}
use Rattle.bz_model.specs.Heads.{Head, Proc, IsHeadOn}
use Rattle.bz_model.specs.Names.{numbered}
use Rattle.bz_model.specs.Nets.{Site, State, StepsAt, Wiring, opening}
use Rattle.bz_model.specs.Runs.{Run}
use Rattle.bz_model.specs.Terms.{value_of}
use Rattle.bz_flat.specs.Wires.{HasEnd, IsEnd}
use Rattle.bz_net.specs.Sides.{sends}
use Rattle.bz_net.specs.Simulation.{Simulation}
use Rattle.bz_complete.specs.Shown.{shown, shown_move}
use Rattle.bz_complete.specs.Choosing.{HasNoChoice}
use Rattle.bz_complete.specs.declared.making.Maker.{Maker}
use Rattle.bz_complete.specs.declared.making.Maker.TheVariants as maker
use Rattle.bz_complete.specs.declared.short.Sent.{Sent}
use Rattle.bz_complete.specs.declared.short.Sent.TheVariants as sent
use Rattle.bz_complete.specs.declared.short.ShortMove.{ShortMove}

-- which end of a channel sends: the active one asks, the passive one replies
abbrev pub replies : Sent → Bool
replies sent.Ask = false
replies sent.Reply = true

-- the word by which a host does
abbrev pub word_of : Sent → Verb
word_of sent.Ask = Offer
word_of sent.Reply = Answer

-- a request waits on a channel for its reply
abbrev pub is_busy : Phase → Bool
is_busy (Asked v) = true
is_busy Taken = true
is_busy phase = false

-- what stands at that end
abbrev pub IsMaker : Wiring → ShortMove → Maker → Type 0
IsMaker w m (maker.Comp c p) = IsEnd w.sites m.chan (replies m.sent) c p
IsMaker w m maker.Host = (HasEnd w.sites m.chan (replies m.sent) → ⊥) × (0 < m.chan) × (m.chan ≤ length w.ports)
IsMaker w m maker.Nobody = (HasEnd w.sites m.chan (replies m.sent) → ⊥) × (0 < m.chan → m.chan ≤ length w.ports → ⊥)

-- component c can make a take or a got at port p
abbrev pub Notices : List Site → State → ℕ → ℕ → Type 0
Notices sites s c p = (at : StepsAt sites s c p) × (sends at.can.0.move ≡ false)

abbrev pub IsQuiet : List Site → State → ℕ → Type 0
IsQuiet sites s c = (p : ℕ) → Notices sites s c p → ⊥

-- a process has this move at port p
abbrev pub HasSent : Proc → ℕ → ShortMove → Type 0
HasSent proc p m = (h : Head) × IsHeadOn proc p h × (shown_move m.chan h.move (value_of h.gives proc.store) ≡ m ∷ [])

-- No run that goes on from a state shows this move next, whatever is noticed before it.
abbrev pub IsDeadEnd : Wiring → State → ShortMove → Type 0
IsDeadEnd w s m = (es : List Entry) (last : State) → Run w s es last → shown es ≡ m ∷ [] → ⊥

-- the same of the move of a line, counted from 1
abbrev pub IsDeadEndAt : Wiring → State → List ShortMove → ℕ → Type 0
IsDeadEndAt w s moves line = (m : ShortMove) → numbered moves line ≡ Some m → IsDeadEnd w s m

-- A run of the net shows these moves, and no others.
pub record HasRun (w : Wiring) (moves : List ShortMove) : Type 0 where
  pub entries : List Entry
  pub last : State
  pub run : Run w (opening w) entries last
  pub shows : shown entries ≡ moves

-- a move of the host, of nobody, or of a component that has no choice while these moves are made before it
abbrev pub IsPlain : Wiring → List ShortMove → ShortMove → Type 0
IsPlain w moves m = (c p : ℕ) → IsEnd w.sites m.chan (replies m.sent) c p → HasNoChoice w moves c

-- no run of a net shows what its journal shows, and then this move
abbrev pub IsUnshown : Simulation → ShortMove → Type 0
IsUnshown net m = HasRun net.wiring (shown net.journal ++ m ∷ []) → ⊥

-- Where a net stops before a move: its run doesn't go on to show it, and where that is plain no other run shows it either.
pub record IsStop (net : Simulation) (m : ShortMove) : Type 0 where
  pub dead : IsDeadEnd net.wiring net.state m
  pub none : IsPlain net.wiring (shown net.journal) m → IsUnshown net m

-- the same of the move of a line, counted from 1
abbrev pub IsStopAt : Simulation → List ShortMove → ℕ → Type 0
IsStopAt net moves line = (m : ShortMove) → numbered moves line ≡ Some m → IsStop net m

-- no run shows the moves up to that of a line, counted from 1, where that move is plain behind those before it
abbrev pub IsRefuted : Wiring → List ShortMove → ℕ → Type 0
IsRefuted w moves line =
    (m : ShortMove) → numbered moves line ≡ Some m → IsPlain w (take (line - 1) moves) m → HasRun w (take line moves) → ⊥

-- What a component does by itself, move by move, and what its past tells.
use Rattle.std.specs.Prelude.{◌≡◌, ℕ, Bool, true, false, ◌==◌, ◌&&◌, not, zero, suc, if◌then◌else◌, Option, List, [], ◌∷◌, unwrap_or}
use Rattle.bz_model.specs.declared.channel.Chan.{Chan}
use Rattle.bz_model.specs.declared.channel.Move.{Move}
use Rattle.bz_model.specs.declared.channel.Move.TheVariants.{Ask, Take, Reply, Got}
use Rattle.bz_model.specs.declared.channel.Phase.{Phase}
use Rattle.bz_model.specs.declared.kind.Kind.{Kind}
use Rattle.bz_model.specs.Heads.{Proc, Moves, opens}
use Rattle.bz_model.specs.Processes.{member, start_of}

-- a move: the port, and what it carried
pub record Deed : Type 0 where
  pub port : ℕ
  pub move : Move
  pub value : Option ℕ

-- a process makes a move on a channel in some phase, and becomes another
abbrev pub Makes : Proc → Deed → Proc → Type 0
Makes b d c = (phase : Phase) × Moves b d.port phase d.move d.value c

-- from its start a process has made these moves, the newest first, and is here
abbrev pub Made : Proc → List Deed → Proc → Type 0
Made start [] here = here ≡ start
Made start (d ∷ past) here = (b : Proc) × Made start past b × Makes b d here

-- a component of a kind at its start
abbrev pub start : Kind → List ℕ → List Chan → Proc
start kind sizes chans = (start_of kind sizes chans).proc

-- something comes in by a take or a got
abbrev pub brings : Move → Bool
brings Ask = false
brings Take = true
brings Reply = false
brings Got = true

-- the value that came in last at a port, 0 where none did
abbrev pub came_at : ℕ → List Deed → ℕ
came_at p [] = 0
came_at p (d ∷ past) = if (d.port == p) && brings d.move then unwrap_or d.value (came_at p past) else came_at p past

-- whether a port is open: the last move there asked or took
abbrev pub is_open : ℕ → List Deed → Bool
is_open p [] = false
is_open p (d ∷ past) = if d.port == p then opens d.move else is_open p past

-- the newest move is the one behind which member i is due: the take at port 1, or the end of the call of the member before
abbrev pub IsTurnOf : ℕ → List Deed → Type 0
IsTurnOf i [] = ⊥
IsTurnOf zero (d ∷ past) = (d.port ≡ 1) × (d.move ≡ Take)
IsTurnOf (suc i) (d ∷ past) = (d.port ≡ member i) × (d.move ≡ Got)

-- whether a call at a port has ended since the last move at port 1
abbrev pub has_ended : ℕ → List Deed → Bool
has_ended p [] = false
has_ended p (d ∷ past) = if d.port == 1 then false else (if (d.port == p) && not (opens d.move) then true else has_ended p past)

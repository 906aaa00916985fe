-- The value on a channel: what rides there in each phase, and which moves take it.
use Rattle.std.specs.Prelude.{◌≡◌, ℕ, Bool, true, false, Option, Some, None}
use Rattle.bz_model.specs.declared.channel.Move.{Move}
use Rattle.bz_model.specs.declared.channel.Move.TheVariants.{Ask, Take, Reply, Got}
use Rattle.bz_model.specs.Heads.{carried}
use Rattle.bz_model.specs.Terms.{Store, stored}
use Rattle.bz_kinds.specs.Row.{Due}
use Rattle.bz_model.specs.declared.channel.Phase.{Phase}
use Rattle.bz_model.specs.declared.channel.Phase.TheVariants.{Asked, Replied}

abbrev pub riding : Phase → Option ℕ
riding (Asked v) = v
riding (Replied v) = v
riding phase = None

-- a value that is there or isn't
abbrev pub held : Bool → ℕ → Option ℕ
held true v = Some v
held false v = None

-- what a move takes of what rides
abbrev pub taken : Move → Option ℕ → Option ℕ
taken Ask v = None
taken Take v = v
taken Reply v = None
taken Got v = v

-- the due move d was made: what it carries, and what is kept after it of what rides
pub record Made (d : Due) (rides : Option ℕ) (s s' : Store) (mv : Move) (value : Option ℕ) : Type 0 where
  pub move_is : mv ≡ d.mv
  pub value_is : value ≡ carried d.mv d.gives s (taken d.mv rides)
  pub kept : s' ≡ stored d.into (taken d.mv rides) s

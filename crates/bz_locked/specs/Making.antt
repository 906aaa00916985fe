-- What one who may add entries has added to a journal between two moments that it saw.
use Rattle.std.specs.Prelude.{◌≡◌, ℕ, ◌≤◌, [], ◌∷◌, ◌++◌}
use Rattle.bz_model.specs.declared.event.Who.{Who}
use Rattle.bz_model.specs.declared.event.Entry.{Entry}
use Rattle.bz_past.specs.Owners.{last_of, part_of}
use Rattle.bz_past.specs.declared.view.Moment.{Moment}
use Rattle.bz_locked.specs.declared.locked.Polled.{Polled}
use Rattle.bz_locked.specs.declared.locked.Polled.TheVariants as told

-- one entry, the last of all, with which the journal has this length
pub record MadeOne (who : Who) (entry : Entry) (len : ℕ) (a b : Moment) : Type 0 where
  pub own : part_of who b.net.journal ≡ part_of who a.net.journal ++ entry ∷ []
  pub last : last_of who b.net.journal ≡ len
  pub before : last_of who a.net.journal ≤ len

-- none
pub record MadeNone (who : Who) (a b : Moment) : Type 0 where
  pub own : part_of who b.net.journal ≡ part_of who a.net.journal
  pub last : last_of who b.net.journal ≡ last_of who a.net.journal

-- of a waiting session: one where it was answered, else none
abbrev pub MadeTold : Who → Polled → Moment → Moment → Type 0
MadeTold who (told.Answered entry reply len) a b = MadeOne who entry len a b
MadeTold who told.Resting a b = MadeNone who a b
MadeTold who told.Spent a b = MadeNone who a b
MadeTold who told.Stopped a b = MadeNone who a b
MadeTold who told.Wait a b = MadeNone who a b

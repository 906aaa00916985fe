-- A run that comes back to a moment of its own.
use Rattle.std.specs.Prelude.{◌≡◌, ◌⊎◌, ℕ, zero, suc, Option, None, Some, List, [], ◌++◌, length}
use Rattle.bz_model.specs.declared.event.Who.{Who}
use Rattle.bz_model.specs.declared.event.Entry.{Entry}
use Rattle.bz_model.specs.Nets.{Site, State}
use Rattle.bz_model.specs.Plays.{Firings}
use Rattle.bz_explore_net.specs.declared.rounds.Moment.{Moment}
use Rattle.bz_explore_net.specs.Stepping.{Played}

-- all goes on now as it did in a moment: the net is in the same state, and the next run looks from the same component on
pub record IsAgain (moment : Moment) (now : Played) : Type 0 where
  pub state : now.net.state ≡ moment.core.state
  pub next : now.next ≡ moment.next

-- a moment is the present one
pub record IsMomentOf (now : Played) (moment : Moment) : Type 0 where
  pub again : IsAgain moment now
  pub wiring : moment.core.wiring ≡ now.net.wiring
  pub entries : moment.entries ≡ length now.net.journal

-- all goes on as it did in the moment that was kept, when the journal had so many entries
abbrev pub ComesBack : Option Moment → Played → ℕ → Type 0
ComesBack kept now entries = (moment : Moment) × (kept ≡ Some moment) × IsAgain moment now × (moment.entries ≡ entries)

-- the moment that was kept is kept, or the present one, or none
abbrev pub IsKept : Option Moment → Played → Option Moment → Type 0
IsKept old now new = (new ≡ old) ⊎ ((new ≡ None) ⊎ ((moment : Moment) × (new ≡ Some moment) × IsMomentOf now moment))

-- n firings in turn lead back to where they began: to the same state, and the next search begins at the same component
abbrev pub IsRound : List Site → Who → State → ℕ → ℕ → List Entry → Type 0
IsRound sites who s from n es = Firings sites who s from n es from s

-- the entries, k times in a row
abbrev pub repeated : ℕ → List Entry → List Entry
repeated zero es = []
repeated (suc k) es = repeated k es ++ es

-- The words of a channel in lists and pictures.
use Rattle.std.specs.Prelude.{ℕ, List, ◌++◌, codes, decimal}
use Rattle.bz_model.specs.declared.channel.ChanKind.{ChanKind}
use Rattle.bz_model.specs.declared.channel.ChanKind.TheVariants.{Sync, Push, Pull}

abbrev pub chan_kind_text : ChanKind → List ℕ
chan_kind_text Sync = codes "sync"
chan_kind_text Push = codes "push"
chan_kind_text Pull = codes "pull"

-- a space and a number
abbrev pub spaced : ℕ → List ℕ
spaced n = codes " " ++ decimal n

-- a sync channel has no width
abbrev pub carried_text : ChanKind → ℕ → List ℕ
carried_text Sync width = chan_kind_text Sync
carried_text Push width = chan_kind_text Push ++ spaced width
carried_text Pull width = chan_kind_text Pull ++ spaced width

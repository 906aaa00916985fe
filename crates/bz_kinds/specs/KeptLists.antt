-- The values and the channels of a component, as the lists that they are.
use Rattle.std.specs.Prelude.{ℕ, List, [], ◌∷◌, replicate}
use Rattle.bz_model.specs.declared.channel.Chan.{Chan}
use Rattle.bz_kinds.specs.declared.kept_lists.KeptSlots.{KeptSlots}
use Rattle.bz_kinds.specs.declared.kept_lists.KeptSlots.TheVariants as slots
use Rattle.bz_kinds.specs.declared.kept_lists.KeptChan.{KeptChan}
use Rattle.bz_kinds.specs.declared.kept_lists.KeptChans.{KeptChans}
use Rattle.bz_kinds.specs.declared.kept_lists.KeptChans.TheVariants as chans

abbrev pub slots_of : KeptSlots → List ℕ
slots_of (slots.Two two) = two
slots_of (slots.List list) = list.items

abbrev pub chan_of : KeptChan → Chan
chan_of k = record { kind = k.kind; width = k.width }

abbrev pub chans_of : KeptChans → List Chan
chans_of (chans.One one) = chan_of one ∷ []
chans_of (chans.Two first second) = chan_of first ∷ chan_of second ∷ []
chans_of (chans.Three first second third) = chan_of first ∷ chan_of second ∷ chan_of third ∷ []
chans_of (chans.Alike each count) = replicate count (chan_of each)
chans_of (chans.List list) = list.value.items

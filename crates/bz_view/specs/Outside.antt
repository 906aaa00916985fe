-- What a net has at a number, and what stands for it where there is none.
use Rattle.std.specs.Prelude.{ℕ, List, [], unwrap_or}
use Rattle.std.specs.Option.{option_map}
use Rattle.bz_model.specs.declared.channel.Chan.{Chan}
use Rattle.bz_model.specs.declared.channel.ChanKind.{ChanKind}
use Rattle.bz_model.specs.declared.channel.ChanKind.TheVariants.{Sync}
use Rattle.bz_model.specs.Names.{channel, numbered}
use Rattle.bz_model.specs.Nets.{Site}
use Rattle.bz_model.specs.Rows.{kind_word}

-- what a channel carries, nothing where there is none of this number
abbrev pub kind_at : List Chan → ℕ → ChanKind
kind_at chans k = unwrap_or (option_map (λ c. c.kind) (channel chans k)) Sync

-- the word of a component's kind, none where there is no component of this number
unfoldable pub kind_of : List Site → ℕ → List ℕ
kind_of sites comp = unwrap_or (option_map (λ s. kind_word s.kind) (numbered sites comp)) []

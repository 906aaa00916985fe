-- What the entries of a journal show on channels: who asks and who replies there. That an end has noticed it, no one sees.
use Rattle.std.specs.Prelude.{ℕ, Bool, true, false, Option, List, [], ◌∷◌}
use Rattle.std.specs.List.{flat_map}
use Rattle.bz_model.specs.declared.channel.Move.{Move}
use Rattle.bz_model.specs.declared.channel.Move.TheVariants as move
use Rattle.bz_model.specs.declared.event.Entry.{Entry}
use Rattle.bz_model.specs.declared.event.Entry.TheVariants.{Fired, Host, Rested}
use Rattle.bz_model.specs.declared.event.Reply.{Reply}
use Rattle.bz_model.specs.declared.event.Reply.TheVariants.{Done}
use Rattle.bz_model.specs.declared.event.Verb.{Verb}
use Rattle.bz_model.specs.declared.event.Verb.TheVariants.{Offer, Answer}
use Rattle.bz_complete.specs.declared.short.Sent.{Sent}
use Rattle.bz_complete.specs.declared.short.Sent.TheVariants as sent
use Rattle.bz_complete.specs.declared.short.ShortMove.{ShortMove}

abbrev pub short : Sent → ℕ → Option ℕ → ShortMove
short sent k v = record { sent = sent; chan = k; value = v }

-- of a component's moves a request and a reply
abbrev pub shown_move : ℕ → Move → Option ℕ → List ShortMove
shown_move k move.Ask v = short sent.Ask k v ∷ []
shown_move k move.Reply v = short sent.Reply k v ∷ []
shown_move k move.Take v = []
shown_move k move.Got v = []

abbrev pub is_done : Reply → Bool
is_done Done = true
is_done reply = false

-- of a host's words an offer and an answer, where they are done; a port has the number of its channel
abbrev pub shown_word : Verb → ℕ → Option ℕ → Reply → List ShortMove
shown_word Offer k v Done = short sent.Ask k v ∷ []
shown_word Answer k v Done = short sent.Reply k v ∷ []
shown_word verb k v reply = []

abbrev pub shown_of : Entry → List ShortMove
shown_of (Fired who c p k mv v) = shown_move k mv v
shown_of (Host who verb port v reply) = shown_word verb port v reply
shown_of (Rested who) = []

abbrev pub shown : List Entry → List ShortMove
shown entries = flat_map shown_of entries

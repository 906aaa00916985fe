-- How often the components of a net moved, and how often its ports were used, in the entries of traces.
use Rattle.std.specs.Prelude.{◌≡◌, ◌≢◌, ℕ, ◌+◌, ◌<◌, ◌==◌, ◌&&◌, min, Bool, true, false, if◌then◌else◌, List, ◌++◌, length, slice_index_or}
use Rattle.std.specs.List.{count_by}
use Rattle.bz_model.specs.declared.channel.Move.{Move}
use Rattle.bz_model.specs.declared.channel.Move.TheVariants.{Ask, Take}
use Rattle.bz_model.specs.declared.event.Entry.{Entry}
use Rattle.bz_model.specs.declared.event.Entry.TheVariants.{Fired, Host, Rested}
use Rattle.bz_model.specs.Nets.{Wiring, chan_at, passive_at}

-- an entry is a move of component c
abbrev pub is_move_of : ℕ → Entry → Bool
is_move_of c (Fired who comp port chan mv value) = comp == c
is_move_of c (Host who verb port value reply) = false
is_move_of c (Rested who) = false

-- with a request an active end asks, and a passive one takes
abbrev pub is_request : Bool → Move → Bool
is_request true Take = true
is_request false Ask = true
is_request passive mv = false

-- an entry is a request at an end of channel k, the passive one or the active one
abbrev pub is_request_at : ℕ → Bool → Entry → Bool
is_request_at k passive (Fired who comp port chan mv value) = is_request passive mv && (chan == k)
is_request_at k passive (Host who verb port value reply) = false
is_request_at k passive (Rested who) = false

-- the most that is counted: a count that has come so far stays there
abbrev pub most_counted : ℕ
most_counted = 18446744073709551615

abbrev pub counted : (Entry → Bool) → List Entry → ℕ
counted p entries = min (count_by p entries) most_counted

-- a count for each component, and for each channel one of its active and one of its passive end; number k is at place k
pub record Tallies : Type 0 where
  pub comps : List ℕ
  pub asks : List ℕ
  pub takes : List ℕ

abbrev pub tally : List ℕ → ℕ → ℕ
tally row k = slice_index_or row k 0

-- what a row has at each place is how many of the entries are such
abbrev pub CountEach : (ℕ → Entry → Bool) → List ℕ → List Entry → Type 0
CountEach p row entries = (k : ℕ) → k < length row → tally row k ≡ counted (p k) entries

-- The counts are those of the entries.
pub record AreCounts (tallies : Tallies) (entries : List Entry) : Type 0 where
  pub comps : CountEach is_move_of tallies.comps entries
  pub asks : CountEach (λ k. is_request_at k false) tallies.asks entries
  pub takes : CountEach (λ k. is_request_at k true) tallies.takes entries

-- there is a place for each component and each channel of a net
pub record HasPlaces (w : Wiring) (tallies : Tallies) : Type 0 where
  pub comps : length tallies.comps ≡ length w.sites + 1
  pub asks : length tallies.asks ≡ length w.chans + 1
  pub takes : length tallies.takes ≡ length w.chans + 1

-- The entries were counted behind all that was counted before, and no place is gone.
pub record CountsOn (old : Tallies) (entries : List Entry) (new : Tallies) : Type 0 where
  pub counts : (before : List Entry) → AreCounts old before → AreCounts new (before ++ entries)
  pub places : (w : Wiring) → HasPlaces w old → HasPlaces w new

-- the count of port p of component c: how often its channel was requested at this end
abbrev pub port_tally : Wiring → Tallies → ℕ → ℕ → ℕ
port_tally w tallies c p = tally (if passive_at w.sites c p then tallies.takes else tallies.asks) (chan_at w.sites c p)

-- one more was counted at a place, where there is one, and nothing else
pub record Raises (old : List ℕ) (place : ℕ) (new : List ℕ) : Type 0 where
  pub long : length new ≡ length old
  pub here : place < length old → tally new place ≡ min (tally old place + 1) most_counted
  pub others : (k : ℕ) → k ≢ place → tally new k ≡ tally old k

-- another row was added, place by place
pub record Adds (old more new : List ℕ) : Type 0 where
  pub long : length new ≡ length old
  pub each : (k : ℕ) → k < length old → tally new k ≡ min (tally old k + tally more k) most_counted

abbrev pub asks_or_takes : Move → Bool
asks_or_takes Ask = true
asks_or_takes Take = true
asks_or_takes mv = false

-- an entry is a request that component c makes or takes at its port p
abbrev pub is_request_of : ℕ → ℕ → Entry → Bool
is_request_of c p (Fired who comp port chan mv value) = asks_or_takes mv && ((comp == c) && (port == p))
is_request_of c p (Host who verb port value reply) = false
is_request_of c p (Rested who) = false

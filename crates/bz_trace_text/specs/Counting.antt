-- How many entries there are of each kind.
use Rattle.std.specs.Prelude.{◌≡◌, ℕ, ◌<◌, ◌==◌, Bool, true, false, List}
use Rattle.std.specs.List.{count_by}
use Rattle.bz_model.specs.declared.event.Entry.{Entry}
use Rattle.bz_model.specs.declared.event.Entry.TheVariants.{Fired, Host, Rested}
use Rattle.bz_trace_text.specs.declared.tally.Counts.{Counts}

abbrev pub is_fired : Entry → Bool
is_fired (Fired who comp port chan mv value) = true
is_fired e = false

abbrev pub is_host : Entry → Bool
is_host (Host who verb port value reply) = true
is_host e = false

abbrev pub is_rest : Entry → Bool
is_rest (Rested who) = true
is_rest e = false

pub record Tells (counts : Counts) (entries : List Entry) : Type 0 where
  pub fired : counts.fired ≡ count_by is_fired entries
  pub host : counts.host ≡ count_by is_host entries
  pub rests : counts.rests ≡ count_by is_rest entries

-- one entry more can be counted, of any kind
abbrev pub AreFewer : Counts → ℕ → Type 0
AreFewer counts most = (counts.fired < most) × (counts.host < most) × (counts.rests < most)

-- how many lines a text has: each ends with a line feed
abbrev pub line_count : List ℕ → ℕ
line_count text = count_by (λ b. b == 10) text

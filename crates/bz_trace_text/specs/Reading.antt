-- The reading of a line, as one function on lists: what stands at the front, and what follows it.
use Rattle.std.specs.Prelude.{◌≡◌, ◌≢◌, ℕ, suc, ◌+◌, ◌-◌, ◌*◌, ◌^◌, Bool, true, false, ◌==◌, ◌&&◌, nat_le, Option, Some, None, List, [], ◌∷◌, ◌++◌, codes, if◌then◌else◌}
use Rattle.std.specs.Char.{is_ascii_digit}
use Rattle.std.specs.List.{AllByRecursion}
use Rattle.bz_model.specs.declared.channel.Move.{Move}
use Rattle.bz_model.specs.declared.channel.Move.TheVariants as move
use Rattle.bz_model.specs.declared.channel.Phase.{Phase}
use Rattle.bz_model.specs.declared.channel.Phase.TheVariants as phase
use Rattle.bz_model.specs.Limits.{max_width}
use Rattle.bz_model.specs.declared.event.Who.{Who}
use Rattle.bz_model.specs.declared.event.Who.TheVariants as who
use Rattle.bz_model.specs.declared.event.Verb.{Verb}
use Rattle.bz_model.specs.declared.event.Verb.TheVariants as verb
use Rattle.bz_model.specs.declared.event.Reply.{Reply}
use Rattle.bz_model.specs.declared.event.Reply.TheVariants as reply
use Rattle.bz_model.specs.declared.event.Entry.{Entry}
use Rattle.bz_model.specs.declared.event.Entry.TheVariants as entry
use Rattle.bz_model.specs.Names.{Outside, External}
use Rattle.bz_model.specs.Traces.{name_form}
use Rattle.bz_model.specs.Entries.{carries_at}

infixl 10 ◌>>=◌
abbrev pub ◌>>=◌ : {A B : Type 0} → Option A → (A → Option B) → Option B
None >>= f = None
(Some x) >>= f = f x

-- what a function returned, seen by view, is what reading gives
abbrev pub Reads : {X Y : Type 0} → (X → Y) → Option X → Option Y → Type 0
Reads view None read = read ≡ None
Reads view (Some x) read = read ≡ Some (view x)

-- the first that is there, beside a, else the other
abbrev pub with_else : {A : Type 0} → Option (List ℕ) → A → Option (A × List ℕ) → Option (A × List ℕ)
with_else (Some r) a other = Some (a, r)
with_else None a other = other

-- what follows this front
unfoldable pub strip : List ℕ → List ℕ → Option (List ℕ)
strip [] t = Some t
strip (a ∷ p) [] = None
strip (a ∷ p) (b ∷ t) = if a == b then strip p t else None

-- the number goes on from n, up to the first byte that is no digit; one above `most` is not read
unfoldable pub digits_on : ℕ → ℕ → List ℕ → Option (ℕ × List ℕ)
digits_on most n [] = Some (n, [])
digits_on most n (b ∷ t) =
    if is_ascii_digit b
    then (if nat_le (n * 10 + (b - 48)) most then digits_on most (n * 10 + (b - 48)) t else None)
    else Some (n, b ∷ t)

-- a number of at most `most`; behind a zero it ends
unfoldable pub number_at : ℕ → List ℕ → Option (ℕ × List ℕ)
number_at most [] = None
number_at most (b ∷ t) =
    if is_ascii_digit b && nat_le (b - 48) most
    then (if b == 48 then Some (0, t) else digits_on most (b - 48) t)
    else None

abbrev pub most_value : ℕ
most_value = 2 ^ max_width - 1

abbrev pub most_number : ℕ
most_number = 4294967295

unfoldable pub who_number : ℕ → List ℕ → Option (ℕ × List ℕ)
who_number most t = do
  n ← number_at most t
  if n.0 == 0 then None else Some n

unfoldable pub who_at : List ℕ → Option (Who × List ℕ)
who_at [] = None
who_at (b ∷ t) =
    if b == 104 then (do
      n ← who_number 16 t
      Some (who.Host n.0, n.1))
    else (if b == 119 then (do
      n ← who_number 8 t
      Some (who.Worker n.0, n.1))
    else None)

unfoldable pub move_at : List ℕ → Option (Move × List ℕ)
move_at t =
    with_else (strip (codes "ask ") t) move.Ask
    (with_else (strip (codes "take ") t) move.Take
    (with_else (strip (codes "reply ") t) move.Reply
    (with_else (strip (codes "got ") t) move.Got None)))

unfoldable pub verb_at : List ℕ → Option (Verb × List ℕ)
verb_at t =
    with_else (strip (codes "offer ") t) verb.Offer
    (with_else (strip (codes "collect ") t) verb.Collect
    (with_else (strip (codes "accept ") t) verb.Accept
    (with_else (strip (codes "answer ") t) verb.Answer
    (with_else (strip (codes "watch ") t) verb.Watch None))))

-- a space and a value, where one is carried
unfoldable pub carried_at : Bool → List ℕ → Option (Option ℕ × List ℕ)
carried_at false t = Some (None, t)
carried_at true t = do
  s ← strip (codes " ") t
  n ← number_at most_value s
  Some (Some n.0, n.1)

unfoldable pub fired_at : Outside → Who → List ℕ → Option (Entry × List ℕ)
fired_at net w t = do
  comp ← number_at most_number t
  s ← strip (codes " ") comp.1
  mv ← move_at s
  chan ← number_at most_number mv.1
  value ← carried_at (carries_at net.chans chan.0 mv.0) chan.1
  r ← strip (codes "\n") value.1
  Some (entry.Fired w comp.0 0 chan.0 mv.0 value.0, r)

-- the end of the line, or a space, a value and the end
abbrev pub value_end_or : Option (List ℕ) → List ℕ → Option (Option ℕ × List ℕ)
value_end_or (Some r) t = Some (None, r)
value_end_or None t = do
  s ← strip (codes " ") t
  n ← number_at most_value s
  r ← strip (codes "\n") n.1
  Some (Some n.0, r)

unfoldable pub value_end : List ℕ → Option (Option ℕ × List ℕ)
value_end t = value_end_or (strip (codes "\n") t) t

abbrev pub asked : (Option ℕ × List ℕ) → Option (Phase × List ℕ)
asked v = Some (phase.Asked v.0, v.1)

abbrev pub replied : (Option ℕ × List ℕ) → Option (Phase × List ℕ)
replied v = Some (phase.Replied v.0, v.1)

-- the value of a phase that has its word, behind that, else another phase
abbrev pub valued_else : Option (List ℕ) → ((Option ℕ × List ℕ) → Option (Phase × List ℕ)) → Option (Phase × List ℕ) → Option (Phase × List ℕ)
valued_else (Some t) f other = value_end t >>= f
valued_else None f other = other

-- a phase and the end of the line
unfoldable pub phase_end : List ℕ → Option (Phase × List ℕ)
phase_end t =
    with_else (strip (codes "idle\n") t) phase.Idle
    (valued_else (strip (codes "asked") t) asked
    (with_else (strip (codes "taken\n") t) phase.Taken
    (valued_else (strip (codes "replied") t) replied
    (with_else (strip (codes "broken\n") t) phase.Broken None))))

abbrev pub phased_else : Option (List ℕ) → (Phase → Reply) → Option (Reply × List ℕ) → Option (Reply × List ℕ)
phased_else (Some t) f other = do
  p ← phase_end t
  Some (f p.0, p.1)
phased_else None f other = other

abbrev pub value_else : Option (List ℕ) → Option (Reply × List ℕ) → Option (Reply × List ℕ)
value_else (Some t) other = do
  n ← number_at most_value t
  r ← strip (codes "\n") n.1
  Some (reply.Value n.0, r)
value_else None other = other

-- a reply and the end of the line
unfoldable pub reply_end : List ℕ → Option (Reply × List ℕ)
reply_end t =
    with_else (strip (codes "done\n") t) reply.Done
    (value_else (strip (codes "value ") t)
    (with_else (strip (codes "not-yet\n") t) reply.NotYet
    (phased_else (strip (codes "busy ") t) reply.Busy
    (phased_else (strip (codes "not-taken ") t) reply.NotTaken
    (phased_else (Some t) reply.Watched None)))))

-- a port by the form of its name
abbrev pub form_of : External → List ℕ
form_of p = name_form p.name

abbrev pub HasNoSpace : List ℕ → Type 0
HasNoSpace text = AllByRecursion (λ b. b ≢ 32) text

-- the first port from number k on whose name stands here, and a space
unfoldable pub port_from : ℕ → List External → List ℕ → Option (ℕ × List ℕ)
port_from k [] t = None
port_from k (p ∷ ps) t = with_else (strip (name_form p.name ++ codes " ") t) k (port_from (suc k) ps t)

abbrev pub begins_digit : List ℕ → Bool
begins_digit [] = false
begins_digit (b ∷ t) = is_ascii_digit b

abbrev pub may_bring : Verb → Bool
may_bring verb.Offer = true
may_bring verb.Answer = true
may_bring v = false

abbrev pub given_if : Bool → List ℕ → Option (Option ℕ × List ℕ)
given_if false t = Some (None, t)
given_if true t = do
  n ← number_at most_value t
  r ← strip (codes " ") n.1
  Some (Some n.0, r)

-- the value of a command that may bring one and does, and a space
unfoldable pub given_at : Verb → List ℕ → Option (Option ℕ × List ℕ)
given_at v t = given_if (may_bring v && begins_digit t) t

unfoldable pub host_at : Outside → Who → List ℕ → Option (Entry × List ℕ)
host_at net w t = do
  v ← verb_at t
  port ← port_from 1 net.ports v.1
  given ← given_at v.0 port.1
  r ← reply_end given.1
  Some (entry.Host w v.0 port.0 given.0 r.0, r.1)

-- a command is a host's
abbrev pub of_host : Outside → Who → Option (List ℕ) → Option (Entry × List ℕ)
of_host net w None = None
of_host net (who.Host n) (Some t) = host_at net (who.Host n) t
of_host net (who.Worker n) (Some t) = None

abbrev pub fired_else : Outside → Who → Option (List ℕ) → Option (Entry × List ℕ) → Option (Entry × List ℕ)
fired_else net w (Some t) other = fired_at net w t
fired_else net w None other = other

unfoldable pub event_at : Outside → Who → List ℕ → Option (Entry × List ℕ)
event_at net w t =
    with_else (strip (codes " rest\n") t) (entry.Rested w)
    (fired_else net w (strip (codes " fire ") t)
    (of_host net w (strip (codes " ") t)))

-- the entry whose line stands at the front, and what follows it
unfoldable pub line_at : Outside → List ℕ → Option (Entry × List ℕ)
line_at net t = do
  w ← who_at t
  event_at net w.0 w.1

-- the component of the clash line at the front, and what follows it
unfoldable pub clash_at : List ℕ → Option (ℕ × List ℕ)
clash_at t = do
  s ← strip (codes "clash ") t
  n ← number_at most_number s
  r ← strip (codes "\n") n.1
  Some (n.0, r)

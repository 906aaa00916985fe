-- Who is woken after an entry, and who is not.
use Rattle.std.specs.Prelude.{◌≡◌, ◌⊎◌, ◌==◌, ◌||◌, ℕ, ◌<◌, ◌≤◌, Bool, true, false, not, Some, List, length, replicate, slice_get, MatchBool}
use Rattle.bz_model.specs.declared.event.Entry.{Entry}
use Rattle.bz_model.specs.declared.event.Entry.TheVariants.{Fired, Host, Rested}
use Rattle.bz_model.specs.Nets.{State}
use Rattle.bz_model.specs.Runs.{Rest}
use Rattle.bz_net.specs.Simulation.{Simulation}
use Rattle.bz_net.specs.Answering.{would_answer}
use Rattle.bz_past.specs.declared.standing.Standing.{Standing}
use Rattle.bz_past.specs.declared.standing.Standing.TheVariants.{Running, Waiting, Ended}
use Rattle.bz_locked.specs.declared.locked.Work.TheVariants.{Stopped, Resting, Spent}
use Rattle.bz_locked.specs.declared.locked.Polled.{Polled}
use Rattle.bz_locked.specs.declared.locked.Polled.TheVariants as told
use Rattle.bz_locked.specs.declared.audience.Audience.{Audience}
use Rattle.bz_locked.specs.Working.{WorkIs}

-- all who wait are told that all was stopped, or that the net rests or is spent
abbrev pub IsOver : Simulation → ℕ → Bool → List Standing → Type 0
IsOver net fuel stopped standings =
    WorkIs net fuel stopped standings Stopped ⊎ WorkIs net fuel stopped standings Resting ⊎ WorkIs net fuel stopped standings Spent

-- the session waits for no answer at channel k that it would get
abbrev pub is_left : State → ℕ → Standing → Bool
is_left s k Running = true
is_left s k (Waiting verb port) = not (port == k) || not (would_answer s verb port)
is_left s k Ended = true

-- marked are the sessions that are not left, and no other
abbrev pub MarksOthers : (Standing → Bool) → List Standing → List Bool → Type 0
MarksOthers left standings marks = (place : ℕ) (standing : Standing) → slice_get standings place ≡ Some standing → slice_get marks place ≡ Some (not (left standing))

abbrev pub MarksNobody : List Bool → Type 0
MarksNobody marks = marks ≡ replicate 16 false

-- marked are those that get an answer at channel k: they wait at external ports alone, and port k is channel k
abbrev pub MarksAt : Simulation → List Standing → ℕ → List Bool → Type 0
MarksAt net standings k marks =
    (k ≤ length net.wiring.ports → MarksOthers (is_left net.state k) standings marks) × (length net.wiring.ports < k → MarksNobody marks)

-- marked are those that get an answer at the channel of this entry; that the net rests has none
abbrev pub MarksAnswered : Simulation → List Standing → Entry → List Bool → Type 0
MarksAnswered net standings (Fired who c p k mv value) marks = MarksAt net standings k marks
MarksAnswered net standings (Host who verb port value reply) marks = MarksAt net standings port marks
MarksAnswered net standings (Rested who) marks = MarksNobody marks

-- workers are woken after a command where a component can move; what can move after a firing, its own worker goes on with
abbrev pub GivesWork : Simulation → Entry → Bool → Type 0
GivesWork net (Fired who c p k mv value) gives = gives ≡ false
GivesWork net (Host who verb port value reply) gives = MatchBool gives (Rest net.wiring.sites net.state → ⊥) (Rest net.wiring.sites net.state)
GivesWork net (Rested who) gives = gives ≡ false

abbrev pub WakesAll : Audience → Type 0
WakesAll a = (a.sessions ≡ replicate 16 true) × (a.workers ≡ true)

abbrev pub WakesNobody : Audience → Type 0
WakesNobody a = MarksNobody a.sessions × (a.workers ≡ false)

-- all who wait, where they are told that it is over; else nobody
abbrev pub WakesAtEnd : Simulation → ℕ → Bool → List Standing → Audience → Type 0
WakesAtEnd net fuel stopped standings a = (IsOver net fuel stopped standings → WakesAll a) × ((IsOver net fuel stopped standings → ⊥) → WakesNobody a)

-- Those whom this entry concerns, and no other: all where it is over, else the sessions that get an answer at its channel, and
-- the workers where it is a command and a component can move.
abbrev pub Concerns : Simulation → ℕ → Bool → List Standing → Entry → Audience → Type 0
Concerns net fuel stopped standings entry a =
    (IsOver net fuel stopped standings → WakesAll a)
    × ((IsOver net fuel stopped standings → ⊥) → MarksAnswered net standings entry a.sessions × GivesWork net entry a.workers)

-- those whom an answer's entry concerns; what is told in place of an answer concerns nobody else
abbrev pub ConcernsAnswered : Simulation → ℕ → Bool → List Standing → Polled → Audience → Type 0
ConcernsAnswered net fuel stopped standings (told.Answered entry reply len) a = Concerns net fuel stopped standings entry a
ConcernsAnswered net fuel stopped standings told.Resting a = WakesNobody a
ConcernsAnswered net fuel stopped standings told.Spent a = WakesNobody a
ConcernsAnswered net fuel stopped standings told.Stopped a = WakesNobody a
ConcernsAnswered net fuel stopped standings told.Wait a = WakesNobody a

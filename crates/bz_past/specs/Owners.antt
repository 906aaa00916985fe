-- Whose entries a journal has, and how moments lead on by the entries of one who alone.
use Rattle.std.specs.Prelude.{◌≡◌, ℕ, zero, suc, ◌≤◌, Bool, true, false, ◌==◌, ⊤, List, [], ◌∷◌, ◌++◌}
use Rattle.std.specs.List.{filter}
use Rattle.bz_model.specs.declared.event.Who.{Who}
use Rattle.bz_model.specs.declared.event.Who.TheVariants as who
use Rattle.bz_model.specs.declared.event.Entry.{Entry}
use Rattle.bz_model.specs.declared.event.Entry.TheVariants.{Fired, Host, Rested}
use Rattle.bz_past.specs.Moments.{Leads}
use Rattle.bz_past.specs.declared.standing.Turn.{Turn}
use Rattle.bz_past.specs.declared.view.Moment.{Moment}

abbrev pub who_of : Entry → Who
who_of (Fired who comp port chan mv value) = who
who_of (Host who verb port value reply) = who
who_of (Rested who) = who

abbrev pub same_who : Who → Who → Bool
same_who (who.Host j) (who.Host k) = j == k
same_who (who.Host j) (who.Worker k) = false
same_who (who.Worker j) (who.Host k) = false
same_who (who.Worker j) (who.Worker k) = j == k

-- the entries of one who, in order
abbrev pub part_of : Who → List Entry → List Entry
part_of who entries = filter (λ e. same_who (who_of e) who) entries

abbrev pub is_host : Who → Bool
is_host (who.Host k) = true
is_host (who.Worker k) = false

-- commands are given by hosts alone
abbrev pub MayMake : Who → Entry → Type 0
MayMake w (Fired who comp port chan mv value) = ⊤
MayMake w (Host who verb port value reply) = is_host w ≡ true
MayMake w (Rested who) = ⊤

-- all of them are of this one
abbrev pub AreOf : Who → List Entry → Type 0
AreOf w [] = ⊤
AreOf w (e ∷ es) = (who_of e ≡ w) × MayMake w e × AreOf w es

-- none of them is
abbrev pub AreOthers : Who → List Entry → Type 0
AreOthers w [] = ⊤
AreOthers w (e ∷ es) = (same_who (who_of e) w ≡ false) × AreOthers w es

-- each turn is of this one, which is a host
abbrev pub AreTurnsOf : Who → List Turn → Type 0
AreTurnsOf w [] = ⊤
AreTurnsOf w (t ∷ ts) = (t.who ≡ w) × (is_host w ≡ true) × AreTurnsOf w ts

-- none is
abbrev pub AreTurnsOfOthers : Who → List Turn → Type 0
AreTurnsOfOthers w [] = ⊤
AreTurnsOfOthers w (t ∷ ts) = (same_who t.who w ≡ false) × AreTurnsOfOthers w ts

-- The second moment comes of the first by entries and turns of this one alone.
abbrev pub LeadsBy : Who → Moment → Moment → Type 0
LeadsBy w a b = (leads : Leads a b) × AreOf w leads.rest × AreTurnsOf w leads.later

-- It comes of it by entries and turns of others.
abbrev pub LeadsWithout : Who → Moment → Moment → Type 0
LeadsWithout w a b = (leads : Leads a b) × AreOthers w leads.rest × AreTurnsOfOthers w leads.later

-- where the last entry stands that is one's own, from 1, if this is so of the first of them, or of one behind it
abbrev pub behind : Bool → ℕ → ℕ
behind true n = suc n
behind false zero = zero
behind false (suc n) = suc (suc n)

-- the place of the last entry of one who, from 1; 0 where there is none
abbrev pub last_of : Who → List Entry → ℕ
last_of w [] = zero
last_of w (e ∷ es) = behind (same_who (who_of e) w) (last_of w es)

-- it is one of so many hosts and workers, which are counted from 1
abbrev pub IsNamed : ℕ → ℕ → Who → Type 0
IsNamed hosts workers (who.Host k) = (1 ≤ k) × (k ≤ hosts)
IsNamed hosts workers (who.Worker k) = (1 ≤ k) × (k ≤ workers)

-- each of these entries is of one of them, and a command of a host
abbrev pub AreNamed : ℕ → ℕ → List Entry → Type 0
AreNamed hosts workers [] = ⊤
AreNamed hosts workers (e ∷ es) = IsNamed hosts workers (who_of e) × MayMake (who_of e) e × AreNamed hosts workers es

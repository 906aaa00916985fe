-- Requests that meet: two at once at a component that takes one at a time.
use Rattle.std.specs.Prelude.{◌≡◌, ◌≢◌, ◌⊎◌, ◌↔◌, ◌-◌, ℕ, slice_index_or, Bool, true, false, List, [], ◌∷◌, Contains}
use Rattle.std.specs.List.Sorted.{IsStrictlyIncreasing}
use Rattle.bz_model.specs.declared.channel.Phase.{Phase}
use Rattle.bz_model.specs.declared.channel.Phase.TheVariants.{Idle}
use Rattle.bz_model.specs.declared.event.Entry.{Entry}
use Rattle.bz_model.specs.declared.kind.Kind.{Kind}
use Rattle.bz_model.specs.declared.kind_rules.Callers.{Callers}
use Rattle.bz_model.specs.declared.kind_rules.Callers.TheVariants.{Meet}
use Rattle.bz_model.specs.Rows.{callers_of}
use Rattle.bz_model.specs.Nets.{Site, Wiring, State, IsPort, chan_at, passive_at, site_at, opening}
use Rattle.bz_model.specs.Runs.{Follows}

-- the kinds at which requests may meet
abbrev pub may_meet : Callers → Bool
may_meet Meet = true
may_meet callers = false

abbrev pub is_mixer : Kind → Bool
is_mixer kind = may_meet (callers_of kind)

-- the phase of channel k
abbrev pub phase_of : List Phase → ℕ → Phase
phase_of phases k = slice_index_or phases (k - 1) Idle

-- port p of component c is passive, and its channel isn't idle in these phases
pub record IsAsked (sites : List Site) (phases : List Phase) (c p : ℕ) : Type 0 where
  pub is_port : IsPort sites c p
  pub passive : passive_at sites c p ≡ true
  pub busy : phase_of phases (chan_at sites c p) ≢ Idle

-- two requests meet at component c
pub record Clashes (sites : List Site) (phases : List Phase) (c : ℕ) : Type 0 where
  pub mixes : is_mixer (site_at sites c).kind ≡ true
  pub one : ℕ
  pub other : ℕ
  pub apart : one ≢ other
  pub first : IsAsked sites phases c one
  pub second : IsAsked sites phases c other

-- they meet there in some state of the run that these entries tell from s on
abbrev pub ClashesIn : Wiring → State → List Entry → ℕ → Type 0
ClashesIn w s [] c = Clashes w.sites s.phases c
ClashesIn w s (e ∷ es) c = Clashes w.sites s.phases c ⊎ ((next : State) × Follows w s e next × ClashesIn w next es c)

-- the components at which requests met in the run from the opening, and no others, rising
pub record AreClashed (w : Wiring) (entries : List Entry) (comps : List ℕ) : Type 0 where
  pub rising : IsStrictlyIncreasing comps
  pub exact : (c : ℕ) → Contains comps c ↔ ClashesIn w (opening w) entries c

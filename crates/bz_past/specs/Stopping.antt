-- Why all was stopped.
use Rattle.std.specs.Prelude.{◌≡◌, ◌⊎◌, ℕ, ◌≤◌, Bool, true}
use Rattle.bz_model.specs.declared.event.NetError.{NetError}
use Rattle.bz_model.specs.declared.event.Who.{Who}
use Rattle.bz_model.specs.declared.event.Who.TheVariants as who
use Rattle.bz_net.specs.Simulation.{Simulation}
use Rattle.bz_net.specs.Replies.{RefusesEntry}
use Rattle.bz_past.specs.Moments.{Leads}
use Rattle.bz_past.specs.declared.view.Moment.{Moment}

-- No entry of this worker can be added: the journal is full, or memory is wanting. What is refused to a host stops nobody.
abbrev pub IsRefused : Who → Simulation → Type 0
IsRefused (who.Host k) net = ⊥
IsRefused (who.Worker k) net = (e : NetError) × RefusesEntry net e

-- To one of so many workers an entry was refused, at a moment that has led to this one.
pub record HasCause (workers : ℕ) (now : Moment) : Type 0 where
  pub worker : ℕ
  pub named : (1 ≤ worker) × (worker ≤ workers)
  pub before : Moment
  pub error : NetError
  pub refused : RefusesEntry before.net error
  pub leads : Leads before now

-- Where all is stopped the stopper was used, or an entry was refused.
abbrev pub IsStoppedFor : Bool → ℕ → Moment → Type 0
IsStoppedFor used workers now = now.stopped ≡ true → (used ≡ true) ⊎ HasCause workers now

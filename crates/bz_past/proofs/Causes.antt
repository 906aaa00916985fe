-- Why all was stopped stays the reason as the journal goes on.
use Rattle.std.proofs.Common.{ℕ, ◌≤◌, arith}
use Rattle.bz_model.specs.declared.event.Who.{Who}
use Rattle.bz_model.specs.declared.event.Who.TheVariants as who
use Rattle.bz_past.specs.Moments.{Leads}
use Rattle.bz_past.specs.Owners.{IsNamed}
use Rattle.bz_past.specs.Stopping.{HasCause, IsRefused}
use Rattle.bz_past.specs.declared.view.Moment.{Moment}
use Rattle.bz_past.proofs.Leading.{onward}

-- an entry is refused now
pub caused : (hosts workers : ℕ) (w : Who) (a b : Moment) → IsNamed hosts workers w → IsRefused w a.net → Leads a b → HasCause workers b
caused hosts workers (who.Host k) a b named refused leads = absurd refused
caused hosts workers (who.Worker k) a b named refused leads = record {
  worker = k;
  named = named;
  before = a;
  error = refused.0;
  refused = refused.1;
  leads = leads;
}

pub cause_on : (workers : ℕ) (a b : Moment) → Leads a b → HasCause workers a → HasCause workers b
cause_on workers a b on cause = record {
  worker = cause.worker;
  named = cause.named;
  before = cause.before;
  error = cause.error;
  refused = cause.refused;
  leads = onward cause.before a b cause.leads on;
}

-- more workers were named
pub cause_up : (few more : ℕ) (now : Moment) → few ≤ more → HasCause few now → HasCause more now
cause_up few more now up cause = record {
  worker = cause.worker;
  named = (cause.named.0, omega (arith, cause.named.1, up));
  before = cause.before;
  error = cause.error;
  refused = cause.refused;
  leads = cause.leads;
}

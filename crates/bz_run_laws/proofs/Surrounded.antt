-- A move at a port from outside is the host's command of that verb.
use Rattle.std.proofs.Common.{◌≡◌, ◌≢◌, ℕ, ◌^◌, Bool, true, false, Option, Some, None, refl, ap, ◌∙◌, IsTrue}
use Rattle.std.specs.Prelude.{if◌then◌else◌, not}
use Rattle.std.proofs.lemmas.Bool.{lt-ltb}
use Rattle.bz_model.specs.declared.channel.Chan.{Chan}
use Rattle.bz_model.specs.declared.channel.ChanKind.{ChanKind}
use Rattle.bz_model.specs.declared.channel.ChanKind.TheVariants.{Sync, Push, Pull}
use Rattle.bz_model.specs.declared.channel.Move.{Move}
use Rattle.bz_model.specs.declared.channel.Move.TheVariants.{Ask, Take, Reply, Got}
use Rattle.bz_model.specs.declared.channel.Phase.{Phase}
use Rattle.bz_model.specs.declared.channel.Phase.TheVariants.{Idle, Asked, Taken, Replied, Broken}
use Rattle.bz_model.specs.declared.expr.Expr.{Expr}
use Rattle.bz_model.specs.declared.event.NetError.TheVariants.{TooLarge, WrongSide}
use Rattle.bz_model.specs.Phases.{allows, carries, incoming, phase_after}
use Rattle.bz_model.specs.Terms.{Store}
use Rattle.bz_model.specs.Heads.{carried}
use Rattle.bz_model.specs.Hosts.{fits_side, host_after, received, refusal, reply_to, value_refusal, wants_value}
use Rattle.bz_model.specs.Widths.{Carries, FitsOn}
use Rattle.bz_net.specs.Sides.{answers}
use Rattle.bz_run_laws.specs.Embeddings.{answered, given, verb_of}

-- ---- the reply, and the phase after

pub record Plays (mv : Move) (phase : Phase) (value : Option ℕ) : Type 0 where
  pub reply : answered mv value ≡ reply_to (verb_of mv) phase
  pub after : host_after (verb_of mv) (given mv value) phase ≡ phase_after phase mv value

module _ (gives : Expr) (store : Store) where
  pub plays : (mv : Move) (phase : Phase) (value : Option ℕ) → IsTrue (allows phase mv) → phase_after phase mv value ≢ Broken
      → value ≡ carried mv gives store (incoming phase mv) → Plays mv phase value
  plays Ask Idle value can whole is = record { reply = refl; after = refl }
  plays Ask (Asked v) value can whole is = absurd (whole refl)
  plays Ask Taken value can whole is = absurd (whole refl)
  plays Ask (Replied v) value can whole is = absurd (whole refl)
  plays Ask Broken value can whole is = absurd (whole refl)
  plays Take Idle value can whole is = absurd (cc)
  plays Take (Asked v) value can whole is = record { reply = ap received is; after = refl }
  plays Take Taken value can whole is = absurd (cc)
  plays Take (Replied v) value can whole is = absurd (cc)
  plays Take Broken value can whole is = absurd (cc)
  plays Reply Idle value can whole is = absurd (whole refl)
  plays Reply (Asked v) value can whole is = absurd (whole refl)
  plays Reply Taken value can whole is = record { reply = refl; after = refl }
  plays Reply (Replied v) value can whole is = absurd (whole refl)
  plays Reply Broken value can whole is = absurd (whole refl)
  plays Got Idle value can whole is = absurd (cc)
  plays Got (Asked v) value can whole is = absurd (cc)
  plays Got Taken value can whole is = absurd (cc)
  plays Got (Replied v) value can whole is = record { reply = ap received is; after = refl }
  plays Got Broken value can whole is = absurd (cc)

-- ---- it is not refused

unrefused : (wants : Bool) (w : ℕ) (value : Option ℕ) → Carries wants w value → value_refusal wants w value ≡ None
unrefused true w None fits = absurd fits
unrefused true w (Some v) fits = ap (λ b. if b then None else Some TooLarge) (lt-ltb v (2 ^ w) fits)
unrefused false w None fits = refl
unrefused false w (Some v) fits = absurd fits

wanted : (mv : Move) (kind : ChanKind) (w : ℕ) (value : Option ℕ) → Carries (carries kind mv) w value → Carries (wants_value (verb_of mv) kind) w (given mv value)
wanted Ask Sync w value fits = fits
wanted Ask Push w value fits = fits
wanted Ask Pull w value fits = fits
wanted Take kind w value fits = tt
wanted Reply Sync w value fits = fits
wanted Reply Push w value fits = fits
wanted Reply Pull w value fits = fits
wanted Got kind w value fits = tt

fits-outside : (mv : Move) (passive : Bool) → answers mv ≡ not passive → fits_side (verb_of mv) passive ≡ true
fits-outside Ask true side = refl
fits-outside Ask false side = absurd (cc)
fits-outside Take true side = absurd (cc)
fits-outside Take false side = refl
fits-outside Reply true side = absurd (cc)
fits-outside Reply false side = refl
fits-outside Got true side = refl
fits-outside Got false side = absurd (cc)

pub agreed : (mv : Move) (passive : Bool) (chan : Chan) (value : Option ℕ) → answers mv ≡ not passive → FitsOn chan mv value
    → refusal (verb_of mv) passive chan (given mv value) ≡ None
agreed mv passive chan value side fits =
    let carried-on = wanted mv chan.kind chan.width value fits in
    ap (λ b. if b then value_refusal (wants_value (verb_of mv) chan.kind) chan.width (given mv value) else Some WrongSide) (fits-outside mv passive side)
    ∙ unrefused (wants_value (verb_of mv) chan.kind) chan.width (given mv value) carried-on

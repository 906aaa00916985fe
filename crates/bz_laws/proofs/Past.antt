-- What a past tells, with one move more.
use Rattle.std.proofs.Common.{◌≡◌, ◌≢◌, inl, inr, ℕ, true, false, List, ◌∷◌, None, refl, sym, ◌∙◌}
use Rattle.std.specs.Prelude.{◌==◌, ◌&&◌, not, if◌then◌else◌, unwrap_or}
use Rattle.std.proofs.lemmas.Bool.{cases_eq, eq-eqb, ne_eqb}
use Rattle.bz_model.specs.declared.channel.Move.TheVariants.{Ask, Reply}
use Rattle.bz_model.specs.declared.channel.Phase.{Phase}
use Rattle.bz_model.specs.declared.channel.Phase.TheVariants.{Idle, Asked, Taken, Replied, Broken}
use Rattle.bz_model.specs.Heads.{opens}
use Rattle.bz_model.specs.Phases.{incoming}
use Rattle.bz_laws.specs.Deeds.{Deed, brings, came_at, has_ended, is_open}

-- what came in at a port stays so while a move is made elsewhere, or brings nothing
pub elsewhere : (p : ℕ) (past : List Deed) (d : Deed) → d.port ≢ p → came_at p past ≡ came_at p (d ∷ past)
elsewhere p past d ne = rw (ne_eqb d.port p ne) refl

pub silent : (p : ℕ) (past : List Deed) (d : Deed) → brings d.move ≡ false → came_at p past ≡ came_at p (d ∷ past)
silent p past d is = rw is (elim (d.port == p) as (λ x. came_at p past ≡ (if x && false then unwrap_or d.value (came_at p past) else came_at p past)) [ true ↦ refl | false ↦ refl ])

-- asks and replies take nothing from their channel
pub asks-nothing : (phase : Phase) → incoming phase Ask ≡ None
asks-nothing Idle = refl
asks-nothing (Asked v) = refl
asks-nothing Taken = refl
asks-nothing (Replied v) = refl
asks-nothing Broken = refl

pub replies-nothing : (phase : Phase) → incoming phase Reply ≡ None
replies-nothing Idle = refl
replies-nothing (Asked v) = refl
replies-nothing Taken = refl
replies-nothing (Replied v) = refl
replies-nothing Broken = refl

-- a port is open or not as its last move says, and a move elsewhere leaves it so
pub open_here : (p : ℕ) (past : List Deed) (d : Deed) → d.port ≡ p → is_open p (d ∷ past) ≡ opens d.move
open_here p past d e = rw (eq-eqb d.port p e) refl

pub open_elsewhere : (p : ℕ) (past : List Deed) (d : Deed) → d.port ≢ p → is_open p (d ∷ past) ≡ is_open p past
open_elsewhere p past d ne = rw (ne_eqb d.port p ne) refl

-- the one port that may be open closes, so none is
pub closes : (q : ℕ) (past : List Deed) (d : Deed) → ((p : ℕ) → p ≢ q → is_open p past ≡ false) → d.port ≡ q → opens d.move ≡ false → (p : ℕ) → is_open p (d ∷ past) ≡ false
closes q past d quiet port shut p = elim (cases_eq d.port p) [
  | inl e ↦ open_here p past d e ∙ shut
  | inr ne ↦ open_elsewhere p past d ne ∙ quiet p (λ e. ne (port ∙ sym e))
]

-- a call that has ended has ended still while the enclosing port makes no move, and one that ends has ended
pub ended_still : (p : ℕ) (past : List Deed) (d : Deed) → d.port ≢ 1 → has_ended p past ≡ true → has_ended p (d ∷ past) ≡ true
ended_still p past d ne is =
    rw (ne_eqb d.port 1 ne, is) (elim ((d.port == p) && not (opens d.move)) as (λ x. (if x then true else true) ≡ true) [ true ↦ refl | false ↦ refl ])

pub ended_here : (p : ℕ) (past : List Deed) (d : Deed) → d.port ≢ 1 → d.port ≡ p → opens d.move ≡ false → has_ended p (d ∷ past) ≡ true
ended_here p past d ne e shut = rw (ne_eqb d.port 1 ne, eq-eqb d.port p e, shut) refl

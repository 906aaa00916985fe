-- Ports that are looked at one after another.
use Rattle.std.proofs.Common.{◌≡◌, ℕ, ◌+◌, ◌<◌, ◌≤◌, Bool, true, false, not, List, length, Option, Some, None, inl, inr, refl, sym, subst, arith}
use Rattle.std.specs.Prelude.{MatchBool, MatchOption, is_some}
use Rattle.std.proofs.lemmas.Bool.{cases_lt, false≢true}
use Rattle.bz_model.specs.declared.channel.Move.{Move}
use Rattle.bz_model.specs.declared.channel.Move.TheVariants.{Got}
use Rattle.bz_model.specs.declared.channel.Phase.TheVariants.{Taken}
use Rattle.bz_model.specs.Nets.{Site, State, IsPort, chan_at, passive_at, phase_at, site_at}
use Rattle.bz_net.specs.Due.{IsSoleDue, TellsDue}
use Rattle.bz_waits.specs.Adding.{IsFirstPast}
use Rattle.bz_waits.specs.Waiting.{IsDue, IsDueTwice, IsIdle, IsStuck, Owes}

-- P of none past n up to m
pub record NonePast (P : ℕ → Type 0) (n m : ℕ) : Type 0 where
  pub from : n ≤ m
  pub none : (p : ℕ) → n < p → p ≤ m → P p → ⊥

-- component c owes a reply at port p
abbrev pub OwesAt : List Site → State → ℕ → ℕ → Type 0
OwesAt sites s c p = IsPort sites c p × (passive_at sites c p ≡ true) × (phase_at s (chan_at sites c p) ≡ Taken)

module _ (P : ℕ → Type 0) (n : ℕ) where
  pub none_start : NonePast P n n
  none_start = record { from = omega arith; none = λ p from to is. absurd (omega (arith, from, to)) }

  pub none_more : (m : ℕ) → NonePast P n m → (P (m + 1) → ⊥) → NonePast P n (m + 1)
  none_more m so not = record {
    from = let from = so.from in omega (arith, from);
    none = λ p from to is. elim (cases_lt m p) [
      | inl less ↦ let last : p ≡ m + 1 = omega (arith, to, less) in not (subst P last is)
      | inr least ↦ so.none p from least is
    ];
  }

  pub first_here : (m : ℕ) → NonePast P n m → P (m + 1) → IsFirstPast P n (Some (m + 1))
  first_here m so is = (let from = so.from in omega (arith, from), is, λ q from less has. so.none q from (omega (arith, less)) has)

  pub first_none : (m : ℕ) → NonePast P n m → ((p : ℕ) → P p → p ≤ m) → IsFirstPast P n None
  first_none m so within = λ p from is. so.none p from (within p is) is

module _ (sites : List Site) (s : State) (c : ℕ) where
  -- where another move is due, or none
  pub not_due : (mv : Move) (p : ℕ) (due : Option Move) → IsSoleDue sites s c p due → (due ≡ Some mv → ⊥) → IsDue sites s c mv p → ⊥
  not_due mv p due sole other is = other (sole mv is.0 is.1)

  pub is_due : (mv : Move) (p : ℕ) (due : Option Move) → TellsDue sites s c p due → due ≡ Some mv → IsDue sites s c mv p
  is_due mv p due tells same = subst (TellsDue sites s c p) same tells

  pub due_within : (mv : Move) (n : ℕ) → n ≡ length (site_at sites c).chans → (p : ℕ) → IsDue sites s c mv p → p ≤ n
  due_within mv n is p due = let to = due.0.port_to in omega (arith, is, to)

  pub owes : (p k : ℕ) → k ≡ chan_at sites c p → OwesAt sites s c p → Owes sites s c k
  owes p k is (port, passive, taken) =
      ((p, record { is_port = port; on = sym is; sense = passive }), subst (λ j. phase_at s j ≡ Taken) (sym is) taken)

  pub owes_none : (n : ℕ) → n ≡ length (site_at sites c).chans → NonePast (OwesAt sites s c) 0 n → (k : ℕ) → Owes sites s c k → ⊥
  owes_none n is so k ((p, end), taken) =
      let to = end.is_port.port_to in
      so.none p end.is_port.port_from (omega (arith, is, to)) (end.is_port, end.sense, subst (λ j. phase_at s j ≡ Taken) (sym end.on) taken)

-- what was found of an equation
pub due_tested : (sites : List Site) (s : State) (c p : ℕ) (mv : Move) (due : Option Move) (r : Bool) → TellsDue sites s c p due → IsSoleDue sites s c p due
    → (r ≡ true → due ≡ Some mv) → (due ≡ Some mv → r ≡ true) → MatchBool r (IsDue sites s c mv p) (IsDue sites s c mv p → ⊥)
due_tested sites s c p mv due true tells sole then else = is_due sites s c mv p due tells (then refl)
due_tested sites s c p mv due false tells sole then else = not_due sites s c mv p due sole (λ same. false≢true (else same))

pub some_found : (P : ℕ → Type 0) (n : ℕ) (o : Option ℕ) → IsFirstPast P n o → is_some o ≡ true → (p : ℕ) × P p
some_found P n None first is = absurd (false≢true is)
some_found P n (Some p) first is = (p, first.1)

pub none_found : (P : ℕ → Type 0) (o : Option ℕ) → IsFirstPast P 0 o → is_some o ≡ false → ((p : ℕ) → P p → 0 < p) → (p : ℕ) → P p → ⊥
none_found P None first is pos = λ p has. first p (pos p has) has
none_found P (Some q) first is pos = absurd (false≢true (sym is))

-- whether there are two, by the first of them and the one after it
pub two_found : (sites : List Site) (s : State) (c : ℕ) (mv : Move) (first : ℕ) (o : Option ℕ) (r : Bool) → IsFirstPast (IsDue sites s c mv) 0 (Some first) → IsFirstPast (IsDue sites s c mv) first o
    → r ≡ is_some o → MatchBool r (IsDueTwice sites s c mv) (IsDueTwice sites s c mv → ⊥)
two_found sites s c mv first None true least next is = absurd (false≢true (sym is))
two_found sites s c mv first None false least next is = λ (p, q, lt, due, due').
    elim (cases_lt p first) [
      | inl less ↦ least.2 p due.0.port_from less due
      | inr from ↦ next q (omega (arith, from, lt)) due'
    ]
two_found sites s c mv first (Some q) true least next is = (first, q, next.0, least.1, next.1)
two_found sites s c mv first (Some q) false least next is = absurd (false≢true is)

-- whether a component that can't move and waits for no reply is idle
pub idle_found : (sites : List Site) (s : State) (c : ℕ) (owed : Option ℕ) (r : Bool) → IsStuck sites s c → ((p : ℕ) → IsDue sites s c Got p → ⊥)
    → MatchOption owed ((k : ℕ) → Owes sites s c k → ⊥) (Owes sites s c) → is_some owed ≡ not r → MatchBool r (IsIdle sites s c) (IsIdle sites s c → ⊥)
idle_found sites s c None true stuck gets owes is = record { stuck = stuck; gets = gets; owes = owes }
idle_found sites s c None false stuck gets owes is = absurd (false≢true is)
idle_found sites s c (Some k) true stuck gets owes is = absurd (false≢true (sym is))
idle_found sites s c (Some k) false stuck gets owes is = λ idle. idle.owes k owes

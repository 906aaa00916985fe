-- What a component is, as it is looked at.
use Rattle.std.proofs.Common.{◌≡◌, ℕ, zero, suc, ◌+◌, ◌<◌, ◌⊎◌, inl, inr, Bool, true, Option, Some, List, [], ◌∷◌, ◌++◌, length, sym, ◌∙◌, ap, subst, arith, slice_get}
use Rattle.std.proofs.lemmas.Bool.Decides.{eqb_tells}
use Rattle.bz_model.specs.declared.channel.Chan.{Chan}
use Rattle.bz_breeze_records.specs.declared.part.Part.{Part}
use Rattle.bz_breeze_records.specs.declared.part.Component.{Component}
use Rattle.bz_elab.specs.declared.error.Fault.{Fault}
use Rattle.bz_elab.specs.declared.error.Fault.TheVariants as fault
use Rattle.bz_elab.specs.declared.faults.Seen.{Seen}
use Rattle.bz_elab.specs.declared.faults.Seen.TheVariants.{Wrong, Nothing, Adds}
use Rattle.bz_elab.specs.declared.reading.Item.TheVariants.{Leaf, Copy}
use Rattle.bz_elab.specs.declared.reading.Reading.{Reading}
use Rattle.bz_elab.specs.Entries.{flattened}
use Rattle.bz_elab.specs.Paths.{Role, named, role, role_by}
use Rattle.bz_elab.specs.Refusals.{HasFault}
use Rattle.bz_elab.specs.Growth.{IsSound, IsSoundInstance}
use Rattle.bz_elab.specs.Order.{order, NoneBefore}
use Rattle.bz_elab.specs.Numbers.{number_named, is_marked, IsReached, Marks}
use Rattle.bz_elab.specs.Least.{IsSeen, IsSeenCopy}
use Rattle.bz_elab.specs.Readings.{IsEmpty, AreRead, AreReadings, IsReadBelow, told}
use Rattle.bz_elab.proofs.Items.{ReadUpto}
use Rattle.bz_elab.proofs.Soundness.{same_some}

pub seen_same : (parts : List Part) (own : List Chan) (c : Component) (s t : Seen) → s ≡ t → IsSeen parts own c s → IsSeen parts own c t
seen_same parts own c s t e h = subst (λ (x : Seen). IsSeen parts own c x) e h

-- an instance, by the number of its part
pub seen_is : (parts : List Part) (own : List Chan) (c : Component) (n : ℕ) (p : Part) (chans : List ℕ) (s : Seen) → named parts c.name.items ≡ Some p → number_named parts c.name.items ≡ Some n → slice_get parts n ≡ Some p
    → chans ≡ flattened c.entries.items → IsSoundInstance own c p → IsSeenCopy parts n chans s → IsSeen parts own c s
seen_is parts own c n p chans (Wrong f) some number at list sound h = absurd h
seen_is parts own c n p chans (Adds (Leaf f)) some number at list sound h = absurd h
seen_is parts own c n p chans Nothing some number at list sound (q, there, empty) =
    let e : q ≡ p = same_some at there in
    (subst (λ (o : Option Part). IsSound own c (role_by o c)) (sym some) sound, record { part = p; is_named = some; empty = subst (λ (r : Part). IsEmpty parts r) e empty })
seen_is parts own c n p chans (Adds (Copy i)) some number at list sound (same, are) = (
  subst (λ (o : Option Part). IsSound own c (role_by o c)) (sym some) sound,
  record { part = p; is_named = some; number = rw same number; stands = rw same at; chans_are = are ∙ list; sound = sound },
)

-- a fault that is not want of memory
pub wrong_is : (parts : List Part) (own : List Chan) (c : Component) (r : Role) (f : Fault) → role parts c ≡ r → (f ≡ fault.Memory) ⊎ HasFault own c r f → NoneBefore own c r f → (order f ≡ 0 → ⊥)
    → HasFault own c (role parts c) f × NoneBefore own c (role parts c) f
wrong_is parts own c r f e (inl memory) first real = absurd (real (ap order memory))
wrong_is parts own c r f e (inr wrong) first real = (subst (λ (q : Role). HasFault own c q f) (sym e) wrong, subst (λ (q : Role). NoneBefore own c q f) (sym e) first)

-- Part after part.

pub read_none : (parts : List Part) (marks : List Bool) (readings : List Reading) → ReadUpto parts marks 0 readings
read_none parts marks readings = record { are = λ k p r lt. absurd (omega (arith, lt)) }

get_before : (xs : List Reading) (x r : Reading) (k : ℕ) → k < length xs → slice_get (xs ++ x ∷ []) k ≡ Some r → slice_get xs k ≡ Some r
get_before [] x r k lt e = absurd (omega arith)
get_before (y ∷ ys) x r zero lt e = e
get_before (y ∷ ys) x r (suc k) lt e = get_before ys x r k (omega arith) e

get_last : (xs : List Reading) (x r : Reading) (k : ℕ) → k ≡ length xs → slice_get (xs ++ x ∷ []) k ≡ Some r → x ≡ r
get_last [] x r zero e h = cc
get_last [] x r (suc k) e h = absurd (omega (arith, e))
get_last (y ∷ ys) x r zero e h = absurd (omega (arith, e))
get_last (y ∷ ys) x r (suc k) e h = get_last ys x r k (omega (arith, e)) h

pub read_more : (parts : List Part) (marks : List Bool) (n : ℕ) (readings : List Reading) (x : Reading) (part : Part) → length readings ≡ n → slice_get parts n ≡ Some part
    → (is_marked marks n ≡ true → AreRead parts part.channels.items part.components.items (told x)) → ReadUpto parts marks n readings → ReadUpto parts marks (n + 1) (readings ++ x ∷ [])
read_more parts marks n readings x part len at here u = record {
  are = λ k p r lt marked there stands. elim (eqb_tells k n) [
    | inl e ↦
        let same : p ≡ part = same_some at (rw e.1 at there) in
        let it : x ≡ r = get_last readings x r k (omega (arith, e.1, len)) stands in
        rw (← it, same) (here (rw e.1 at marked))
    | inr d ↦ u.are k p r (omega (arith, lt, d.1)) marked there (get_before readings x r k (omega (arith, lt, d.1, len)) stands)
  ];
}

pub read_all : (parts : List Part) (marks : List Bool) (n : ℕ) (readings : List Reading) → length readings ≡ n → n ≡ length parts → ReadUpto parts marks n readings
    → AreReadings parts (λ m. is_marked marks m ≡ true) readings
read_all parts marks n readings len all u = record {
  len = len ∙ all;
  are = λ k p r marked there stands. u.are k p r (let w = within parts k p there in omega (arith, w, all)) marked there stands;
}
  where
    within : (ps : List Part) (k : ℕ) (p : Part) → slice_get ps k ≡ Some p → k < length ps
    within [] k p e = cc
    within (q ∷ qs) zero p e = omega arith
    within (q ∷ qs) (suc k) p e = let w = within qs k p e in omega (arith, w)

pub read_reached : (parts : List Part) (marks : List Bool) (n : ℕ) (readings : List Reading) → Marks parts (IsReached parts n) marks → AreReadings parts (λ m. is_marked marks m ≡ true) readings → IsReadBelow parts n readings
read_reached parts marks n readings all read = record { len = read.len; are = λ m p r reached there stands. read.are m p r (all.whole m reached) there stands }

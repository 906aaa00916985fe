-- Members read one after another: the first at fault is told, at its first byte.
use Rattle.std.proofs.Common.{◌≡◌, ℕ, List, [], ◌∷◌, ◌++◌, Result, Ok, Err, refl, sym, ap, subst, arith}
use Rattle.std.specs.List.{AllZip}
use Rattle.bz_sexpr.specs.Data.{Datum}
use Rattle.bz_breeze.specs.Turns.{beside, if_read, at_byte, place_of, FaultAt}
use Rattle.bz_breeze.specs.declared.error.Code.{Code}
use Rattle.bz_breeze.proofs.Least.{Steps, takes_room}

pub each_push : {A B : Type 0} (R : A → B → Type 0) (xs : List A) (ys : List B) (x : A) (y : B) → AllZip R xs ys → R x y → AllZip R (xs ++ x ∷ []) (ys ++ y ∷ [])
each_push R [] [] x y h r = (r, tt)
each_push R [] (z ∷ ys) x y h r = absurd h
each_push R (w ∷ xs) [] x y h r = absurd h
each_push R (w ∷ xs) (z ∷ ys) x y h r = (h.0, each_push R xs ys x y h.1 r)

-- `f` reads a member beside what those before it name, with which nothing is wrong, or tells what is wrong with it.
pub record Reads {A : Type 0} (R : Datum → A → Type 0) (C : List Datum → Datum → Code → Type 0) (f : List A → Datum → Result A Code) : Type 0 where
  pub names : (before : List Datum) (s : List A) (d : Datum) (x : A) → AllZip R before s → f s d ≡ Ok x → R d x
  pub clean : (before : List Datum) (s : List A) (d : Datum) (x : A) → AllZip R before s → f s d ≡ Ok x → (c : Code) → C before d c → ⊥
  pub faults : (before : List Datum) (s : List A) (d : Datum) (c : Code) → AllZip R before s → f s d ≡ Err c → C before d c

beside_ok : {A : Type 0} (r : Result A Code) (at : ℕ) (s t : List A) → if_read (at_byte at r) (λ x. Ok (s ++ x ∷ [])) ≡ Ok t → (x : A) × (r ≡ Ok x) × (s ++ x ∷ [] ≡ t)
beside_ok (Ok x) at s t h = (x, refl, cc)
beside_ok (Err c) at s t h = absurd cc

beside_err : {A : Type 0} (r : Result A Code) (at : ℕ) (s : List A) (e : FaultAt) → if_read (at_byte at r) (λ x. Ok (s ++ x ∷ [])) ≡ Err e → (r ≡ Err e.code) × (e.at ≡ at)
beside_err (Ok x) at s e h = absurd cc
beside_err (Err c) at s e h =
    let told : FaultAt = record { code = c; at = at } in
    let same : told ≡ e = cc in
    (ap (λ f. Err f.code) same, sym (ap (λ f. f.at) same))

-- what is wrong with a member stands at its first byte
abbrev pub AtMember : (List Datum → Datum → Code → Type 0) → List Datum → Datum → FaultAt → Type 0
AtMember C before d g = C before d g.code × (g.at ≡ place_of d)

pub member_steps : {A : Type 0} (R : Datum → A → Type 0) (C : List Datum → Datum → Code → Type 0) (f : List A → Datum → Result A Code) → Reads R C f
    → Steps (beside (λ before d. at_byte (place_of d) (f before d))) (λ g. g.at) (AtMember C) (AllZip R)
member_steps R C f reads = record {
  goes = λ before s t d inv h.
      let r = beside_ok (f s d) (place_of d) s t h in
      subst (AllZip R (before ++ d ∷ [])) r.2 (each_push R before s d r.0 inv (reads.names before s d r.0 inv r.1));
  clean = λ before s t d inv h g c.
      let r = beside_ok (f s d) (place_of d) s t h in
      reads.clean before s d r.0 inv r.1 g.code c.0;
  faults = λ before s d e inv h.
      let r = beside_err (f s d) (place_of d) s e h in
      (reads.faults before s d e.code inv r.0, r.1);
  least = λ before s d e inv h order g c.
      let r = beside_err (f s d) (place_of d) s e h in
      omega (arith, r.1, c.1);
  begins = λ before d g order c. omega (arith, c.1);
  ends = λ before d g order c. omega (arith, c.1, takes_room d order);
}

-- Of data that are read in turn, the first at fault has the least fault.
use Rattle.std.proofs.Common.{◌≡◌, ℕ, ◌+◌, ◌-◌, ◌<◌, ◌≤◌, List, [], ◌∷◌, ◌++◌, Result, Ok, Err, ◌⊎◌, inl, inr, refl, sym, ap, subst, arith, append_assoc}
use Rattle.std.proofs.lemmas.List.{append-nil}
use Rattle.bz_sexpr.specs.Data.{Datum, leaf, items, Data, none, more, span_of}
use Rattle.bz_sexpr.specs.Order.{IsInOrder, AreWithin}
use Rattle.bz_sexpr.specs.Views.{data_of}
use Rattle.bz_breeze.specs.Turns.{in_turn, if_read}
use Rattle.bz_breeze.specs.Places.{Stands}

-- ---- data in order

mutual
  pub takes_room : (d : Datum) → IsInOrder d → (span_of d).from < (span_of d).to
  takes_room (leaf l span) h = h
  takes_room (items ds span) h = omega (arith, rises ds (span.from + 1) (span.to - 1) h)

  pub rises : (ds : Data) (a b : ℕ) → AreWithin a ds b → a ≤ b
  rises none a b h = h
  rises (more d ds) a b h = omega (arith, h.0, takes_room d h.1, rises ds (span_of d).to b h.2)

pub stands_within : (ds before : List Datum) (d : Datum) (a b : ℕ) → AreWithin a (data_of ds) b → Stands ds before d → (a ≤ (span_of d).from) × IsInOrder d × ((span_of d).to ≤ b)
stands_within [] [] d a b w s = absurd (nothing s.whole)
  where
    nothing : {xs : List Datum} → [] ≡ d ∷ xs → ⊥
    nothing e = cc
stands_within [] (y ∷ ys) d a b w s = absurd (nothing s.whole)
  where
    nothing : {xs : List Datum} → [] ≡ y ∷ xs → ⊥
    nothing e = cc
stands_within (x ∷ xs) [] d a b w s =
    let whole : x ∷ xs ≡ d ∷ s.after = s.whole in
    let same : x ≡ d = cc in
    subst (λ y. (a ≤ (span_of y).from) × IsInOrder y × ((span_of y).to ≤ b)) same (w.0, w.1, rises (data_of xs) (span_of x).to b w.2)
stands_within (x ∷ xs) (y ∷ ys) d a b w s =
    let whole : x ∷ xs ≡ y ∷ (ys ++ d ∷ s.after) = s.whole in
    let others : xs ≡ ys ++ d ∷ s.after = cc in
    let inner = stands_within xs ys d (span_of x).to b w.2 (record { after = s.after; whole = others }) in
    (omega (arith, w.0, takes_room x w.1, inner.0), inner.1, inner.2)

-- ---- steps

-- `F` says what is wrong with a datum behind others, and `Inv` what has come of these: a step reads a datum with
-- which nothing is wrong, or tells the least of what is wrong with it.
pub record Steps {S E : Type 0} (step : S → Datum → Result S E) (at : E → ℕ) (F : List Datum → Datum → E → Type 0) (Inv : List Datum → S → Type 0) : Type 0 where
  pub goes : (before : List Datum) (s t : S) (d : Datum) → Inv before s → step s d ≡ Ok t → Inv (before ++ d ∷ []) t
  pub clean : (before : List Datum) (s t : S) (d : Datum) → Inv before s → step s d ≡ Ok t → (g : E) → F before d g → ⊥
  pub faults : (before : List Datum) (s : S) (d : Datum) (e : E) → Inv before s → step s d ≡ Err e → F before d e
  pub least : (before : List Datum) (s : S) (d : Datum) (e : E) → Inv before s → step s d ≡ Err e → IsInOrder d → (g : E) → F before d g → at e ≤ at g
  pub begins : (before : List Datum) (d : Datum) (g : E) → IsInOrder d → F before d g → (span_of d).from ≤ at g
  pub ends : (before : List Datum) (d : Datum) (g : E) → IsInOrder d → F before d g → at g ≤ (span_of d).to

-- something is wrong with one of these data, behind those before
abbrev pub Faulty : {E : Type 0} → (List Datum → Datum → E → Type 0) → List Datum → List Datum → E → Type 0
Faulty F before ds e = (sooner : List Datum) × (d : Datum) × Stands ds sooner d × F (before ++ sooner) d e

module _ {S E : Type 0} {step : S → Datum → Result S E} {at : E → ℕ} {F : List Datum → Datum → E → Type 0} {Inv : List Datum → S → Type 0} (st : Steps step at F Inv) where
  further : (d : Datum) (ds before : List Datum) (e : E) → Faulty F (before ++ d ∷ []) ds e → Faulty F before (d ∷ ds) e
  further d ds before e f = (d ∷ f.0, f.1, record { after = f.2.after; whole = ap (λ xs. d ∷ xs) f.2.whole }, subst (λ b. F b f.1 e) (append_assoc before (d ∷ []) f.0) f.3)

  split_at : (d : Datum) (ds before : List Datum) (g : E) (sooner : List Datum) (x : Datum) → Stands (d ∷ ds) sooner x → F (before ++ sooner) x g → F before d g ⊎ Faulty F (before ++ d ∷ []) ds g
  split_at d ds before g [] x s f =
      let whole : d ∷ ds ≡ x ∷ s.after = s.whole in
      let same : x ≡ d = cc in
      inl (subst (λ b. F b d g) (append-nil before) (subst (λ y. F (before ++ []) y g) same f))
  split_at d ds before g (y ∷ ys) x s f =
      let whole : d ∷ ds ≡ y ∷ (ys ++ x ∷ s.after) = s.whole in
      let same : y ≡ d = cc in
      let others : ds ≡ ys ++ x ∷ s.after = cc in
      let here : F (before ++ d ∷ ys) x g = subst (λ z. F (before ++ z ∷ ys) x g) same f in
      inr (ys, x, record { after = s.after; whole = others }, subst (λ b. F b x g) (sym (append_assoc before (d ∷ []) ys)) here)

  split : (d : Datum) (ds before : List Datum) (g : E) → Faulty F before (d ∷ ds) g → F before d g ⊎ Faulty F (before ++ d ∷ []) ds g
  split d ds before g f = split_at d ds before g f.0 f.1 f.2 f.3

  none_in_none : (before : List Datum) (g : E) → Faulty F before [] g → ⊥
  none_in_none before g f = absurd (by f.0 f.1 f.2)
    where
      by : (sooner : List Datum) (d : Datum) → Stands [] sooner d → ⊥
      by [] d s = let e : [] ≡ d ∷ s.after = s.whole in cc
      by (y ∷ ys) d s = let e : [] ≡ y ∷ (ys ++ d ∷ s.after) = s.whole in cc

  -- ---- the answer is a fault

  fault_now : (d : Datum) (ds before : List Datum) (s : S) (e : E) → Inv before s → ((t : S) → Inv (before ++ d ∷ []) t → in_turn step t ds ≡ Err e → Faulty F (before ++ d ∷ []) ds e)
      → (r : Result S E) → step s d ≡ r → if_read r (λ t. in_turn step t ds) ≡ Err e → Faulty F before (d ∷ ds) e
  fault_now d ds before s e inv later (Ok t) is h = further d ds before e (later t (st.goes before s t d inv is) h)
  fault_now d ds before s e inv later (Err x) is h =
      let same : step s d ≡ Err e = cc in
      ([], d, record { after = ds; whole = refl }, subst (λ b. F b d e) (sym (append-nil before)) (st.faults before s d e inv same))

  pub fault_in : (ds before : List Datum) (s : S) (e : E) → Inv before s → in_turn step s ds ≡ Err e → Faulty F before ds e
  fault_in [] before s e inv h = absurd cc
  fault_in (d ∷ ds) before s e inv h = fault_now d ds before s e inv (λ t i k. fault_in ds (before ++ d ∷ []) t e i k) (step s d) refl h

  -- ---- of what is read, nothing is wrong

  clean_now : (d : Datum) (ds before : List Datum) (s t : S) → Inv before s
      → ((u : S) → Inv (before ++ d ∷ []) u → in_turn step u ds ≡ Ok t → Inv ((before ++ d ∷ []) ++ ds) t × ((g : E) → Faulty F (before ++ d ∷ []) ds g → ⊥))
      → (r : Result S E) → step s d ≡ r → if_read r (λ u. in_turn step u ds) ≡ Ok t → Inv (before ++ d ∷ ds) t × ((g : E) → Faulty F before (d ∷ ds) g → ⊥)
  clean_now d ds before s t inv later (Ok u) is h =
      let rest = later u (st.goes before s u d inv is) h in (
        subst (λ b. Inv b t) (append_assoc before (d ∷ []) ds) rest.0,
        λ g f. elim (split d ds before g f) [
          | inl here ↦ st.clean before s u d inv is g here
          | inr later ↦ rest.1 g later
        ],
      )
  clean_now d ds before s t inv later (Err x) is h = absurd cc

  pub clean_in : (ds before : List Datum) (s t : S) → Inv before s → in_turn step s ds ≡ Ok t → Inv (before ++ ds) t × ((g : E) → Faulty F before ds g → ⊥)
  clean_in [] before s t inv h =
      let same : s ≡ t = cc in
      (subst (λ b. Inv b t) (sym (append-nil before)) (subst (Inv before) same inv), λ g f. none_in_none before g f)
  clean_in (d ∷ ds) before s t inv h = clean_now d ds before s t inv (λ u i k. clean_in ds (before ++ d ∷ []) u t i k) (step s d) refl h

  -- ---- and the answer is the least

  least_now : (d : Datum) (ds before : List Datum) (s : S) (e : E) (a b : ℕ) → Inv before s → AreWithin a (data_of (d ∷ ds)) b
      → ((t : S) → Inv (before ++ d ∷ []) t → in_turn step t ds ≡ Err e → (g : E) → Faulty F (before ++ d ∷ []) ds g → at e ≤ at g)
      → (r : Result S E) → step s d ≡ r → if_read r (λ t. in_turn step t ds) ≡ Err e → (g : E) → F before d g ⊎ Faulty F (before ++ d ∷ []) ds g → at e ≤ at g
  least_now d ds before s e a b inv w later (Ok t) is h g (inl here) = absurd (st.clean before s t d inv is g here)
  least_now d ds before s e a b inv w later (Ok t) is h g (inr f) = later t (st.goes before s t d inv is) h g f
  least_now d ds before s e a b inv w later (Err x) is h g (inl here) =
      let same : step s d ≡ Err e = cc in
      st.least before s d e inv same w.1 g here
  least_now d ds before s e a b inv w later (Err x) is h g (inr f) =
      let same : step s d ≡ Err e = cc in
      let first : at e ≤ (span_of d).to = st.ends before d e w.1 (st.faults before s d e inv same) in
      let where_it_is = stands_within ds f.0 f.1 (span_of d).to b w.2 f.2 in
      let later : (span_of f.1).from ≤ at g = st.begins ((before ++ d ∷ []) ++ f.0) f.1 g where_it_is.1 f.3 in
      omega (arith, first, where_it_is.0, later)

  pub least_in : (ds before : List Datum) (s : S) (e : E) (a b : ℕ) → Inv before s → AreWithin a (data_of ds) b → in_turn step s ds ≡ Err e → (g : E) → Faulty F before ds g → at e ≤ at g
  least_in [] before s e a b inv w h g f = absurd cc
  least_in (d ∷ ds) before s e a b inv w h g f =
      least_now d ds before s e a b inv w (λ t i k. least_in ds (before ++ d ∷ []) t e (span_of d).to b i w.2 k) (step s d) refl h g (split d ds before g f)

  -- each stands among the data
  pub fault_within : (ds before : List Datum) (a b : ℕ) → AreWithin a (data_of ds) b → (g : E) → Faulty F before ds g → (a ≤ at g) × (at g ≤ b)
  fault_within ds before a b w g f =
      let here = stands_within ds f.0 f.1 a b w f.2 in
      (omega (arith, here.0, st.begins (before ++ f.0) f.1 g here.1 f.3), omega (arith, here.2, st.ends (before ++ f.0) f.1 g here.1 f.3))

-- What a member of `components` has the shape of, against what is read of it.
use Rattle.std.proofs.Common.{◌≡◌, ℕ, ◌++◌, List, [], ◌∷◌, cond, Option, None, Some, Result, Ok, Err, ◌⊎◌, inl, inr, refl, sym, ap, ◌∙◌, arith, codes, append_assoc}
use Rattle.std.specs.List.{AllZip, filter_map}
use Rattle.std.specs.Option.{option_and_then, option_map}
use Rattle.std.proofs.lemmas.Bool.Decides.{leb_tells}
use Rattle.std.proofs.lemmas.List.{append-nil}
use Rattle.bz_sexpr.specs.Data.{Datum, leaf, items, num, text, symbol}
use Rattle.bz_sexpr.specs.declared.datum.Span.{Span}
use Rattle.bz_sexpr.specs.Views.{list_of}
use Rattle.bz_breeze_records.specs.Records.{SlotRecord, one, many, ComponentRecord}
use Rattle.bz_breeze.specs.Turns.{inside, if_read, in_turn, beside}
use Rattle.bz_breeze.specs.Forms.{param, number, numbers, slot, slots, Fields, fields_of, component_of, listed_component, component}
use Rattle.bz_breeze.specs.Shapes.{after_symbol, headed, IsNumber, IsEntry, IsComponent}
use Rattle.bz_breeze.specs.Places.{IsUndeclared}
use Rattle.bz_breeze.specs.declared.error.Code.{Code}
use Rattle.bz_breeze.specs.declared.error.Code.TheVariants.{BadForm, Undeclared}
use Rattle.bz_breeze.proofs.Shapes.{word, some_same, headed_is, headed_by, headed_not}

-- ---- members that are read one by one

-- what a datum names, or a bad form
abbrev pub View : {A : Type 0} → (Datum → A → Type 0) → (Datum → Result A Code) → Datum → Type 0
View {A} R f d = ((x : A) × R d x × (f d ≡ Ok x)) ⊎ (f d ≡ Err BadForm)

module _ {A : Type 0} (R : Datum → A → Type 0) (f : Datum → Result A Code) where
  abbrev pub run : List A → List Datum → Result (List A) Code
  run acc ds = in_turn (beside (λ before d. f d)) acc ds

  run_step : (r : Result A Code) (acc : List A) (d : Datum) (ds : List Datum) → f d ≡ r → run acc (d ∷ ds) ≡ if_read (if_read r (λ x. Ok (acc ++ x ∷ []))) (λ t. run t ds)
  run_step r acc d ds e = ap (λ q. if_read (if_read q (λ x. Ok (acc ++ x ∷ []))) (λ t. run t ds)) e

  pub all_are : ((d : Datum) (x : A) → R d x → f d ≡ Ok x) → (ds : List Datum) (xs acc : List A) → AllZip R ds xs → run acc ds ≡ Ok (acc ++ xs)
  all_are is [] [] acc h = ap Ok (sym (append-nil acc))
  all_are is [] (x ∷ xs) acc h = absurd h
  all_are is (d ∷ ds) [] acc h = absurd h
  all_are is (d ∷ ds) (x ∷ xs) acc h = run_step (Ok x) acc d ds (is d x h.0) ∙ all_are is ds xs (acc ++ x ∷ []) h.1 ∙ ap Ok (append_assoc acc (x ∷ []) xs)

  abbrev AllView : List A → List Datum → Type 0
  AllView acc ds = ((xs : List A) × AllZip R ds xs × (run acc ds ≡ Ok (acc ++ xs))) ⊎ (run acc ds ≡ Err BadForm)

  all_next : (acc : List A) (d : Datum) (ds : List Datum) → View R f d → ((x : A) → AllView (acc ++ x ∷ []) ds) → AllView acc (d ∷ ds)
  all_next acc d ds (inr e) others = inr (run_step (Err BadForm) acc d ds e)
  all_next acc d ds (inl v) others = elim (others v.0) [
    | inl w ↦ inl (v.0 ∷ w.0, (v.1, w.1), run_step (Ok v.0) acc d ds v.2 ∙ w.2 ∙ ap Ok (append_assoc acc (v.0 ∷ []) w.0))
    | inr e ↦ inr (run_step (Ok v.0) acc d ds v.2 ∙ e)
  ]

  pub all_view : ((d : Datum) → View R f d) → (ds : List Datum) (acc : List A) → AllView acc ds
  all_view view [] acc = inl ([], tt, ap Ok (sym (append-nil acc)))
  all_view view (d ∷ ds) acc = all_next acc d ds (view d) (λ x. all_view view ds (acc ++ x ∷ []))

-- ---- entries

number_is : (d : Datum) (n : ℕ) → IsNumber d n → number d ≡ Ok n
number_is (leaf (num m) span) n h = elim (leb_tells m 4294967295) [
  | inl t ↦ ap (λ b. cond b (Ok m) (Err BadForm)) t.0 ∙ ap Ok h.0
  | inr t ↦ absurd (omega (arith, t.1, h.1, h.0))
]
number_is d n h = absurd h

number_view : (d : Datum) → View IsNumber number d
number_view (leaf (num m) span) = elim (leb_tells m 4294967295) [
  | inl t ↦ inl (m, (refl, t.1), ap (λ b. cond b (Ok m) (Err BadForm)) t.0)
  | inr t ↦ inr (ap (λ b. cond b (Ok m) (Err BadForm)) t.0)
]
number_view d = inr refl

slot_is : (d : Datum) (x : SlotRecord) → IsEntry d x → slot d ≡ Ok x
slot_is (leaf l span) (one n) h = ap (λ r. if_read r (λ n. Ok (one n))) (number_is (leaf l span) n h)
slot_is (leaf l span) (many ns) h = absurd (no_list h.1)
  where
    no_list : {ds : List Datum} → None ≡ Some ds → ⊥
    no_list e = cc
slot_is (items ds span) (one n) h = absurd h
slot_is (items ds span) (many ns) h =
    let same : list_of ds ≡ h.0 = some_same h.1 in
    ap (λ es. if_read (numbers es) (λ ns. Ok (many ns))) same ∙ ap (λ r. if_read r (λ ns. Ok (many ns))) (all_are IsNumber number number_is h.0 ns [] h.2)

slot_view : (d : Datum) → View IsEntry slot d
slot_view (leaf l span) = elim (number_view (leaf l span)) [
  | inl v ↦ inl (one v.0, v.1, ap (λ r. if_read r (λ n. Ok (one n))) v.2)
  | inr e ↦ inr (ap (λ r. if_read r (λ n. Ok (one n))) e)
]
slot_view (items ds span) = elim (all_view IsNumber number number_view (list_of ds) []) [
  | inl v ↦ inl (many v.0, (list_of ds, refl, v.1), ap (λ r. if_read r (λ ns. Ok (many ns))) v.2)
  | inr e ↦ inr (ap (λ r. if_read r (λ ns. Ok (many ns))) e)
]

-- ---- components

component_inside : (d : Datum) (ds : List Datum) → inside d ≡ Some ds → component d ≡ listed_component ds
component_inside (leaf l span) ds h = absurd cc
component_inside (items es span) ds h = ap listed_component (some_same h)

abbrev fields : List ℕ → List Datum → List Datum → Fields
fields name params entries = record { name = name; params = params; entries = entries }

fields_are : (name : List ℕ) (at : Span) (p e : Datum) (rest params entries : List Datum) → inside p ≡ Some params → inside e ≡ Some entries
    → fields_of (leaf (text name) at ∷ p ∷ e ∷ rest) ≡ Some (fields name params entries)
fields_are name at p e rest params entries hp he =
    ap (option_and_then (λ params. option_map (λ entries. fields name params entries) (inside e))) hp ∙ ap (option_map (λ entries. fields name params entries)) he

pub component_is : (d : Datum) (c : ComponentRecord) → IsComponent d c → component d ≡ Ok c
component_is d c h =
    let i = headed_is (codes "component") d _ h.written in
    let read : slots h.entries ≡ Ok c.entries = all_are IsEntry slot slot_is h.entries c.entries [] h.entries_are in
    component_inside d _ i.1 ∙ ap component_of (fields_are c.name h.name_at h.params_list h.entries_list h.rest h.params h.entries h.params_inside h.entries_inside)
    ∙ ap (λ r. if_read r (λ es. Ok (record { name = c.name; params = filter_map param h.params; entries = es }))) read
    ∙ ap (λ ps. Ok (record { name = c.name; params = ps; entries = c.entries })) (sym h.params_are)

undeclared_list : (d : Datum) (ds : List Datum) → inside d ≡ Some ds → headed (codes "component") d ≡ None → listed_component ds ≡ Err Undeclared
undeclared_list d (leaf (symbol head) span ∷ rest) h none = elim (word head (codes "component")) [
  | inl e ↦ absurd (clash (headed_by (codes "component") d span rest (h ∙ ap (λ name. Some (leaf (symbol name) span ∷ rest)) e)))
  | inr n ↦ ap (λ b. cond b (component_of (fields_of rest)) (Err Undeclared)) n
]
  where
    clash : headed (codes "component") d ≡ Some rest → ⊥
    clash e = cc
undeclared_list d ds h none = refl

pub undeclared_is : (d : Datum) → IsUndeclared d → component d ≡ Err Undeclared
undeclared_is d u = component_inside d u.0 u.1 ∙ undeclared_list d u.0 u.1 u.2

-- A member of `components` has the shape, or is a list with another head, or is told as a bad form.
abbrev pub ComponentView : Datum → Type 0
ComponentView d = ((c : ComponentRecord) × IsComponent d c × (component d ≡ Ok c)) ⊎ ((IsUndeclared d × (component d ≡ Err Undeclared)) ⊎ (component d ≡ Err BadForm))

maybe : {X : Type 0} (o : Option X) → ((x : X) × (o ≡ Some x)) ⊎ (o ≡ None)
maybe (Some x) = inl (x, refl)
maybe None = inr refl

-- of a list headed by `component`
behind : (d : Datum) (rest : List Datum) → headed (codes "component") d ≡ Some rest → component d ≡ component_of (fields_of rest) → ComponentView d
behind d (leaf (text name) at ∷ p ∷ e ∷ rest) h same = elim (maybe (inside p)) [
  | inr none ↦ inr (inr (same ∙ ap (λ o. component_of (option_and_then (λ params. option_map (λ entries. fields name params entries) (inside e)) o)) none))
  | inl ps ↦ elim (maybe (inside e)) [
    | inr none ↦ inr (inr (same ∙ ap (λ o. component_of (option_and_then (λ params. option_map (λ entries. fields name params entries) (inside e)) o)) ps.1
        ∙ ap (λ o. component_of (option_map (λ entries. fields name ps.0 entries) o)) none))
    | inl es ↦ elim (all_view IsEntry slot slot_view es.0 []) [
      | inr bad ↦ inr (inr (same ∙ ap component_of (fields_are name at p e rest ps.0 es.0 ps.1 es.1)
          ∙ ap (λ r. if_read r (λ xs. Ok (record { name = name; params = filter_map param ps.0; entries = xs }))) bad))
      | inl v ↦ inl (
        record { name = name; params = filter_map param ps.0; entries = v.0 },
        record { name_at = at; params_list = p; entries_list = e; rest = rest; written = h; params = ps.0; params_inside = ps.1; params_are = refl; entries = es.0; entries_inside = es.1; entries_are = v.1 },
        same ∙ ap component_of (fields_are name at p e rest ps.0 es.0 ps.1 es.1) ∙ ap (λ r. if_read r (λ xs. Ok (record { name = name; params = filter_map param ps.0; entries = xs }))) v.2,
      )
    ]
  ]
]
behind d ds h same = inr (inr same)

component_list : (d : Datum) (ds : List Datum) → inside d ≡ Some ds → ComponentView d
component_list d (leaf (symbol head) span ∷ rest) h = elim (word head (codes "component")) [
  | inl e ↦ (
      let here : inside d ≡ Some (leaf (symbol (codes "component")) span ∷ rest) = h ∙ ap (λ name. Some (leaf (symbol name) span ∷ rest)) e in
      behind d rest (headed_by (codes "component") d span rest here) (component_inside d _ here)
      )
  | inr n ↦ (
      let not = headed_not (codes "component") head d span rest h n in
      inr (inl ((leaf (symbol head) span ∷ rest, h, not), component_inside d _ h ∙ ap (λ b. cond b (component_of (fields_of rest)) (Err Undeclared)) n))
      )
]
component_list d ds h = inr (inl ((ds, h, ap (option_and_then (after_symbol (codes "component"))) h), component_inside d _ h))

pub component_view : (d : Datum) → ComponentView d
component_view (leaf l span) = inr (inr refl)
component_view (items ds span) = component_list (items ds span) (list_of ds) refl

-- What is wrong with a member is what its reading tells.
use Rattle.std.proofs.Common.{◌≡◌, ℕ, suc, ◌<◌, ◌≤◌, List, [], ◌∷◌, ◌++◌, Bool, true, false, cond, ◌||◌, nat_lt, Result, Ok, Err, ◌⊎◌, inl, inr, refl, sym, ap, ◌∙◌, subst, arith, bytes_eq}
use Rattle.std.specs.List.{AllZip}
use Rattle.std.proofs.lemmas.Slice.Eq.{bytes_eq-Decides}
use Rattle.std.proofs.lemmas.Bool.Decides.{eqb_tells, leb_tells}
use Rattle.bz_model.specs.Names.{External}
use Rattle.bz_model.specs.declared.channel.Chan.{Chan}
use Rattle.bz_model.specs.declared.channel.ChanKind.{ChanKind}
use Rattle.bz_model.specs.declared.channel.TheConstants.{MAX_WIDTH}
use Rattle.bz_sexpr.specs.Data.{Datum}
use Rattle.bz_breeze_records.specs.Records.{ComponentRecord}
use Rattle.bz_breeze.specs.Turns.{if_read}
use Rattle.bz_breeze.specs.Forms.{is_among, names_of, port, new_port, channel, component}
use Rattle.bz_breeze.specs.Shapes.{IsPort, IsWide, IsChannel, IsComponent}
use Rattle.bz_breeze.specs.Places.{Stands, PortFault, no_port, named_before, arrayed, ChannelFault, no_channel, width_0, too_wide, ComponentFault, no_component, undeclared}
use Rattle.bz_breeze.specs.declared.error.Code.{Code}
use Rattle.bz_breeze.specs.declared.error.Code.TheVariants.{BadForm, ArrayedPort, Undeclared, TooWide}
use Rattle.bz_breeze.proofs.Members.{Reads}
use Rattle.bz_breeze.proofs.Shapes.{port_view, port_is, arrayed_is, channel_view, sync_is, wide_is, not_wide, of_width}
use Rattle.bz_breeze.proofs.Entries.{component_view, component_is, undeclared_is}

-- ---- names among those before

either : (b c : Bool) → b || c ≡ true → (b ≡ true) ⊎ (c ≡ true)
either true c e = inl refl
either false c e = inr e

or_true : (b c : Bool) → c ≡ true → b || c ≡ true
or_true true c e = refl
or_true false c e = e

-- a port before has this name
abbrev SaidBefore : List Datum → List ℕ → Type 0
SaidBefore before name = (sooner : List Datum) × (e : Datum) × (q : External) × Stands before sooner e × IsPort e q × (q.name ≡ name)

said_before : (before : List Datum) (s : List External) (name : List ℕ) → AllZip IsPort before s → is_among (names_of s) name ≡ true → SaidBefore before name
said_before [] [] name h e = absurd cc
said_before [] (q ∷ s) name h e = absurd h
said_before (d ∷ before) [] name h e = absurd h
said_before (d ∷ before) (q ∷ s) name h e = elim (either (bytes_eq name q.name) (is_among (names_of s) name) e) [
  | inl same ↦ ([], d, q, record { after = before; whole = refl }, h.0, sym ((bytes_eq-Decides name q.name).0 same))
  | inr later ↦ (
      let r = said_before before s name h.1 later in
      (d ∷ r.0, r.1, r.2, record { after = r.3.after; whole = ap (λ ds. d ∷ ds) r.3.whole }, r.4, r.5)
      )
]

is_said : (before : List Datum) (s : List External) (sooner : List Datum) (e : Datum) (q : External) → AllZip IsPort before s → Stands before sooner e → IsPort e q → is_among (names_of s) q.name ≡ true
is_said [] [] [] e q h st is = absurd (nothing st.whole)
  where
    nothing : {xs : List Datum} → [] ≡ e ∷ xs → ⊥
    nothing f = cc
is_said [] [] (y ∷ ys) e q h st is = absurd (nothing st.whole)
  where
    nothing : {xs : List Datum} → [] ≡ y ∷ xs → ⊥
    nothing f = cc
is_said [] (p ∷ s) sooner e q h st is = absurd h
is_said (d ∷ before) [] sooner e q h st is = absurd h
is_said (d ∷ before) (p ∷ s) [] e q h st is =
    let whole : d ∷ before ≡ e ∷ st.after = st.whole in
    let same : d ≡ e = cc in
    let read : port e ≡ Ok p = port_is e p (subst (λ x. IsPort x p) same h.0) in
    let other : port e ≡ Ok q = port_is e q is in
    let one : q ≡ p = cc in
    let here : bytes_eq q.name p.name ≡ true = (bytes_eq-Decides q.name p.name).1 (ap (λ x. x.name) one) in
    ap (λ b. b || is_among (names_of s) q.name) here
is_said (d ∷ before) (p ∷ s) (y ∷ ys) e q h st is =
    let whole : d ∷ before ≡ y ∷ (ys ++ e ∷ st.after) = st.whole in
    let others : before ≡ ys ++ e ∷ st.after = cc in
    or_true (bytes_eq q.name p.name) (is_among (names_of s) q.name) (is_said before s ys e q h.1 (record { after = st.after; whole = others }) is)

-- ---- ports

pub kept_by : (b : Bool) (p x : External) → cond b (Err BadForm) (Ok p) ≡ Ok x → (b ≡ false) × (p ≡ x)
kept_by true p x e = absurd cc
kept_by false p x e = (refl, cc)

told_by : (b : Bool) (p : External) (c : Code) → cond b (Err BadForm) (Ok p) ≡ Err c → (b ≡ true) × (BadForm ≡ c)
told_by true p c e = (refl, cc)
told_by false p c e = absurd cc

abbrev beside_names : List External → External → Result External Code
beside_names s p = cond (is_among (names_of s) p.name) (Err BadForm) (Ok p)

new_read : (s : List External) (x : External) (r : Result External Code) → if_read r (beside_names s) ≡ Ok x → (r ≡ Ok x) × (is_among (names_of s) x.name ≡ false)
new_read s x (Ok p) h =
    let k = kept_by (is_among (names_of s) p.name) p x h in
    (ap Ok k.1, subst (λ q. is_among (names_of s) q.name ≡ false) k.1 k.0)
new_read s x (Err c) h = absurd cc

new_told : (s : List External) (c : Code) (r : Result External Code) → if_read r (beside_names s) ≡ Err c → (r ≡ Err c) ⊎ ((p : External) × (r ≡ Ok p) × (is_among (names_of s) p.name ≡ true) × (BadForm ≡ c))
new_told s c (Ok p) h = let k = told_by (is_among (names_of s) p.name) p c h in inr (p, refl, k.0, k.1)
new_told s c (Err x) h = let same : x ≡ c = cc in inl (ap Err same)

is_port : (d : Datum) (p : External) → port d ≡ Ok p → IsPort d p
is_port d p h = elim (port_view d) [
  | inl v ↦ (
      let told : port d ≡ Ok v.0 = v.2 in
      let same : v.0 ≡ p = cc in
      subst (IsPort d) same v.1
      )
  | inr (inl v) ↦ absurd (clash v.1)
  | inr (inr e) ↦ absurd (clash e)
]
  where
    clash : {c : Code} → port d ≡ Err c → ⊥
    clash e = cc

port_faults : (before : List Datum) (d : Datum) (c : Code) → port d ≡ Err c → PortFault before d c
port_faults before d c h = elim (port_view d) [
  | inl v ↦ absurd (clash v.2)
  | inr (inl v) ↦ (
      let told : port d ≡ Err ArrayedPort = v.1 in
      let same : ArrayedPort ≡ c = cc in
      subst (PortFault before d) same (arrayed v.0)
      )
  | inr (inr e) ↦ (
      let told : port d ≡ Err BadForm = e in
      let same : BadForm ≡ c = cc in
      subst (PortFault before d) same (no_port (λ p is. clash (port_is d p is)) (λ a. not_both (arrayed_is d a) told))
      )
]
  where
    clash : {p : External} → port d ≡ Ok p → ⊥
    clash e = cc

    not_both : port d ≡ Err ArrayedPort → port d ≡ Err BadForm → ⊥
    not_both e f = cc

port_clean : (before : List Datum) (s : List External) (d : Datum) (x : External) → AllZip IsPort before s → port d ≡ Ok x → is_among (names_of s) x.name ≡ false → (c : Code) → PortFault before d c → ⊥
port_clean before s d x inv h new c (no_port none array) = none x (is_port d x h)
port_clean before s d x inv h new c (named_before p q sooner e is st other same) =
    let read : port d ≡ Ok p = port_is d p is in
    let one : p ≡ x = cc in
    let said = is_said before s sooner e q inv st other in
    let name : q.name ≡ x.name = same ∙ ap (λ p. p.name) one in
    clash (sym new ∙ ap (is_among (names_of s)) (sym name) ∙ said)
  where
    clash : false ≡ true → ⊥
    clash f = cc
port_clean before s d x inv h new c (arrayed a) = clash (sym h ∙ arrayed_is d a)
  where
    clash : {A : Type 0} {y : A} {c : Code} → Ok y ≡ Err c → ⊥
    clash f = cc

pub reads_ports : Reads IsPort PortFault new_port
reads_ports = record {
  names = λ before s d x inv h. is_port d x (new_read s x (port d) h).0;
  clean = λ before s d x inv h. let r = new_read s x (port d) h in port_clean before s d x inv r.0 r.1;
  faults = λ before s d c inv h. elim (new_told s c (port d) h) [
    | inl told ↦ port_faults before d c told
    | inr v ↦ (
        let said = said_before before s v.0.name inv v.2 in
        subst (PortFault before d) v.3 (named_before v.0 said.2 said.0 said.1 (is_port d v.0 v.1) said.3 said.4 said.5)
        )
  ];
}

-- ---- channels

-- the width is 0, too great, or taken
abbrev OfWidth : ChanKind → ℕ → Type 0
OfWidth kind w = ((w ≡ 0) × (of_width kind w ≡ Err BadForm)) ⊎ (((MAX_WIDTH < w) × (of_width kind w ≡ Err TooWide)) ⊎ ((w ≤ MAX_WIDTH) × (of_width kind w ≡ Ok (record { kind = kind; width = w }))))

width_cases : (kind : ChanKind) (w : ℕ) → OfWidth kind w
width_cases kind w = elim (eqb_tells w 0) [
  | inl t ↦ inl (t.1, ap (λ b. cond b (Err BadForm) (cond (nat_lt MAX_WIDTH w) (Err TooWide) (Ok (record { kind = kind; width = w })))) t.0)
  | inr t ↦ elim (leb_tells (suc MAX_WIDTH) w) [
    | inl u ↦ inr (inl (
      omega (arith, u.1),
      ap (λ b. cond b (Err BadForm) (cond (nat_lt MAX_WIDTH w) (Err TooWide) (Ok (record { kind = kind; width = w })))) t.0
          ∙ ap (λ b. cond b (Err TooWide) (Ok (record { kind = kind; width = w }))) u.0,
    ))
    | inr u ↦ inr (inr (
      omega (arith, u.1),
      ap (λ b. cond b (Err BadForm) (cond (nat_lt MAX_WIDTH w) (Err TooWide) (Ok (record { kind = kind; width = w })))) t.0
          ∙ ap (λ b. cond b (Err TooWide) (Ok (record { kind = kind; width = w }))) u.0,
    ))
  ]
]

ok_err : {A : Type 0} {r : Result A Code} {x : A} {c : Code} → r ≡ Ok x → r ≡ Err c → ⊥
ok_err e f = cc

ok_same : {A : Type 0} {r : Result A Code} {x y : A} → r ≡ Ok x → r ≡ Ok y → x ≡ y
ok_same e f = cc

err_same : {A : Type 0} {r : Result A Code} {x y : Code} → r ≡ Err x → r ≡ Err y → x ≡ y
err_same e f = cc

channel_names : (d : Datum) (x : Chan) → channel d ≡ Ok x → IsChannel d x
channel_names d x h = elim (channel_view d) [
  | inl s ↦ inl (s, ok_same h (sync_is d s))
  | inr (inl v) ↦ (
      let read : channel d ≡ of_width v.0 v.1 = wide_is d v.0 v.1 v.2 in
      elim (width_cases v.0 v.1) [
        | inl w ↦ absurd (ok_err h (read ∙ w.1))
        | inr (inl w) ↦ absurd (ok_err h (read ∙ w.1))
        | inr (inr w) ↦ inr (subst (λ c. IsWide d c.kind c.width) (ok_same (read ∙ w.1) h) v.2)
      ]
      )
  | inr (inr n) ↦ absurd (ok_err h n.told)
]

channel_clean : (d : Datum) (x : Chan) → channel d ≡ Ok x → (c : Code) → ChannelFault d c → ⊥
channel_clean d x h c (no_channel sync wide) = elim (channel_view d) [
  | inl s ↦ sync s
  | inr (inl v) ↦ wide v.0 v.1 v.2
  | inr (inr n) ↦ ok_err h n.told
]
channel_clean d x h c (width_0 kind w) = ok_err h (wide_is d kind 0 w)
channel_clean d x h c (too_wide kind w is over) = elim (width_cases kind w) [
  | inl v ↦ ok_err h (wide_is d kind w is ∙ v.1)
  | inr (inl v) ↦ ok_err h (wide_is d kind w is ∙ v.1)
  | inr (inr v) ↦ absurd (omega (arith, over, v.0))
]

channel_faults : (d : Datum) (c : Code) → channel d ≡ Err c → ChannelFault d c
channel_faults d c h = elim (channel_view d) [
  | inl s ↦ absurd (ok_err (sync_is d s) h)
  | inr (inl v) ↦ (
      let read : channel d ≡ of_width v.0 v.1 = wide_is d v.0 v.1 v.2 in
      elim (width_cases v.0 v.1) [
        | inl w ↦ subst (ChannelFault d) (err_same (read ∙ w.1) h) (width_0 v.0 (subst (IsWide d v.0) w.0 v.2))
        | inr (inl w) ↦ subst (ChannelFault d) (err_same (read ∙ w.1) h) (too_wide v.0 v.1 v.2 w.0)
        | inr (inr w) ↦ absurd (ok_err (read ∙ w.1) h)
      ]
      )
  | inr (inr n) ↦ subst (ChannelFault d) (err_same n.told h) (no_channel n.no_sync (λ kind w is. not_wide d kind w n is))
]

pub reads_channels : Reads IsChannel (λ before d c. ChannelFault d c) (λ before d. channel d)
reads_channels = record {
  names = λ before s d x inv h. channel_names d x h;
  clean = λ before s d x inv h. channel_clean d x h;
  faults = λ before s d c inv h. channel_faults d c h;
}

-- ---- components

component_names : (d : Datum) (x : ComponentRecord) → component d ≡ Ok x → IsComponent d x
component_names d x h = elim (component_view d) [
  | inl v ↦ subst (IsComponent d) (ok_same v.2 h) v.1
  | inr (inl v) ↦ absurd (ok_err h v.1)
  | inr (inr e) ↦ absurd (ok_err h e)
]

component_clean : (d : Datum) (x : ComponentRecord) → component d ≡ Ok x → (c : Code) → ComponentFault d c → ⊥
component_clean d x h c (no_component none u) = none x (component_names d x h)
component_clean d x h c (undeclared u) = ok_err h (undeclared_is d u)

component_faults : (d : Datum) (c : Code) → component d ≡ Err c → ComponentFault d c
component_faults d c h = elim (component_view d) [
  | inl v ↦ absurd (ok_err v.2 h)
  | inr (inl v) ↦ subst (ComponentFault d) (err_same v.1 h) (undeclared v.0)
  | inr (inr e) ↦ subst (ComponentFault d) (err_same e h) (no_component (λ x is. ok_err (component_is d x is) e) (λ u. not_both (undeclared_is d u) e))
]
  where
    not_both : component d ≡ Err Undeclared → component d ≡ Err BadForm → ⊥
    not_both e f = cc

pub reads_components : Reads IsComponent (λ before d c. ComponentFault d c) (λ before d. component d)
reads_components = record {
  names = λ before s d x inv h. component_names d x h;
  clean = λ before s d x inv h. component_clean d x h;
  faults = λ before s d c inv h. component_faults d c h;
}

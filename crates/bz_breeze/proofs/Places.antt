-- The first fault that is met in the forms of a part, and in the parts of a netlist, is the least.
use Rattle.std.proofs.Common.{◌≡◌, ◌≢◌, ℕ, ◌+◌, ◌-◌, ◌<◌, ◌≤◌, List, [], ◌∷◌, ◌++◌, Bool, true, false, cond, Option, None, Some, Result, Ok, Err, ◌⊎◌, inl, inr, refl, sym, ap, ◌∙◌, subst, arith, codes, bytes_eq}
use Rattle.std.specs.List.{AllZip, cons_option}
use Rattle.std.proofs.lemmas.List.{append-nil}
use Rattle.std.proofs.lemmas.List.Elements.{filter_map-append}
use Rattle.bz_sexpr.specs.Data.{Datum, leaf, items, Data, more, symbol, span_of}
use Rattle.bz_sexpr.specs.declared.datum.Span.{Span}
use Rattle.bz_sexpr.specs.Order.{IsInOrder, AreWithin}
use Rattle.bz_sexpr.specs.Views.{list_of, data_of}
use Rattle.bz_breeze.specs.Turns.{inside, in_turn, if_read, place_of, FaultAt, at_byte, beside}
use Rattle.bz_breeze.specs.Forms as read
use Rattle.bz_breeze.specs.Parts.{Lists, once, headed_form, form}
use Rattle.bz_breeze.specs.Shapes.{after_symbol, headed, lists_headed, IsPort, IsChannel, IsComponent}
use Rattle.bz_breeze.specs.Places.{Stands, Read, head_of, MemberFault, FormFault, second, member}
use Rattle.bz_breeze.specs.Places as place
use Rattle.bz_breeze.specs.declared.error.Code.{Code}
use Rattle.bz_breeze.specs.declared.error.Code.TheVariants.{BadForm}
use Rattle.bz_breeze.proofs.Least.{Steps, Faulty, fault_in, clean_in, least_in, takes_room, stands_within}
use Rattle.bz_breeze.proofs.Members.{Reads, member_steps, AtMember}
use Rattle.bz_breeze.proofs.Shapes.{headed_is, headed_not, some_same}
use Rattle.bz_breeze.proofs.Readers.{reads_ports, reads_channels, reads_components}

-- ---- the members of a list

none_or_some : {X : Type 0} {o : Option X} {x : X} → o ≡ None → o ≡ Some x → ⊥
none_or_some e f = cc

empty_or_not : {X : Type 0} {xs ys : List X} {x : X} → xs ≡ [] → xs ≡ x ∷ ys → ⊥
empty_or_not e f = cc

data_of-list_of : (ds : Data) → data_of (list_of ds) ≡ ds
data_of-list_of Data.none = refl
data_of-list_of (more d ds) = ap (more d) (data_of-list_of ds)

-- what follows the first item of a list in order
pub rest_in_order : (d x : Datum) (ms : List Datum) → IsInOrder d → inside d ≡ Some (x ∷ ms)
    → ((span_of d).from < (span_of x).from) × IsInOrder x × AreWithin (span_of x).to (data_of ms) ((span_of d).to - 1)
rest_in_order (leaf l span) x ms order h = absurd (none_or_some refl h)
rest_in_order (items ds span) x ms order h =
    let inner : AreWithin (span.from + 1) (data_of (list_of ds)) (span.to - 1) = subst (λ es. AreWithin (span.from + 1) es (span.to - 1)) (sym (data_of-list_of ds)) order in
    let first : AreWithin (span.from + 1) (data_of (x ∷ ms)) (span.to - 1) = subst (λ es. AreWithin (span.from + 1) (data_of es) (span.to - 1)) (some_same h) inner in
    (omega (arith, first.0), first.1, first.2)

-- a list has one head
pub headed_once : (head name : List ℕ) (d : Datum) (ms : List Datum) → headed name d ≡ Some ms → bytes_eq name head ≡ false → headed head d ≡ None
headed_once head name d ms h not = let i = headed_is name d ms h in headed_not head name d i.0 ms i.1 not

same_kind : (k j : Read) (d : Datum) (ms ns : List Datum) → headed (head_of k) d ≡ Some ms → headed (head_of j) d ≡ Some ns → k ≡ j
same_kind place.ports place.ports d ms ns h g = refl
same_kind place.ports place.channels d ms ns h g = absurd (none_or_some (headed_once (codes "channels") (codes "ports") d ms h refl) g)
same_kind place.ports place.components d ms ns h g = absurd (none_or_some (headed_once (codes "components") (codes "ports") d ms h refl) g)
same_kind place.channels place.ports d ms ns h g = absurd (none_or_some (headed_once (codes "ports") (codes "channels") d ms h refl) g)
same_kind place.channels place.channels d ms ns h g = refl
same_kind place.channels place.components d ms ns h g = absurd (none_or_some (headed_once (codes "components") (codes "channels") d ms h refl) g)
same_kind place.components place.ports d ms ns h g = absurd (none_or_some (headed_once (codes "ports") (codes "components") d ms h refl) g)
same_kind place.components place.channels d ms ns h g = absurd (none_or_some (headed_once (codes "channels") (codes "components") d ms h refl) g)
same_kind place.components place.components d ms ns h g = refl

-- ---- what is wrong with a form

pub form_within : (before : List Datum) (d : Datum) (g : FaultAt) → IsInOrder d → FormFault before d g → ((span_of d).from ≤ g.at) × (g.at ≤ (span_of d).to)
form_within before d g order (second k ms h again) = (omega arith, omega (arith, takes_room d order))
form_within before d g order (member k ms sooner m code h st fault) =
    let i = headed_is (head_of k) d ms h in
    let inner = rest_in_order d (leaf (symbol (head_of k)) i.0) ms order i.1 in
    let here = stands_within ms sooner m i.0.to ((span_of d).to - 1) inner.2 st in
    let room : i.0.from < i.0.to = inner.1 in
    (omega (arith, inner.0, room, here.0), omega (arith, here.2, takes_room m here.1))

-- in a list headed so, it comes second or one of its members is at fault
only_its : (before : List Datum) (d : Datum) (g : FaultAt) (k : Read) (ms : List Datum) → headed (head_of k) d ≡ Some ms → FormFault before d g
    → (lists_headed (head_of k) before ≢ []) ⊎ Faulty (AtMember (MemberFault k)) [] ms g
only_its before d g k ms h (second j ns e again) = inl (subst (λ i. lists_headed (head_of i) before ≢ []) (same_kind j k d ns ms e h) again)
only_its before d g k ms h (member j ns sooner m code e st fault) =
    let kind = same_kind j k d ns ms e h in
    let same : ns ≡ ms = some_same (sym (subst (λ i. headed (head_of i) d ≡ Some ns) kind e) ∙ h) in
    inr (sooner, m, subst (λ xs. Stands xs sooner m) same st, (subst (λ i. MemberFault i sooner m code) kind fault, refl))

-- Nothing is wrong with a datum that has none of the three heads.
none_of_them : (before : List Datum) (d : Datum) (g : FaultAt) → ((k : Read) → headed (head_of k) d ≡ None) → FormFault before d g → ⊥
none_of_them before d g none (second k ms h again) = none_or_some (none k) h
none_of_them before d g none (member k ms sooner m code h st fault) = none_or_some (none k) h

-- What comes of a form: the lists with its own, or the least fault.
record Outcome (Inv : Lists → Type 0) (before : List Datum) (d : Datum) (r : Result Lists FaultAt) : Type 0 where
  goes : (t : Lists) → r ≡ Ok t → Inv t
  clean : (t : Lists) → r ≡ Ok t → (g : FaultAt) → FormFault before d g → ⊥
  faults : (e : FaultAt) → r ≡ Err e → FormFault before d e
  least : (e : FaultAt) → r ≡ Err e → IsInOrder d → (g : FaultAt) → FormFault before d g → e.at ≤ g.at

ok_err : {A E : Type 0} {r : Result A E} {x : A} {e : E} → r ≡ Ok x → r ≡ Err e → ⊥
ok_err e f = cc

ok_same : {A E : Type 0} {r : Result A E} {x y : A} → r ≡ Ok x → r ≡ Ok y → x ≡ y
ok_same e f = cc

err_same : {A E : Type 0} {r : Result A E} {x y : E} → r ≡ Err x → r ≡ Err y → x ≡ y
err_same e f = cc

also : {A B E : Type 0} {q : Result A E} {r : Result B E} {x e : E} → q ≡ Err x → r ≡ Err x → r ≡ Err e → q ≡ Err e
also e f g = cc

-- the list that these forms have of a kind: none, or the first with what its members name
abbrev pub Has : {A : Type 0} → Read → (Datum → A → Type 0) → List Datum → Option (List A) → Type 0
Has k R before None = lists_headed (head_of k) before ≡ []
Has k R before (Some xs) = (ms : List Datum) × (others : List (List Datum)) × (lists_headed (head_of k) before ≡ ms ∷ others) × AllZip R ms xs

module _ (k : Read) {A : Type 0} (R : Datum → A → Type 0) (f : List A → Datum → Result A Code) (reads : Reads R (MemberFault k) f) where
  abbrev all_of : List Datum → Result (List A) FaultAt
  all_of ms = in_turn (beside (λ before d. at_byte (place_of d) (f before d))) [] ms

  as_form_fault : (before : List Datum) (d : Datum) (ms : List Datum) (e : FaultAt) → headed (head_of k) d ≡ Some ms → Faulty (AtMember (MemberFault k)) [] ms e → FormFault before d e
  as_form_fault before d ms e h v =
      let there : FaultAt = record { code = e.code; at = place_of v.1 } in
      let same : there ≡ e = ap (λ n. record { code = e.code; at = n }) (sym v.3.1) in
      subst (FormFault before d) same (member k ms v.0 v.1 e.code h v.2 v.3.0)

  -- a second list
  it_is_second : (Inv : Lists → Type 0) (before : List Datum) (d : Datum) (ms : List Datum) → headed (head_of k) d ≡ Some ms → lists_headed (head_of k) before ≢ []
      → Outcome Inv before d (Err (record { code = BadForm; at = place_of d }))
  it_is_second Inv before d ms h again =
      let told : FaultAt = record { code = BadForm; at = place_of d } in
      record {
        goes = λ t e. absurd (ok_err e refl);
        clean = λ t e g fault. ok_err e refl;
        faults = λ e is. subst (FormFault before d) (err_same refl is) (second k ms h again);
        least = λ e is order g fault. let same : told ≡ e = err_same refl is in omega (arith, ap (λ x. x.at) same, (form_within before d g order fault).0);
      }

  -- the first list, whose members are read
  it_is_first : (Inv : Lists → Type 0) (before : List Datum) (d : Datum) (ms : List Datum) (wrap : List A → Lists) → headed (head_of k) d ≡ Some ms → lists_headed (head_of k) before ≡ []
      → ((xs : List A) → AllZip R ms xs → Inv (wrap xs)) → (r : Result (List A) FaultAt) → all_of ms ≡ r → Outcome Inv before d (if_read r (λ xs. Ok (wrap xs)))
  it_is_first Inv before d ms wrap h none keeps (Ok xs) is =
      let read = clean_in (member_steps R (MemberFault k) f reads) ms [] [] xs tt is in
      record {
        goes = λ t e. subst Inv (ok_same refl e) (keeps xs read.0);
        clean = λ t e g fault. elim (only_its before d g k ms h fault) [
          | inl again ↦ again none
          | inr v ↦ read.1 g v
        ];
        faults = λ e is. absurd (ok_err refl is);
        least = λ e is order g fault. absurd (ok_err refl is);
      }
  it_is_first Inv before d ms wrap h none keeps (Err x) is =
      let st = member_steps R (MemberFault k) f reads in
      record {
        goes = λ t e. absurd (ok_err e refl);
        clean = λ t e g fault. ok_err e refl;
        faults = λ e told. as_form_fault before d ms e h (fault_in st ms [] [] e tt (also is refl told));
        least = λ e told order g fault.
            let i = headed_is (head_of k) d ms h in
            let inner = rest_in_order d (leaf (symbol (head_of k)) i.0) ms order i.1 in
            elim (only_its before d g k ms h fault) [
              | inl double ↦ absurd (double none)
              | inr v ↦ least_in st ms [] [] e i.0.to ((span_of d).to - 1) tt inner.2 (also is refl told) g v
            ];
      }

  it_is : (Inv : Lists → Type 0) (before : List Datum) (d : Datum) (ms : List Datum) (wrap : List A → Lists) (o : Option (List A)) → Has k R before o → headed (head_of k) d ≡ Some ms
      → ((xs : List A) → o ≡ None → AllZip R ms xs → Inv (wrap xs)) → Outcome Inv before d (once o (place_of d) (if_read (all_of ms) (λ xs. Ok (wrap xs))))
  it_is Inv before d ms wrap None has h keeps = it_is_first Inv before d ms wrap h has (λ xs all. keeps xs refl all) (all_of ms) refl
  it_is Inv before d ms wrap (Some xs) has h keeps = it_is_second Inv before d ms h (λ e. empty_or_not e has.2)

-- ---- the forms of a part, in turn

skips_by : (b : Bool) (ms : List Datum) → cond b (Some ms) None ≡ None → b ≡ false
skips_by true ms e = absurd cc
skips_by false ms e = refl

skips : (lists : Lists) (at : ℕ) (ds : List Datum) → ((k : Read) → after_symbol (head_of k) ds ≡ None) → headed_form lists at ds ≡ Ok lists
skips lists at (leaf (symbol head) span ∷ ms) none =
    let a : bytes_eq head (codes "ports") ≡ false = skips_by _ ms (none place.ports) in
    let b : bytes_eq head (codes "channels") ≡ false = skips_by _ ms (none place.channels) in
    let c : bytes_eq head (codes "components") ≡ false = skips_by _ ms (none place.components) in
    rw (a, b, c) refl
skips lists at ds none = refl

form_skips : (lists : Lists) (d : Datum) → ((k : Read) → headed (head_of k) d ≡ None) → form lists d ≡ Ok lists
form_skips lists (leaf l span) none = refl
form_skips lists (items ds span) none = skips lists span.from (list_of ds) none

form_is : (k : Read) (lists : Lists) (d : Datum) (ms : List Datum) → headed (head_of k) d ≡ Some ms → (span : Span) × (form lists d ≡ headed_form lists (place_of d) (leaf (symbol (head_of k)) span ∷ ms))
form_is k lists (leaf l span) ms h = absurd (none_or_some refl h)
form_is k lists (items ds span) ms h = let i = headed_is (head_of k) (items ds span) ms h in (i.0, ap (headed_form lists span.from) (some_same i.1))

-- The list of each kind, as far as the forms have come.
pub record HasLists (before : List Datum) (lists : Lists) : Type 0 where
  pub ports : Has place.ports IsPort before lists.ports
  pub channels : Has place.channels IsChannel before lists.channels
  pub components : Has place.components IsComponent before lists.components

one_more : (head : List ℕ) (before : List Datum) (d : Datum) (o : Option (List Datum)) → headed head d ≡ o → lists_headed head (before ++ d ∷ []) ≡ lists_headed head before ++ cons_option o []
one_more head before d o h = filter_map-append (headed head) before (d ∷ []) ∙ ap (λ p. lists_headed head before ++ cons_option p []) h

has_still : {A : Type 0} (k : Read) (R : Datum → A → Type 0) (before : List Datum) (d : Datum) (o : Option (List A)) → headed (head_of k) d ≡ None → Has k R before o → Has k R (before ++ d ∷ []) o
has_still k R before d None h has = one_more (head_of k) before d None h ∙ append-nil _ ∙ has
has_still k R before d (Some xs) h has = (has.0, has.1, one_more (head_of k) before d None h ∙ append-nil _ ∙ has.2, has.3)

has_now : {A : Type 0} (k : Read) (R : Datum → A → Type 0) (before : List Datum) (d : Datum) (o : Option (List A)) (ms : List Datum) (xs : List A) → Has k R before o → o ≡ None → headed (head_of k) d ≡ Some ms → AllZip R ms xs
    → Has k R (before ++ d ∷ []) (Some xs)
has_now k R before d None ms xs has none h all = (ms, [], one_more (head_of k) before d (Some ms) h ∙ ap (λ ls. ls ++ ms ∷ []) has, all)
has_now k R before d (Some ys) ms xs has none h all = absurd (none_or_some none refl)

maybe : {X : Type 0} (o : Option X) → ((x : X) × (o ≡ Some x)) ⊎ (o ≡ None)
maybe (Some x) = inl (x, refl)
maybe None = inr refl

-- the lists with the forms up to this one
abbrev With : List Datum → Datum → Lists → Type 0
With before d lists = HasLists (before ++ d ∷ []) lists

at_ports : (before : List Datum) (lists : Lists) (d : Datum) (ms : List Datum) → HasLists before lists → headed (codes "ports") d ≡ Some ms → Outcome (With before d) before d (form lists d)
at_ports before lists d ms has h =
    let f = form_is place.ports lists d ms h in
    subst (Outcome (With before d) before d) (sym f.1) (it_is place.ports IsPort read.new_port reads_ports (With before d) before d ms (λ xs. record lists { ports = Some xs }) lists.ports has.ports h (λ xs none all. record {
      ports = has_now place.ports IsPort before d lists.ports ms xs has.ports none h all;
      channels = has_still place.channels IsChannel before d lists.channels (headed_once (codes "channels") (codes "ports") d ms h refl) has.channels;
      components = has_still place.components IsComponent before d lists.components (headed_once (codes "components") (codes "ports") d ms h refl) has.components;
    }))

at_channels : (before : List Datum) (lists : Lists) (d : Datum) (ms : List Datum) → HasLists before lists → headed (codes "channels") d ≡ Some ms → Outcome (With before d) before d (form lists d)
at_channels before lists d ms has h =
    let f = form_is place.channels lists d ms h in
    subst (Outcome (With before d) before d) (sym f.1) (it_is place.channels IsChannel (λ before d. read.channel d) reads_channels (With before d) before d ms (λ xs. record lists { channels = Some xs }) lists.channels has.channels h (λ xs none all. record {
      ports = has_still place.ports IsPort before d lists.ports (headed_once (codes "ports") (codes "channels") d ms h refl) has.ports;
      channels = has_now place.channels IsChannel before d lists.channels ms xs has.channels none h all;
      components = has_still place.components IsComponent before d lists.components (headed_once (codes "components") (codes "channels") d ms h refl) has.components;
    }))

at_components : (before : List Datum) (lists : Lists) (d : Datum) (ms : List Datum) → HasLists before lists → headed (codes "components") d ≡ Some ms → Outcome (With before d) before d (form lists d)
at_components before lists d ms has h =
    let f = form_is place.components lists d ms h in
    subst (Outcome (With before d) before d) (sym f.1) (it_is place.components IsComponent (λ before d. read.component d) reads_components (With before d) before d ms (λ xs. record lists { components = Some xs }) lists.components has.components h (λ xs none all. record {
      ports = has_still place.ports IsPort before d lists.ports (headed_once (codes "ports") (codes "components") d ms h refl) has.ports;
      channels = has_still place.channels IsChannel before d lists.channels (headed_once (codes "channels") (codes "components") d ms h refl) has.channels;
      components = has_now place.components IsComponent before d lists.components ms xs has.components none h all;
    }))

at_no_list : (before : List Datum) (lists : Lists) (d : Datum) → HasLists before lists → ((k : Read) → headed (head_of k) d ≡ None) → Outcome (With before d) before d (form lists d)
at_no_list before lists d has none =
    let f = form_skips lists d none in
    record {
      goes = λ t e. subst (With before d) (ok_same f e) (record {
        ports = has_still place.ports IsPort before d lists.ports (none place.ports) has.ports;
        channels = has_still place.channels IsChannel before d lists.channels (none place.channels) has.channels;
        components = has_still place.components IsComponent before d lists.components (none place.components) has.components;
      });
      clean = λ t e g fault. none_of_them before d g none fault;
      faults = λ e is. absurd (ok_err f is);
      least = λ e is order g fault. absurd (ok_err f is);
    }

no_head : (d : Datum) → headed (codes "ports") d ≡ None → headed (codes "channels") d ≡ None → headed (codes "components") d ≡ None → (k : Read) → headed (head_of k) d ≡ None
no_head d a b c place.ports = a
no_head d a b c place.channels = b
no_head d a b c place.components = c

form_outcome : (before : List Datum) (lists : Lists) (d : Datum) → HasLists before lists → Outcome (With before d) before d (form lists d)
form_outcome before lists d has = elim (maybe (headed (codes "ports") d)) [
  | inl v ↦ at_ports before lists d v.0 has v.1
  | inr a ↦ elim (maybe (headed (codes "channels") d)) [
    | inl v ↦ at_channels before lists d v.0 has v.1
    | inr b ↦ elim (maybe (headed (codes "components") d)) [
      | inl v ↦ at_components before lists d v.0 has v.1
      | inr c ↦ at_no_list before lists d has (no_head d a b c)
    ]
  ]
]

pub form_steps : Steps form (λ g. g.at) FormFault HasLists
form_steps = record {
  goes = λ before s t d has h. (form_outcome before s d has).goes t h;
  clean = λ before s t d has h. (form_outcome before s d has).clean t h;
  faults = λ before s d e has h. (form_outcome before s d has).faults e h;
  least = λ before s d e has h. (form_outcome before s d has).least e h;
  begins = λ before d g order fault. (form_within before d g order fault).0;
  ends = λ before d g order fault. (form_within before d g order fault).1;
}

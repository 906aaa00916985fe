-- What is told of a netlist: the records that its forms name, or its least fault.
use Rattle.std.proofs.Common.{◌≡◌, ℕ, suc, ◌-◌, ◌<◌, ◌≤◌, List, [], ◌∷◌, ◌++◌, length, Bool, true, false, cond, Option, None, Some, Result, Ok, Err, IfOk, IfErr, IfSome, inl, inr, refl, sym, ap, ap₂, ◌∙◌, subst, arith, codes, is_some}
use Rattle.std.specs.List.{AllZip, filter, filter_map, cons_option}
use Rattle.std.specs.Option.{option_and_then}
use Rattle.std.proofs.lemmas.Bool.Decides.{leb_tells}
use Rattle.std.proofs.lemmas.List.{append-nil, map-append}
use Rattle.std.proofs.lemmas.List.Elements.{filter_map-append, filter-append}
use Rattle.bz_sexpr.specs.Data.{Datum, leaf, items, num, truth, text, symbol, span_of}
use Rattle.bz_sexpr.specs.declared.datum.Span.{Span}
use Rattle.bz_sexpr.specs.Order.{IsInOrder, AreWithin, AreInOrder}
use Rattle.bz_sexpr.specs.Views.{list_of, data_of}
use Rattle.bz_breeze_records.specs.Records.{PartRecord}
use Rattle.bz_breeze.specs.Turns.{in_turn, if_read, FaultAt}
use Rattle.bz_breeze.specs.Forms.{is_among}
use Rattle.bz_breeze.specs.Faults.{Fault, Tells, fault_of}
use Rattle.bz_breeze.specs.declared.error.BreezeError.{BreezeError}
use Rattle.std.proofs.lemmas.Option.{IfSome_then}
use Rattle.bz_breeze.specs.Parts.{Lists, no_lists, form, or_empty, finished, part_of, in_part, named_part, after_head, part_items, part_names, listed_part, part, parts}
use Rattle.bz_breeze.specs.Shapes.{after_symbol, headed, first_or_empty, members_of, IsPort, IsChannel, IsComponent, IsPart, is_part, AreParts}
use Rattle.bz_breeze.specs.Places.{Stands, Read, head_of, FormFault, PartFault, few_channels, name_of, part_name, ListFault, nameless, double, within, IsFault, IsLeast}
use Rattle.bz_breeze.specs.Places as place
use Rattle.bz_breeze.specs.declared.error.Code.TheVariants.{BadForm, DoublePart}
use Rattle.bz_breeze.proofs.Least.{Steps, Faulty, fault_in, clean_in, least_in, fault_within, takes_room, rises}
use Rattle.bz_breeze.proofs.Members.{each_push}
use Rattle.bz_breeze.proofs.Shapes.{headed_is, some_same}
use Rattle.bz_breeze.proofs.Places.{rest_in_order, Has, HasLists, form_steps}

none_or_some : {X : Type 0} {o : Option X} {x : X} → o ≡ None → o ≡ Some x → ⊥
none_or_some e f = cc

ok_err : {A E : Type 0} {r : Result A E} {x : A} {e : E} → r ≡ Ok x → r ≡ Err e → ⊥
ok_err e f = cc

ok_same : {A E : Type 0} {r : Result A E} {x y : A} → r ≡ Ok x → r ≡ Ok y → x ≡ y
ok_same e f = cc

err_same : {A E : Type 0} {r : Result A E} {x y : E} → r ≡ Err x → r ≡ Err y → x ≡ y
err_same e f = cc

-- ---- one part

length-zip : {A B : Type 0} (R : A → B → Type 0) (xs : List A) (ys : List B) → AllZip R xs ys → length xs ≡ length ys
length-zip R [] [] all = refl
length-zip R [] (y ∷ ys) all = absurd all
length-zip R (x ∷ xs) [] all = absurd all
length-zip R (x ∷ xs) (y ∷ ys) all = ap suc (length-zip R xs ys all.1)

members_are : {A : Type 0} (k : Read) (R : Datum → A → Type 0) (forms : List Datum) (o : Option (List A)) → Has k R forms o → AllZip R (members_of (head_of k) forms) (or_empty o)
members_are k R forms None has = subst (λ ls. AllZip R (first_or_empty ls) []) (sym has) tt
members_are k R forms (Some xs) has = subst (λ ls. AllZip R (first_or_empty ls) xs) (sym has.2) has.3

-- what a part of these forms names
record Names (name : List ℕ) (forms : List Datum) (p : PartRecord) : Type 0 where
  name_is : p.name ≡ name
  ports : AllZip IsPort (members_of (codes "ports") forms) p.ports
  channels : AllZip IsChannel (members_of (codes "channels") forms) p.channels
  components : AllZip IsComponent (members_of (codes "components") forms) p.components

record PartOutcome (name : List ℕ) (end : ℕ) (forms : List Datum) (r : Result PartRecord FaultAt) : Type 0 where
  names : (p : PartRecord) → r ≡ Ok p → Names name forms p
  clean : (p : PartRecord) → r ≡ Ok p → (g : FaultAt) → PartFault end forms g → ⊥
  faults : (e : FaultAt) → r ≡ Err e → PartFault end forms e
  least : (e : FaultAt) → r ≡ Err e → (a : ℕ) → AreWithin a (data_of forms) end → (g : FaultAt) → PartFault end forms g → e.at ≤ g.at

few : (end : ℕ) (forms : List Datum) (lists : Lists) → HasLists forms lists → length (or_empty lists.channels) < length (or_empty lists.ports) → PartFault end forms (record { code = BadForm; at = end })
few end forms lists has h =
    let ps = length-zip IsPort (members_of (codes "ports") forms) (or_empty lists.ports) (members_are place.ports IsPort forms lists.ports has.ports) in
    let cs = length-zip IsChannel (members_of (codes "channels") forms) (or_empty lists.channels) (members_are place.channels IsChannel forms lists.channels has.channels) in
    few_channels (omega (arith, ps, cs, h))

not_few : (forms : List Datum) (lists : Lists) → HasLists forms lists → length (or_empty lists.ports) ≤ length (or_empty lists.channels)
    → length (members_of (codes "channels") forms) < length (members_of (codes "ports") forms) → ⊥
not_few forms lists has h lt =
    let ps = length-zip IsPort (members_of (codes "ports") forms) (or_empty lists.ports) (members_are place.ports IsPort forms lists.ports has.ports) in
    let cs = length-zip IsChannel (members_of (codes "channels") forms) (or_empty lists.channels) (members_are place.channels IsChannel forms lists.channels has.channels) in
    absurd (omega (arith, ps, cs, h, lt))

-- Nothing is wrong with the forms.
forms_clean : (name : List ℕ) (end : ℕ) (forms : List Datum) (lists : Lists) → HasLists forms lists → ((g : FaultAt) → Faulty FormFault [] forms g → ⊥) → PartOutcome name end forms (finished name end lists)
forms_clean name end forms lists has clean = elim (leb_tells (suc (length (or_empty lists.channels))) (length (or_empty lists.ports))) [
  | inl t ↦ (
      let told : FaultAt = record { code = BadForm; at = end } in
      let refused : finished name end lists ≡ Err told = ap (λ b. cond b (Err told) (Ok (record { name = name; ports = or_empty lists.ports; channels = or_empty lists.channels; components = or_empty lists.components }))) t.0 in
      let fault = few end forms lists has (omega (arith, t.1)) in
      record {
        names = λ p e. absurd (ok_err e refused);
        clean = λ p e g f. ok_err e refused;
        faults = λ e is. subst (PartFault end forms) (err_same refused is) fault;
        least = λ e is a order g f. subst (λ x. x.at ≤ g.at) (err_same refused is) (at_end g f);
      }
      )
  | inr t ↦ (
      let made : PartRecord = record { name = name; ports = or_empty lists.ports; channels = or_empty lists.channels; components = or_empty lists.components } in
      let read : finished name end lists ≡ Ok made = ap (λ b. cond b (Err (record { code = BadForm; at = end })) (Ok made)) t.0 in
      record {
        names = λ p e. subst (Names name forms) (ok_same read e) (record {
          name_is = refl;
          ports = members_are place.ports IsPort forms lists.ports has.ports;
          channels = members_are place.channels IsChannel forms lists.channels has.channels;
          components = members_are place.components IsComponent forms lists.components has.components;
        });
        clean = λ p e g f. none_at g f (omega (arith, t.1));
        faults = λ e is. absurd (ok_err read is);
        least = λ e is a order g f. absurd (ok_err read is);
      }
      )
]
  where
    at_end : (g : FaultAt) → PartFault end forms g → end ≤ g.at
    at_end g (place.form before d st f) = absurd (clean g (before, d, st, f))
    at_end g (few_channels lt) = omega arith

    none_at : (g : FaultAt) → PartFault end forms g → length (or_empty lists.ports) ≤ length (or_empty lists.channels) → ⊥
    none_at g (place.form before d st f) le = clean g (before, d, st, f)
    none_at g (few_channels lt) le = not_few forms lists has le lt

in_forms : (end : ℕ) (forms : List Datum) (e : FaultAt) → Faulty FormFault [] forms e → PartFault end forms e
in_forms end forms e f = place.form f.0 f.1 f.2 f.3

forms_fault : (name : List ℕ) (end : ℕ) (forms : List Datum) (x : FaultAt) → in_turn form no_lists forms ≡ Err x → PartOutcome name end forms (Err x)
forms_fault name end forms x is = record {
  names = λ p e. absurd (ok_err e refl);
  clean = λ p e g f. ok_err e refl;
  faults = λ e told. in_forms end forms e (found e (err_same refl told));
  least = λ e told a order g f. sooner e (err_same refl told) a order g f;
}
  where
    start : HasLists [] no_lists
    start = record { ports = refl; channels = refl; components = refl }

    same : (e : FaultAt) → x ≡ e → in_turn form no_lists forms ≡ Err e
    same e told = is ∙ ap Err told

    found : (e : FaultAt) → x ≡ e → Faulty FormFault [] forms e
    found e told = fault_in form_steps forms [] no_lists e start (same e told)

    sooner : (e : FaultAt) → x ≡ e → (a : ℕ) → AreWithin a (data_of forms) end → (g : FaultAt) → PartFault end forms g → e.at ≤ g.at
    sooner e told a order g (place.form before d st f) = least_in form_steps forms [] no_lists e a end start order (same e told) g (before, d, st, f)
    sooner e told a order g (few_channels lt) = (fault_within form_steps forms [] a end order e (found e told)).1

part_by : (name : List ℕ) (end : ℕ) (forms : List Datum) (r : Result Lists FaultAt) → in_turn form no_lists forms ≡ r → PartOutcome name end forms (if_read r (finished name end))
part_by name end forms (Ok lists) is =
    let read = clean_in form_steps forms [] no_lists lists (record { ports = refl; channels = refl; components = refl }) is in
    forms_clean name end forms lists read.0 read.1
part_by name end forms (Err x) is = forms_fault name end forms x is

part_outcome : (name : List ℕ) (end : ℕ) (forms : List Datum) → PartOutcome name end forms (part_of name end forms)
part_outcome name end forms = part_by name end forms (in_turn form no_lists forms) refl

part_within : (end : ℕ) (forms : List Datum) (g : FaultAt) (a : ℕ) → AreWithin a (data_of forms) end → a ≤ end → PartFault end forms g → (a ≤ g.at) × (g.at ≤ end)
part_within end forms g a order le (place.form before d st f) = fault_within form_steps forms [] a end order g (before, d, st, f)
part_within end forms g a order le (few_channels lt) = (le, omega arith)

-- ---- the parts of a netlist, in turn

head_same : (ds : List Datum) → after_head ds ≡ after_symbol (codes "breeze-part") ds
head_same [] = refl
head_same (leaf (symbol head) span ∷ rest) = refl
head_same (leaf (num n) span ∷ rest) = refl
head_same (leaf (truth b) span ∷ rest) = refl
head_same (leaf (text t) span ∷ rest) = refl
head_same (items es span ∷ rest) = refl

part_headed : (d : Datum) → part_items d ≡ headed (codes "breeze-part") d
part_headed (leaf l span) = refl
part_headed (items ds span) = head_same (list_of ds)

-- where the name and the forms of a part stand
named_in_order : (d : Datum) (name : List ℕ) (quote : Span) (forms : List Datum) → IsInOrder d → part_items d ≡ Some (leaf (text name) quote ∷ forms)
    → ((span_of d).from < quote.from) × (quote.from < quote.to) × AreWithin quote.to (data_of forms) ((span_of d).to - 1) × (quote.to ≤ (span_of d).to - 1)
named_in_order d name quote forms order h =
    let i = headed_is (codes "breeze-part") d (leaf (text name) quote ∷ forms) (sym (part_headed d) ∙ h) in
    let inner = rest_in_order d (leaf (symbol (codes "breeze-part")) i.0) (leaf (text name) quote ∷ forms) order i.1 in
    let rest : (i.0.to ≤ quote.from) × (quote.from < quote.to) × AreWithin quote.to (data_of forms) ((span_of d).to - 1) = inner.2 in
    let room : i.0.from < i.0.to = inner.1 in
    (omega (arith, inner.0, room, rest.0), rest.1, rest.2, rises (data_of forms) quote.to ((span_of d).to - 1) rest.2)

list_within : (before : List Datum) (d : Datum) (g : Fault) → IsInOrder d → ListFault before d g → ((span_of d).from ≤ g.at) × (g.at ≤ (span_of d).to)
list_within before d g order (nameless ds h none) = (omega arith, omega (arith, takes_room d order))
list_within before d g order (double name quote forms h among) =
    let o = named_in_order d name quote forms order h in
    (omega (arith, o.0), omega (arith, o.1, o.3))
list_within before d g order (within name quote forms fault h f) =
    let o = named_in_order d name quote forms order h in
    let w = part_within ((span_of d).to - 1) forms fault quote.to o.2 o.3 f in
    (omega (arith, o.0, o.1, w.0), omega (arith, w.1))

-- the records of the parts among these data
record HasParts (before : List Datum) (s : List PartRecord) : Type 0 where
  parts_are : AreParts before s
  names_are : part_names s ≡ filter_map part_name before

record Outcome (before : List Datum) (d : Datum) (r : Result (List PartRecord) Fault) : Type 0 where
  goes : (t : List PartRecord) → r ≡ Ok t → HasParts (before ++ d ∷ []) t
  clean : (t : List PartRecord) → r ≡ Ok t → (g : Fault) → ListFault before d g → ⊥
  faults : (e : Fault) → r ≡ Err e → ListFault before d e
  least : (e : Fault) → r ≡ Err e → IsInOrder d → (g : Fault) → ListFault before d g → e.at ≤ g.at

names_more : (before : List Datum) (d : Datum) (o : Option (List ℕ)) → part_name d ≡ o → filter_map part_name (before ++ d ∷ []) ≡ filter_map part_name before ++ cons_option o []
names_more before d o h = filter_map-append part_name before (d ∷ []) ∙ ap (λ p. filter_map part_name before ++ cons_option p []) h

parts_more : (before : List Datum) (d : Datum) (b : Bool) → is_part d ≡ b → filter is_part (before ++ d ∷ []) ≡ filter is_part before ++ cond b (d ∷ []) []
parts_more before d b h = filter-append is_part before (d ∷ []) ∙ ap (λ c. filter is_part before ++ cond c (d ∷ []) []) h

-- a datum that is no part
at_other : (before : List Datum) (s : List PartRecord) (d : Datum) → HasParts before s → part_items d ≡ None → Outcome before d (Ok s)
at_other before s d has none = record {
  goes = λ t e. subst (HasParts (before ++ d ∷ [])) (ok_same refl e) (record {
    parts_are = subst (λ ds. AllZip IsPart ds s) (sym (parts_more before d false (ap is_some none) ∙ append-nil (filter is_part before))) has.parts_are;
    names_are = has.names_are ∙ sym (names_more before d None (ap (option_and_then name_of) none) ∙ append-nil (filter_map part_name before));
  });
  clean = λ t e g f. no_fault g f;
  faults = λ e is. absurd (ok_err refl is);
  least = λ e is order g f. absurd (ok_err refl is);
}
  where
    no_fault : (g : Fault) → ListFault before d g → ⊥
    no_fault g (nameless ds h n) = none_or_some none h
    no_fault g (double name quote forms h among) = none_or_some none h
    no_fault g (within name quote forms fault h f) = none_or_some none h

-- a list without a name
at_nameless : (before : List Datum) (d : Datum) (ds : List Datum) → part_items d ≡ Some ds → part_name d ≡ None → Outcome before d (Err (record { code = BadForm; part = None; at = (span_of d).from }))
at_nameless before d ds h none = record {
  goes = λ t e. absurd (ok_err e refl);
  clean = λ t e g f. ok_err e refl;
  faults = λ e is. subst (ListFault before d) (err_same refl is) (nameless ds h none);
  least = λ e is order g f. subst (λ x. x.at ≤ g.at) (err_same refl is) (list_within before d g order f).0;
}

name_is : (d : Datum) (name : List ℕ) (quote : Span) (forms : List Datum) → part_items d ≡ Some (leaf (text name) quote ∷ forms) → part_name d ≡ Some name
name_is d name quote forms h = ap (option_and_then name_of) h

-- a name that came before
at_double : (before : List Datum) (d : Datum) (name : List ℕ) (quote : Span) (forms : List Datum) → part_items d ≡ Some (leaf (text name) quote ∷ forms)
    → is_among (filter_map part_name before) name ≡ true → Outcome before d (Err (record { code = DoublePart; part = Some name; at = quote.from }))
at_double before d name quote forms h among = record {
  goes = λ t e. absurd (ok_err e refl);
  clean = λ t e g f. ok_err e refl;
  faults = λ e is. subst (ListFault before d) (err_same refl is) (double name quote forms h among);
  least = λ e is order g f. subst (λ x. x.at ≤ g.at) (err_same refl is) (sooner order g f);
}
  where
    sooner : IsInOrder d → (g : Fault) → ListFault before d g → quote.from ≤ g.at
    sooner order g (nameless ds i none) = absurd (none_or_some none (name_is d name quote forms h))
    sooner order g (double other at rest i again) =
        let same : leaf (text name) quote ∷ forms ≡ leaf (text other) at ∷ rest = some_same (sym h ∙ i) in
        let place : quote ≡ at = cc in
        omega (arith, ap (λ x. x.from) place)
    sooner order g (within other at rest fault i f) =
        let same : leaf (text name) quote ∷ forms ≡ leaf (text other) at ∷ rest = some_same (sym h ∙ i) in
        let place : quote ≡ at = cc in
        let o = named_in_order d other at rest order i in
        let w = part_within ((span_of d).to - 1) rest fault at.to o.2 o.3 f in
        omega (arith, ap (λ x. x.from) place, o.1, w.0)

-- a new name
at_named : (before : List Datum) (s : List PartRecord) (d : Datum) (name : List ℕ) (quote : Span) (forms : List Datum) → HasParts before s → part_items d ≡ Some (leaf (text name) quote ∷ forms)
    → is_among (filter_map part_name before) name ≡ false → (r : Result PartRecord FaultAt) → PartOutcome name ((span_of d).to - 1) forms r → Outcome before d (if_read (in_part name r) (λ p. Ok (s ++ p ∷ [])))
at_named before s d name quote forms has h new (Ok p) o = record {
  goes = λ t e. subst (HasParts (before ++ d ∷ [])) (ok_same refl e) with_it;
  clean = λ t e g f. no_fault g f;
  faults = λ e is. absurd (ok_err refl is);
  least = λ e is order g f. absurd (ok_err refl is);
}
  where
    with_it : HasParts (before ++ d ∷ []) (s ++ p ∷ [])
    with_it =
        let n = o.names p refl in
        let is : IsPart d p = record {
          quote = quote;
          forms = forms;
          written = h ∙ ap (λ x. Some (leaf (text x) quote ∷ forms)) (sym n.name_is);
          ports = n.ports;
          channels = n.channels;
          components = n.components;
        } in
        record {
          parts_are = subst (λ ds. AllZip IsPart ds (s ++ p ∷ [])) (sym (parts_more before d true (ap is_some h))) (each_push IsPart (filter is_part before) s d p has.parts_are is);
          names_are = map-append (λ q. q.name) s (p ∷ []) ∙ ap₂ (λ names x. names ++ x ∷ []) has.names_are n.name_is ∙ sym (names_more before d (Some name) (name_is d name quote forms h));
        }

    no_fault : (g : Fault) → ListFault before d g → ⊥
    no_fault g (nameless ds i none) = none_or_some none (name_is d name quote forms h)
    no_fault g (double other at rest i again) =
        let same : leaf (text name) quote ∷ forms ≡ leaf (text other) at ∷ rest = some_same (sym h ∙ i) in
        let one : name ≡ other = cc in
        clash (sym new ∙ ap (is_among (filter_map part_name before)) one ∙ again)
      where
        clash : false ≡ true → ⊥
        clash e = cc
    no_fault g (within other at rest fault i f) =
        let same : leaf (text name) quote ∷ forms ≡ leaf (text other) at ∷ rest = some_same (sym h ∙ i) in
        let one : rest ≡ forms = cc in
        o.clean p refl fault (subst (λ xs. PartFault ((span_of d).to - 1) xs fault) one f)
at_named before s d name quote forms has h new (Err x) o = record {
  goes = λ t e. absurd (ok_err e refl);
  clean = λ t e g f. ok_err e refl;
  faults = λ e is. subst (ListFault before d) (err_same refl is) (within name quote forms x h (o.faults x refl));
  least = λ e is order g f. subst (λ y. y.at ≤ g.at) (err_same refl is) (sooner order g f);
}
  where
    sooner : IsInOrder d → (g : Fault) → ListFault before d g → x.at ≤ g.at
    sooner order g (nameless ds i none) = absurd (none_or_some none (name_is d name quote forms h))
    sooner order g (double other at rest i again) =
        let same : leaf (text name) quote ∷ forms ≡ leaf (text other) at ∷ rest = some_same (sym h ∙ i) in
        let one : name ≡ other = cc in
        absurd (clash (sym new ∙ ap (is_among (filter_map part_name before)) one ∙ again))
      where
        clash : false ≡ true → ⊥
        clash e = cc
    sooner order g (within other at rest fault i f) =
        let same : leaf (text name) quote ∷ forms ≡ leaf (text other) at ∷ rest = some_same (sym h ∙ i) in
        let one : rest ≡ forms = cc in
        o.least x refl quote.to (named_in_order d name quote forms order h).2 fault (subst (λ xs. PartFault ((span_of d).to - 1) xs fault) one f)

at_name : (before : List Datum) (s : List PartRecord) (d : Datum) (name : List ℕ) (quote : Span) (forms : List Datum) → HasParts before s → part_items d ≡ Some (leaf (text name) quote ∷ forms)
    → (b : Bool) → is_among (filter_map part_name before) name ≡ b
    → Outcome before d (if_read (cond b (Err (record { code = DoublePart; part = Some name; at = quote.from })) (in_part name (part_of name ((span_of d).to - 1) forms))) (λ p. Ok (s ++ p ∷ [])))
at_name before s d name quote forms has h true among = at_double before d name quote forms h among
at_name before s d name quote forms has h false new = at_named before s d name quote forms has h new (part_of name ((span_of d).to - 1) forms) (part_outcome name ((span_of d).to - 1) forms)

at_part : (before : List Datum) (s : List PartRecord) (d : Datum) (ds : List Datum) → HasParts before s → part_items d ≡ Some ds → Outcome before d (if_read (named_part (part_names s) (span_of d) ds) (λ p. Ok (s ++ p ∷ [])))
at_part before s d (leaf (text name) quote ∷ forms) has h = at_name before s d name quote forms has h (is_among (part_names s) name) (ap (λ ns. is_among ns name) (sym has.names_are))
at_part before s d ds has h = at_nameless before d ds h (ap (option_and_then name_of) h)

list_by : (before : List Datum) (s : List PartRecord) (d : Datum) (o : Option (List Datum)) → HasParts before s → part_items d ≡ o → Outcome before d (listed_part s d o)
list_by before s d None has h = at_other before s d has h
list_by before s d (Some ds) has h = at_part before s d ds has h

list_outcome : (before : List Datum) (s : List PartRecord) (d : Datum) → HasParts before s → Outcome before d (part s d)
list_outcome before s d has = list_by before s d (part_items d) has refl

list_steps : Steps part (λ g. g.at) ListFault HasParts
list_steps = record {
  goes = λ before s t d has h. (list_outcome before s d has).goes t h;
  clean = λ before s t d has h. (list_outcome before s d has).clean t h;
  faults = λ before s d e has h. (list_outcome before s d has).faults e h;
  least = λ before s d e has h. (list_outcome before s d has).least e h;
  begins = λ before d g order fault. (list_within before d g order fault).0;
  ends = λ before d g order fault. (list_within before d g order fault).1;
}

no_parts : HasParts [] []
no_parts = record { parts_are = tt; names_are = refl }

-- ---- what is told of a netlist

-- At a fault: there it is, and in a text none stands at a lesser byte.
told_is_there : (netlist : List Datum) (e : Fault) → parts netlist ≡ Err e → IsFault netlist e
told_is_there netlist e h = fault_in list_steps netlist [] [] e no_parts h

told_is_least : (netlist : List Datum) (end : ℕ) → AreInOrder netlist end → (e : Fault) → parts netlist ≡ Err e → IsLeast netlist e
told_is_least netlist end order e h = record {
  holds = told_is_there netlist e h;
  least = λ other f. least_in list_steps netlist [] [] e 0 end no_parts order h other f;
}

-- At records: these are named, and nothing is wrong.
pub read_is_named : (netlist : List Datum) (ps : List PartRecord) → parts netlist ≡ Ok ps → AreParts netlist ps × ((fault : Fault) → IsFault netlist fault → ⊥)
read_is_named netlist ps h =
    let r = clean_in list_steps netlist [] [] ps no_parts h in
    (r.0.parts_are, r.1)

pub named_answer : {X E : Type 0} (netlist : List Datum) (r : Result X E) (f : X → List PartRecord) → IfOk r (λ x. parts netlist ≡ Ok (f x)) → IfOk r (λ x. AreParts netlist (f x))
named_answer netlist (Ok x) f read = (read_is_named netlist (f x) read).0
named_answer netlist (Err e) f read = tt

pub faultless_answer : {X E : Type 0} (netlist : List Datum) (r : Result X E) (f : X → List PartRecord) → IfOk r (λ x. parts netlist ≡ Ok (f x)) → IfOk r (λ x. (fault : Fault) → IsFault netlist fault → ⊥)
faultless_answer netlist (Ok x) f read = (read_is_named netlist (f x) read).1
faultless_answer netlist (Err e) f read = tt

pub fault_answer : {X : Type 0} (netlist : List Datum) (r : Result X BreezeError) → IfErr r (Tells (parts netlist)) → IfErr r (λ e. IfSome (fault_of e) (IsFault netlist))
fault_answer netlist (Ok x) told = tt
fault_answer netlist (Err e) told = IfSome_then (fault_of e) told (told_is_there netlist)

pub least_answer : {X : Type 0} (netlist : List Datum) (r : Result X BreezeError) → IfErr r (Tells (parts netlist)) → (end : ℕ) → AreInOrder netlist end → IfErr r (λ e. IfSome (fault_of e) (IsLeast netlist))
least_answer netlist (Ok x) told end order = tt
least_answer netlist (Err e) told end order = IfSome_then (fault_of e) told (told_is_least netlist end order)

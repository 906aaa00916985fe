-- Of each part that is read, the ports have different names, and no channel is wider than the greatest width.
use Rattle.std.proofs.Common.{◌≡◌, ℕ, zero, suc, ◌<◌, ◌≤◌, List, [], ◌∷◌, ◌++◌, Bool, true, false, cond, Option, None, Some, Result, Ok, Err, All, map, length, get_or, nat_lt, ◌==◌, refl, sym, ap, ◌∙◌, subst, arith, bytes_eq, codes}
use Rattle.std.specs.Prelude.{IfSome}
use Rattle.std.specs.List.{AllByRecursion, IsDistinct}
use Rattle.std.specs.Cmp.{IsEquivalence}
use Rattle.std.proofs.lemmas.List.{map-append}
use Rattle.std.proofs.lemmas.Bool.{ltb-false}
use Rattle.std.proofs.lemmas.Map.Keys.{IsDistinct-push}
use Rattle.std.proofs.lemmas.Slice.Eq.{bytes_eq-Decides}
use Rattle.bz_model.specs.Names.{External, NamesDiffer}
use Rattle.bz_model.specs.declared.channel.Chan.{Chan}
use Rattle.bz_model.specs.declared.channel.ChanKind.{ChanKind}
use Rattle.bz_model.specs.declared.channel.ChanKind.TheVariants.{Sync, Push, Pull}
use Rattle.bz_model.specs.declared.channel.TheConstants.{MAX_WIDTH}
use Rattle.bz_sexpr.specs.Data.{Datum, leaf, items, num, text, symbol, span_of}
use Rattle.bz_sexpr.specs.Views.{list_of}
use Rattle.bz_sexpr.specs.declared.datum.Span.{Span}
use Rattle.bz_breeze_records.specs.Records.{PartRecord, part_record}
use Rattle.bz_breeze.specs.Turns.{in_turn, if_read, beside, at_byte, place_of, FaultAt}
use Rattle.bz_breeze.specs.Forms.{is_among, names_of, port, new_port, ports, channel, channels, components, wide_channel, listed_channel}
use Rattle.bz_breeze.specs.Faults.{Fault}
use Rattle.bz_breeze.specs.Parts.{Lists, no_lists, once, ports_form, channels_form, components_form, headed_form, form, or_empty, finished, part_of, in_part, named_part, part, parts, part_items, part_names, listed_part}
use Rattle.bz_breeze_records.specs.Parts.{IsFit}
use Rattle.bz_breeze_records.specs.declared.part.Part.{Part}
use Rattle.bz_breeze.specs.declared.error.Code.{Code}
use Rattle.bz_breeze.specs.declared.error.Code.TheVariants.{BadForm, TooWide}
use Rattle.bz_breeze.proofs.Readers.{kept_by}

-- ---- what is read in turn

ok_same : {A E : Type 0} (x y : A) → ◌≡◌ {A = Result A E} (Ok x) (Ok y) → x ≡ y
ok_same x y e = cc

found : {A B E : Type 0} (r : Result A E) (f : A → Result B E) (y : B) → if_read r f ≡ Ok y → (x : A) × (r ≡ Ok x) × (f x ≡ Ok y)
found (Ok x) f y e = (x, refl, e)
found (Err e) f y h = absurd cc

by_turns : {S E : Type 0} (P : S → Type 0) (step : S → Datum → Result S E) → ((s : S) (d : Datum) (t : S) → P s → step s d ≡ Ok t → P t) → (s : S) (ds : List Datum) (t : S) → P s → in_turn step s ds ≡ Ok t → P t
by_turns P step keeps s [] t p e = subst P (ok_same s t e) p
by_turns P step keeps s (d ∷ ds) t p e =
    let (m, first, rest) = found (step s d) (λ u. in_turn step u ds) t e in
    by_turns P step keeps m ds t (keeps s d m p first) rest

at_byte_found : {A : Type 0} (at : ℕ) (r : Result A Code) (x : A) → at_byte at r ≡ Ok x → r ≡ Ok x
at_byte_found at (Ok y) x e = ap Ok (ok_same y x e)
at_byte_found at (Err code) x e = absurd cc

in_part_found : {A : Type 0} (name : List ℕ) (r : Result A FaultAt) (x : A) → in_part name r ≡ Ok x → r ≡ Ok x
in_part_found name (Ok y) x e = ap Ok (ok_same y x e)
in_part_found name (Err fault) x e = absurd cc

once_found : {A B : Type 0} (o : Option A) (at : ℕ) (r : Result B FaultAt) (x : B) → once o at r ≡ Ok x → r ≡ Ok x
once_found None at r x e = e
once_found (Some before) at r x e = absurd cc

all_push : {X : Type 0} (P : X → Type 0) (xs : List X) (y : X) → AllByRecursion P xs → P y → AllByRecursion P (xs ++ y ∷ [])
all_push P [] y p q = (q, tt)
all_push P (x ∷ xs) y p q = (p.0, all_push P xs y p.1 q)

-- ---- ports

flips : (xs ys : List ℕ) (b c : Bool) → bytes_eq xs ys ≡ b → bytes_eq ys xs ≡ c → b ≡ c
flips xs ys true true e f = refl
flips xs ys false false e f = refl
flips xs ys true false e f = sym ((bytes_eq-Decides ys xs).1 (sym ((bytes_eq-Decides xs ys).0 e))) ∙ f
flips xs ys false true e f = sym e ∙ (bytes_eq-Decides xs ys).1 (sym ((bytes_eq-Decides ys xs).0 f))

equal_bytes : IsEquivalence bytes_eq
equal_bytes = record {
  refl = λ xs. (bytes_eq-Decides xs xs).1 refl;
  symm = λ xs ys. flips xs ys (bytes_eq xs ys) (bytes_eq ys xs) refl refl;
  congr = λ xs ys zs e. ap (λ us. bytes_eq us zs) ((bytes_eq-Decides xs ys).0 e);
}

port_kept : (before : List External) (d : Datum) (t : List External) → NamesDiffer before → beside (λ before d. at_byte (place_of d) (new_port before d)) before d ≡ Ok t → NamesDiffer t
port_kept before d t p e =
    let (x, one, last) = found (at_byte (place_of d) (new_port before d)) (λ x. Ok (before ++ x ∷ [])) t e in
    let (q, here, kept) = found (port d) (λ p. cond (is_among (names_of before) p.name) (Err BadForm) (Ok p)) x (at_byte_found (place_of d) (new_port before d) x one) in
    let (new, same) = kept_by (is_among (names_of before) q.name) q x kept in
    let names : names_of (before ++ q ∷ []) ≡ names_of before ++ q.name ∷ [] = map-append (λ p. p.name) before (q ∷ []) in
    let pushed : NamesDiffer (before ++ q ∷ []) = subst (IsDistinct bytes_eq) (sym names) (IsDistinct-push equal_bytes (names_of before) q.name p new) in
    subst NamesDiffer (ok_same (before ++ x ∷ []) t last) (subst (λ x. NamesDiffer (before ++ x ∷ [])) same pushed)

ports_differ : (ds : List Datum) (ps : List External) → ports ds ≡ Ok ps → NamesDiffer ps
unfolding IsDistinct
ports_differ ds ps e = by_turns NamesDiffer (beside (λ before d. at_byte (place_of d) (new_port before d))) port_kept [] ds ps tt e

-- ---- channels

abbrev IsNarrow : Chan → Type 0
IsNarrow c = c.width ≤ MAX_WIDTH

wide_by : (a b : Bool) (kind : ChanKind) (w : ℕ) (c : Chan) → nat_lt MAX_WIDTH w ≡ b → cond a (Err BadForm) (cond b (Err TooWide) (Ok (record { kind = kind; width = w }))) ≡ Ok c → IsNarrow c
wide_by true b kind w c is e = absurd cc
wide_by false true kind w c is e = absurd cc
wide_by false false kind w c is e =
    let made : Chan = record { kind = kind; width = w } in
    subst IsNarrow (ok_same made c e) (ltb-false MAX_WIDTH w is)

wide_found : (kind : ChanKind) (ds : List Datum) (c : Chan) → wide_channel kind ds ≡ Ok c → IsNarrow c
wide_found kind (leaf (num w) span ∷ rest) c e = wide_by (w == 0) (nat_lt MAX_WIDTH w) kind w c refl e
wide_found kind ds c e = absurd cc

listed_by : (a b d : Bool) (rest : List Datum) (c : Chan) → cond a (Ok (record { kind = Sync; width = 0 })) (cond b (wide_channel Push rest) (cond d (wide_channel Pull rest) (Err BadForm))) ≡ Ok c → IsNarrow c
listed_by true b d rest c e =
    let made : Chan = record { kind = Sync; width = 0 } in
    subst IsNarrow (ok_same made c e) (omega arith)
listed_by false true d rest c e = wide_found Push rest c e
listed_by false false true rest c e = wide_found Pull rest c e
listed_by false false false rest c e = absurd cc

listed_found : (ds : List Datum) (c : Chan) → listed_channel ds ≡ Ok c → IsNarrow c
listed_found (leaf (symbol head) span ∷ rest) c e = listed_by (bytes_eq head (codes "sync")) (bytes_eq head (codes "push")) (bytes_eq head (codes "pull")) rest c e
listed_found ds c e = absurd cc

channel_found : (d : Datum) (c : Chan) → channel d ≡ Ok c → IsNarrow c
channel_found (items ds span) c e = listed_found (list_of ds) c e
channel_found (leaf l span) c e = absurd cc

channel_kept : (before : List Chan) (d : Datum) (t : List Chan) → AllByRecursion IsNarrow before → beside (λ before d. at_byte (place_of d) (channel d)) before d ≡ Ok t → AllByRecursion IsNarrow t
channel_kept before d t p e =
    let (c, one, last) = found (at_byte (place_of d) (channel d)) (λ x. Ok (before ++ x ∷ [])) t e in
    subst (AllByRecursion IsNarrow) (ok_same (before ++ c ∷ []) t last) (all_push IsNarrow before c p (channel_found d c (at_byte_found (place_of d) (channel d) c one)))

channels_narrow : (ds : List Datum) (cs : List Chan) → channels ds ≡ Ok cs → AllByRecursion IsNarrow cs
channels_narrow ds cs e = by_turns (AllByRecursion IsNarrow) (beside (λ before d. at_byte (place_of d) (channel d))) channel_kept [] ds cs tt e

-- ---- a part

abbrev AreFit : Lists → Type 0
AreFit l = IfSome l.ports NamesDiffer × IfSome l.channels (AllByRecursion IsNarrow)

abbrev Fits : PartRecord → Type 0
Fits p = NamesDiffer p.ports × AllByRecursion IsNarrow p.channels

head_kept : (a b c : Bool) (s : Lists) (at : ℕ) (members : List Datum) (t : Lists) → AreFit s → cond a (ports_form s at members) (cond b (channels_form s at members) (cond c (components_form s at members) (Ok s))) ≡ Ok t → AreFit t
head_kept true b c s at members t p e =
    let (ps, here, last) = found (ports members) (λ ps. Ok (record s { ports = Some ps })) t (once_found s.ports at _ t e) in
    subst AreFit (ok_same (record s { ports = Some ps }) t last) (ports_differ members ps here, p.1)
head_kept false true c s at members t p e =
    let (cs, here, last) = found (channels members) (λ cs. Ok (record s { channels = Some cs })) t (once_found s.channels at _ t e) in
    subst AreFit (ok_same (record s { channels = Some cs }) t last) (p.0, channels_narrow members cs here)
head_kept false false true s at members t p e =
    let (cs, here, last) = found (components members) (λ cs. Ok (record s { components = Some cs })) t (once_found s.components at _ t e) in
    subst AreFit (ok_same (record s { components = Some cs }) t last) p
head_kept false false false s at members t p e = subst AreFit (ok_same s t e) p

headed_kept : (s : Lists) (at : ℕ) (ds : List Datum) (t : Lists) → AreFit s → headed_form s at ds ≡ Ok t → AreFit t
headed_kept s at (leaf (symbol head) span ∷ members) t p e = head_kept (bytes_eq head (codes "ports")) (bytes_eq head (codes "channels")) (bytes_eq head (codes "components")) s at members t p e
headed_kept s at ds t p e = subst AreFit (ok_same s t e) p

form_kept : (s : Lists) (d : Datum) (t : Lists) → AreFit s → form s d ≡ Ok t → AreFit t
form_kept s (items ds span) t p e = headed_kept s span.from (list_of ds) t p e
form_kept s (leaf l span) t p e = subst AreFit (ok_same s t e) p

ports_or : (o : Option (List External)) → IfSome o NamesDiffer → NamesDiffer (or_empty o)
unfolding IsDistinct
ports_or None p = tt
ports_or (Some ps) p = p

channels_or : (o : Option (List Chan)) → IfSome o (AllByRecursion IsNarrow) → AllByRecursion IsNarrow (or_empty o)
channels_or None p = tt
channels_or (Some cs) p = p

finished_by : (b : Bool) (fault : FaultAt) (made p : PartRecord) → Fits made → cond b (Err fault) (Ok made) ≡ Ok p → Fits p
finished_by true fault made p f e = absurd cc
finished_by false fault made p f e = subst Fits (ok_same made p e) f

part_of_found : (name : List ℕ) (end : ℕ) (forms : List Datum) (p : PartRecord) → part_of name end forms ≡ Ok p → Fits p
part_of_found name end forms p e =
    let (lists, turned, made) = found (in_turn form no_lists forms) (finished name end) p e in
    let fit = by_turns AreFit form form_kept no_lists forms lists (tt, tt) turned in
    finished_by (nat_lt (length (or_empty lists.channels)) (length (or_empty lists.ports))) (record { code = BadForm; at = end })
    (record { name = name; ports = or_empty lists.ports; channels = or_empty lists.channels; components = or_empty lists.components }) p
    (ports_or lists.ports fit.0, channels_or lists.channels fit.1) made

named_by : (b : Bool) (fault : Fault) (name : List ℕ) (end : ℕ) (forms : List Datum) (p : PartRecord) → cond b (Err fault) (in_part name (part_of name end forms)) ≡ Ok p → Fits p
named_by true fault name end forms p e = absurd cc
named_by false fault name end forms p e = part_of_found name end forms p (in_part_found name (part_of name end forms) p e)

named_found : (names : List (List ℕ)) (span : Span) (ds : List Datum) (p : PartRecord) → named_part names span ds ≡ Ok p → Fits p
named_found names span (leaf (text name) quote ∷ forms) p e = named_by (is_among names name) _ name _ forms p e
named_found names span ds p e = absurd cc

listed_kept : (before : List PartRecord) (d : Datum) (o : Option (List Datum)) (t : List PartRecord) → AllByRecursion Fits before → listed_part before d o ≡ Ok t → AllByRecursion Fits t
listed_kept before d None t p e = subst (AllByRecursion Fits) (ok_same before t e) p
listed_kept before d (Some ds) t p e =
    let (q, one, last) = found (named_part (part_names before) (span_of d) ds) (λ p. Ok (before ++ p ∷ [])) t e in
    subst (AllByRecursion Fits) (ok_same (before ++ q ∷ []) t last) (all_push Fits before q p (named_found (part_names before) (span_of d) ds q one))

parts_fit : (ds : List Datum) (ps : List PartRecord) → parts ds ≡ Ok ps → AllByRecursion Fits ps
parts_fit ds ps e = by_turns (AllByRecursion Fits) part (λ before d t p. listed_kept before d (part_items d) t p) [] ds ps tt e

fit_each : (ps : List Part) → AllByRecursion Fits (map part_record ps) → (k : ℕ) (d : Part) → k < length ps → IsFit (get_or ps k d)
fit_each [] f k d lt = absurd (omega arith)
fit_each (p ∷ ps) f zero d lt = record { names_differ = f.0.0; narrow = f.0.1 }
fit_each (p ∷ ps) f (suc k) d lt = fit_each ps f.1 k d (omega arith)

pub all_fit : (ds : List Datum) (ps : List Part) → parts ds ≡ Ok (map part_record ps) → All IsFit ps
all_fit ds ps e = fit_each ps (parts_fit ds (map part_record ps) e)

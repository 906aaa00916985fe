-- How much the net has grown, and when it has too much.
use Rattle.std.proofs.Common.{◌≡◌, ℕ, zero, suc, ◌+◌, ◌-◌, ◌<◌, None, Some, List, [], ◌∷◌, ◌++◌, length, drop, take, inl, inr, refl, sym, ◌∙◌, ap, subst, arith, get_or, map, append_assoc, length-append}
use Rattle.std.specs.List.{flat_map}
use Rattle.std.proofs.lemmas.Grind.{flat_map-append}
use Rattle.std.proofs.lemmas.List.{append-nil, length-map, length-take, take-append-drop}
use Rattle.bz_model.specs.declared.channel.Chan.{Chan}
use Rattle.bz_breeze_records.specs.declared.part.Part.{Part}
use Rattle.bz_breeze_records.specs.declared.part.Component.{Component}
use Rattle.bz_flat.specs.declared.error.ElabError.{ElabError}
use Rattle.bz_flat.specs.declared.error.ElabError.TheVariants.{TooBig, Memory}
use Rattle.bz_flat.specs.declared.flat.FlatComp.{FlatComp}
use Rattle.bz_elab.specs.declared.walk.Draft.{Draft}
use Rattle.bz_elab.specs.declared.walk.Level.{Level}
use Rattle.bz_elab.specs.Entries.{flattened}
use Rattle.bz_elab.specs.Paths.{Path, Stop, copy, leaf, named, each_from, visit, walk, own_chans, ports_at}
use Rattle.bz_elab.specs.Refusals.{own_comps, own_ends, IsTooMany}
use Rattle.bz_elab.specs.Growth.{IsBare, Counts, net_number, Entered, IsFlat, EndsWalk, Counted}
use Rattle.bz_elab.proofs.Slots.{length-arranged, take_item, drop_item}

pub each_from-push : {A B : Type 0} (i : ℕ) (f : ℕ → A → List B) (xs : List A) (x : A) → each_from i f (xs ++ x ∷ []) ≡ each_from i f xs ++ f (i + length xs) x
each_from-push i f [] x = let e : i + 0 ≡ i = omega arith in rw e (append-nil (f i x))
each_from-push i f (y ∷ ys) x = let e : suc i + length ys ≡ i + suc (length ys) = omega arith in
    ap (λ zs. f i y ++ zs) (each_from-push (suc i) f ys x) ∙ rw e (sym (append_assoc (f i y) (each_from (suc i) f ys) (f (i + suc (length ys)) x)))

pub length-more : {X : Type 0} (f : Stop → List X) (ss ts : List Stop) → length (flat_map f (ss ++ ts)) ≡ length (flat_map f ss) + length (flat_map f ts)
length-more f ss ts = ap length (flat_map-append f ss ts) ∙ length-append (flat_map f ss) (flat_map f ts)

pub counts_nothing : (d : Draft) → Counts d d []
counts_nothing d = record { comps_are = omega arith; chans_are = omega arith; ends_are = omega arith }

no_ends : (ss : List Stop) → flat_map own_comps ss ≡ [] → flat_map own_ends ss ≡ []
no_ends [] e = refl
no_ends (copy path part ∷ ss) e = no_ends ss e
no_ends (leaf path c ∷ ss) e = cc

-- stops without components and channels
pub counts_bare : (d : Draft) (ss : List Stop) → IsBare ss → Counts d d ss
counts_bare d ss b = record {
  comps_are = let e = ap length b.comps in omega (arith, e);
  chans_are = let e = ap length b.chans in omega (arith, e);
  ends_are = let e = ap length (no_ends ss b.comps) in omega (arith, e);
}

pub counts_then : (old mid new : Draft) (ss ts : List Stop) → Counts old mid ss → Counts mid new ts → Counts old new (ss ++ ts)
counts_then old mid new ss ts a b = record {
  comps_are = omega (arith, a.comps_are, b.comps_are, length-more own_comps ss ts);
  chans_are = omega (arith, a.chans_are, b.chans_are, length-more own_chans ss ts);
  ends_are = omega (arith, a.ends_are, b.ends_are, length-more own_ends ss ts);
}

-- the ends of a leaf are its entries
pub leaf_ends : (own : List Chan) (outer : List Level) (c : Component) (g f : FlatComp) → IsFlat own c g → f.chans.items ≡ map (net_number outer) g.chans.items → length f.chans.items ≡ length (flattened c.entries.items)
leaf_ends own outer c g f flat on =
    ap length on ∙ (length-map g.chans.items (net_number outer) ∙ (ap length flat.chans_are ∙ length-arranged g.kind own c.entries.items flat.sound.fits.singles_are flat.sound.fits.lists_are))

pub counts_leaf : (path : Path) (c : Component) (f : FlatComp) (old new : Draft) → length f.chans.items ≡ length (flattened c.entries.items)
    → new.chans ≡ old.chans → new.comps ≡ old.comps ++ f ∷ [] → new.ends ≡ old.ends + length f.chans.items → Counts old new (leaf path c ∷ [])
counts_leaf path c f old new count same push ends = record {
  comps_are = ap length push ∙ length-append old.comps (f ∷ []);
  chans_are = let e = ap length same in omega (arith, e);
  ends_are = let e = ap length (append-nil (flattened c.entries.items)) in omega (arith, ends, count, e);
}

pub counts_copy : (old new : Draft) (path : Path) (part : Part) → Entered old new part (ports_at path part) → Counts old new (copy path part ∷ [])
counts_copy old new path part e = record {
  comps_are = let k = ap length e.comps_are in omega (arith, k);
  chans_are = let own = drop (ports_at path part) part.channels.items in
      ap length e.chans_are ∙ (length-append old.chans own ∙ ap (λ xs. length old.chans + length xs) (sym (append-nil own)));
  ends_are = let k = e.ends_are in omega arith;
}

each_from-append : {B : Type 0} (V : ℕ → Component → List B) (i : ℕ) (xs ys : List Component) → each_from i V (xs ++ ys) ≡ each_from i V xs ++ each_from (i + length xs) V ys
each_from-append V i [] ys = let e : i + 0 ≡ i = omega arith in rw e refl
each_from-append V i (x ∷ xs) ys =
    let e : suc i + length xs ≡ i + suc (length xs) = omega arith in
    ap (λ zs. V i x ++ zs) (each_from-append V (suc i) xs ys) ∙ rw e (sym (append_assoc (V i x) (each_from (suc i) V xs) (each_from (i + suc (length xs)) V ys)))

-- the components up to one, that one, and those after it
pub each_from-split : {B : Type 0} (V : ℕ → Component → List B) (items : List Component) (i : ℕ) (x : Component) → i < length items → x ≡ get_or items i x
    → each_from 1 V items ≡ each_from 1 V (take i items) ++ (V (suc i) x ++ each_from (suc (suc i)) V (drop (i + 1) items))
each_from-split V items i x lt is =
    let whole : items ≡ take i items ++ x ∷ drop (i + 1) items = sym (take-append-drop i items) ∙ ap (λ ys. take i items ++ ys) (drop_item items i x lt is) in
    let n : 1 + length (take i items) ≡ suc i = omega (arith, length-take i items) in
    ap (each_from 1 V) whole ∙ (each_from-append V 1 (take i items) (x ∷ drop (i + 1) items) ∙ ap (λ j. each_from 1 V (take i items) ++ each_from j V (x ∷ drop (i + 1) items)) n)

pub counts_step : (parts : List Part) (path : Path) (depth i : ℕ) (items : List Component) (x : Component) (old mid new : Draft) → i < length items → x ≡ get_or items i x
    → Counts old mid (each_from 1 (visit parts path (walk parts depth)) (take i items)) → Counts mid new (visit parts path (walk parts depth) (suc i) x)
    → Counts old new (each_from 1 (visit parts path (walk parts depth)) (take (i + 1) items))
counts_step parts path depth i items x old mid new lt is a b =
    let V : ℕ → Component → List Stop = visit parts path (walk parts depth) in
    let n : 1 + length (take i items) ≡ suc i = omega (arith, length-take i items) in
    let f : each_from 1 V (take (i + 1) items) ≡ each_from 1 V (take i items) ++ V (suc i) x =
    ap (each_from 1 V) (take_item items i x lt is) ∙ (each_from-push 1 V (take i items) x ∙ ap (λ j. each_from 1 V (take i items) ++ V j x) n) in
    subst (λ (ss : List Stop). Counts old new ss) (sym f) (counts_then old mid new (each_from 1 V (take i items)) (V (suc i) x) a b)

pub counts_leaf_step : (parts : List Part) (path : Path) (depth i : ℕ) (x : Component) (f : FlatComp) (old new : Draft) → named parts x.name.items ≡ None
    → length f.chans.items ≡ length (flattened x.entries.items) → new.chans ≡ old.chans → new.comps ≡ old.comps ++ f ∷ [] → new.ends ≡ old.ends + length f.chans.items
    → Counts old new (visit parts path (walk parts depth) i x)
counts_leaf_step parts path depth i x f old new none count same push ends = rw (none, visit) (counts_leaf path x f old new count same push ends)

pub counts_copy_step : (parts : List Part) (path : Path) (depth i : ℕ) (x : Component) (in_part : Part) (old mid new : Draft) → named parts x.name.items ≡ Some in_part
    → 0 < depth → Entered old mid in_part (length in_part.ports.items) → Counted parts in_part (depth - 1) mid new
    → Counts old new (visit parts path (walk parts depth) i x)
counts_copy_step parts path zero i x in_part old mid new some pos entered deeper = absurd (omega arith)
counts_copy_step parts path (suc m) i x in_part old mid new some pos entered deeper =
    let e : suc m - 1 ≡ m = omega arith in
    let below = rw e at (deeper (i ∷ path)) in
    rw (some, visit) (counts_then old mid new (copy (i ∷ path) in_part ∷ []) _ (counts_copy old mid (i ∷ path) in_part entered) below)

-- Too many below a stop are too many in the whole.
pub too_many : (old mid : Draft) (ss ts us : List Stop) → Counts old mid ss → IsTooMany (length mid.comps) (length mid.chans) mid.ends ts
    → IsTooMany (length old.comps) (length old.chans) old.ends (ss ++ (ts ++ us))
too_many old mid ss ts us a (inl h) = inl (omega (arith, h, a.comps_are, length-more own_comps ss (ts ++ us), length-more own_comps ts us))
too_many old mid ss ts us a (inr (inl h)) = inr (inl (omega (arith, h, a.chans_are, length-more own_chans ss (ts ++ us), length-more own_chans ts us)))
too_many old mid ss ts us a (inr (inr h)) = inr (inr (omega (arith, h, a.ends_are, length-more own_ends ss (ts ++ us), length-more own_ends ts us)))

-- what ends the walk at some stops ends it at all
pub ends_up : (parts : List Part) (top : Part) (mid old : Draft) (ss ts : List Stop) (e : ElabError)
    → (IsTooMany (length mid.comps) (length mid.chans) mid.ends ss → IsTooMany (length old.comps) (length old.chans) old.ends ts)
    → EndsWalk parts top mid ss e → EndsWalk parts top old ts e
ends_up parts top mid old ss ts Memory up h = tt
ends_up parts top mid old ss ts TooBig up h = up h
ends_up parts top mid old ss ts e up h = h

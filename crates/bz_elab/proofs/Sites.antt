-- The components of a net, as sites.
use Rattle.std.proofs.Common.{◌≡◌, ℕ, zero, suc, ◌-◌, ◌<◌, ◌^◌, List, [], ◌∷◌, length, map, sym, ap, subst, arith, get_or}
use Rattle.std.proofs.lemmas.List.{length-map}
use Rattle.bz_flat.specs.declared.flat.FlatComp.{FlatComp}
use Rattle.bz_model.specs.Nets.{Site}
use Rattle.bz_flat.specs.Flats.{site_of, sites_of}
use Rattle.bz_elab.specs.Seats.{IsHere, ChansFit, CompsFit}

pub get_or-map : {X Y : Type 0} (f : X → Y) (xs : List X) (i : ℕ) (x : X) (d : Y) → i < length xs → x ≡ get_or xs i x → get_or (map f xs) i d ≡ f x
get_or-map f [] i x d lt e = absurd (omega arith)
get_or-map f (y ∷ ys) zero x d lt e = ap f (sym e)
get_or-map f (y ∷ ys) (suc i) x d lt e = get_or-map f ys i x d (omega arith) e

pub here_at : (comps : List FlatComp) (i : ℕ) (x : FlatComp) → i < length comps → x ≡ get_or comps i x → IsHere (sites_of comps) (suc i) (site_of x)
here_at comps i x lt e = record {
  is = let z : suc i - 1 ≡ i = omega arith in rw z (get_or-map site_of comps i x _ lt e);
  within = rw length-map (omega arith);
}

pub fits_at : (comps : List FlatComp) (n i : ℕ) (x : FlatComp) → CompsFit n (sites_of comps) → i < length comps → x ≡ get_or comps i x → (length x.chans.items < 2 ^ 32) × ChansFit n x.chans.items
fits_at comps n i x fit lt e =
    let here = here_at comps i x lt e in
    let all = fit.each (suc i) (omega arith) here.within in
    let P : Site → Type 0 = λ s. (length s.chans < 2 ^ 32) × ChansFit n s.chans in
    subst P here.is all

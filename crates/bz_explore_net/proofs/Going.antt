-- What a run goes on from, and the way back.
use Rattle.std.proofs.Common.{◌≡◌, ℕ, zero, suc, ◌+◌, ◌-◌, ◌<◌, min, Option, List, [], ◌∷◌, ◌++◌, length, take, get_or, refl, sym, ap, subst, ◌∙◌, arith}
use Rattle.std.specs.Prelude.{unwrap_or}
use Rattle.std.proofs.lemmas.List.{take_min}
use Rattle.std.proofs.lemmas.Option.{unwrap_or-slice_get}
use Rattle.bz_model.specs.declared.event.Entry.{Entry}
use Rattle.bz_model.specs.declared.event.Entry.TheVariants.{Fired, Host, Rested}
use Rattle.bz_model.specs.Names.{numbered}
use Rattle.bz_model.specs.Nets.{Site, Wiring, no_site, site_at}
use Rattle.bz_net.specs.Simulation.{Simulation}
use Rattle.bz_explore_net.specs.Stepping.{goes_on}
use Rattle.bz_explore_net.specs.Replaying.{IsReplayed}

pub goes_on_more : (from : ℕ) (xs : List Entry) (e : Entry) → goes_on from (xs ++ e ∷ []) ≡ goes_on (goes_on from xs) (e ∷ [])
goes_on_more from [] e = refl
goes_on_more from (Fired who c p k mv value ∷ xs) e = goes_on_more (min (c + 1) 4294967295) xs e
goes_on_more from (Host who verb port value reply ∷ xs) e = goes_on_more from xs e
goes_on_more from (Rested who ∷ xs) e = goes_on_more from xs e

-- what was read of a component
pub site_told : (sites : List Site) (c : ℕ) (o : Option Site) → 0 < c → o ≡ numbered sites c → unwrap_or o no_site ≡ site_at sites c
site_told sites zero o pos is = absurd (omega (arith, pos))
site_told sites (suc i) o pos is =
    let n : i ≡ suc i - 1 = omega arith in
    ap (λ (x : Option Site). unwrap_or x no_site) is ∙ unwrap_or-slice_get sites i no_site ∙ ap (λ k. get_or sites k no_site) n

pub back : (w : Wiring) (old new : Simulation) (limit entries m : ℕ) (js : List Entry) → old.wiring ≡ w → old.limit ≡ limit → js ≡ old.journal → m ≡ min entries (length js)
    → IsReplayed w (take m js) limit new → IsReplayed old.wiring (take entries old.journal) old.limit new
back w old new limit entries m js wiring most same least made =
    let front : take m js ≡ take entries old.journal = ap (λ k. take k js) least ∙ take_min entries js ∙ ap (take entries) same in
    subst (λ (v : Wiring). IsReplayed v (take entries old.journal) old.limit new) (sym wiring)
    (subst (λ k. IsReplayed w (take entries old.journal) k new) (sym most) (subst (λ (es : List Entry). IsReplayed w es limit new) front made))

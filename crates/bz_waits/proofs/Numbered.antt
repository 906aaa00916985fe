-- What was read of a component.
use Rattle.std.proofs.Common.{◌≡◌, ℕ, zero, suc, ◌-◌, ◌<◌, Option, Some, List, get_or, ap, ◌∙◌, arith}
use Rattle.std.specs.Prelude.{unwrap_or}
use Rattle.std.proofs.lemmas.Option.{unwrap_or-slice_get}
use Rattle.bz_model.specs.Names.{numbered}
use Rattle.bz_model.specs.Nets.{Site, no_site, site_at}

pub site_read : (sites : List Site) (c : ℕ) (site : Site) → 0 < c → Some site ≡ numbered sites c → site ≡ site_at sites c
site_read sites zero site pos is = absurd (omega (arith, pos))
site_read sites (suc i) site pos is =
    let n : i ≡ suc i - 1 = omega arith in
    ap (λ (x : Option Site). unwrap_or x no_site) is ∙ unwrap_or-slice_get sites i no_site ∙ ap (λ k. get_or sites k no_site) n

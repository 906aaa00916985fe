use Rattle.std.proofs.Common.{◌≡◌, ◌+◌, ◌-◌, ℕ, inl, inr, map, get_or, sym, ap, ◌∙◌, arith}
use Rattle.std.proofs.lemmas.Bool.{cases_eq}
use Rattle.bz_flat.specs.Flats.{site_of}
use Rattle.bz_model.specs.Clashes.{is_mixer}
use Rattle.bz_model.specs.Nets.{Site, site_at}
use Rattle.bz_net.proofs.Sites.{site_at_map}
use Rattle.bz_net.proofs.moves.mixes.Goals as goal

pub loop-place-preserved : goal.loop-place-preserved
loop-place-preserved c k from to =
    let sites = map site_of c.args.sites.now in let place = c.loop-place.place in let site = c.get.result.now in
    let back : place ≡ place + 1 - 1 = omega arith in
    let own : site_at sites (place + 1) ≡ site_of site =
    site_at_map c.args.sites.now (place + 1) site (omega arith) (omega (arith, c.loop-place-test.true, c.len-place-end.ensures))
    (c.get.ensures ∙ ap (λ (i : ℕ). get_or c.args.sites.now i site) (c.at.ensures ∙ back)) in
    elim (cases_eq k (place + 1)) [
      | inl last ↦ ap (λ (c : ℕ). is_mixer (site_at sites c).kind) last ∙ ap (λ (s : Site). is_mixer s.kind) own ∙ sym c.is_mixer.ensures ∙ c.if-is_mixer.false
      | inr before ↦ c.loop-place.invariant k from (omega (arith, to, before))
    ]

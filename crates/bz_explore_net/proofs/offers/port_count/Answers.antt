use Rattle.std.proofs.Common.{Some, None, length, ap, ◌∙◌, arith}
use Rattle.bz_model.specs.Nets.{Site}
use Rattle.bz_flat.specs.Flats.{site_of}
use Rattle.bz_explore_net.proofs.Going.{site_told}
use Rattle.bz_explore_net.proofs.offers.port_count.Goals as goal

pub overflow_cast-result : goal.overflow_cast-result
overflow_cast-result c =
    let is = site_told c.args.net.now.wiring.sites c.args.comp (Some (site_of c.in-Some.site.now)) c.requires c.in-Some.ensures in
    let few = c.names.ensures.wired.ports_few c.args.comp in
    let same = ap (λ (x : Site). length x.chans) is in
    let chans = ap length c.as_slice.ensures.value in
    omega (arith, few, same, chans)

pub returns-in-Some : goal.returns-in-Some
returns-in-Some c =
    ap length c.as_slice.ensures.value ∙ ap (λ (x : Site). length x.chans) (site_told c.args.net.now.wiring.sites c.args.comp (Some (site_of c.in-Some.site.now)) c.requires c.in-Some.ensures)

pub returns-in-None : goal.returns-in-None
returns-in-None c = ap (λ (x : Site). length x.chans) (site_told c.args.net.now.wiring.sites c.args.comp None c.requires c.in-None.ensures)

use Rattle.std.proofs.Common.{◌≡◌, ℕ, ◌+◌, ◌-◌, ◌++◌, List, [], ◌∷◌, map, length, get_or, sym, ap, ◌∙◌, arith}
use Rattle.std.proofs.lemmas.List.{length-append, length-map}
use Rattle.bz_flat.specs.Flats.{site_of, wiring_of}
use Rattle.bz_model.specs.Nets.{Site, site_at}
use Rattle.bz_net.specs.LinkRow.{links_of}
use Rattle.bz_net.proofs.LinkRows.{link_is, one_more}
use Rattle.bz_net.proofs.Opening.{chans_here, starts_well}
use Rattle.bz_net.proofs.Sites.{site_at_map}
use Rattle.bz_net.proofs.link_row.LinkRow.of.Goals as goal

pub loop-place-preserved : goal.loop-place-preserved
loop-place-preserved c =
    let l = c.loop-place in let flat = c.args.sites.now in let sites = map site_of flat in let ends = c.args.ends.now in let k = l.place in let site = c.get-site.result.now in
    let w = wiring_of c.requires.0 flat c.requires.1 in
    let back : k ≡ k + 1 - 1 = omega arith in
    let pushed : c.push.new.self.items ≡ l.starts.items ++ c.in-Ok.start ∷ [] = c.in_ok-push.ensures.items in
    let put : c.add_links.new.row.items ≡ l.row.items ++ links_of ends (k + 1) 1 site.chans.items = c.in_ok-add_links.ensures ∙ ap (λ (chans : List ℕ). l.row.items ++ links_of ends (k + 1) 1 chans) c.deref.ensures.value in
    let at : c.in-Ok.start + 1 ≡ length l.row.items = omega (arith, l.invariant.first, c.in-Ok.ensures, c.len-in-loop-place.ensures) in
    let own : site.chans.items ≡ (site_at sites (k + 1)).chans =
    ap (λ (s : Site). s.chans) (sym (site_at_map flat (k + 1) site (omega arith) (omega (arith, c.loop-place-test.true, c.len-place-end.ensures))
    (c.get-site.ensures ∙ ap (λ (i : ℕ). get_or flat i site) (c.at.ensures ∙ back)))) in record {
      count = ap length pushed ∙ length-append l.starts.items (c.in-Ok.start ∷ []) ∙ ap (λ (n : ℕ). n + 1) l.invariant.count;
      first = omega (arith, l.invariant.first, ap length put, length-append l.row.items (links_of ends (k + 1) 1 site.chans.items));
      stand = rw (pushed, put) (one_more sites ends l.starts.items l.row.items k c.in-Ok.start site.chans.items l.invariant.count own at (link_is w ends c.requires.2 c.requires.3) l.invariant.stand);
    }

pub add_links-requires-clause-chans : goal.add_links-requires-clause-chans
add_links-requires-clause-chans c i d to =
    let flat = c.args.sites.now in let w = wiring_of c.requires.0 flat c.requires.1 in
    rw (c.deref.ensures.value, c.requires.3.ends_len)
    (chans_here w.chans flat c.loop-place.place c.get-site.result.now (starts_well w c.requires.2) (omega (arith, c.loop-place-test.true, c.len-place-end.ensures)) (rw c.at.ensures at c.get-site.ensures) i d (rw c.deref.ensures.value at to))

pub add_links-requires-clause-few : goal.add_links-requires-clause-few
add_links-requires-clause-few c =
    let flat = c.args.sites.now in let k = c.loop-place.place in let site = c.get-site.result.now in
    let back : k ≡ k + 1 - 1 = omega arith in
    let own : length site.chans.items ≡ length (site_at (map site_of flat) (k + 1)).chans =
    ap (λ (s : Site). length s.chans) (sym (site_at_map flat (k + 1) site (omega arith) (omega (arith, c.loop-place-test.true, c.len-place-end.ensures))
    (c.get-site.ensures ∙ ap (λ (i : ℕ). get_or flat i site) (c.at.ensures ∙ back)))) in
    omega (arith, c.deref.ensures.len, own, c.requires.2.ports_few (k + 1))

pub returns : goal.returns
returns c c' p port =
    let l = c.loop-place in
    l.invariant.stand c' p port (omega (arith, port.comp_to, length-map c.args.sites.now site_of, c.loop-place-test.false, c.len-place-end.ensures))

-- What the ports of one more component lead to, in the row.
use Rattle.std.proofs.Common.{◌≡◌, ◌==◌, ◌&&◌, ℕ, zero, suc, ◌+◌, ◌-◌, ◌<◌, ◌≤◌, ◌++◌, List, [], ◌∷◌, Bool, true, false, Option, None, Some, length, get_or, refl, sym, ap, subst, ◌∙◌, arith, inl, inr}
use Rattle.std.specs.Prelude.{not, if◌then◌else◌}
use Rattle.std.proofs.lemmas.Bool.{and_parts, cases_lt, eqb-true, false≢true}
use Rattle.std.proofs.lemmas.Bool.Decides.{Decides-eqb}
use Rattle.std.proofs.lemmas.List.{get_or_append_left, get_or-append-add, get_or_push, length-append}
use Rattle.bz_flat.specs.declared.flat.Ends.{Ends}
use Rattle.bz_flat.specs.Wires.{EndsOf, WellWired, at_side, ends_in, port_of_side}
use Rattle.bz_model.specs.declared.channel.Move.{Move}
use Rattle.bz_model.specs.Heads.{Component}
use Rattle.bz_model.specs.Nets.{Site, Wiring, IsPort, chan_at, passive_at, site_at}
use Rattle.bz_net.specs.declared.link_row.Link.{Link}
use Rattle.bz_net.specs.Sides.{answers}
use Rattle.bz_net.specs.Told.{ToldFar, ToldOther}
use Rattle.bz_net.specs.LinkRow.{IsLink, StandsInRow, link_of, link_to, links_of, no_link, stands_at}

-- the same port of the same component stands at an end
is_end : (o : Option ℕ) (q c p : ℕ) → o ≡ Some c → q ≡ p → (stands_at o c && q == p) ≡ true
is_end o q c p at on = rw (at, on, (Decides-eqb c c).1 refl, (Decides-eqb p p).1 refl) refl

stands : (o : Option ℕ) (c : ℕ) → stands_at o c ≡ true → o ≡ Some c
stands None c e = absurd (false≢true e)
stands (Some d) c e = ap Some (eqb-true d c e)

never : (b : Bool) → (b ≡ true → ⊥) → b ≡ false
never true not_so = absurd (not_so refl)
never false _ = refl

-- what a port leads to is at the end that is not its own
module _ (w : Wiring) (ends : List Ends) (wired : WellWired w) (of : EndsOf w ends) (c p : ℕ) (port : IsPort w.sites c p) where
  abbrev k : ℕ
  k = chan_at w.sites c p

  abbrev pair : Ends
  pair = ends_in ends k

  not_passive : passive_at w.sites c p ≡ false → (stands_at pair.passive c && pair.passive_port == p) ≡ false
  not_passive active = never _ (λ both.
      let (at, on) = and_parts (stands_at pair.passive c) (pair.passive_port == p) both in
      let end = of.holds k c true (wired.chan_from c p port) (stands pair.passive c at) in
      false≢true (sym active ∙ ap (passive_at w.sites c) (sym (eqb-true pair.passive_port p on)) ∙ end.sense))

  by_side : (side : Bool) → passive_at w.sites c p ≡ side → at_side pair side ≡ Some c → port_of_side pair side ≡ p → link_of pair c p k ≡ link_to k pair (not side)
  by_side true is at on = ap (λ (b : Bool). if b then link_to k pair false else link_to k pair true) (is_end pair.passive pair.passive_port c p at on)
  by_side false is at on = ap (λ (b : Bool). if b then link_to k pair false else link_to k pair true) (not_passive is)

  pub link_is : IsLink w.sites ends c p (link_of pair c p k)
  link_is =
      let found = of.finds c p port in
      let same = by_side (passive_at w.sites c p) refl found.0 found.1 in
      record {
        on = ap (λ (l : Link). l.chan) same;
        far = ap (λ (l : Link). l.far) same;
        far_port = ap (λ (l : Link). l.far_port) same;
      }

pub length-links : (ends : List Ends) (c q : ℕ) (ks : List ℕ) → length (links_of ends c q ks) ≡ length ks
length-links ends c q [] = refl
length-links ends c q (k ∷ ks) = ap suc (length-links ends c (suc q) ks)

-- one more channel
pub links_push : (ends : List Ends) (c q : ℕ) (ks : List ℕ) (k : ℕ) → links_of ends c q (ks ++ k ∷ []) ≡ links_of ends c q ks ++ link_of (ends_in ends k) c (q + length ks) k ∷ []
links_push ends c q [] k = let at : q ≡ q + 0 = omega arith in ap (λ (p : ℕ). link_of (ends_in ends k) c p k ∷ []) at
links_push ends c q (j ∷ ks) k =
    let at : suc q + length ks ≡ q + suc (length ks) = omega arith in
    ap (λ (l : List Link). link_of (ends_in ends j) c q j ∷ l) (links_push ends c (suc q) ks k ∙ ap (λ (p : ℕ). links_of ends c (suc q) ks ++ link_of (ends_in ends k) c p k ∷ []) at)

get_links : (ends : List Ends) (c q : ℕ) (ks : List ℕ) (i : ℕ) → i < length ks → get_or (links_of ends c q ks) i no_link ≡ link_of (ends_in ends (get_or ks i 0)) c (q + i) (get_or ks i 0)
get_links ends c q [] i lt = absurd (omega (arith, lt))
get_links ends c q (k ∷ ks) zero lt = let at : q ≡ q + 0 = omega arith in ap (λ (p : ℕ). link_of (ends_in ends k) c p k) at
get_links ends c q (k ∷ ks) (suc i) lt =
    let at : suc q + i ≡ q + suc i = omega arith in
    get_links ends c (suc q) ks i (omega (arith, lt)) ∙ ap (λ (p : ℕ). link_of (ends_in ends (get_or ks i 0)) c p (get_or ks i 0)) at

pub one_more : (sites : List Site) (ends : List Ends) (starts : List ℕ) (row : List Link) (k start : ℕ) (chans : List ℕ) → length starts ≡ k → chans ≡ (site_at sites (k + 1)).chans → start + 1 ≡ length row
    → ((c p : ℕ) → IsPort sites c p → IsLink sites ends c p (link_of (ends_in ends (chan_at sites c p)) c p (chan_at sites c p)))
    → ((c p : ℕ) → IsPort sites c p → c ≤ k → StandsInRow sites ends starts row c p)
    → (c p : ℕ) → IsPort sites c p → c ≤ k + 1 → StandsInRow sites ends (starts ++ start ∷ []) (row ++ links_of ends (k + 1) 1 chans) c p
one_more sites ends starts row k start chans len own at each before c p port le =
    let links = links_of ends (k + 1) 1 chans in
    elim (cases_lt c (k + 1)) [
      | inl below ↦ let old = before c p port (omega (arith, below)) in
          let same : get_or (starts ++ start ∷ []) (c - 1) 0 ≡ get_or starts (c - 1) 0 = get_or_append_left starts (start ∷ []) 0 (c - 1) old.begins in
          record {
            begins = omega (arith, old.begins, length-append starts (start ∷ []));
            within = omega (arith, old.within, same, length-append row links);
            is_link = subst (IsLink sites ends c p) (sym (ap (λ (s : ℕ). get_or (row ++ links) (s + p) no_link) same ∙ get_or_append_left row links no_link (get_or starts (c - 1) 0 + p) old.within)) old.is_link;
          }
      | inr ge ↦ let e : c ≡ k + 1 = omega (arith, le, ge) in
          let here : get_or (starts ++ start ∷ []) (c - 1) 0 ≡ start = get_or_push starts start 0 (c - 1) (omega (arith, len, e)) in
          let count : length chans ≡ length (site_at sites c).chans = ap length own ∙ ap (λ (j : ℕ). length (site_at sites j).chans) (sym e) in
          let most : p - 1 < length chans = omega (arith, count, port.port_from, port.port_to) in
          let past : get_or (starts ++ start ∷ []) (c - 1) 0 + p ≡ length row + (p - 1) = omega (arith, here, at, port.port_from) in
          let nth : 1 + (p - 1) ≡ p = omega (arith, port.port_from) in
          let on : get_or chans (p - 1) 0 ≡ chan_at sites c p = ap (λ (l : List ℕ). get_or l (p - 1) 0) own ∙ ap (λ (j : ℕ). chan_at sites j p) (sym e) in
          let found : get_or (row ++ links) (get_or (starts ++ start ∷ []) (c - 1) 0 + p) no_link ≡ link_of (ends_in ends (chan_at sites c p)) c p (chan_at sites c p) =
          ap (λ (i : ℕ). get_or (row ++ links) i no_link) past ∙ get_or-append-add row links (p - 1) no_link ∙ get_links ends (k + 1) 1 chans (p - 1) most
          ∙ ap (λ (q : ℕ). link_of (ends_in ends (get_or chans (p - 1) 0)) (k + 1) q (get_or chans (p - 1) 0)) nth
          ∙ ap (λ (j : ℕ). link_of (ends_in ends j) (k + 1) p j) on ∙ ap (λ (d : ℕ). link_of (ends_in ends (chan_at sites c p)) d p (chan_at sites c p)) (sym e) in
          record {
            begins = omega (arith, e, len, length-append starts (start ∷ []));
            within = omega (arith, past, most, length-append row links, length-links ends (k + 1) 1 chans);
            is_link = subst (IsLink sites ends c p) (sym found) (each c p port);
          }
    ]

-- what a port leads to is the end that doesn't make this move, where the move is of the port's side
module _ (sites : List Site) (ends : List Ends) (c p : ℕ) (link : Link) (is : IsLink sites ends c p link) (mv : Move) (side : answers mv ≡ passive_at sites c p) where
  pub far_end : (link.far ≡ at_side (ends_in ends link.chan) (not (answers mv))) × (link.far_port ≡ port_of_side (ends_in ends link.chan) (not (answers mv)))
  far_end = rw (side, is.on) (is.far, is.far_port)

  pub told_by_link : (comps : List Component) (heres heres' : List (List ℕ)) (old new : List Bool) → ToldFar comps heres heres' old new link.far link.far_port mv → ToldOther comps heres heres' old new (ends_in ends link.chan) mv
  told_by_link comps heres heres' old new told =
      subst (λ (q : ℕ). ToldFar comps heres heres' old new (at_side (ends_in ends link.chan) (not (answers mv))) q mv) far_end.1
      (subst (λ (o : Option ℕ). ToldFar comps heres heres' old new o link.far_port mv) far_end.0 told)

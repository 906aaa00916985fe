use Rattle.std.proofs.Common.{List, subst}
use Rattle.bz_text.specs.Growing.{Grows}
use Rattle.bz_explore_net.specs.declared.host_offers.HostOffer.{HostOffer}
use Rattle.bz_explore_net.specs.declared.offers.Offer.{Offer}
use Rattle.bz_explore_net.specs.HostOffers.{HostOffers}
use Rattle.bz_explore_net.specs.Offers.{Offers}
use Rattle.bz_explore_moves.specs.Objects.{next_members}
use Rattle.bz_explore_moves.proofs.Offered.{gathered_is, next_grows}
use Rattle.bz_explore_moves.proofs.objects.put_next.Goals as goal

pub returns : goal.returns
returns c =
    let w = c.args.net.now.wiring in
    let s = c.args.net.now.state in
    let offers = gathered_is c.offers_of.result c.gathered-moves.result (λ v. Offers w.sites s v.items) _ _ c.offers_of.ensures c.gathered-moves.ensures.ok c.gathered-moves.ensures.err in
    let words = gathered_is c.answered_words.result c.gathered-words.result (λ v. HostOffers w s v.items) _ _ c.answered_words.ensures c.gathered-words.ensures.ok c.gathered-words.ensures.err in
    let first = subst (λ (xs : List Offer). Grows c.gathered-words.new.text c.put_members.new.text (next_members w xs c.as_slice.result.now)) c.as_slice-offers.ensures.value c.put_members.ensures in
    let members = subst (λ (xs : List HostOffer). Grows c.gathered-words.new.text c.put_members.new.text (next_members w c.gathered-moves.result.items xs)) c.as_slice.ensures.value first in
    next_grows w s c.gathered-moves.result.items c.gathered-words.result.items _ _ _ _ offers words members

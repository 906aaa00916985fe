use Rattle.std.proofs.Common.{List, length, subst}
use Rattle.bz_text.specs.Growing.{Grows, GrowsBy}
use Rattle.bz_explore_net.specs.declared.host_offers.HostOffer.{HostOffer}
use Rattle.bz_explore_net.specs.declared.offers.Offer.{Offer}
use Rattle.bz_explore_net.specs.HostOffers.{HostOffers}
use Rattle.bz_explore_net.specs.Offers.{Offers}
use Rattle.bz_view.specs.Lines.{InTurn}
use Rattle.bz_explore_moves.specs.Moves.{IsMoveLine, IsWordLine, end_line}
use Rattle.bz_explore_moves.proofs.Offered.{gathered_is, moves_grow}
use Rattle.bz_explore_moves.proofs.moves.put_moves.Goals as goal

pub returns : goal.returns
returns c =
    let w = c.args.net.now.wiring in
    let s = c.args.net.now.state in
    let offers = gathered_is c.offers_of.result c.gathered-moves.result (λ v. Offers w.sites s v.items) _ _ c.offers_of.ensures c.gathered-moves.ensures.ok c.gathered-moves.ensures.err in
    let words = gathered_is c.answered_words.result c.gathered-words.result (λ v. HostOffers w s v.items) _ _ c.answered_words.ensures c.gathered-words.ensures.ok c.gathered-words.ensures.err in
    let moves = subst (λ (xs : List Offer). GrowsBy (InTurn IsMoveLine xs) c.gathered-words.new.text c.put_offers.new.text) c.as_slice-offers.ensures.value c.put_offers.ensures in
    let answers = subst (λ (xs : List HostOffer). GrowsBy (InTurn (IsWordLine w) xs) c.put_offers.new.text c.put_words.new.text) c.as_slice.ensures.value c.put_words.ensures in
    let last = subst (λ (xs : List Offer). Grows c.put_words.new.text c.put_end.new.text (end_line (length xs))) c.as_slice-offers.ensures.value c.put_end.ensures in
    moves_grow w s c.gathered-moves.result.items c.gathered-words.result.items _ _ _ _ _ _ offers words moves answers last

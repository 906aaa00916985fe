-- Which words of the host would be answered.
use Rattle.std.proofs.Common.{◌≡◌, ◌≢◌, ◌⊎◌, ℕ, ◌+◌, ◌-◌, ◌<◌, Bool, true, false, Some, None, List, [], ◌∷◌, ◌++◌, inl, inr, refl, sym, subst, ◌∙◌, arith}
use Rattle.std.specs.List.{Contains}
use Rattle.std.proofs.lemmas.Bool.{cases_lt, false≢true}
use Rattle.std.proofs.lemmas.List.Elements.{All-nil, All-push, All-get_or, Contains-append_left, Contains-push, All-weaker}
use Rattle.std.proofs.lemmas.List.Quantifiers.{all_pairs_push}
use Rattle.bz_model.specs.declared.channel.Phase.{Phase}
use Rattle.bz_model.specs.declared.channel.Phase.TheVariants.{Idle, Asked, Taken, Replied, Broken}
use Rattle.bz_model.specs.declared.event.Verb.{Verb}
use Rattle.bz_model.specs.declared.event.Verb.TheVariants.{Offer, Collect, Accept, Answer, Watch}
use Rattle.bz_model.specs.Hosts.{fits_side, port_is_passive, reply_to}
use Rattle.bz_model.specs.Nets.{Wiring, State, phase_at}
use Rattle.bz_net.specs.Answering.{is_answer, would_answer}
use Rattle.bz_explore_net.specs.declared.host_offers.HostOffer.{HostOffer}
use Rattle.bz_explore_net.specs.HostOffers.{HostOffersUpTo, IsAnswer, IsHostOffer, IsSoleAnswer, Precedes, begins, ends}

no : {A : Type 0} → false ≡ true → A
no e = absurd (false≢true e)

side_word : (passive : Bool) (u : Verb) → u ≢ Watch → fits_side u passive ≡ true → (u ≡ begins passive) ⊎ (u ≡ ends passive)
side_word true Offer moves side = inl refl
side_word true Collect moves side = inr refl
side_word true Accept moves side = no side
side_word true Answer moves side = no side
side_word true Watch moves side = absurd (moves refl)
side_word false Offer moves side = no side
side_word false Collect moves side = no side
side_word false Accept moves side = inl refl
side_word false Answer moves side = inr refl
side_word false Watch moves side = absurd (moves refl)

not_both : (passive : Bool) (phase : Phase) → is_answer (reply_to (begins passive) phase) ≡ true → is_answer (reply_to (ends passive) phase) ≡ true → ⊥
not_both true Idle a b = false≢true b
not_both true (Asked v) a b = false≢true a
not_both true Taken a b = false≢true a
not_both true (Replied v) a b = false≢true a
not_both true Broken a b = false≢true a
not_both false Idle a b = false≢true a
not_both false (Asked v) a b = false≢true b
not_both false Taken a b = false≢true a
not_both false (Replied v) a b = false≢true a
not_both false Broken a b = false≢true a

begins_moves : (passive : Bool) → begins passive ≢ Watch
begins_moves true e = cc
begins_moves false e = cc

ends_moves : (passive : Bool) → ends passive ≢ Watch
ends_moves true e = cc
ends_moves false e = cc

begins_fits : (passive : Bool) → fits_side (begins passive) passive ≡ true
begins_fits true = refl
begins_fits false = refl

ends_fits : (passive : Bool) → fits_side (ends passive) passive ≡ true
ends_fits true = refl
ends_fits false = refl

module _ (s : State) (port : ℕ) (passive : Bool) where
  pub begun : would_answer s (begins passive) port ≡ true → IsSoleAnswer s port passive (Some (begins passive))
  begun told = (record { moves = begins_moves passive; side = begins_fits passive; answer = told }, sole)
    where
      sole : (u : Verb) → IsAnswer s port passive u → u ≡ begins passive
      sole u is = elim (side_word passive u is.moves is.side) [
        | inl same ↦ same
        | inr other ↦ absurd (not_both passive (phase_at s port) told (subst (λ (v : Verb). would_answer s v port ≡ true) other is.answer))
      ]

  pub ended : would_answer s (ends passive) port ≡ true → IsSoleAnswer s port passive (Some (ends passive))
  ended told = (record { moves = ends_moves passive; side = ends_fits passive; answer = told }, sole)
    where
      sole : (u : Verb) → IsAnswer s port passive u → u ≡ ends passive
      sole u is = elim (side_word passive u is.moves is.side) [
        | inl other ↦ absurd (not_both passive (phase_at s port) (subst (λ (v : Verb). would_answer s v port ≡ true) other is.answer) told)
        | inr same ↦ same
      ]

  pub neither : would_answer s (begins passive) port ≡ false → would_answer s (ends passive) port ≡ false → IsSoleAnswer s port passive None
  neither first second = λ u is. elim (side_word passive u is.moves is.side) [
    | inl same ↦ false≢true (sym first ∙ subst (λ (v : Verb). would_answer s v port ≡ true) same is.answer)
    | inr same ↦ false≢true (sym second ∙ subst (λ (v : Verb). would_answer s v port ≡ true) same is.answer)
  ]

pub answered_start : (w : Wiring) (s : State) → HostOffersUpTo w s 0 []
answered_start w s = record {
  each = All-nil (IsHostOffer w s 0);
  all = λ o is. absurd (let from = is.from in let to = is.to in omega (arith, from, to));
  once = λ i j d lt to. absurd (omega (arith, to));
}

module _ (w : Wiring) (s : State) (n : ℕ) (offers : List HostOffer) (so : HostOffersUpTo w s n offers) where
  offer_more : (o : HostOffer) → IsHostOffer w s n o → IsHostOffer w s (n + 1) o
  offer_more o is = record { from = is.from; to = (let to = is.to in omega (arith, to)); answered = is.answered }

  within : (o : HostOffer) → IsHostOffer w s (n + 1) o → IsHostOffer w s n o ⊎ (o.port ≡ n + 1)
  within o is = elim (cases_lt n o.port) [
    | inl above ↦ inr (let to = is.to in omega (arith, above, to))
    | inr least ↦ inl (record { from = is.from; to = least; answered = is.answered })
  ]

  at_last : (o : HostOffer) → IsHostOffer w s (n + 1) o → o.port ≡ n + 1 → IsAnswer s (n + 1) (port_is_passive w.ports (n + 1)) o.verb
  at_last o is last = subst (λ k. IsAnswer s k (port_is_passive w.ports k) o.verb) last is.answered

  pub answered_none : IsSoleAnswer s (n + 1) (port_is_passive w.ports (n + 1)) None → HostOffersUpTo w s (n + 1) offers
  answered_none none = record {
    each = All-weaker (IsHostOffer w s n) (IsHostOffer w s (n + 1)) offer_more offers so.each;
    all = λ o is. elim (within o is) [
      | inl less ↦ so.all o less
      | inr last ↦ absurd (none o.verb (at_last o is last))
    ];
    once = so.once;
  }

  pub answered_one : (o : HostOffer) → o.port ≡ n + 1 → IsSoleAnswer s (n + 1) (port_is_passive w.ports (n + 1)) (Some o.verb) → HostOffersUpTo w s (n + 1) (offers ++ o ∷ [])
  answered_one o port sole = record {
    each = All-push (IsHostOffer w s (n + 1)) offers o (All-weaker (IsHostOffer w s n) (IsHostOffer w s (n + 1)) offer_more offers so.each)
        (record { from = omega (arith, port); to = omega (arith, port); answered = subst (λ k. IsAnswer s k (port_is_passive w.ports k) o.verb) (sym port) sole.0 });
    all = λ x is. elim (within x is) [
      | inl less ↦ Contains-append_left offers (o ∷ []) x (so.all x less)
      | inr last ↦ subst (Contains (offers ++ o ∷ [])) (same x (sole.1 x.verb (at_last x is last)) last) (Contains-push offers o)
    ];
    once = all_pairs_push Precedes offers o so.once (λ k d lt. let to = (All-get_or (IsHostOffer w s n) offers k d lt so.each).to in omega (arith, to, port));
  }
    where
      same : (x : HostOffer) → x.verb ≡ o.verb → x.port ≡ n + 1 → o ≡ x
      same x verb at = λ i. record { verb = sym verb i; port = (port ∙ sym at) i }

-- the word of a port, behind those of the ports before it
pub word_one : (w : Wiring) (s : State) (port : ℕ) (passive : Bool) (offers : List HostOffer) (verb : Verb) → 0 < port → passive ≡ port_is_passive w.ports port → HostOffersUpTo w s (port - 1) offers
    → IsSoleAnswer s port passive (Some verb) → HostOffersUpTo w s port (offers ++ (record { verb = verb; port = port }) ∷ [])
word_one w s port passive offers verb from sense so sole =
    let last : port ≡ port - 1 + 1 = omega (arith, from) in
    let own : IsSoleAnswer s port (port_is_passive w.ports port) (Some verb) = subst (λ b. IsSoleAnswer s port b (Some verb)) sense sole in
    let there : IsSoleAnswer s (port - 1 + 1) (port_is_passive w.ports (port - 1 + 1)) (Some verb) = subst (λ k. IsSoleAnswer s k (port_is_passive w.ports k) (Some verb)) last own in
    subst (λ k. HostOffersUpTo w s k (offers ++ (record { verb = verb; port = port }) ∷ [])) (sym last) (answered_one w s (port - 1) offers so (record { verb = verb; port = port }) last there)

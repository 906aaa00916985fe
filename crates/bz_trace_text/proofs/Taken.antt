-- What is read of a line is what stands there.
use Rattle.std.proofs.Common.{◌≡◌, ℕ, zero, suc, ◌<◌, ◌≤◌, ◌^◌, Bool, true, false, ◌&&◌, List, [], ◌∷◌, ◌++◌, Option, Some, None, refl, sym, ap, subst, ◌∙◌, arith, ◌==◌, append_assoc, ◌⊎◌, inl, inr, codes}
use Rattle.std.specs.Prelude.{IfSome}
use Rattle.std.specs.Fmt.{decimal}
use Rattle.std.proofs.lemmas.Bool.{eqb-true}
use Rattle.std.proofs.lemmas.Option.{some_pair_parts}
use Rattle.bz_model.specs.declared.channel.Move.{Move}
use Rattle.bz_model.specs.declared.channel.Move.TheVariants as move
use Rattle.bz_model.specs.declared.channel.Phase.{Phase}
use Rattle.bz_model.specs.declared.channel.Phase.TheVariants as phase
use Rattle.bz_model.specs.declared.event.Who.{Who}
use Rattle.bz_model.specs.declared.event.Who.TheVariants as who
use Rattle.bz_model.specs.declared.event.Verb.{Verb}
use Rattle.bz_model.specs.declared.event.Verb.TheVariants as verb
use Rattle.bz_model.specs.declared.event.Reply.{Reply}
use Rattle.bz_model.specs.declared.event.Reply.TheVariants as reply
use Rattle.bz_model.specs.Traces.{who_text, move_text, verb_text, value_text, phase_text, reply_text}
use Rattle.bz_model.specs.Entries.{IsWho, IsNumber32, IsValue, IsPhase, IsReply, IsCarried, IsGiven}
use Rattle.bz_trace_text.specs.Reading.{◌>>=◌, strip, number_at, who_number, who_at, move_at, verb_at, carried_at, value_end, value_end_or, phase_end, reply_end, given_at, given_if, begins_digit, may_bring, most_value, most_number, valued_else, phased_else, value_else, asked, replied}
use Rattle.bz_trace_text.proofs.Strips.{none-some, strip_takes}
use Rattle.bz_trace_text.proofs.Numbers.{number_takes, chosen, and_both}
use Rattle.bz_trace_text.proofs.PortLaws.{else_takes}

pub bind_some : {A B : Type 0} (o : Option A) (f : A → Option B) (y : B) → (o >>= f) ≡ Some y → (x : A) × (o ≡ Some x) × (f x ≡ Some y)
bind_some None f y e = absurd (none-some y e)
bind_some (Some x) f y e = (x, refl, e)

-- what holds of what was found holds of what was answered
pub answered : {A : Type 0} (P : A → List ℕ → Type 0) (a x : A) (s r : List ℕ) → ◌≡◌ {A = Option (A × List ℕ)} (Some (a, s)) (Some (x, r)) → P a s → P x r
answered P a x s r e h = let q = some_pair_parts a x s r e in subst (λ y. P y r) q.0 (subst (P a) q.1 h)

value_takes : (v : ℕ) (t r : List ℕ) → number_at most_value t ≡ Some (v, r) → (t ≡ decimal v ++ r) × IsValue v
value_takes v t r e = let n = number_takes most_value v t r (omega arith) e in (n.0, omega (arith, n.1))

pub number32_takes : (v : ℕ) (t r : List ℕ) → number_at most_number t ≡ Some (v, r) → (t ≡ decimal v ++ r) × IsNumber32 v
number32_takes v t r e = let n = number_takes most_number v t r (omega arith) e in (n.0, omega (arith, n.1))

positive : (m : ℕ) → (m == 0) ≡ false → 0 < m
positive zero e = cc
positive (suc m) e = omega arith

who_number_takes : (most n : ℕ) (t r : List ℕ) → most < 10 ^ 64 → who_number most t ≡ Some (n, r) → (t ≡ decimal n ++ r) × (0 < n) × (n ≤ most)
unfolding who_number
who_number_takes most n t r big e =
    let (x, at, h) = bind_some (number_at most t) _ _ e in
    elim (chosen (x.0 == 0) _ _ _ h) [
      | inl k ↦ absurd (none-some _ k.1)
      | inr k ↦
          let m = number_takes most x.0 t x.1 big at in
          answered (λ n r. (t ≡ decimal n ++ r) × (0 < n) × (n ≤ most)) x.0 n x.1 r k.1 (m.0, positive x.0 k.0, m.1)
    ]

pub who_takes : (w : Who) (t r : List ℕ) → who_at t ≡ Some (w, r) → (t ≡ who_text w ++ r) × IsWho w
unfolding who_at
who_takes w [] r e = absurd (none-some _ e)
who_takes w (b ∷ t) r e =
    elim (chosen (b == 104) _ _ _ e) [
      | inl h ↦
          let (x, at, k) = bind_some (who_number 16 t) _ _ h.1 in
          let n = who_number_takes 16 x.0 t x.1 (omega arith) at in
          let is = eqb-true b 104 h.0 in
          answered (λ w r. ((b ∷ t) ≡ who_text w ++ r) × IsWho w) (who.Host x.0) w x.1 r k (ap (λ a. a ∷ t) is ∙ ap (λ s. 104 ∷ s) n.0, (n.1, n.2))
      | inr h ↦
          elim (chosen (b == 119) _ _ _ h.1) [
            | inl k ↦
                let (x, at, l) = bind_some (who_number 8 t) _ _ k.1 in
                let n = who_number_takes 8 x.0 t x.1 (omega arith) at in
                let is = eqb-true b 119 k.0 in
                answered (λ w r. ((b ∷ t) ≡ who_text w ++ r) × IsWho w) (who.Worker x.0) w x.1 r l (ap (λ a. a ∷ t) is ∙ ap (λ s. 119 ∷ s) n.0, (n.1, n.2))
            | inr k ↦ absurd (none-some _ k.1)
          ]
    ]

-- a word and a space
word_takes : (word : List ℕ) (t r : List ℕ) → strip (word ++ codes " ") t ≡ Some r → t ≡ word ++ 32 ∷ r
word_takes word t r e = strip_takes (word ++ codes " ") t r e ∙ append_assoc word (codes " ") r

pub move_takes : (mv : Move) (t r : List ℕ) → move_at t ≡ Some (mv, r) → t ≡ move_text mv ++ 32 ∷ r
unfolding move_at
move_takes mv t r e =
    elim (else_takes (strip (codes "ask ") t) move.Ask mv _ r e) [
      | inl h ↦ rw (← h.1) (strip_takes (codes "ask ") t r h.0)
      | inr h ↦ elim (else_takes (strip (codes "take ") t) move.Take mv _ r h.1) [
        | inl h ↦ rw (← h.1) (strip_takes (codes "take ") t r h.0)
        | inr h ↦ elim (else_takes (strip (codes "reply ") t) move.Reply mv _ r h.1) [
          | inl h ↦ rw (← h.1) (strip_takes (codes "reply ") t r h.0)
          | inr h ↦ elim (else_takes (strip (codes "got ") t) move.Got mv _ r h.1) [
            | inl h ↦ rw (← h.1) (strip_takes (codes "got ") t r h.0)
            | inr h ↦ absurd (none-some _ h.1)
          ]
        ]
      ]
    ]

pub verb_takes : (v : Verb) (t r : List ℕ) → verb_at t ≡ Some (v, r) → t ≡ verb_text v ++ 32 ∷ r
unfolding verb_at
verb_takes v t r e =
    elim (else_takes (strip (codes "offer ") t) verb.Offer v _ r e) [
      | inl h ↦ rw (← h.1) (strip_takes (codes "offer ") t r h.0)
      | inr h ↦ elim (else_takes (strip (codes "collect ") t) verb.Collect v _ r h.1) [
        | inl h ↦ rw (← h.1) (strip_takes (codes "collect ") t r h.0)
        | inr h ↦ elim (else_takes (strip (codes "accept ") t) verb.Accept v _ r h.1) [
          | inl h ↦ rw (← h.1) (strip_takes (codes "accept ") t r h.0)
          | inr h ↦ elim (else_takes (strip (codes "answer ") t) verb.Answer v _ r h.1) [
            | inl h ↦ rw (← h.1) (strip_takes (codes "answer ") t r h.0)
            | inr h ↦ elim (else_takes (strip (codes "watch ") t) verb.Watch v _ r h.1) [
              | inl h ↦ rw (← h.1) (strip_takes (codes "watch ") t r h.0)
              | inr h ↦ absurd (none-some _ h.1)
            ]
          ]
        ]
      ]
    ]

pub carried_takes : (b : Bool) (v : Option ℕ) (t r : List ℕ) → carried_at b t ≡ Some (v, r) → (t ≡ value_text v ++ r) × IsCarried b v
unfolding carried_at
carried_takes false v t r e = let p = some_pair_parts None v t r e in rw (← p.0, p.1) (refl, tt)
carried_takes true v t r e =
    let (s, sp, f) = bind_some (strip (codes " ") t) _ _ e in
    let (n, at, g) = bind_some (number_at most_value s) _ _ f in
    let m = value_takes n.0 s n.1 at in
    answered (λ v r. (t ≡ value_text v ++ r) × IsCarried true v) (Some n.0) v n.1 r g (strip_takes (codes " ") t s sp ∙ ap (λ q. 32 ∷ q) m.0, m.1)

value_end_takes_or : (o : Option (List ℕ)) (v : Option ℕ) (t r : List ℕ) → strip (codes "\n") t ≡ o → value_end_or o t ≡ Some (v, r) → (t ≡ value_text v ++ 10 ∷ r) × IfSome v IsValue
value_end_takes_or (Some q) v t r is e = let p = some_pair_parts None v q r e in rw (← p.0, ← p.1) (strip_takes (codes "\n") t q is, tt)
value_end_takes_or None v t r is e =
    let (s, sp, f) = bind_some (strip (codes " ") t) _ _ e in
    let (n, at, g) = bind_some (number_at most_value s) _ _ f in
    let (u, nl, h) = bind_some (strip (codes "\n") n.1) _ _ g in
    let m = value_takes n.0 s n.1 at in
    answered (λ v r. (t ≡ value_text v ++ 10 ∷ r) × IfSome v IsValue) (Some n.0) v u r h (strip_takes (codes " ") t s sp ∙ ap (λ q. 32 ∷ q) (m.0 ∙ ap (λ q. decimal n.0 ++ q) (strip_takes (codes "\n") n.1 u nl)), m.1)

pub value_end_takes : (v : Option ℕ) (t r : List ℕ) → value_end t ≡ Some (v, r) → (t ≡ value_text v ++ 10 ∷ r) × IfSome v IsValue
unfolding value_end
value_end_takes v t r e = value_end_takes_or (strip (codes "\n") t) v t r refl e

-- a phase with its value
valued_takes : (o : Option (List ℕ)) (f : (Option ℕ × List ℕ) → Option (Phase × List ℕ)) (x : Phase) (other : Option (Phase × List ℕ)) (r : List ℕ) → valued_else o f other ≡ Some (x, r)
    → ((t : List ℕ) × (o ≡ Some t) × (v : Option ℕ × List ℕ) × (value_end t ≡ Some v) × (f v ≡ Some (x, r))) ⊎ ((o ≡ None) × (other ≡ Some (x, r)))
valued_takes (Some t) f x other r e = let (v, at, g) = bind_some (value_end t) f _ e in inl (t, refl, v, at, g)
valued_takes None f x other r e = inr (refl, e)

pub phase_takes : (p : Phase) (t r : List ℕ) → phase_end t ≡ Some (p, r) → (t ≡ phase_text p ++ 10 ∷ r) × IsPhase p
unfolding phase_end
phase_takes p t r e =
    elim (else_takes (strip (codes "idle\n") t) phase.Idle p _ r e) [
      | inl h ↦ rw (← h.1) (strip_takes (codes "idle\n") t r h.0, tt)
      | inr h ↦ elim (valued_takes (strip (codes "asked") t) asked p _ r h.1) [
        | inl h ↦
            let m = value_end_takes h.2.0 h.0 h.2.1 h.3 in
            answered (λ p r. (t ≡ phase_text p ++ 10 ∷ r) × IsPhase p) (phase.Asked h.2.0) p h.2.1 r h.4 (strip_takes (codes "asked") t h.0 h.1 ∙ ap (λ s. codes "asked" ++ s) m.0, m.1)
        | inr h ↦ elim (else_takes (strip (codes "taken\n") t) phase.Taken p _ r h.1) [
          | inl h ↦ rw (← h.1) (strip_takes (codes "taken\n") t r h.0, tt)
          | inr h ↦ elim (valued_takes (strip (codes "replied") t) replied p _ r h.1) [
            | inl h ↦
                let m = value_end_takes h.2.0 h.0 h.2.1 h.3 in
                answered (λ p r. (t ≡ phase_text p ++ 10 ∷ r) × IsPhase p) (phase.Replied h.2.0) p h.2.1 r h.4 (strip_takes (codes "replied") t h.0 h.1 ∙ ap (λ s. codes "replied" ++ s) m.0, m.1)
            | inr h ↦ elim (else_takes (strip (codes "broken\n") t) phase.Broken p _ r h.1) [
              | inl h ↦ rw (← h.1) (strip_takes (codes "broken\n") t r h.0, tt)
              | inr h ↦ absurd (none-some _ h.1)
            ]
          ]
        ]
      ]
    ]

some_same : (s t : List ℕ) → Some s ≡ Some t → s ≡ t
some_same s t e = cc

phased_takes : (o : Option (List ℕ)) (f : Phase → Reply) (x : Reply) (other : Option (Reply × List ℕ)) (r : List ℕ) → phased_else o f other ≡ Some (x, r)
    → ((t : List ℕ) × (o ≡ Some t) × (p : Phase) × (t ≡ phase_text p ++ 10 ∷ r) × IsPhase p × (f p ≡ x)) ⊎ ((o ≡ None) × (other ≡ Some (x, r)))
phased_takes (Some t) f x other r e =
    let (p, at, g) = bind_some (phase_end t) _ _ e in
    let m = phase_takes p.0 t p.1 at in
    let q = some_pair_parts (f p.0) x p.1 r g in
    inl (t, refl, p.0, subst (λ s. t ≡ phase_text p.0 ++ 10 ∷ s) q.1 m.0, m.1, q.0)
phased_takes None f x other r e = inr (refl, e)

valueless : (o : Option (List ℕ)) (x : Reply) (other : Option (Reply × List ℕ)) (r : List ℕ) → value_else o other ≡ Some (x, r)
    → ((t : List ℕ) × (o ≡ Some t) × (v : ℕ) × (t ≡ decimal v ++ 10 ∷ r) × IsValue v × (reply.Value v ≡ x)) ⊎ ((o ≡ None) × (other ≡ Some (x, r)))
valueless (Some t) x other r e =
    let (n, at, g) = bind_some (number_at most_value t) _ _ e in
    let (u, nl, h) = bind_some (strip (codes "\n") n.1) _ _ g in
    let m = value_takes n.0 t n.1 at in
    let q = some_pair_parts (reply.Value n.0) x u r h in
    inl (t, refl, n.0, m.0 ∙ ap (λ s. decimal n.0 ++ s) (strip_takes (codes "\n") n.1 u nl ∙ ap (λ s. 10 ∷ s) q.1), m.1, q.0)
valueless None x other r e = inr (refl, e)

pub reply_takes : (x : Reply) (t r : List ℕ) → reply_end t ≡ Some (x, r) → (t ≡ reply_text x ++ 10 ∷ r) × IsReply x
unfolding reply_end
reply_takes x t r e =
    let P : Reply → Type 0 = λ y. (t ≡ reply_text y ++ 10 ∷ r) × IsReply y in
    elim (else_takes (strip (codes "done\n") t) reply.Done x _ r e) [
      | inl h ↦ subst P h.1 (strip_takes (codes "done\n") t r h.0, tt)
      | inr h ↦ elim (valueless (strip (codes "value ") t) x _ r h.1) [
        | inl h ↦ subst P h.5 (strip_takes (codes "value ") t h.0 h.1 ∙ ap (λ s. codes "value " ++ s) h.3, h.4)
        | inr h ↦ elim (else_takes (strip (codes "not-yet\n") t) reply.NotYet x _ r h.1) [
          | inl h ↦ subst P h.1 (strip_takes (codes "not-yet\n") t r h.0, tt)
          | inr h ↦ elim (phased_takes (strip (codes "busy ") t) reply.Busy x _ r h.1) [
            | inl h ↦ subst P h.5 (strip_takes (codes "busy ") t h.0 h.1 ∙ ap (λ s. codes "busy " ++ s) h.3, h.4)
            | inr h ↦ elim (phased_takes (strip (codes "not-taken ") t) reply.NotTaken x _ r h.1) [
              | inl h ↦ subst P h.5 (strip_takes (codes "not-taken ") t h.0 h.1 ∙ ap (λ s. codes "not-taken " ++ s) h.3, h.4)
              | inr h ↦ elim (phased_takes (Some t) reply.Watched x None r h.1) [
                | inl h ↦ subst P h.5 (some_same t h.0 h.1 ∙ h.3, h.4)
                | inr h ↦ absurd (none-some t (sym h.0))
              ]
            ]
          ]
        ]
      ]
    ]

abbrev pub given_text : Option ℕ → List ℕ → List ℕ
given_text None t = t
given_text (Some v) t = decimal v ++ 32 ∷ t

no_value : (v : Verb) → IsGiven v None
no_value verb.Offer = tt
no_value verb.Collect = tt
no_value verb.Accept = tt
no_value verb.Answer = tt
no_value verb.Watch = tt

may_value : (v : Verb) (n : ℕ) → may_bring v ≡ true → IsValue n → IsGiven v (Some n)
may_value verb.Offer n may is = is
may_value verb.Collect n may is = cc
may_value verb.Accept n may is = cc
may_value verb.Answer n may is = is
may_value verb.Watch n may is = cc

given_takes_if : (v : Verb) (b : Bool) (o : Option ℕ) (t r : List ℕ) → (b ≡ true → may_bring v ≡ true)
    → given_if b t ≡ Some (o, r) → (t ≡ given_text o r) × IsGiven v o
given_takes_if v false o t r may e = answered (λ o r. (t ≡ given_text o r) × IsGiven v o) None o t r e (refl, no_value v)
given_takes_if v true o t r may e =
    let (n, at, g) = bind_some (number_at most_value t) _ _ e in
    let (u, sp, h) = bind_some (strip (codes " ") n.1) _ _ g in
    let m = value_takes n.0 t n.1 at in
    answered (λ o r. (t ≡ given_text o r) × IsGiven v o) (Some n.0) o u r h (m.0 ∙ ap (λ s. decimal n.0 ++ s) (strip_takes (codes " ") n.1 u sp), may_value v n.0 (may refl) m.1)

pub given_takes : (v : Verb) (o : Option ℕ) (t r : List ℕ) → given_at v t ≡ Some (o, r) → (t ≡ given_text o r) × IsGiven v o
unfolding given_at
given_takes v o t r e = given_takes_if v (may_bring v && begins_digit t) o t r (λ h. (and_both _ _ h).0) e

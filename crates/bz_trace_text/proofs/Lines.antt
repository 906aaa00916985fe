-- A whole line: what stands at the front is read, and what is read stands there.
use Rattle.std.proofs.Common.{◌≡◌, ℕ, false, List, [], ◌∷◌, ◌++◌, Option, Some, None, refl, sym, ap, subst, ◌∙◌, arith, append_assoc, ◌⊎◌, inl, inr, codes, ◌+◌, ◌-◌, ◌<◌, ◌≤◌}
use Rattle.std.specs.Prelude.{unwrap_or}
use Rattle.std.specs.Fmt.{decimal}
use Rattle.bz_model.specs.declared.channel.Move.{Move}
use Rattle.bz_model.specs.declared.event.Who.{Who}
use Rattle.bz_model.specs.declared.event.Who.TheVariants as who
use Rattle.bz_model.specs.declared.event.Verb.{Verb}
use Rattle.bz_model.specs.declared.event.Verb.TheVariants as verb
use Rattle.bz_model.specs.declared.event.Reply.{Reply}
use Rattle.bz_model.specs.declared.event.Entry.{Entry}
use Rattle.bz_model.specs.declared.event.Entry.TheVariants as entry
use Rattle.bz_model.specs.Names.{Outside, port_name, port_number}
use Rattle.bz_model.specs.Traces.{who_text, move_text, verb_text, value_text, reply_text, name_form, line_text, fired_text, host_text, rested_text}
use Rattle.bz_model.specs.Entries.{IsWho, IsHost, IsNumber32, IsReply, IsCarried, IsGiven, HasLine, told, carries_at}
use Rattle.bz_trace_text.specs.Reading.{strip, number_at, who_at, move_at, verb_at, carried_at, fired_at, reply_end, port_from, given_at, host_at, event_at, line_at, begins_digit, most_number, fired_else, of_host}
use Rattle.bz_trace_text.proofs.Strips.{none-some, strip_takes}
use Rattle.std.proofs.lemmas.Fmt.{decimal_digit}
use Rattle.bz_trace_text.proofs.Numbers.{number_again}
use Rattle.bz_trace_text.proofs.PortLaws.{else_takes, port_takes, port_again, named}
use Rattle.bz_trace_text.proofs.Taken.{answered, bind_some, number32_takes, who_takes, move_takes, verb_takes, carried_takes, reply_takes, given_takes, given_text}
use Rattle.bz_trace_text.proofs.LineLaws.{who_again, move_again, verb_again, reply_again, carried_again, none_again, given_again, no_digit}

fired_split : (w : Who) (comp : ℕ) (mv : Move) (chan : ℕ) (value : Option ℕ) (t : List ℕ)
    → fired_text w comp mv chan value ++ t ≡ who_text w ++ (codes " fire " ++ (decimal comp ++ 32 ∷ (move_text mv ++ 32 ∷ (decimal chan ++ (value_text value ++ 10 ∷ t)))))
fired_split w comp mv chan value t = simp append_assoc

host_split : (w : Who) (v : Verb) (name : List ℕ) (value : Option ℕ) (r : Reply) (t : List ℕ)
    → host_text w v name value r ++ t ≡ who_text w ++ 32 ∷ (verb_text v ++ 32 ∷ (name_form name ++ (value_text value ++ 32 ∷ (reply_text r ++ 10 ∷ t))))
host_split w v name value r t = simp append_assoc

rested_split : (w : Who) (t : List ℕ) → rested_text w ++ t ≡ who_text w ++ (codes " rest\n" ++ t)
rested_split w t = simp append_assoc

value_ends : (v : Option ℕ) (t : List ℕ) → begins_digit (value_text v ++ 10 ∷ t) ≡ false
value_ends None t = refl
value_ends (Some v) t = refl

fired_again : (net : Outside) (w : Who) (comp : ℕ) (mv : Move) (chan : ℕ) (value : Option ℕ) (t : List ℕ) → IsNumber32 comp → IsNumber32 chan → IsCarried (carries_at net.chans chan mv) value
    → fired_at net w (decimal comp ++ 32 ∷ (move_text mv ++ 32 ∷ (decimal chan ++ (value_text value ++ 10 ∷ t)))) ≡ Some (entry.Fired w comp 0 chan mv value, t)
unfolding fired_at strip
fired_again net w comp mv chan value t c k v =
    let s = value_text value ++ 10 ∷ t in
    rw (
      number_again most_number comp (32 ∷ (move_text mv ++ 32 ∷ (decimal chan ++ s))) (omega arith) (omega arith) refl,
      move_again mv (decimal chan ++ s),
      number_again most_number chan s (omega arith) (omega arith) (value_ends value t),
      carried_again (carries_at net.chans chan mv) value t v,
    ) refl

-- behind a name and its space
rest_again : (v : Verb) (value : Option ℕ) (r : Reply) (t : List ℕ) → IsGiven v value → IsReply r
    → (x : List ℕ) × (value_text value ++ 32 ∷ (reply_text r ++ 10 ∷ t) ≡ 32 ∷ x) × (given_at v x ≡ Some (value, reply_text r ++ 10 ∷ t))
rest_again v None r t is said = (reply_text r ++ 10 ∷ t, refl, none_again v (reply_text r ++ 10 ∷ t) (no_digit r t))
rest_again v (Some n) r t is said = (decimal n ++ 32 ∷ (reply_text r ++ 10 ∷ t), refl, given_again v n (reply_text r ++ 10 ∷ t) is)

host_again : (net : Outside) (w : Who) (v : Verb) (name : List ℕ) (port : ℕ) (value : Option ℕ) (r : Reply) (t : List ℕ) → port_number net.ports name ≡ Some port → IsGiven v value → IsReply r
    → host_at net w (verb_text v ++ 32 ∷ (name_form name ++ (value_text value ++ 32 ∷ (reply_text r ++ 10 ∷ t)))) ≡ Some (entry.Host w v port value r, t)
unfolding host_at
host_again net w v name port value r t number is said =
    let (x, same, given) = rest_again v value r t is said in
    rw (same, verb_again v (name_form name ++ 32 ∷ x), port_again 1 net.ports name x port number, given, reply_again r t said) refl

event_fired : (net : Outside) (w : Who) (t : List ℕ) → event_at net w (codes " fire " ++ t) ≡ fired_at net w t
unfolding event_at strip
event_fired net w t = refl

-- the line of a worker's firing is read by its worker, and then from its component on
worker_line : (net : Outside) (n : ℕ) (t r : List ℕ) → 0 < n → n ≤ 8 → strip (codes " fire ") t ≡ Some r → line_at net (119 ∷ (48 + n) ∷ t) ≡ fired_at net (who.Worker n) r
unfolding line_at
worker_line net n t r some few e =
    let read = rw (decimal_digit n (omega (arith, few))) at (who_again (who.Worker n) (codes "fire " ++ r) (some, few)) in
    rw (strip_takes (codes " fire ") t r e, read) (event_fired net (who.Worker n) r)

pub worker_fires : (net : Outside) (letter digit : ℕ) (text rest t r : List ℕ) → text ≡ letter ∷ rest → letter ≡ 119 → rest ≡ digit ∷ t → 49 ≤ digit → digit ≤ 56 → strip (codes " fire ") t ≡ Some r
    → line_at net text ≡ fired_at net (who.Worker (digit - 48)) r
worker_fires net letter digit text rest t r whole is then from to e =
    let same : digit ≡ 48 + (digit - 48) = omega (arith, from) in
    let all : text ≡ 119 ∷ (48 + (digit - 48)) ∷ t = rw (whole, is, then) (ap (λ d. 119 ∷ d ∷ t) same) in
    rw all (worker_line net (digit - 48) t r (omega (arith, from)) (omega (arith, to)) e)

event_rested : (net : Outside) (w : Who) (t : List ℕ) → event_at net w (codes " rest\n" ++ t) ≡ Some (entry.Rested w, t)
unfolding event_at strip
event_rested net w t = refl

event_host : (net : Outside) (n : ℕ) (v : Verb) (t : List ℕ) → event_at net (who.Host n) (32 ∷ (verb_text v ++ 32 ∷ t)) ≡ host_at net (who.Host n) (verb_text v ++ 32 ∷ t)
unfolding event_at strip
event_host net n verb.Offer t = refl
event_host net n verb.Collect t = refl
event_host net n verb.Accept t = refl
event_host net n verb.Answer t = refl
event_host net n verb.Watch t = refl

pub line_again : (net : Outside) (e : Entry) (t : List ℕ) → HasLine net e → line_at net (line_text net.ports e ++ t) ≡ Some (told e, t)
unfolding line_at
line_again net (entry.Fired w comp port chan mv value) t has =
    rw (fired_split w comp mv chan value t, who_again w (codes "fire " ++ (decimal comp ++ 32 ∷ (move_text mv ++ 32 ∷ (decimal chan ++ (value_text value ++ 10 ∷ t))))) has.0)
    (event_fired net w (decimal comp ++ 32 ∷ (move_text mv ++ 32 ∷ (decimal chan ++ (value_text value ++ 10 ∷ t)))) ∙ fired_again net w comp mv chan value t has.1 has.2 has.3)
line_again net (entry.Host (who.Host n) v port value r) t has =
    let name = unwrap_or (port_name net.ports port) [] in
    rw (host_split (who.Host n) v name value r t, who_again (who.Host n) (verb_text v ++ 32 ∷ (name_form name ++ (value_text value ++ 32 ∷ (reply_text r ++ 10 ∷ t)))) has.0)
    (event_host net n v (name_form name ++ (value_text value ++ 32 ∷ (reply_text r ++ 10 ∷ t))) ∙ host_again net (who.Host n) v name port value r t has.1 has.2 has.3)
line_again net (entry.Host (who.Worker n) v port value r) t has = absurd has.0
line_again net (entry.Rested w) t has = rw (rested_split w t, who_again w (codes "rest\n" ++ t) has) (event_rested net w t)

-- the line of the entry stands at the front, and the entry is as told
pub record Stands (net : Outside) (t : List ℕ) (e : Entry) (r : List ℕ) : Type 0 where
  pub text : t ≡ line_text net.ports e ++ r
  pub has_line : HasLine net e
  pub as_told : told e ≡ e

fired_takes : (net : Outside) (w : Who) (t : List ℕ) (e : Entry) (r : List ℕ) → IsWho w → fired_at net w t ≡ Some (e, r) → Stands net (who_text w ++ (codes " fire " ++ t)) e r
unfolding fired_at
fired_takes net w t e r is h =
    let (comp, a, h1) = bind_some (number_at most_number t) _ _ h in
    let (s, b, h2) = bind_some (strip (codes " ") comp.1) _ _ h1 in
    let (mv, c, h3) = bind_some (move_at s) _ _ h2 in
    let (chan, d, h4) = bind_some (number_at most_number mv.1) _ _ h3 in
    let (value, f, h5) = bind_some (carried_at (carries_at net.chans chan.0 mv.0) chan.1) _ _ h4 in
    let (end, g, h6) = bind_some (strip (codes "\n") value.1) _ _ h5 in
    let comp_is = number32_takes comp.0 t comp.1 a in
    let chan_is = number32_takes chan.0 mv.1 chan.1 d in
    let value_is = carried_takes (carries_at net.chans chan.0 mv.0) value.0 chan.1 value.1 f in
    let text = comp_is.0 ∙ ap (λ q. decimal comp.0 ++ q) (strip_takes (codes " ") comp.1 s b
    ∙ ap (λ q. 32 ∷ q) (move_takes mv.0 s mv.1 c ∙ ap (λ q. move_text mv.0 ++ 32 ∷ q) (chan_is.0
    ∙ ap (λ q. decimal chan.0 ++ q) (value_is.0 ∙ ap (λ q. value_text value.0 ++ q) (strip_takes (codes "\n") value.1 end g))))) in
    answered (Stands net (who_text w ++ (codes " fire " ++ t))) (entry.Fired w comp.0 0 chan.0 mv.0 value.0) e end r h6 (record {
      text = ap (λ q. who_text w ++ (codes " fire " ++ q)) text ∙ sym (fired_split w comp.0 mv.0 chan.0 value.0 end);
      has_line = (is, comp_is.1, chan_is.1, value_is.1);
      as_told = refl;
    })

given_spaced : (o : Option ℕ) (t : List ℕ) → 32 ∷ given_text o t ≡ value_text o ++ 32 ∷ t
given_spaced None t = refl
given_spaced (Some v) t = refl

host_takes : (net : Outside) (w : Who) (t : List ℕ) (e : Entry) (r : List ℕ) → IsHost w → host_at net w t ≡ Some (e, r) → Stands net (who_text w ++ 32 ∷ t) e r
unfolding host_at
host_takes net w t e r is h =
    let (v, a, h1) = bind_some (verb_at t) _ _ h in
    let (port, b, h2) = bind_some (port_from 1 net.ports v.1) _ _ h1 in
    let (given, c, h3) = bind_some (given_at v.0 port.1) _ _ h2 in
    let (said, d, h4) = bind_some (reply_end given.1) _ _ h3 in
    let (name, name_is, number) = port_takes 1 net.ports v.1 port.1 port.0 b in
    let given_is = given_takes v.0 given.0 port.1 given.1 c in
    let said_is = reply_takes said.0 given.1 said.1 d in
    let own : unwrap_or (port_name net.ports port.0) [] ≡ name = ap (λ o. unwrap_or o []) (named net.ports name port.0 number) in
    let text = verb_takes v.0 t v.1 a ∙ ap (λ q. verb_text v.0 ++ 32 ∷ q) (name_is
    ∙ ap (λ q. name_form name ++ q) (ap (λ q. 32 ∷ q) given_is.0 ∙ given_spaced given.0 given.1 ∙ ap (λ q. value_text given.0 ++ 32 ∷ q) said_is.0)) in
    answered (Stands net (who_text w ++ 32 ∷ t)) (entry.Host w v.0 port.0 given.0 said.0) e said.1 r h4 (record {
      text = rw own (ap (λ q. who_text w ++ 32 ∷ q) text ∙ sym (host_split w v.0 name given.0 said.0 said.1));
      has_line = (is, rw own number, given_is.1, said_is.1);
      as_told = refl;
    })

fired_else_takes : (net : Outside) (w : Who) (o : Option (List ℕ)) (other : Option (Entry × List ℕ)) (x : Entry × List ℕ) → fired_else net w o other ≡ Some x
    → ((t : List ℕ) × (o ≡ Some t) × (fired_at net w t ≡ Some x)) ⊎ ((o ≡ None) × (other ≡ Some x))
fired_else_takes net w (Some t) other x h = inl (t, refl, h)
fired_else_takes net w None other x h = inr (refl, h)

of_host_takes : (net : Outside) (w : Who) (o : Option (List ℕ)) (x : Entry × List ℕ) → IsWho w → of_host net w o ≡ Some x → (t : List ℕ) × (o ≡ Some t) × IsHost w × (host_at net w t ≡ Some x)
of_host_takes net w None x is h = absurd (none-some x h)
of_host_takes net (who.Host n) (Some t) x is h = (t, refl, is, h)
of_host_takes net (who.Worker n) (Some t) x is h = absurd (none-some x h)

event_takes : (net : Outside) (w : Who) (t : List ℕ) (e : Entry) (r : List ℕ) → IsWho w → event_at net w t ≡ Some (e, r) → Stands net (who_text w ++ t) e r
unfolding event_at
event_takes net w t e r is h =
    elim (else_takes (strip (codes " rest\n") t) (entry.Rested w) e _ r h) [
      | inl k ↦ subst (λ x. Stands net (who_text w ++ t) x r) k.1 (record {
        text = ap (λ q. who_text w ++ q) (strip_takes (codes " rest\n") t r k.0) ∙ sym (rested_split w r);
        has_line = is;
        as_told = refl;
      })
      | inr k ↦ elim (fired_else_takes net w (strip (codes " fire ") t) _ (e, r) k.1) [
        | inl l ↦ rw (strip_takes (codes " fire ") t l.0 l.1) (fired_takes net w l.0 e r is l.2)
        | inr l ↦
            let (s, sp, host, at) = of_host_takes net w (strip (codes " ") t) (e, r) is l.1 in
            rw (strip_takes (codes " ") t s sp) (host_takes net w s e r host at)
      ]
    ]

pub line_takes : (net : Outside) (t : List ℕ) (e : Entry) (r : List ℕ) → line_at net t ≡ Some (e, r) → Stands net t e r
unfolding line_at
line_takes net t e r h =
    let (w, a, h1) = bind_some (who_at t) _ _ h in
    let is = who_takes w.0 t w.1 a in
    rw is.0 (event_takes net w.0 w.1 e r is.1 h1)

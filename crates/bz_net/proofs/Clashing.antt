-- Where requests met: what each entry adds.
use Rattle.std.proofs.Common.{◌≡◌, ◌≢◌, ◌⊎◌, ◌↔◌, inl, inr, ℕ, zero, suc, ◌-◌, ◌<◌, true, Option, List, [], ◌∷◌, ◌++◌, length, slice_index_or, set, replicate, Contains, refl, sym, ap, subst, ◌∙◌, arith}
use Rattle.bz_model.specs.declared.channel.Phase.{Phase}
use Rattle.bz_model.specs.declared.channel.Phase.TheVariants.{Idle}
use Rattle.bz_model.specs.declared.event.Entry.{Entry}
use Rattle.bz_model.specs.declared.event.Entry.TheVariants.{Fired, Host, Rested}
use Rattle.bz_model.specs.Phases.{phase_after}
use Rattle.bz_model.specs.Nets.{Site, Wiring, State, Step, IsPort, chan_at, passive_at, opening}
use Rattle.bz_model.specs.Hosts.{host_after}
use Rattle.bz_model.specs.Runs.{Follows, Run}
use Rattle.bz_model.specs.Clashes.{phase_of, IsAsked, Clashes, ClashesIn}
use Rattle.bz_flat.specs.Wires.{WellWired}
use Rattle.bz_net.specs.Noted.{Notes, HoldsPassive, AskedBefore, NotedAt, NotedMove, Watches, WatchesBut}
use Rattle.std.proofs.lemmas.Bool.{cases_eq}
use Rattle.bz_model.specs.declared.channel.Move.{Move}
use Rattle.bz_model.specs.declared.channel.Move.TheVariants as move
use Rattle.bz_model.specs.declared.event.Who.{Who}
use Rattle.bz_model.specs.declared.event.Verb.{Verb}
use Rattle.bz_model.specs.declared.event.Reply.{Reply}
use Rattle.bz_model.specs.Hosts.{HostStep}
use Rattle.bz_model.specs.Runs.{Rest}
use Rattle.bz_net.proofs.Asking.{watches_first}
use Rattle.bz_net.proofs.Ties.{at_other}

-- the phases after an entry go by the phases before it and the entry alone
abbrev pub after_entry : List Phase → Entry → List Phase
after_entry phases (Fired who c p k mv value) = set phases (k - 1) (phase_after (phase_of phases k) mv value)
after_entry phases (Host who verb port value reply) = set phases (port - 1) (host_after verb value (phase_of phases port))
after_entry phases (Rested who) = phases

pub follows_phases : (w : Wiring) (s : State) (e : Entry) (next : State) → Follows w s e next → next.phases ≡ after_entry s.phases e
follows_phases w s (Fired who c p k mv value) next f = ap (λ (o : State). o.phases) f.next_is
follows_phases w s (Host who verb port value reply) next f = ap (λ (o : State). o.phases) f.next_is
follows_phases w s (Rested who) next f = ap (λ (o : State). o.phases) f.1

-- requests meet by the phases alone
same_asked : (sites : List Site) (phases phases' : List Phase) (c p : ℕ) → phase_of phases' (chan_at sites c p) ≡ phase_of phases (chan_at sites c p) → IsAsked sites phases c p → IsAsked sites phases' c p
same_asked sites phases phases' c p e x = record { is_port = x.is_port; passive = x.passive; busy = λ f. x.busy (sym e ∙ f) }

pub same_clashes : (sites : List Site) (phases phases' : List Phase) (c : ℕ) → ((p : ℕ) → IsPort sites c p → passive_at sites c p ≡ true → phase_of phases' (chan_at sites c p) ≡ phase_of phases (chan_at sites c p)) → Clashes sites phases c → Clashes sites phases' c
same_clashes sites phases phases' c e x = record {
  mixes = x.mixes;
  one = x.one;
  other = x.other;
  apart = x.apart;
  first = same_asked sites phases phases' c x.one (e x.one x.first.is_port x.first.passive) x.first;
  second = same_asked sites phases phases' c x.other (e x.other x.second.is_port x.second.passive) x.second;
}

at_phases : (sites : List Site) (phases phases' : List Phase) (c : ℕ) → phases' ≡ phases → Clashes sites phases c → Clashes sites phases' c
at_phases sites phases phases' c e x = same_clashes sites phases phases' c (λ p port passive. ap (λ f. phase_of f (chan_at sites c p)) e) x

module _ (w : Wiring) (e : Entry) (c : ℕ) where
  -- with one more entry: they met before, or meet now
  split : (es : List Entry) (s t last next : State) → t.phases ≡ s.phases → Run w s es last → Follows w last e next → ClashesIn w t (es ++ e ∷ []) c → ClashesIn w s es c ⊎ Clashes w.sites next.phases c
  split [] s t last next same run f (inl x) = inl (at_phases w.sites t.phases s.phases c (sym same) x)
  split [] s t last next same run f (inr (n, g, x)) =
      let here : last.phases ≡ s.phases = ap (λ (o : State). o.phases) run in
      let a : next.phases ≡ n.phases = follows_phases w last e next f ∙ ap (λ ps. after_entry ps e) (here ∙ sym same) ∙ sym (follows_phases w t e n g) in
      inr (at_phases w.sites n.phases next.phases c a x)
  split (d ∷ es) s t last next same (m, g, run) f (inl x) = inl (inl (at_phases w.sites t.phases s.phases c (sym same) x))
  split (d ∷ es) s t last next same (m, g, run) f (inr (n, h, x)) =
      let a : n.phases ≡ m.phases = follows_phases w t d n h ∙ ap (λ ps. after_entry ps d) same ∙ sym (follows_phases w s d m g) in
      elim (split es m n last next a run f x) [
        | inl y ↦ inl (inr (m, g, y))
        | inr y ↦ inr y
      ]

  -- where they met they have met
  pub stays : (es : List Entry) (s : State) → ClashesIn w s es c → ClashesIn w s (es ++ e ∷ []) c
  stays [] s x = inl x
  stays (d ∷ es) s (inl x) = inl x
  stays (d ∷ es) s (inr (n, g, x)) = inr (n, g, stays es n x)

  pub meets_next : (es : List Entry) (s last next : State) → Run w s es last → Follows w last e next → Clashes w.sites next.phases c → ClashesIn w s (es ++ e ∷ []) c
  meets_next [] s last next run f x = inr (next, subst (λ o. Follows w o e next) run f, x)
  meets_next (d ∷ es) s last next (m, g, run) f x = inr (m, g, meets_next es m last next run f x)

-- what meets in the last state has met
pub meets_last : (w : Wiring) (c : ℕ) (es : List Entry) (s last : State) → Run w s es last → Clashes w.sites last.phases c → ClashesIn w s es c
meets_last w c [] s last run x = at_phases w.sites last.phases s.phases c (sym (ap (λ (o : State). o.phases) run)) x
meets_last w c (d ∷ es) s last (m, g, run) x = inr (m, g, meets_last w c es m last run x)

-- the notes stay exact where one component is looked at and no other can be new; At tells which
pub noted_after : (w : Wiring) (s last next : State) (es : List Entry) (e : Entry) → Run w s es last → Follows w last e next → (old new : List ℕ) (At : ℕ → Type 0) → ((c : ℕ) → Contains old c ↔ ClashesIn w s es c) → ((c : ℕ) → Contains new c ↔ (Contains old c ⊎ (At c × Clashes w.sites next.phases c))) → ((c : ℕ) → Clashes w.sites next.phases c → At c ⊎ Clashes w.sites last.phases c) → (c : ℕ) → Contains new c ↔ ClashesIn w s (es ++ e ∷ []) c
noted_after w s last next es e run f old new At exact adds apart c = (there, back)
  where
    there : Contains new c → ClashesIn w s (es ++ e ∷ []) c
    there has = elim ((adds c).0 has) [
      | inl x ↦ stays w e c es s ((exact c).0 x)
      | inr x ↦ meets_next w e c es s last next run f x.1
    ]

    back : ClashesIn w s (es ++ e ∷ []) c → Contains new c
    back met = elim (split w e c es s s last next refl run f met) [
      | inl x ↦ (adds c).1 (inl ((exact c).1 x))
      | inr x ↦ elim (apart c x) [
        | inl is ↦ (adds c).1 (inr (is, x))
        | inr was ↦ (adds c).1 (inl ((exact c).1 (meets_last w c es s last run was)))
      ]
    ]

-- a change of channel k is seen at its passive end alone
pub end_alone : (w : Wiring) (phases : List Phase) (k : ℕ) (phase : Phase) → WellWired w → 0 < k → (c : ℕ) → Clashes w.sites (set phases (k - 1) phase) c → HoldsPassive w.sites k c ⊎ Clashes w.sites phases c
end_alone w phases k phase wired from c x =
    elim (cases_eq (chan_at w.sites c x.one) k) [
      | inl on ↦ inl (x.one, record { is_port = x.first.is_port; on = on; sense = x.first.passive })
      | inr off ↦ elim (cases_eq (chan_at w.sites c x.other) k) [
        | inl on ↦ inl (x.other, record { is_port = x.second.is_port; on = on; sense = x.second.passive })
        | inr off' ↦ inr (record {
          mixes = x.mixes;
          one = x.one;
          other = x.other;
          apart = x.apart;
          first = same_asked w.sites (set phases (k - 1) phase) phases c x.one (before x.one x.first.is_port off) x.first;
          second = same_asked w.sites (set phases (k - 1) phase) phases c x.other (before x.other x.second.is_port off') x.second;
        })
      ]
    ]
  where
    before : (p : ℕ) → IsPort w.sites c p → chan_at w.sites c p ≢ k → phase_of phases (chan_at w.sites c p) ≡ phase_of (set phases (k - 1) phase) (chan_at w.sites c p)
    before p port off = sym (at_other phases k (chan_at w.sites c p) phase Idle from (wired.chan_from c p port) off)

-- at the opening all channels are idle
all_idle : (n i : ℕ) → slice_index_or (replicate n Idle) i Idle ≡ Idle
all_idle zero i = refl
all_idle (suc n) zero = refl
all_idle (suc n) (suc i) = all_idle n i

pub none_opening : (w : Wiring) (c : ℕ) → ClashesIn w (opening w) [] c → ⊥
none_opening w c x = x.first.busy (all_idle (length w.chans) (chan_at w.sites c x.one - 1))

-- where the channel was busy before, no port is asked that wasn't
pub asked_before : (w : Wiring) (phases : List Phase) (k : ℕ) (phase : Phase) → WellWired w → 0 < k → phase_of phases k ≢ Idle → (c p : ℕ) → IsAsked w.sites (set phases (k - 1) phase) c p → IsAsked w.sites phases c p
asked_before w phases k phase wired from busy c p at = record {
  is_port = at.is_port;
  passive = at.passive;
  busy = λ idle. elim (cases_eq (chan_at w.sites c p) k) [
    | inl on ↦ busy (ap (phase_of phases) (sym on) ∙ idle)
    | inr off ↦ at.busy (at_other phases k (chan_at w.sites c p) phase Idle from (wired.chan_from c p at.is_port) off ∙ idle)
  ];
}

-- then no requests meet that didn't
met_before : (sites : List Site) (phases phases' : List Phase) → ((c p : ℕ) → IsAsked sites phases' c p → IsAsked sites phases c p) → (c : ℕ) → Clashes sites phases' c → Clashes sites phases c
met_before sites phases phases' before c x = record {
  mixes = x.mixes;
  one = x.one;
  other = x.other;
  apart = x.apart;
  first = before c x.one x.first;
  second = before c x.other x.second;
}

-- what is watched is watched still where one channel changes, but for that channel
but_one : (w : Wiring) (phases : List Phase) (k : ℕ) (phase : Phase) (notes : Notes) → WellWired w → 0 < k → Watches w.sites phases notes → WatchesBut k w.sites (set phases (k - 1) phase) notes
but_one w phases k phase notes wired from watches = record {
  held = watches.held;
  sole = λ c p mixes asked off.
      watches.sole c p mixes (same_asked w.sites (set phases (k - 1) phase) phases c p (sym (at_other phases k (chan_at w.sites c p) phase Idle from (wired.chan_from c p asked.is_port) off)) asked);
}

module _ (w w' : Wiring) (s next : State) (notes : Notes) (same : w' ≡ w) (wired : WellWired w) (watches : Watches w.sites s.phases notes) where
  but_changed : (k : ℕ) (phase : Phase) → 0 < k → next.phases ≡ set s.phases (k - 1) phase → WatchesBut k w'.sites next.phases notes
  but_changed k phase from is =
      subst (λ (v : Wiring). WatchesBut k v.sites next.phases notes) (sym same) (subst (λ (ps : List Phase). WatchesBut k w.sites ps notes) (sym is) (but_one w s.phases k phase notes wired from watches))

  pub but_fired : (c p k : ℕ) (mv : Move) (value : Option ℕ) → 0 < k → Step w.sites s c p k mv value next → WatchesBut k w'.sites next.phases notes
  but_fired c p k mv value from step = but_changed k (phase_after (phase_of s.phases k) mv value) from (ap (λ (o : State). o.phases) step.next_is)

  pub but_commanded : (verb : Verb) (port : ℕ) (value : Option ℕ) (reply : Reply) → HostStep w s verb port value reply next → WatchesBut port w'.sites next.phases notes
  but_commanded verb port value reply step = but_changed port (host_after verb value (phase_of s.phases port)) step.port_from (ap (λ (o : State). o.phases) step.next_is)

pub watches_opening : (w : Wiring) (s : State) (notes : Notes) (n : ℕ) → s ≡ opening w → notes.asked ≡ replicate n 0 → Watches w.sites s.phases notes
watches_opening w s notes n opened none =
    watches_first w.sites s.phases notes n none (λ k. ap (λ (o : State). phase_of o.phases k) opened ∙ all_idle (length w.chans) (k - 1))

-- no move but a request lets requests meet
none_met : (w : Wiring) (s next : State) (journal : List Entry) (e : Entry) → Run w (opening w) journal s → Follows w s e next → (old new : Notes) → ((d : ℕ) → Contains old.numbers d ↔ ClashesIn w (opening w) journal d) → ((d : ℕ) → Clashes w.sites next.phases d → Clashes w.sites s.phases d) → new ≡ old → (d : ℕ) → Contains new.numbers d ↔ ClashesIn w (opening w) (journal ++ e ∷ []) d
none_met w s next journal e run follows old new exact before same =
    noted_after w (opening w) s next journal e run follows old.numbers new.numbers (λ d. ⊥) exact
    (λ d. (λ has. inl (subst (λ (n : Notes). Contains n.numbers d) same has), λ x. subst (λ (n : Notes). Contains n.numbers d) (sym same) (was d x)))
    (λ d x. inr (before d x))
  where
    was : (d : ℕ) → Contains old.numbers d ⊎ (⊥ × Clashes w.sites next.phases d) → Contains old.numbers d
    was d (inl has) = has
    was d (inr x) = absurd x.0

asks_met : (w : Wiring) (s next : State) (journal : List Entry) (who : Who) (c p k : ℕ) (mv : Move) (value : Option ℕ) → WellWired w → Run w (opening w) journal s → Step w.sites s c p k mv value next → (old new : Notes) → ((d : ℕ) → Contains old.numbers d ↔ ClashesIn w (opening w) journal d) → NotedAt w.sites next.phases old new k → (d : ℕ) → Contains new.numbers d ↔ ClashesIn w (opening w) (journal ++ Fired who c p k mv value ∷ []) d
asks_met w s next journal who c p k mv value wired run step old new exact noted =
    let from : 0 < k = subst (λ j. 0 < j) (sym step.chan_is) (wired.chan_from c p step.steps_at.is_port) in
    let after = set s.phases (k - 1) (phase_after (phase_of s.phases k) mv value) in
    noted_after w (opening w) s next journal (Fired who c p k mv value) run step old.numbers new.numbers (HoldsPassive w.sites k) exact noted.adds
    (λ d x. end_alone w s.phases k (phase_after (phase_of s.phases k) mv value) wired from d (at_phases w.sites next.phases after d (sym (follows_phases w s (Fired who c p k mv value) next step)) x))

pub clashed_fired : (w : Wiring) (s next : State) (journal : List Entry) (who : Who) (c p k : ℕ) (mv : Move) (value : Option ℕ) → WellWired w → Run w (opening w) journal s → Step w.sites s c p k mv value next → (old new : Notes) → ((d : ℕ) → Contains old.numbers d ↔ ClashesIn w (opening w) journal d) → AskedBefore w.sites s.phases next.phases mv → NotedMove w.sites next.phases old new k mv → (d : ℕ) → Contains new.numbers d ↔ ClashesIn w (opening w) (journal ++ Fired who c p k mv value ∷ []) d
clashed_fired w s next journal who c p k move.Ask value wired run step old new exact before noted = asks_met w s next journal who c p k move.Ask value wired run step old new exact noted
clashed_fired w s next journal who c p k move.Take value wired run step old new exact before noted = none_met w s next journal (Fired who c p k move.Take value) run step old new exact (met_before w.sites s.phases next.phases before) noted
clashed_fired w s next journal who c p k move.Reply value wired run step old new exact before noted = none_met w s next journal (Fired who c p k move.Reply value) run step old new exact (met_before w.sites s.phases next.phases before) noted
clashed_fired w s next journal who c p k move.Got value wired run step old new exact before noted = none_met w s next journal (Fired who c p k move.Got value) run step old new exact (met_before w.sites s.phases next.phases before) noted

-- whatever the move, there are as many that may be noted
pub noted_most : (sites : List Site) (phases : List Phase) (old new : Notes) (k : ℕ) (mv : Move) → NotedMove sites phases old new k mv → new.most ≡ old.most
noted_most sites phases old new k move.Ask noted = noted.most
noted_most sites phases old new k move.Take noted = ap (λ (n : Notes). n.most) noted
noted_most sites phases old new k move.Reply noted = ap (λ (n : Notes). n.most) noted
noted_most sites phases old new k move.Got noted = ap (λ (n : Notes). n.most) noted

pub noted_listed : (sites : List Site) (phases : List Phase) (old new : Notes) (k : ℕ) (mv : Move) → NotedMove sites phases old new k mv → new.listed ≡ old.listed
noted_listed sites phases old new k move.Ask noted = noted.listed
noted_listed sites phases old new k move.Take noted = ap (λ (n : Notes). n.listed) noted
noted_listed sites phases old new k move.Reply noted = ap (λ (n : Notes). n.listed) noted
noted_listed sites phases old new k move.Got noted = ap (λ (n : Notes). n.listed) noted

pub clashed_commanded : (w : Wiring) (s next : State) (journal : List Entry) (who : Who) (verb : Verb) (port : ℕ) (value : Option ℕ) (reply : Reply) → WellWired w → Run w (opening w) journal s → HostStep w s verb port value reply next → (old new : Notes) → ((d : ℕ) → Contains old.numbers d ↔ ClashesIn w (opening w) journal d) → NotedAt w.sites next.phases old new port → (d : ℕ) → Contains new.numbers d ↔ ClashesIn w (opening w) (journal ++ Host who verb port value reply ∷ []) d
clashed_commanded w s next journal who verb port value reply wired run step old new exact noted =
    let after = set s.phases (port - 1) (host_after verb value (phase_of s.phases port)) in
    noted_after w (opening w) s next journal (Host who verb port value reply) run step old.numbers new.numbers (HoldsPassive w.sites port) exact noted.adds
    (λ d x. end_alone w s.phases port (host_after verb value (phase_of s.phases port)) wired step.port_from d (at_phases w.sites next.phases after d (sym (follows_phases w s (Host who verb port value reply) next step)) x))

pub clashed_rested : (w : Wiring) (s : State) (journal : List Entry) (who : Who) → Run w (opening w) journal s → Rest w.sites s → (notes : Notes) → ((d : ℕ) → Contains notes.numbers d ↔ ClashesIn w (opening w) journal d) → (d : ℕ) → Contains notes.numbers d ↔ ClashesIn w (opening w) (journal ++ Rested who ∷ []) d
clashed_rested w s journal who run rest notes exact =
    noted_after w (opening w) s s journal (Rested who) run (rest, refl) notes.numbers notes.numbers (λ d. ⊥) exact (λ d. (λ has. inl has, λ x. old_alone d x)) (λ d x. inr x)
  where
    old_alone : (d : ℕ) → Contains notes.numbers d ⊎ (⊥ × Clashes w.sites s.phases d) → Contains notes.numbers d
    old_alone d (inl has) = has
    old_alone d (inr x) = absurd x.0

pub clashed_opening : (w : Wiring) (numbers : List ℕ) → numbers ≡ [] → (d : ℕ) → Contains numbers d ↔ ClashesIn w (opening w) [] d
clashed_opening w numbers e d = (λ has. absurd (nothing (subst (λ l. Contains l d) e has)), λ x. absurd (none_opening w d x))
  where
    nothing : Contains [] d → ⊥
    nothing (k, lt, f) = omega arith

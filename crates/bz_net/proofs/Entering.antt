-- Events of a net that keeps no journal, beside any journal.
use Rattle.std.proofs.Common.{◌≡◌, ℕ, ◌+◌, Option, [], ◌∷◌, refl, sym, subst, ◌∙◌, arith, length-append}
use Rattle.bz_model.specs.declared.channel.Move.{Move}
use Rattle.bz_model.specs.declared.event.Entry.{Entry}
use Rattle.bz_model.specs.declared.event.Entry.TheVariants.{Fired, Host, Rested}
use Rattle.bz_model.specs.declared.event.Reply.{Reply}
use Rattle.bz_model.specs.declared.event.Verb.{Verb}
use Rattle.bz_model.specs.declared.event.Who.{Who}
use Rattle.bz_model.specs.Nets.{Wiring, State, Step, opening}
use Rattle.bz_model.specs.Hosts.{HostStep}
use Rattle.bz_model.specs.Runs.{Follows, Rest}
use Rattle.bz_flat.specs.Wires.{WellWired}
use Rattle.bz_net.specs.Noted.{Notes, AskedBefore, NotedAt, NotedMove}
use Rattle.bz_net.specs.Progress.{Progress, IsToldBy, LeadsOn, Enters, PlaysWell}
use Rattle.bz_net.proofs.Clashing.{clashed_fired, clashed_commanded, clashed_rested, clashed_opening, noted_most}
use Rattle.bz_net.proofs.Asking.{watches_after}
use Rattle.bz_net.proofs.Soundness.{Run-push}

abbrev pub progress : Wiring → State → Notes → ℕ → Progress
progress w s notes left = record { wiring = w; state = s; clashed = notes.numbers; left = left; listed = notes.current }

pub told_opening : (w : Wiring) (s : State) (notes : Notes) (left : ℕ) → s ≡ opening w → notes.numbers ≡ [] → IsToldBy (progress w s notes left) []
told_opening w s notes left opened none = record { run = opened; clashed = clashed_opening w notes.numbers none }

-- an entry that follows is one more of any journal
pub enters : (old new : Progress) (e : Entry) → new.wiring ≡ old.wiring → Follows old.wiring old.state e new.state → old.left ≡ new.left + 1 → LeadsOn old (e ∷ []) new → Enters old e new
enters old new e wiring follows left leads = record {
  adds = λ journal. record {
    wiring = wiring;
    journal = refl;
    follows = follows;
    limit = let more = length-append journal (e ∷ []) in omega (arith, more, left);
    had_place = omega (arith, left);
    room = omega (arith, left);
  };
  leads = leads;
}

module _ (w w' : Wiring) (s next : State) (old new : Notes) (left left' : ℕ) (same : w' ≡ w) (wired : WellWired w) (one : left ≡ left' + 1) where
  pub enters_fired : (who : Who) (c p k : ℕ) (mv : Move) (value : Option ℕ) → Step w.sites s c p k mv value next → AskedBefore w.sites s.phases next.phases mv → NotedMove w'.sites next.phases old new k mv → Enters (progress w s old left) (Fired who c p k mv value) (progress w' next new left')
  enters_fired who c p k mv value step before noted =
      let here : NotedMove w.sites next.phases old new k mv = subst (λ (v : Wiring). NotedMove v.sites next.phases old new k mv) same noted in
      let leads : LeadsOn (progress w s old left) (Fired who c p k mv value ∷ []) (progress w next new left') = λ journal told. record {
        run = Run-push w (opening w) journal s (Fired who c p k mv value) next told.run step;
        clashed = clashed_fired w s next journal who c p k mv value wired told.run step old new told.clashed before here;
      } in
      enters (progress w s old left) (progress w' next new left') (Fired who c p k mv value) same step one (subst (λ (v : Wiring). LeadsOn (progress w s old left) (Fired who c p k mv value ∷ []) (progress v next new left')) (sym same) leads)

  pub enters_commanded : (who : Who) (verb : Verb) (port : ℕ) (value : Option ℕ) (reply : Reply) → HostStep w s verb port value reply next → NotedAt w'.sites next.phases old new port → Enters (progress w s old left) (Host who verb port value reply) (progress w' next new left')
  enters_commanded who verb port value reply step noted =
      let here : NotedAt w.sites next.phases old new port = subst (λ (v : Wiring). NotedAt v.sites next.phases old new port) same noted in
      let leads : LeadsOn (progress w s old left) (Host who verb port value reply ∷ []) (progress w next new left') = λ journal told. record {
        run = Run-push w (opening w) journal s (Host who verb port value reply) next told.run step;
        clashed = clashed_commanded w s next journal who verb port value reply wired told.run step old new told.clashed here;
      } in
      enters (progress w s old left) (progress w' next new left') (Host who verb port value reply) same step one (subst (λ (v : Wiring). LeadsOn (progress w s old left) (Host who verb port value reply ∷ []) (progress v next new left')) (sym same) leads)

pub enters_rested : (w : Wiring) (s : State) (notes : Notes) (left left' : ℕ) (who : Who) → left ≡ left' + 1 → Rest w.sites s → Enters (progress w s notes left) (Rested who) (progress w s notes left')
enters_rested w s notes left left' who one rests = enters (progress w s notes left) (progress w s notes left') (Rested who) refl (rests, refl) one
    (λ journal told. record {
      run = Run-push w (opening w) journal s (Rested who) s told.run (rests, refl);
      clashed = clashed_rested w s journal who told.run rests notes told.clashed;
    })

-- what such a net keeps is kept by each event
pub plays_fired : (w w' : Wiring) (s next : State) (old new : Notes) (k : ℕ) (mv : Move) → w' ≡ w → PlaysWell w s old → AskedBefore w.sites s.phases next.phases mv → NotedMove w'.sites next.phases old new k mv → PlaysWell w' next new
plays_fired w w' s next old new k mv same plays before noted =
    let here : NotedMove w.sites next.phases old new k mv = subst (λ (v : Wiring). NotedMove v.sites next.phases old new k mv) same noted in
    subst (λ (v : Wiring). PlaysWell v next new) (sym same) (record {
      wired = plays.wired;
      most = noted_most w.sites next.phases old new k mv here ∙ plays.most;
      watches = watches_after w.sites s.phases next.phases old new k mv plays.watches before here;
    })

pub plays_commanded : (w w' : Wiring) (s next : State) (old new : Notes) (port : ℕ) → w' ≡ w → PlaysWell w s old → NotedAt w'.sites next.phases old new port → PlaysWell w' next new
plays_commanded w w' s next old new port same plays noted =
    let here : NotedAt w.sites next.phases old new port = subst (λ (v : Wiring). NotedAt v.sites next.phases old new port) same noted in
    subst (λ (v : Wiring). PlaysWell v next new) (sym same) (record { wired = plays.wired; most = here.most ∙ plays.most; watches = here.watches })

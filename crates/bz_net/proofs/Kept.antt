-- What a net keeps is kept by each event.
use Rattle.std.proofs.Common.{◌≡◌, ◌↔◌, ℕ, ◌<◌, ◌≤◌, Contains, Option, List, [], ◌∷◌, ◌++◌, length, replicate, true, refl, subst, sym, ◌∙◌, arith, length-append}
use Rattle.bz_model.specs.declared.channel.Move.{Move}
use Rattle.bz_model.specs.declared.event.Entry.{Entry}
use Rattle.bz_model.specs.declared.event.Entry.TheVariants.{Fired, Host, Rested}
use Rattle.bz_model.specs.declared.event.Reply.{Reply}
use Rattle.bz_model.specs.declared.event.Verb.{Verb}
use Rattle.bz_model.specs.declared.event.Who.{Who}
use Rattle.bz_model.specs.Nets.{Wiring, State, Step, StepsAt, opening}
use Rattle.bz_model.specs.Hosts.{HostStep}
use Rattle.bz_model.specs.declared.event.NetError.{NetError}
use Rattle.bz_model.specs.declared.event.NetError.TheVariants.{UnknownPort, WrongSide, ValueMissing, ValueUnwanted, TooLarge, NotEnabled, JournalFull, Memory}
use Rattle.bz_model.specs.Clashes.{ClashesIn}
use Rattle.bz_model.specs.Runs.{CanStep, Rest}
use Rattle.bz_net.specs.Simulation.{Simulation}
use Rattle.bz_net.specs.Replies.{RefusesEntry, RefusesFire, RefusesLowest}
use Rattle.bz_flat.specs.Wires.{WellWired}
use Rattle.bz_net.specs.Keeping.{Keeps}
use Rattle.bz_net.specs.Progress.{IsToldBy, PlaysWell, Progress}
use Rattle.bz_net.specs.Noted.{Notes, AskedBefore, NotedAt, NotedMove}
use Rattle.bz_net.proofs.Clashing.{clashed_fired, clashed_commanded, clashed_rested, clashed_opening, noted_listed, noted_most, watches_opening}
use Rattle.bz_net.proofs.Asking.{watches_after}
use Rattle.bz_net.specs.Unbroken.{IsUnbroken, UnbrokenRun}
use Rattle.bz_net.proofs.Opening.{unbroken_opening}
use Rattle.bz_net.proofs.Soundness.{Run-push, UnbrokenRun-last, UnbrokenRun-push}

pub keeps_opening : (w : Wiring) (s : State) (journal : List Entry) (limit : ℕ) (notes : Notes) → WellWired w → s ≡ opening w → journal ≡ [] → notes.numbers ≡ [] → notes.most ≡ length w.sites → notes.listed ≡ true → notes.asked ≡ replicate (length w.sites) 0 → Keeps w s journal limit notes
keeps_opening w s journal limit notes wired opened none unnoted most listed unasked = rw none (record {
  wired = wired;
  run = opened;
  unbroken = (unbroken_opening w, opened);
  within = omega arith;
  most = most;
  listed = listed;
  watches = watches_opening w s notes (length w.sites) opened unasked;
  clashed = clashed_opening w notes.numbers unnoted;
})

-- the same of equal nets
pub keeps_same : (w w' : Wiring) (s s' : State) (journal journal' : List Entry) (limit : ℕ) (notes notes' : Notes) → w' ≡ w → s' ≡ s → journal' ≡ journal → notes' ≡ notes → Keeps w s journal limit notes → Keeps w' s' journal' limit notes'
keeps_same w w' s s' journal journal' limit notes notes' e f g h keeps = rw (e, f, g, h) keeps

pub keeps_fired : (w w' : Wiring) (s next : State) (journal : List Entry) (limit : ℕ) (old new : Notes) (who : Who) (c p k : ℕ) (mv : Move) (value : Option ℕ) → w' ≡ w → Keeps w s journal limit old → length journal < limit → Step w.sites s c p k mv value next → IsUnbroken next → AskedBefore w.sites s.phases next.phases mv → NotedMove w'.sites next.phases old new k mv → Keeps w' next (journal ++ Fired who c p k mv value ∷ []) limit new
keeps_fired w w' s next journal limit old new who c p k mv value same keeps place step whole before noted =
    let here : NotedMove w.sites next.phases old new k mv = subst (λ (v : Wiring). NotedMove v.sites next.phases old new k mv) same noted in
    rw same (record {
      wired = keeps.wired;
      run = Run-push w (opening w) journal s (Fired who c p k mv value) next keeps.run step;
      unbroken = UnbrokenRun-push w (opening w) journal s (Fired who c p k mv value) next keeps.unbroken step whole;
      within = simp length-append (omega arith);
      most = noted_most w.sites next.phases old new k mv here ∙ keeps.most;
      listed = noted_listed w.sites next.phases old new k mv here ∙ keeps.listed;
      watches = watches_after w.sites s.phases next.phases old new k mv keeps.watches before here;
      clashed = clashed_fired w s next journal who c p k mv value keeps.wired keeps.run step old new keeps.clashed before here;
    })

pub keeps_commanded : (w w' : Wiring) (s next : State) (journal : List Entry) (limit : ℕ) (old new : Notes) (who : Who) (verb : Verb) (port : ℕ) (value : Option ℕ) (reply : Reply) → w' ≡ w → Keeps w s journal limit old → length journal < limit → HostStep w s verb port value reply next → IsUnbroken next → NotedAt w'.sites next.phases old new port → Keeps w' next (journal ++ Host who verb port value reply ∷ []) limit new
keeps_commanded w w' s next journal limit old new who verb port value reply same keeps place step whole noted =
    let here : NotedAt w.sites next.phases old new port = subst (λ (v : Wiring). NotedAt v.sites next.phases old new port) same noted in
    rw same (record {
      wired = keeps.wired;
      run = Run-push w (opening w) journal s (Host who verb port value reply) next keeps.run step;
      unbroken = UnbrokenRun-push w (opening w) journal s (Host who verb port value reply) next keeps.unbroken step whole;
      within = simp length-append (omega arith);
      most = here.most ∙ keeps.most;
      listed = here.listed ∙ keeps.listed;
      watches = here.watches;
      clashed = clashed_commanded w s next journal who verb port value reply keeps.wired keeps.run step old new keeps.clashed here;
    })

pub keeps_rested : (w : Wiring) (s : State) (journal : List Entry) (limit : ℕ) (notes : Notes) (who : Who) → Keeps w s journal limit notes → length journal < limit → Rest w.sites s → Keeps w s (journal ++ Rested who ∷ []) limit notes
keeps_rested w s journal limit notes who keeps place rest = record {
  wired = keeps.wired;
  run = Run-push w (opening w) journal s (Rested who) s keeps.run (rest, refl);
  unbroken = UnbrokenRun-push w (opening w) journal s (Rested who) s keeps.unbroken (rest, refl) (UnbrokenRun-last w (opening w) journal s keeps.unbroken);
  within = simp length-append (omega arith);
  most = keeps.most;
  listed = keeps.listed;
  watches = keeps.watches;
  clashed = clashed_rested w s journal who keeps.run rest notes keeps.clashed;
}

-- a firing that is due is refused for its entry alone
pub refuses_fire : (net : Simulation) (c p : ℕ) (e : NetError) → StepsAt net.wiring.sites net.state c p → RefusesEntry net e → RefusesFire net c p e
refuses_fire net c p JournalFull steps r = (steps, r)
refuses_fire net c p Memory steps r = (steps, r)
refuses_fire net c p NotEnabled steps r = absurd r
refuses_fire net c p UnknownPort steps r = absurd r
refuses_fire net c p WrongSide steps r = absurd r
refuses_fire net c p ValueMissing steps r = absurd r
refuses_fire net c p ValueUnwanted steps r = absurd r
refuses_fire net c p TooLarge steps r = absurd r

pub refuses_lowest : (net : Simulation) (c : ℕ) (e : NetError) → CanStep net.wiring.sites net.state c → RefusesEntry net e → RefusesLowest net c e
refuses_lowest net c JournalFull can r = (can, r)
refuses_lowest net c Memory can r = (can, r)
refuses_lowest net c NotEnabled can r = absurd r
refuses_lowest net c UnknownPort can r = absurd r
refuses_lowest net c WrongSide can r = absurd r
refuses_lowest net c ValueMissing can r = absurd r
refuses_lowest net c ValueUnwanted can r = absurd r
refuses_lowest net c TooLarge can r = absurd r

-- what was played without a journal, and is listed from here on
pub keeps_played : (play : Progress) (w : Wiring) (s : State) (journal : List Entry) (limit : ℕ) (notes listed : Notes) → w ≡ play.wiring → s ≡ play.state → notes.numbers ≡ play.clashed → listed ≡ record notes { listed = true; current = true } → PlaysWell play.wiring play.state notes
    → IsToldBy play journal → UnbrokenRun play.wiring (opening play.wiring) journal play.state → length journal ≤ limit → Keeps w s journal limit listed
keeps_played play w s journal limit notes listed same stands numbers is keeps told unbroken within =
    subst (λ (v : Wiring). Keeps v s journal limit listed) (sym same)
    (subst (λ (t : State). Keeps play.wiring t journal limit listed) (sym stands)
    (subst (λ (n : Notes). Keeps play.wiring play.state journal limit n) (sym is) (record {
      wired = keeps.wired;
      run = told.run;
      unbroken = unbroken;
      within = within;
      most = keeps.most;
      listed = refl;
      watches = record { held = keeps.watches.held; sole = keeps.watches.sole };
      clashed = λ c. subst (λ (ns : List ℕ). Contains ns c ↔ ClashesIn play.wiring (opening play.wiring) journal c) (sym numbers) (told.clashed c);
    })))

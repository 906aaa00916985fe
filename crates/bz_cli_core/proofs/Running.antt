-- A run whose lines go out as they come.
use Rattle.std.proofs.Common.{◌≡◌, ◌<◌, ◌≤◌, ◌+◌, ℕ, zero, suc, Bool, true, false, Option, List, [], ◌∷◌, ◌++◌, refl, sym, ap, subst, ◌∙◌, arith, append_assoc, append-nil, codes}
use Rattle.std.proofs.lemmas.List.{flat_map_more}
use Rattle.std.specs.Io.KnownBytes.{Appends}
use Rattle.bz_model.specs.declared.channel.Move.{Move}
use Rattle.bz_model.specs.declared.event.Who.{Who}
use Rattle.bz_model.specs.declared.event.Who.TheVariants as who
use Rattle.bz_model.specs.declared.event.Entry.{Entry}
use Rattle.bz_model.specs.declared.event.Entry.TheVariants.{Fired, Host, Rested}
use Rattle.bz_model.specs.declared.event.NetError.TheVariants.{JournalFull}
use Rattle.bz_model.specs.Names.{External}
use Rattle.bz_model.specs.Nets.{Site, State, Wiring}
use Rattle.bz_model.specs.Plays.{Firings}
use Rattle.bz_model.specs.Traces.{fired_text, line_text, rested_text}
use Rattle.bz_trace_text.specs.declared.outgoing.Outgoing.{Outgoing}
use Rattle.bz_trace_text.specs.Writing.{GoneBut, IsGone, first_lines}
use Rattle.bz_net.specs.declared.event.RunEnd.TheVariants.{Rest, Spent, Refused}
use Rattle.bz_net.specs.Progress.{Progress, Enters, with_journal}
use Rattle.bz_net.specs.Replies.{IsPicked}
use Rattle.bz_net.specs.Running.{Plays, Ran}
use Rattle.bz_net.specs.Simulation.{Simulation, Adds}
use Rattle.bz_net.proofs.Playing.{plays_more}
use Rattle.bz_cli_core.specs.Sending.{RunsOut, SentUp}
use Rattle.bz_cli_core.proofs.Pieces.{leads_then, no_more}

-- of entries none is held, so all lines have gone out and none waits
pub none_waits : (ports : List External) (start now : Option (List ℕ)) (failed : Bool) (played held : List Entry) → held ≡ [] → SentUp ports start played now failed held → GoneBut start now failed [] (first_lines ports played)
none_waits ports start now false played held none (written, all, went) =
    let same : played ≡ written = all ∙ (ap (λ es. written ++ es) none ∙ append-nil written) in
    (first_lines ports written, ap (first_lines ports) same ∙ sym (append-nil (first_lines ports written)), went)
none_waits ports start now true played held none sent = sent

-- and the other way
pub all_went : (ports : List External) (start now : Option (List ℕ)) (failed : Bool) (played held : List Entry) → held ≡ [] → GoneBut start now failed [] (first_lines ports played) → SentUp ports start played now failed held
all_went ports start now false played held none (sent, is, went) =
    (played, sym (ap (λ es. played ++ es) none ∙ append-nil played), subst (Appends start now) (sym (is ∙ append-nil sent)) went)
all_went ports start now true played held none gone = gone

-- firings, and those that follow
firings_then : (sites : List Site) (who : Who) (s : State) (from n : ℕ) (es : List Entry) (to : ℕ) (m : State) (k : ℕ) (fs : List Entry) (end : ℕ) (last : State) → Firings sites who s from n es to m → Firings sites who m to k fs end last → Firings sites who s from (n + k) (es ++ fs) end last
firings_then sites who s from zero [] to m k fs end last f g =
    let none : k ≡ 0 + k = omega arith in
    subst (λ (t : ℕ). Firings sites who s from t fs end last) none
    (subst (λ (x : State). Firings sites who x from k fs end last) f.2 (subst (λ (i : ℕ). Firings sites who m i k fs end last) f.1 g))
firings_then sites who s from zero (e ∷ es) to m k fs end last f g = cc
firings_then sites who s from (suc n) [] to m k fs end last f g = absurd f
firings_then sites who s from (suc n) (Fired by c p j mv value ∷ es) to m k fs end last f g =
    let one : suc (n + k) ≡ suc n + k = omega arith in
    subst (λ (t : ℕ). Firings sites who s from t (Fired by c p j mv value ∷ (es ++ fs)) end last) one
    (f.0, f.1, f.2, (f.3.0, f.3.1, firings_then sites who f.3.0 (c + 1) n es to m k fs end last f.3.2 g))
firings_then sites who s from (suc n) (Host by verb port value answer ∷ es) to m k fs end last f g = absurd f
firings_then sites who s from (suc n) (Rested by ∷ es) to m k fs end last f g = absurd f

plays_then : (x y z : Simulation) (who : Who) (from n to k end : ℕ) → Plays x y who from n to → Plays y z who to k end → Plays x z who from (n + k) end
plays_then x y z who from n to k end one two = record {
  entries = one.entries ++ two.entries;
  journal = two.journal ∙ (ap (λ es. es ++ two.entries) one.journal ∙ append_assoc x.journal one.entries two.entries);
  firings = firings_then x.wiring.sites who x.state from n one.entries to y.state k two.entries end z.state one.firings (subst (λ (w : Wiring). Firings w.sites who y.state to k two.entries end z.state) one.wiring two.firings);
  wiring = two.wiring ∙ one.wiring;
  limit = two.limit ∙ one.limit;
  room = let a = one.room in let b = two.room in omega arith;
}

-- no line yet
pub no_line : (p : Progress) (a : Option (List ℕ)) (lines : Outgoing) (from n : ℕ) → n ≡ 0 → RunsOut p p a lines a lines (λ x y. Plays x y (who.Worker 1) from n from)
no_line p a lines from n none = record {
  entries = [];
  made = λ journal. subst (λ es. Plays (with_journal p journal) (with_journal p es) (who.Worker 1) from n from) (sym (append-nil journal))
      (subst (λ k. Plays (with_journal p journal) (with_journal p journal) (who.Worker 1) from k from) (sym none)
      (record { entries = []; journal = sym (append-nil journal); firings = (refl, refl, refl); wiring = refl; limit = refl; room = omega arith }));
  leads = no_more p;
  gone = λ ports start played gone. subst (λ es. IsGone start a lines (first_lines ports es)) (sym (append-nil played)) gone;
}

-- what is picked and is no firing notes the rest
pub rested : (p : Progress) (who : Who) (from : ℕ) (e : Entry) → IsPicked (with_journal p []) who from e → ((who' : Who) (c port k : ℕ) (mv : Move) (value : Option ℕ) → e ≡ Fired who' c port k mv value → ⊥) → e ≡ Rested who
rested p who from (Fired who' c port k mv value) picked none = absurd (none who' c port k mv value refl)
rested p who from (Host who' verb port value answer) picked none = absurd picked
rested p who from (Rested who') picked none = ap Rested picked

-- firings so far, and one entry more
module _ (old mid new : Progress) (a b c : Option (List ℕ)) (before between after : Outgoing) (from fired next : ℕ) (so_far : RunsOut old mid a before b between (λ x y. Plays x y (who.Worker 1) from fired next)) where
  entry_more : (e : Entry) → Enters mid e new → ((ports : List External) (start : Option (List ℕ)) (text : List ℕ) → IsGone start b between text → IsGone start c after (text ++ line_text ports e)) → (Told : Simulation → Simulation → Type 0)
      → ((journal es : List Entry) → Plays (with_journal old journal) (with_journal mid es) (who.Worker 1) from fired next → Adds (with_journal mid es) e (with_journal new (es ++ e ∷ [])) → Told (with_journal old journal) (with_journal new (es ++ e ∷ [])))
      → RunsOut old new a before c after Told
  entry_more e one line Told tells = record {
    entries = so_far.entries ++ e ∷ [];
    made = λ journal. subst (λ es. Told (with_journal old journal) (with_journal new es)) (append_assoc journal so_far.entries (e ∷ []))
        (tells journal (journal ++ so_far.entries) (so_far.made journal) (one.adds (journal ++ so_far.entries)));
    leads = leads_then old mid new so_far.entries (e ∷ []) so_far.leads one.leads;
    gone = λ ports start played gone.
        let lines : first_lines ports (played ++ so_far.entries) ++ line_text ports e ≡ first_lines ports (played ++ (so_far.entries ++ e ∷ [])) =
        flat_map_more (line_text ports) (codes "trace 2\n") (played ++ so_far.entries) e ∙ ap (first_lines ports) (append_assoc played so_far.entries (e ∷ [])) in
        subst (IsGone start c after) lines (line ports start (first_lines ports (played ++ so_far.entries)) (so_far.gone ports start played gone));
  }

  -- one firing more
  pub fired_more : (who' : Who) (comp port chan : ℕ) (mv : Move) (value : Option ℕ) (all : ℕ) → all ≡ fired + 1 → IsPicked (with_journal mid []) (who.Worker 1) next (Fired who' comp port chan mv value) → Enters mid (Fired who' comp port chan mv value) new
      → ((start : Option (List ℕ)) (text : List ℕ) → IsGone start b between text → IsGone start c after (text ++ fired_text who' comp mv chan value)) → RunsOut old new a before c after (λ x y. Plays x y (who.Worker 1) from all (suc comp))
  fired_more who' comp port chan mv value all is picked one line =
      let same : comp + 1 ≡ suc comp = omega arith in
      entry_more (Fired who' comp port chan mv value) one (λ ports. line) (λ x y. Plays x y (who.Worker 1) from all (suc comp))
      (λ journal es plays adds. subst (λ n. Plays (with_journal old journal) (with_journal new (es ++ Fired who' comp port chan mv value ∷ [])) (who.Worker 1) from n (suc comp)) (sym is)
      (subst (λ to. Plays (with_journal old journal) (with_journal new (es ++ Fired who' comp port chan mv value ∷ [])) (who.Worker 1) from (fired + 1) to) same
      (plays_more (with_journal old journal) (with_journal mid es) (with_journal new (es ++ Fired who' comp port chan mv value ∷ [])) (who.Worker 1) who' from fired next comp port chan mv value plays picked adds)))

  -- none can move
  pub rests_then : (fuel all : ℕ) → all ≡ fired → fired < fuel → Enters mid (Rested (who.Worker 1)) new → ((start : Option (List ℕ)) (text : List ℕ) → IsGone start b between text → IsGone start c after (text ++ rested_text (who.Worker 1)))
      → RunsOut old new a before c after (λ x y. Ran x y (who.Worker 1) from fuel (Rest all))
  rests_then fuel all is fewer one line =
      entry_more (Rested (who.Worker 1)) one (λ ports. line) (λ x y. Ran x y (who.Worker 1) from fuel (Rest all))
      (λ journal es plays adds. subst (λ n. Ran (with_journal old journal) (with_journal new (es ++ Rested (who.Worker 1) ∷ [])) (who.Worker 1) from fuel (Rest n)) (sym is) (fewer, (with_journal mid es, next, plays, adds)))

-- the same lines, of which more have gone out
pub room_made : (old new : Progress) (a b c : Option (List ℕ)) (before between after : Outgoing) (Made : Simulation → Simulation → Type 0) → ((start : Option (List ℕ)) (text : List ℕ) → IsGone start b between text → IsGone start c after text) → RunsOut old new a before b between Made → RunsOut old new a before c after Made
room_made old new a b c before between after Made goes runs = record {
  entries = runs.entries;
  made = runs.made;
  leads = runs.leads;
  gone = λ ports start played gone. goes start (first_lines ports (played ++ runs.entries)) (runs.gone ports start played gone);
}

-- lines of a run, and those of what follows
runs_both : (old mid new : Progress) (a b c : Option (List ℕ)) (before between after : Outgoing) (One Two Both : Simulation → Simulation → Type 0) → ((x y z : Simulation) → One x y → Two y z → Both x z)
    → RunsOut old mid a before b between One → RunsOut mid new b between c after Two → RunsOut old new a before c after Both
runs_both old mid new a b c before between after One Two Both both one two = record {
  entries = one.entries ++ two.entries;
  made = λ journal. subst (λ es. Both (with_journal old journal) (with_journal new es)) (append_assoc journal one.entries two.entries)
      (both (with_journal old journal) (with_journal mid (journal ++ one.entries)) (with_journal new ((journal ++ one.entries) ++ two.entries)) (one.made journal) (two.made (journal ++ one.entries)));
  leads = leads_then old mid new one.entries two.entries one.leads two.leads;
  gone = λ ports start played gone. subst (λ es. IsGone start c after (first_lines ports es)) (append_assoc played one.entries two.entries)
      (two.gone ports start (played ++ one.entries) (one.gone ports start played gone));
}

module _ (old mid new : Progress) (a b c : Option (List ℕ)) (before between after : Outgoing) (from fired next : ℕ) (so_far : RunsOut old mid a before b between (λ x y. Plays x y (who.Worker 1) from fired next)) where
  -- more firings
  pub runs_on : (n to all : ℕ) → all ≡ fired + n → RunsOut mid new b between c after (λ x y. Plays x y (who.Worker 1) next n to) → RunsOut old new a before c after (λ x y. Plays x y (who.Worker 1) from all to)
  runs_on n to all is =
      runs_both old mid new a b c before between after (λ x y. Plays x y (who.Worker 1) from fired next) (λ x y. Plays x y (who.Worker 1) next n to) (λ x y. Plays x y (who.Worker 1) from all to)
      (λ x y z one two. subst (λ k. Plays x z (who.Worker 1) from k to) (sym is) (plays_then x y z (who.Worker 1) from fired next n to one two)) so_far

  -- more firings, until none can move
  pub runs_to_rest : (due n fuel all : ℕ) → all ≡ fired + n → fired + due ≤ fuel → RunsOut mid new b between c after (λ x y. Ran x y (who.Worker 1) next due (Rest n)) → RunsOut old new a before c after (λ x y. Ran x y (who.Worker 1) from fuel (Rest all))
  runs_to_rest due n fuel all is enough =
      runs_both old mid new a b c before between after (λ x y. Plays x y (who.Worker 1) from fired next) (λ x y. Ran x y (who.Worker 1) next due (Rest n)) (λ x y. Ran x y (who.Worker 1) from fuel (Rest all))
      (λ x y z one (fewer, (m, to, plays, adds)).
      (omega (arith, is, enough, fewer), (m, to, subst (λ k. Plays x m (who.Worker 1) from k to) (sym is) (plays_then x y m (who.Worker 1) from fired next n to one plays), adds))) so_far

-- the same lines, of which more is said
runs_as : (old new : Progress) (a c : Option (List ℕ)) (before after : Outgoing) (Made Told : Simulation → Simulation → Type 0) → ((journal es : List Entry) → Made (with_journal old journal) (with_journal new es) → Told (with_journal old journal) (with_journal new es)) → RunsOut old new a before c after Made → RunsOut old new a before c after Told
runs_as old new a c before after Made Told tells runs = record {
  entries = runs.entries;
  made = λ journal. tells journal (journal ++ runs.entries) (runs.made journal);
  leads = runs.leads;
  gone = runs.gone;
}

-- no entry more is let in
pub stops_full : (old mid new : Progress) (a b : Option (List ℕ)) (before between : Outgoing) (fired next fuel : ℕ) → fired < fuel → (new ≡ mid) × (mid.left ≡ 0) → RunsOut old mid a before b between (λ x y. Plays x y (who.Worker 1) 1 fired next) → RunsOut old new a before b between (λ x y. Ran x y (who.Worker 1) 1 fuel (Refused fired JournalFull))
stops_full old mid new a b before between fired next fuel fewer (same, full) runs =
    subst (λ (p : Progress). RunsOut old p a before b between (λ x y. Ran x y (who.Worker 1) 1 fuel (Refused fired JournalFull))) (sym same)
    (runs_as old mid a b before between (λ x y. Plays x y (who.Worker 1) 1 fired next) (λ x y. Ran x y (who.Worker 1) 1 fuel (Refused fired JournalFull))
    (λ journal es plays. (fewer, (next, plays, omega (arith, full)))) runs)

-- an entry takes one of those that are still let in
pub entered_left : (old : Progress) (e : Entry) (new : Progress) → Enters old e new → new.left + 1 ≡ old.left
entered_left old e new one = let adds = one.adds [] in omega (arith, adds.limit)

-- all firings were made
pub runs_all : (old new : Progress) (a b : Option (List ℕ)) (before between : Outgoing) (fired next fuel : ℕ) → fired ≡ fuel → RunsOut old new a before b between (λ x y. Plays x y (who.Worker 1) 1 fired next) → RunsOut old new a before b between (λ x y. Ran x y (who.Worker 1) 1 fuel (Spent fuel))
runs_all old new a b before between fired next fuel all runs =
    runs_as old new a b before between (λ x y. Plays x y (who.Worker 1) 1 fired next) (λ x y. Ran x y (who.Worker 1) 1 fuel (Spent fuel))
    (λ journal es plays. (refl, (next, subst (λ n. Plays (with_journal old journal) (with_journal new es) (who.Worker 1) 1 n next) all plays))) runs

-- Words that are played one after another.
use Rattle.std.proofs.Common.{◌≡◌, ◌<◌, ◌+◌, ℕ, zero, suc, take, drop, get_or, add-one, arith, Option, None, Some, List, [], ◌∷◌, ◌++◌, length, inl, inr, refl, sym, ap, subst, ◌∙◌, append_assoc, append-nil}
use Rattle.bz_model.specs.declared.event.Entry.{Entry}
use Rattle.bz_model.specs.declared.event.Entry.TheVariants.{Fired, Host, Rested}
use Rattle.bz_model.specs.declared.event.Cmd.{Cmd}
use Rattle.bz_model.specs.declared.event.Cmd.TheVariants as word
use Rattle.bz_model.specs.declared.event.HostCmd.{HostCmd}
use Rattle.bz_model.specs.declared.event.Reply.{Reply}
use Rattle.bz_model.specs.declared.event.Who.{Who}
use Rattle.bz_model.specs.declared.event.Who.TheVariants as who
use Rattle.bz_model.specs.declared.event.NetError.{NetError}
use Rattle.bz_model.specs.declared.event.NetError.TheVariants.{UnknownPort, WrongSide, ValueMissing, ValueUnwanted, TooLarge, NotEnabled, JournalFull, Memory}
use Rattle.bz_model.specs.Nets.{Site, Wiring, State, opening}
use Rattle.bz_model.specs.Plays.{Firings, PlaysWord, PlaysWords, StopsWord, Stops}
use Rattle.bz_model.specs.Runs as runs
use Rattle.bz_net.specs.declared.event.RunEnd.TheVariants.{Rest, Spent, Refused}
use Rattle.bz_net.specs.Simulation.{Simulation}
use Rattle.bz_net.specs.Replies.{Replies, RefusesCommand}
use Rattle.bz_net.specs.Running.{Ran}
use Rattle.bz_cli_core.specs.Playing.{Playing, PlaysOne, Refuses, StopsOne}
use Rattle.bz_cli_core.specs.Running.{NoneRefused, refusal_in}
use Rattle.std.proofs.Math.Seq.{drop-cons, take-suc}
use Rattle.std.proofs.lemmas.List.{take-append-drop, length-take-le}

-- one more word is played to its end
pub PlaysWords-push : (w : Wiring) (s : State) (cmds : List Cmd) (es : List Entry) (m : State) (cmd : Cmd) (more : List Entry) (n : State) → PlaysWords w s cmds es m → PlaysWord w m cmd more n → PlaysWords w s (cmds ++ cmd ∷ []) (es ++ more) n
PlaysWords-push w s [] es m cmd more n plays word =
    (more, [], n, subst (λ t. PlaysWord w t cmd more n) plays.1 word, (refl, refl), ap (λ xs. xs ++ more) plays.0 ∙ sym (append-nil more))
PlaysWords-push w s (c ∷ cs) es m cmd more n (first, others, next, word_1, words, are) word =
    (first, others ++ more, next, word_1, PlaysWords-push w next cs others m cmd more n words word, ap (λ xs. xs ++ more) are ∙ append_assoc first others more)

-- ---- replies that are refusals

pub none_both : (xs ys : List Entry) → NoneRefused xs → NoneRefused ys → NoneRefused (xs ++ ys)
none_both [] ys a b = b
none_both (x ∷ xs) ys a b = (a.0, none_both xs ys a.1 b)

refuses_host : (cmd : HostCmd) (e : Entry) (o : Option Reply) → refusal_in e ≡ o → Refuses (word.Host cmd) (e ∷ []) o
refuses_host cmd e None is = (is, tt)
refuses_host cmd e (Some reply) is = (cmd, refl, (e, refl, is))

-- no firing is a host command
firings_none : (sites : List Site) (who : Who) (s : State) (from n : ℕ) (es : List Entry) (to : ℕ) (last : State) → Firings sites who s from n es to last → NoneRefused es
firings_none sites who s from zero es to last none = subst NoneRefused (sym none.0) tt
firings_none sites who s from (suc n) [] to last f = absurd f
firings_none sites who s from (suc n) (Fired who' c p k mv value ∷ es) to last (by, next, low, (state, step, others)) = (refl, firings_none sites who state (c + 1) n es to last others)
firings_none sites who s from (suc n) (Host who' verb port value reply ∷ es) to last f = absurd f
firings_none sites who s from (suc n) (Rested who' ∷ es) to last f = absurd f

-- ---- words

-- a host command that was agreed, whose entry is told as this one
pub host_plays : (old new : Simulation) (cmd : HostCmd) (reply : Reply) (r : Replies old new (who.Host 1) cmd.verb cmd.port.items cmd.value reply) → PlaysOne old new (word.Host cmd) (refusal_in (Host (who.Host 1) cmd.verb r.port cmd.value reply))
host_plays old new cmd reply r = record {
  entries = Host (who.Host 1) cmd.verb r.port cmd.value reply ∷ [];
  journal = r.adds.journal;
  refuses = refuses_host cmd (Host (who.Host 1) cmd.verb r.port cmd.value reply) _ refl;
  plays = record { port = r.port; reply = reply; port_is = r.port_is; entries_are = refl; steps = r.adds.follows };
  wiring = r.adds.wiring;
  limit = r.adds.limit;
}

host_stop : (old : Simulation) (cmd : HostCmd) (e : NetError) → RefusesCommand old cmd.verb cmd.port.items cmd.value e → StopsWord old.wiring old.state (word.Host cmd) e []
host_stop old cmd UnknownPort r = (r, refl)
host_stop old cmd WrongSide r = (r, refl)
host_stop old cmd ValueMissing r = (r, refl)
host_stop old cmd ValueUnwanted r = (r, refl)
host_stop old cmd TooLarge r = (r, refl)
host_stop old cmd NotEnabled r = (r, refl)
host_stop old cmd JournalFull r = (r.0, refl)
host_stop old cmd Memory r = (r.0, refl)

host_full : (old : Simulation) (cmd : HostCmd) (e : NetError) → RefusesCommand old cmd.verb cmd.port.items cmd.value e → e ≡ JournalFull → length old.journal ≡ old.limit
host_full old cmd UnknownPort r full = absurd (cc)
host_full old cmd WrongSide r full = absurd (cc)
host_full old cmd ValueMissing r full = absurd (cc)
host_full old cmd ValueUnwanted r full = absurd (cc)
host_full old cmd TooLarge r full = absurd (cc)
host_full old cmd NotEnabled r full = absurd (cc)
host_full old cmd JournalFull r full = r.1
host_full old cmd Memory r full = absurd (cc)

-- a host command that was refused
pub host_stops : (old new : Simulation) (cmd : HostCmd) (e : NetError) → RefusesCommand old cmd.verb cmd.port.items cmd.value e → new ≡ old → StopsOne old new (word.Host cmd) e
host_stops old new cmd e r same = record {
  entries = [];
  journal = ap (λ (v : Simulation). v.journal) same ∙ sym (append-nil old.journal);
  stops = host_stop old cmd e r;
  none = tt;
  wiring = ap (λ (v : Simulation). v.wiring) same;
  limit = ap (λ (v : Simulation). v.limit) same;
  full = λ is. subst (λ (v : Simulation). length v.journal ≡ v.limit) (sym same) (host_full old cmd e r is);
}

-- firings that were all made
pub fires_all : (old new : Simulation) (due fired : ℕ) → Ran old new (who.Worker 1) 1 due (Spent fired) → PlaysOne old new (word.Run due) None
fires_all old new due fired (all, (to, plays)) = record {
  refuses = firings_none old.wiring.sites (who.Worker 1) old.state 1 fired plays.entries to new.state plays.firings;
  entries = plays.entries;
  journal = plays.journal;
  plays = inl (to, subst (λ n. runs_of n) all plays.firings);
  wiring = plays.wiring;
  limit = plays.limit;
}
  where
    runs_of : ℕ → Type 0
    runs_of n = Firings old.wiring.sites (who.Worker 1) old.state 1 n plays.entries to new.state

-- firings that ended at rest
pub rests_before : (old new : Simulation) (due fired : ℕ) → Ran old new (who.Worker 1) 1 due (Rest fired) → PlaysOne old new (word.Run due) None
rests_before old new due fired (fewer, (mid, to, plays, adds)) = record {
  refuses = none_both plays.entries (Rested (who.Worker 1) ∷ []) (firings_none old.wiring.sites (who.Worker 1) old.state 1 fired plays.entries to mid.state plays.firings) (refl, tt);
  entries = plays.entries ++ Rested (who.Worker 1) ∷ [];
  journal = adds.journal ∙ (ap (λ xs. xs ++ Rested (who.Worker 1) ∷ []) plays.journal ∙ append_assoc old.journal plays.entries (Rested (who.Worker 1) ∷ []));
  plays = inr (record {
    fired = fired;
    fewer = fewer;
    firings = plays.entries;
    fires = (to, subst (λ s. Firings old.wiring.sites (who.Worker 1) old.state 1 fired plays.entries to s) (sym adds.follows.1) plays.firings);
    rests = subst (λ (w : Wiring). runs.Rest w.sites new.state) plays.wiring (subst (λ s. runs.Rest mid.wiring.sites s) (sym adds.follows.1) adds.follows.0);
    entries_are = refl;
  });
  wiring = adds.wiring ∙ plays.wiring;
  limit = adds.limit ∙ plays.limit;
}

-- firings of which one was refused
pub firing_stops : (old new : Simulation) (due fired : ℕ) (e : NetError) → Ran old new (who.Worker 1) 1 due (Refused fired e) → StopsOne old new (word.Run due) e
firing_stops old new due fired UnknownPort (fewer, (to, plays, r)) = absurd r
firing_stops old new due fired WrongSide (fewer, (to, plays, r)) = absurd r
firing_stops old new due fired ValueMissing (fewer, (to, plays, r)) = absurd r
firing_stops old new due fired ValueUnwanted (fewer, (to, plays, r)) = absurd r
firing_stops old new due fired TooLarge (fewer, (to, plays, r)) = absurd r
firing_stops old new due fired NotEnabled (fewer, (to, plays, r)) = absurd r
firing_stops old new due fired JournalFull (fewer, (to, plays, r)) =
    record { entries = plays.entries; journal = plays.journal; stops = (fired, new.state, fewer, (to, plays.firings)); none = firings_none _ _ _ _ _ _ _ _ plays.firings; wiring = plays.wiring; limit = plays.limit; full = λ is. r }
firing_stops old new due fired Memory (fewer, (to, plays, r)) =
    record { entries = plays.entries; journal = plays.journal; stops = (fired, new.state, fewer, (to, plays.firings)); none = firings_none _ _ _ _ _ _ _ _ plays.firings; wiring = plays.wiring; limit = plays.limit; full = λ is. absurd (cc) }

-- so many words were played, and one more is
module _ (old mid new : Simulation) (cmds : List Cmd) (i : ℕ) (cmd : Cmd) (lt : i < length cmds) (is : cmd ≡ get_or cmds i cmd) (playing : Playing old mid (take i cmds)) where
  pub longer : take (i + 1) cmds ≡ take i cmds ++ cmd ∷ []
  longer = rw add-one (take-suc cmds i cmd lt ∙ ap (λ x. take i cmds ++ x ∷ []) (sym is))

  pub plays_on : (refusal : Option Reply) → PlaysOne mid new cmd refusal → Playing old new (take (i + 1) cmds)
  plays_on refusal one = record {
    plays = rw (longer, one.journal) (subst (λ (w : Wiring). PlaysWords w (opening w) (take i cmds ++ cmd ∷ []) (mid.journal ++ one.entries) new.state) (sym one.wiring) (PlaysWords-push mid.wiring (opening mid.wiring) (take i cmds) mid.journal mid.state cmd one.entries new.state playing.plays one.plays));
    wiring = one.wiring ∙ playing.wiring;
    limit = one.limit ∙ playing.limit;
  }

  pub cut_at : cmds ≡ take i cmds ++ cmd ∷ drop (suc i) cmds
  cut_at = sym (take-append-drop i cmds) ∙ ap (λ xs. take i cmds ++ xs) (drop-cons cmds i cmd lt ∙ ap (λ x. x ∷ drop (suc i) cmds) (sym is))

  pub stops_there : (e : NetError) → StopsOne mid new cmd e → Stops new.wiring new.limit cmds (i + 1) e new.journal
  stops_there e one = record {
    earlier = take i cmds;
    cmd = cmd;
    later = drop (suc i) cmds;
    cmds_are = cut_at;
    at_is = ap (λ n. n + 1) (sym (length-take-le i cmds (omega arith)));
    front = mid.journal;
    back = one.entries;
    mid = mid.state;
    plays = subst (λ (w : Wiring). PlaysWords w (opening w) (take i cmds) mid.journal mid.state) (sym one.wiring) playing.plays;
    stops = subst (λ (w : Wiring). StopsWord w mid.state cmd e one.entries) (sym one.wiring) one.stops;
    entries_are = one.journal;
    full = one.full;
  }

-- Any list of events: each of them in turn, what they enter, and the headline of all of them.
use Rattle.std.proofs.Common.{◌≡◌, ℕ, List, [], ◌∷◌, ◌++◌, refl, sym, ap, subst, ◌∙◌, append_assoc}
use Rattle.std.specs.Prelude.{Ok, Err, IfOk, IfErr, OnErr}
use Rattle.std.proofs.lemmas.List.{append-nil}
use Rattle.bz_model.specs.declared.event.Who.{Who}
use Rattle.bz_model.specs.declared.event.Entry.{Entry}
use Rattle.bz_model.specs.declared.event.Entry.TheVariants as entry
use Rattle.bz_model.specs.declared.event.NetError.{NetError}
use Rattle.bz_model.specs.declared.event.NetError.TheVariants.{UnknownPort, WrongSide, ValueMissing, ValueUnwanted, TooLarge, NotEnabled, JournalFull, Memory}
use Rattle.bz_model.specs.Nets.{Wiring, StepsAt, opening}
use Rattle.bz_model.specs.Runs as runs
use Rattle.bz_net.specs.declared.event.Event.TheVariants.{Move, Fire, Step, Rest as AskRest, Host as Command}
use Rattle.bz_net.specs.declared.event.Answer.TheVariants.{Fired, Rest, Host}
use Rattle.bz_net.specs.declared.event.RestReply.TheVariants.{Rest as IsRest, Ready}
use Rattle.bz_net.specs.Simulation.{Simulation, Adds}
use Rattle.bz_net.specs.Replies.{RefusesFire, RefusesLowest, IsFiring, IsLowestFiring, IsPicked}
use Rattle.bz_net.specs.Serving.{IsAFiring, Serves, Refuses}
use Rattle.bz_net.specs.Headline.{Asked, Outcome, Answers, Decides, Offers, Reports, EachInTurn, Headline, BreaksNone, entries_of, entry_of, host_entry, last_of}
use Rattle.bz_net.specs.Unbroken.{IsUnbroken, UnbrokenRun}

-- events so far, each answered as it is to be
pub record AnsweredAll (old new : Simulation) (events : List Asked) (answers : List Outcome) : Type 0 where
  pub nets : List Simulation
  pub last : last_of old nets ≡ new
  pub replies : EachInTurn Answers old nets events answers
  pub between : EachInTurn BreaksNone old nets events answers

last_push : (net : Simulation) (nets : List Simulation) (next : Simulation) → last_of net (nets ++ next ∷ []) ≡ next
last_push net [] next = refl
last_push net (n ∷ nets) next = last_push n nets next

-- one more event in turn
each_push : (P : Simulation → Simulation → Asked → Outcome → Type 0) (net : Simulation) (nets : List Simulation) (events : List Asked) (answers : List Outcome) (next : Simulation) (asked : Asked) (told : Outcome) → EachInTurn P net nets events answers → P (last_of net nets) next asked told → EachInTurn P net (nets ++ next ∷ []) (events ++ asked ∷ []) (answers ++ told ∷ [])
each_push P net [] [] [] next asked told each one = (one, tt)
each_push P net [] [] (t ∷ answers) next asked told each one = absurd each
each_push P net [] (a ∷ events) answers next asked told each one = absurd each
each_push P net (n ∷ nets) [] answers next asked told each one = absurd each
each_push P net (n ∷ nets) (a ∷ events) [] next asked told each one = absurd each
each_push P net (n ∷ nets) (a ∷ events) (t ∷ answers) next asked told each one = (each.0, each_push P n nets events answers next asked told each.1 one)

-- an event is told what it is to be
answered_by : (old new : Simulation) (asked : Asked) (told : Outcome) → IfOk told (Serves old new asked.0 asked.1) → IfErr told (Refuses old asked.1) → OnErr told (new ≡ old) → Answers old new asked told
answered_by old new (who, event) (Ok answer) ok cause err = ok
answered_by old new (who, event) (Err e) ok cause err = (cause, err)

pub answered_more : (old mid new : Simulation) (events : List Asked) (answers : List Outcome) (asked : Asked) (told : Outcome) → AnsweredAll old mid events answers → IfOk told (Serves mid new asked.0 asked.1) → IfErr told (Refuses mid asked.1) → OnErr told (new ≡ mid) → IsUnbroken new.state → AnsweredAll old new (events ++ asked ∷ []) (answers ++ told ∷ [])
answered_more old mid new events answers asked told all ok cause err unbroken = record {
  nets = all.nets ++ new ∷ [];
  last = last_push old all.nets new;
  replies = each_push Answers old all.nets events answers new asked told all.replies (subst (λ n. Answers n new asked told) (sym all.last) (answered_by mid new asked told ok cause err));
  between = each_push BreaksNone old all.nets events answers new asked told all.between unbroken;
}

-- what holds of each event that is answered as it is to be
each_map : (P Q : Simulation → Simulation → Asked → Outcome → Type 0) → ((old new : Simulation) (asked : Asked) (told : Outcome) → P old new asked told → Q old new asked told) → (net : Simulation) (nets : List Simulation) (events : List Asked) (answers : List Outcome) → EachInTurn P net nets events answers → EachInTurn Q net nets events answers
each_map P Q f net [] [] [] each = tt
each_map P Q f net [] [] (t ∷ answers) each = absurd each
each_map P Q f net [] (a ∷ events) answers each = absurd each
each_map P Q f net (n ∷ nets) [] answers each = absurd each
each_map P Q f net (n ∷ nets) (a ∷ events) [] each = absurd each
each_map P Q f net (n ∷ nets) (a ∷ events) (t ∷ answers) each = (f net n a t each.0, each_map P Q f n nets events answers each.1)

-- a firing that was asked for was enabled
fired_there : (old new : Simulation) (who : Who) (c p : ℕ) (e : Entry) → IsFiring who c p e → Adds old e new → StepsAt old.wiring.sites old.state c p
fired_there old new who c p (entry.Fired who' c' p' k mv value) is adds = subst (λ d. StepsAt old.wiring.sites old.state d p) is.1 (subst (λ q. StepsAt old.wiring.sites old.state c' q) is.2 adds.follows.steps_at)
fired_there old new who c p (entry.Host who' verb port value reply) is adds = absurd is
fired_there old new who c p (entry.Rested who') is adds = absurd is

fired_lowest : (old : Simulation) (who : Who) (c : ℕ) (e : Entry) → IsLowestFiring old who c e → runs.CanStep old.wiring.sites old.state c
fired_lowest old who c (entry.Fired who' c' p' k mv value) is = (p', is.2.steps_at)
fired_lowest old who c (entry.Host who' verb port value reply) is = absurd is
fired_lowest old who c (entry.Rested who') is = absurd is

refused_move : (net : Simulation) (c p : ℕ) (e : NetError) → RefusesFire net c p e → Decides (StepsAt net.wiring.sites net.state c p) net (Err e)
refused_move net c p JournalFull r = r
refused_move net c p Memory r = r
refused_move net c p NotEnabled r = r
refused_move net c p UnknownPort r = absurd r
refused_move net c p WrongSide r = absurd r
refused_move net c p ValueMissing r = absurd r
refused_move net c p ValueUnwanted r = absurd r
refused_move net c p TooLarge r = absurd r

refused_lowest : (net : Simulation) (c : ℕ) (e : NetError) → RefusesLowest net c e → Decides (runs.CanStep net.wiring.sites net.state c) net (Err e)
refused_lowest net c JournalFull r = r
refused_lowest net c Memory r = r
refused_lowest net c NotEnabled r = r
refused_lowest net c UnknownPort r = absurd r
refused_lowest net c WrongSide r = absurd r
refused_lowest net c ValueMissing r = absurd r
refused_lowest net c ValueUnwanted r = absurd r
refused_lowest net c TooLarge r = absurd r

-- every enabled move is offered and no other
offers : (old new : Simulation) (asked : Asked) (told : Outcome) → Answers old new asked told → Offers old new asked told
offers old new (who, Move c p) (Ok (Fired e)) is = fired_there old new who c p e is.0 is.1
offers old new (who, Move c p) (Ok (Rest reply)) is = absurd is
offers old new (who, Move c p) (Ok (Host reply)) is = absurd is
offers old new (who, Move c p) (Err e) is = refused_move old c p e is.0
offers old new (who, Fire c) (Ok (Fired e)) is = fired_lowest old who c e is.0
offers old new (who, Fire c) (Ok (Rest reply)) is = absurd is
offers old new (who, Fire c) (Ok (Host reply)) is = absurd is
offers old new (who, Fire c) (Err e) is = refused_lowest old c e is.0
offers old new (who, Step from) told is = tt
offers old new (who, AskRest) told is = tt
offers old new (who, Command cmd) told is = tt

-- one that was picked could move
picked : (old : Simulation) (who : Who) (from : ℕ) (e : Entry) → IsAFiring e → IsPicked old who from e → runs.Rest old.wiring.sites old.state → ⊥
picked old who from (entry.Fired who' c p k mv value) is pick rest = rest c pick.1.is_in
picked old who from (entry.Host who' verb port value reply) is pick rest = absurd is
picked old who from (entry.Rested who') is pick rest = absurd is

-- rest is reported exactly where none is left
reports : (old new : Simulation) (asked : Asked) (told : Outcome) → Answers old new asked told → Reports old new asked told
reports old new (who, Move c p) (Ok (Fired e)) is = tt
reports old new (who, Move c p) (Ok (Rest IsRest)) is = absurd is
reports old new (who, Move c p) (Ok (Rest (Ready d))) is = tt
reports old new (who, Move c p) (Ok (Host reply)) is = tt
reports old new (who, Move c p) (Err e) is = tt
reports old new (who, Fire c) (Ok (Fired e)) is = tt
reports old new (who, Fire c) (Ok (Rest IsRest)) is = absurd is
reports old new (who, Fire c) (Ok (Rest (Ready d))) is = tt
reports old new (who, Fire c) (Ok (Host reply)) is = tt
reports old new (who, Fire c) (Err e) is = tt
reports old new (who, Step from) (Ok (Fired e)) is = picked old who from e is.0 is.1
reports old new (who, Step from) (Ok (Rest IsRest)) is = is.follows.0
reports old new (who, Step from) (Ok (Rest (Ready d))) is = absurd is
reports old new (who, Step from) (Ok (Host reply)) is = absurd is
reports old new (who, Step from) (Err e) is = is.0
reports old new (who, AskRest) (Ok (Fired e)) is = absurd is
reports old new (who, AskRest) (Ok (Rest IsRest)) is = is.follows.0
reports old new (who, AskRest) (Ok (Rest (Ready d))) is = λ rest. rest d is.0.is_in
reports old new (who, AskRest) (Ok (Host reply)) is = absurd is
reports old new (who, AskRest) (Err e) is = is.0
reports old new (who, Command cmd) (Ok (Fired e)) is = tt
reports old new (who, Command cmd) (Ok (Rest IsRest)) is = absurd is
reports old new (who, Command cmd) (Ok (Rest (Ready d))) is = tt
reports old new (who, Command cmd) (Ok (Host reply)) is = tt
reports old new (who, Command cmd) (Err e) is = tt

-- what an event enters
record Enters (old new : Simulation) (entries : List Entry) : Type 0 where
  wiring : new.wiring ≡ old.wiring
  journal : new.journal ≡ old.journal ++ entries

by_adds : (old new : Simulation) (e : Entry) → Adds old e new → Enters old new (e ∷ [])
by_adds old new e adds = record { wiring = adds.wiring; journal = adds.journal }

by_none : (old new : Simulation) → new ≡ old → Enters old new []
by_none old new same = record {
  wiring = ap (λ (n : Simulation). n.wiring) same;
  journal = ap (λ (n : Simulation). n.journal) same ∙ sym (append-nil old.journal);
}

enters : (old new : Simulation) (asked : Asked) (told : Outcome) → Answers old new asked told → Enters old new (entry_of old.wiring asked told)
enters old new (who, Move c p) (Ok (Fired e)) is = by_adds old new e is.1
enters old new (who, Move c p) (Ok (Rest reply)) is = absurd is
enters old new (who, Move c p) (Ok (Host reply)) is = absurd is
enters old new (who, Move c p) (Err e) is = by_none old new is.1
enters old new (who, Fire c) (Ok (Fired e)) is = by_adds old new e is.1
enters old new (who, Fire c) (Ok (Rest reply)) is = absurd is
enters old new (who, Fire c) (Ok (Host reply)) is = absurd is
enters old new (who, Fire c) (Err e) is = by_none old new is.1
enters old new (who, Step from) (Ok (Fired e)) is = by_adds old new e is.2
enters old new (who, Step from) (Ok (Rest IsRest)) is = by_adds old new (entry.Rested who) is
enters old new (who, Step from) (Ok (Rest (Ready d))) is = absurd is
enters old new (who, Step from) (Ok (Host reply)) is = absurd is
enters old new (who, Step from) (Err e) is = by_none old new is.1
enters old new (who, AskRest) (Ok (Fired e)) is = absurd is
enters old new (who, AskRest) (Ok (Rest IsRest)) is = by_adds old new (entry.Rested who) is
enters old new (who, AskRest) (Ok (Rest (Ready d))) is = by_none old new is.1
enters old new (who, AskRest) (Ok (Host reply)) is = absurd is
enters old new (who, AskRest) (Err e) is = by_none old new is.1
enters old new (who, Command cmd) (Ok (Fired e)) is = absurd is
enters old new (who, Command cmd) (Ok (Rest reply)) is = absurd is
enters old new (who, Command cmd) (Ok (Host reply)) is = subst (λ o. Enters old new (host_entry who cmd.now o reply)) (sym is.port_is) (by_adds old new _ is.adds)
enters old new (who, Command cmd) (Err e) is = by_none old new is.1

-- what all of them enter
enter_all : (old : Simulation) (nets : List Simulation) (events : List Asked) (answers : List Outcome) → EachInTurn Answers old nets events answers → Enters old (last_of old nets) (entries_of old.wiring events answers)
enter_all old [] [] [] each = by_none old old refl
enter_all old [] [] (t ∷ answers) each = absurd each
enter_all old [] (a ∷ events) answers each = absurd each
enter_all old (n ∷ nets) [] answers each = absurd each
enter_all old (n ∷ nets) (a ∷ events) [] each = absurd each
enter_all old (n ∷ nets) (a ∷ events) (t ∷ answers) each =
    let first = enters old n a t each.0 in
    let rest = enter_all n nets events answers each.1 in
    record {
      wiring = rest.wiring ∙ first.wiring;
      journal =
          rest.journal
          ∙ ap (λ (w : Wiring). n.journal ++ entries_of w events answers) first.wiring
          ∙ ap (λ (l : List Entry). l ++ entries_of old.wiring events answers) first.journal
          ∙ append_assoc old.journal (entry_of old.wiring a t) (entries_of old.wiring events answers);
    }

pub headline : (old new : Simulation) (events : List Asked) (answers : List Outcome) → AnsweredAll old new events answers → runs.Run new.wiring (opening new.wiring) new.journal new.state → UnbrokenRun new.wiring (opening new.wiring) new.journal new.state → Headline old new events answers
headline old new events answers all run unbroken =
    let entered = enter_all old all.nets events answers all.replies in
    record {
      nets = all.nets;
      last = all.last;
      replies = all.replies;
      wiring = subst (λ (n : Simulation). n.wiring ≡ old.wiring) all.last entered.wiring;
      journal = subst (λ (n : Simulation). n.journal ≡ old.journal ++ entries_of old.wiring events answers) all.last entered.journal;
      run = run;
      offered = each_map Answers Offers offers old all.nets events answers all.replies;
      rest = each_map Answers Reports reports old all.nets events answers all.replies;
      ever = unbroken;
      between = all.between;
    }

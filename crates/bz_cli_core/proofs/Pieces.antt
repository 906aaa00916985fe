-- A play whose entries go out in pieces.
use Rattle.std.proofs.Common.{◌≡◌, ◌≢◌, ◌<◌, ◌≤◌, ◌+◌, ℕ, suc, Bool, true, false, Option, Some, None, Result, Ok, Err, List, [], ◌∷◌, ◌++◌, length, take, drop, get_or, refl, sym, ap, subst, ◌∙◌, arith, append_assoc, append-nil, codes}
use Rattle.std.specs.Prelude.{if◌then◌else◌}
use Rattle.std.specs.List.{flat_map}
use Rattle.std.proofs.lemmas.Bool.{false≢true}
use Rattle.std.proofs.lemmas.List.{length-take-le, take_all}
use Rattle.std.proofs.lemmas.Grind.{flat_map-append}
use Rattle.std.specs.List.Sorted.{IsStrictlyIncreasing}
use Rattle.std.specs.Io.KnownBytes.{Appends}
use Rattle.bz_model.specs.declared.event.Entry.{Entry}
use Rattle.bz_model.specs.declared.event.Cmd.{Cmd}
use Rattle.bz_model.specs.declared.event.HostCmd.{HostCmd}
use Rattle.bz_model.specs.declared.event.NetError.{NetError}
use Rattle.bz_model.specs.declared.event.NetError.TheVariants.{Memory}
use Rattle.bz_model.specs.Clashes.{AreClashed}
use Rattle.bz_model.specs.Names.{External}
use Rattle.bz_model.specs.declared.event.Reply.{Reply}
use Rattle.bz_model.specs.Nets.{Wiring, opening}
use Rattle.bz_model.specs.Plays.{PlaysWords, Stops}
use Rattle.bz_model.specs.Traces.{line_text, clash_text, trace_text}
use Rattle.bz_trace_text.specs.Writing.{HasLines, first_lines}
use Rattle.bz_net.specs.Progress.{Progress, IsToldBy, LeadsOn, with_journal}
use Rattle.bz_net.specs.Replies.{RefusesCommand, RefusesEntry}
use Rattle.bz_net.specs.Simulation.{Simulation}
use Rattle.bz_cli_core.specs.declared.pending.Pending.{Pending}
use Rattle.bz_cli_core.specs.Playing.{Playing, PlaysOne, Refuses, StopsOne}
use Rattle.bz_cli_core.specs.declared.playing.End.{End}
use Rattle.bz_cli_core.specs.declared.playing.End.TheVariants as end
use Rattle.bz_cli_core.specs.Running.{GoesOn, IsPlayed, NoneRefused, WritesTrace}
use Rattle.bz_cli_input.specs.Stopping.{AppendsSome}
use Rattle.bz_cli_core.specs.Sending.{GoesOut, IsSent, PlaysOut, PutsOut, SentUp}
use Rattle.bz_cli_core.proofs.Words.{cut_at, longer, none_both, plays_on, stops_there}
use Rattle.bz_cli_input.proofs.Written.{all_of}

-- all of a text went out, whatever a flush answered
pub puts_all : {A E : Type 0} (r : Result A E) (old new : Option (List ℕ)) (text : List ℕ) → Appends old new text → PutsOut old new r text
puts_all (Ok u) old new text went = went
puts_all (Err e) old new text went = all_of old new text went

module _ (ports : List External) (start : Option (List ℕ)) where
  -- entries are held behind those that were
  pub sent_more : (failed : Bool) (now : Option (List ℕ)) (played held more : List Entry) → SentUp ports start played now failed held → SentUp ports start (played ++ more) now failed (held ++ more)
  sent_more false now played held more (written, is, has) = (written, ap (λ es. es ++ more) is ∙ append_assoc written held more, has)
  sent_more true now played held more (front, rest, cut, went) =
      (front, rest ++ flat_map (line_text ports) more, longer, went)
    where
      longer : first_lines ports (played ++ more) ≡ front ++ (rest ++ flat_map (line_text ports) more)
      longer =
          ap (λ t. codes "trace 2\n" ++ t) (flat_map-append (line_text ports) played more)
          ∙ (ap (λ t. t ++ flat_map (line_text ports) more) cut ∙ append_assoc front rest (flat_map (line_text ports) more))

  -- what failed within the lines failed within the trace
  pub some_of_trace : (now : Option (List ℕ)) (played : List Entry) (comps : List ℕ) → AppendsSome start now (first_lines ports played) → AppendsSome start now (trace_text ports played comps)
  some_of_trace now played comps (front, rest, cut, went) =
      (front, rest ++ flat_map clash_text comps, ap (λ t. t ++ flat_map clash_text comps) cut ∙ append_assoc front rest (flat_map clash_text comps), went)

  -- where nothing is held and the writer didn't fail, all lines went out
  pub all_sent : (failed : Bool) (now : Option (List ℕ)) (played held : List Entry) → failed ≡ false → held ≡ [] → SentUp ports start played now failed held → HasLines ports start now played
  all_sent true now played held is none sent = absurd (cc)
  all_sent false now played held is none (written, all, has) = subst (λ es. HasLines ports start now es) (sym (all ∙ (ap (λ es. written ++ es) none ∙ append-nil written))) has

-- a net without a journal refuses no entry for memory
pub entry_wants : (p : Progress) (journal : List Entry) (e : NetError) → RefusesEntry (with_journal p journal) e → e ≢ Memory
entry_wants p journal e refuses is =
    let here : RefusesEntry (with_journal p journal) Memory = subst (RefusesEntry (with_journal p journal)) is refuses in
    let below = here.0 in let none = here.1 in
    omega (arith, below, none)

pub command_wants : (p : Progress) (journal : List Entry) (cmd : HostCmd) (e : NetError) → RefusesCommand (with_journal p journal) cmd.verb cmd.port.items cmd.value e → e ≢ Memory
command_wants p journal cmd e refuses is =
    entry_wants p journal Memory (subst (RefusesCommand (with_journal p journal) cmd.verb cmd.port.items cmd.value) is refuses).1 refl

-- no entry more
pub no_more : (p : Progress) (played : List Entry) → IsToldBy p played → IsToldBy p (played ++ [])
no_more p played told = subst (IsToldBy p) (sym (append-nil played)) told

pub leads_then : (a b c : Progress) (es fs : List Entry) → LeadsOn a es b → LeadsOn b fs c → LeadsOn a (es ++ fs) c
leads_then a b c es fs one two journal told = subst (IsToldBy c) (append_assoc journal es fs) (two (journal ++ es) (one journal told))

-- the same entries on the way, of which more is said
pub goes_as : (old new : Progress) (a c : Option (List ℕ)) (before after : Pending) (Made Told : Simulation → Simulation → Type 0) → ((x y : Simulation) → Made x y → Told x y) → GoesOut old new a before c after Made → GoesOut old new a before c after Told
goes_as old new a c before after Made Told tells goes = record {
  entries = goes.entries;
  made = λ journal. tells (with_journal old journal) (with_journal new (journal ++ goes.entries)) (goes.made journal);
  leads = goes.leads;
  sent = goes.sent;
}

-- what was sent of the entries so far stays sent, with more of them held
pub sent_with : (ports : List External) (b : Option (List ℕ)) (between after : Pending) (more : List Entry) → after.failed ≡ between.failed → after.entries.items ≡ between.entries.items ++ more → (start : Option (List ℕ)) (played : List Entry) → IsSent ports start played b between → IsSent ports start (played ++ more) b after
sent_with ports b between after more failed held start played sent =
    subst (λ (f : Bool). SentUp ports start (played ++ more) b f after.entries.items) (sym failed)
    (subst (λ es. SentUp ports start (played ++ more) b between.failed es) (sym held) (sent_more ports start between.failed b played between.entries.items more sent))

-- Words so far, and their entries on the way. In a strict play no reply to them was a refusal.
pub record WordsOut (old new : Progress) (old_now : Option (List ℕ)) (before : Pending) (new_now : Option (List ℕ)) (after : Pending) (strict : Bool) (cmds : List Cmd) : Type 0 where
  pub entries : List Entry
  pub playing : Playing (with_journal old []) (with_journal new entries) cmds
  pub none : GoesOn strict entries
  pub told : IsToldBy new entries
  pub sent : (start : Option (List ℕ)) → IsSent old.wiring.ports start [] old_now before → IsSent old.wiring.ports start entries new_now after

goes_on : (strict : Bool) (cmd : Cmd) (refusal : Option Reply) (front es : List Entry) → (if strict then refusal else None) ≡ None → GoesOn strict front → Refuses cmd es refusal → GoesOn strict (front ++ es)
goes_on true cmd refusal front es is none refuses = λ so. none_both front es (none so) (subst (Refuses cmd es) is refuses)
goes_on false cmd refusal front es is none refuses = λ so. absurd (false≢true so)

halts : (strict : Bool) (refusal : Option Reply) (reply : Reply) → (if strict then refusal else None) ≡ Some reply → (strict ≡ true) × (refusal ≡ Some reply)
halts true refusal reply is = (refl, is)
halts false refusal reply is = cc

-- so many words were played, and one more is
module _ (old mid new : Progress) (a b c : Option (List ℕ)) (before between after : Pending) (strict : Bool) (cmds : List Cmd) (i : ℕ) (cmd : Cmd) (lt : i < length cmds) (is : cmd ≡ get_or cmds i cmd) (so_far : WordsOut old mid a before b between strict (take i cmds)) where
  told_then : (Made : Simulation → Simulation → Type 0) (one : GoesOut mid new b between c after Made) → IsToldBy new (so_far.entries ++ one.entries)
  told_then Made one = one.leads so_far.entries so_far.told

  sent_then : (Made : Simulation → Simulation → Type 0) (one : GoesOut mid new b between c after Made) (start : Option (List ℕ)) → IsSent old.wiring.ports start [] a before → IsSent old.wiring.ports start (so_far.entries ++ one.entries) c after
  sent_then Made one start sent =
      subst (λ (w : Wiring). IsSent w.ports start (so_far.entries ++ one.entries) c after) so_far.playing.wiring
      (one.sent start so_far.entries (subst (λ (w : Wiring). IsSent w.ports start so_far.entries b between) (sym so_far.playing.wiring) (so_far.sent start sent)))

  -- the play ends with this word
  ends_here : (Made : Simulation → Simulation → Type 0) (one : GoesOut mid new b between c after Made) (end : End) → new.wiring ≡ mid.wiring → (with_journal new (so_far.entries ++ one.entries)).limit ≡ (with_journal mid so_far.entries).limit
      → (length (so_far.entries ++ one.entries) + new.left ≡ old.left → IsPlayed new.wiring old.left strict cmds end (so_far.entries ++ one.entries)) → PlaysOut old new a before c after strict cmds end
  ends_here Made one end same limit plays =
      let wiring : new.wiring ≡ old.wiring = same ∙ so_far.playing.wiring in
      let left : length (so_far.entries ++ one.entries) + new.left ≡ old.left = omega (arith, limit, so_far.playing.limit) in
      record {
        entries = so_far.entries ++ one.entries;
        plays = plays left;
        told = told_then Made one;
        sent = λ start sent. subst (λ (w : Wiring). IsSent w.ports start (so_far.entries ++ one.entries) c after) (sym wiring)
            (sent_then Made one start (subst (λ (w : Wiring). IsSent w.ports start [] a before) wiring sent));
        wiring = wiring;
        left = left;
      }

  module _ (refusal : Option Reply) (one : GoesOut mid new b between c after (λ x y. PlaysOne x y cmd refusal)) where
    refuses_here : Refuses cmd one.entries refusal
    refuses_here = let made = one.made [] in subst (λ es. Refuses cmd es refusal) (sym made.journal) made.refuses

    playing_here : Playing (with_journal old []) (with_journal new (so_far.entries ++ one.entries)) (take (i + 1) cmds)
    playing_here = plays_on (with_journal old []) (with_journal mid so_far.entries) (with_journal new (so_far.entries ++ one.entries)) cmds i cmd lt is so_far.playing refusal (one.made so_far.entries)

    pub word_more : (if strict then refusal else None) ≡ None → WordsOut old new a before c after strict (take (i + 1) cmds)
    word_more goes = record {
      entries = so_far.entries ++ one.entries;
      playing = playing_here;
      none = goes_on strict cmd refusal so_far.entries one.entries goes so_far.none refuses_here;
      told = told_then (λ x y. PlaysOne x y cmd refusal) one;
      sent = sent_then (λ x y. PlaysOne x y cmd refusal) one;
    }

    pub word_halts : (reply : Reply) → (if strict then refusal else None) ≡ Some reply → PlaysOut old new a before c after strict cmds (end.Halt (record { word = i + 1; reply = reply }))
    word_halts reply halting =
        let (so, some) = halts strict refusal reply halting in
        let (host, cmd_is, (last, entry, refused)) : Refuses cmd one.entries (Some reply) = subst (Refuses cmd one.entries) some refuses_here in
        let made = one.made so_far.entries in
        ends_here (λ x y. PlaysOne x y cmd refusal) one (end.Halt (record { word = i + 1; reply = reply })) made.wiring made.limit (λ left. (
          so,
          record {
            earlier = take i cmds;
            cmd = host;
            later = drop (suc i) cmds;
            cmds_are = subst (λ (x : Cmd). cmds ≡ take i cmds ++ x ∷ drop (suc i) cmds) cmd_is (cut_at (with_journal old []) (with_journal mid so_far.entries) (with_journal new (so_far.entries ++ one.entries)) cmds i cmd lt is so_far.playing);
            word_is = ap (λ n. n + 1) (sym (length-take-le i cmds (omega (arith, lt))));
            plays = record {
              last = new.state;
              plays = subst (λ (x : Cmd). PlaysWords new.wiring (opening new.wiring) (take i cmds ++ x ∷ []) (so_far.entries ++ one.entries) new.state) cmd_is
                  (subst (λ xs. PlaysWords new.wiring (opening new.wiring) xs (so_far.entries ++ one.entries) new.state)
                  (longer (with_journal old []) (with_journal mid so_far.entries) (with_journal new (so_far.entries ++ one.entries)) cmds i cmd lt is so_far.playing) playing_here.plays);
            };
            front = so_far.entries;
            last = last;
            entries_are = ap (λ es. so_far.entries ++ es) entry;
            none = so_far.none so;
            refused = refused;
          },
        ))

  pub word_stops : (e : NetError) → GoesOut mid new b between c after (λ x y. StopsOne x y cmd e) → PlaysOut old new a before c after strict cmds (end.Stop (record { word = i + 1; error = e }))
  word_stops e one =
      let made = one.made so_far.entries in let alone = one.made [] in
      ends_here (λ x y. StopsOne x y cmd e) one (end.Stop (record { word = i + 1; error = e })) made.wiring made.limit (λ left. (
        subst (λ n. Stops new.wiring n cmds (i + 1) e (so_far.entries ++ one.entries)) left
            (stops_there (with_journal old []) (with_journal mid so_far.entries) (with_journal new (so_far.entries ++ one.entries)) cmds i cmd lt is so_far.playing e made),
        λ so. none_both so_far.entries one.entries (so_far.none so) (subst NoneRefused (sym alone.journal) alone.none),
      ))

-- all words were played
pub words_all : (old new : Progress) (a c : Option (List ℕ)) (before after : Pending) (strict : Bool) (cmds : List Cmd) (i : ℕ) → length cmds ≤ i → WordsOut old new a before c after strict (take i cmds) → PlaysOut old new a before c after strict cmds end.All
words_all old new a c before after strict cmds i all words =
    let wiring = words.playing.wiring in
    record {
      entries = words.entries;
      plays = (record { last = new.state; plays = subst (λ xs. PlaysWords new.wiring (opening new.wiring) xs words.entries new.state) (take_all i cmds all) words.playing.plays }, words.none);
      told = words.told;
      sent = λ start sent. subst (λ (w : Wiring). IsSent w.ports start words.entries c after) (sym wiring) (words.sent start (subst (λ (w : Wiring). IsSent w.ports start [] a before) wiring sent));
      wiring = wiring;
      left = let limit = words.playing.limit in omega (arith, limit);
    }

-- the same of the net that has listed the components at which requests met
pub played_listed : (old new : Progress) (a c : Option (List ℕ)) (before after : Pending) (strict : Bool) (cmds : List Cmd) (end : End) → PlaysOut old new a before c after strict cmds end → PlaysOut old (record new { listed = true }) a before c after strict cmds end
played_listed old new a c before after strict cmds end p = record {
  entries = p.entries;
  plays = p.plays;
  told = record { run = p.told.run; clashed = p.told.clashed };
  sent = p.sent;
  wiring = p.wiring;
  left = p.left;
}

-- what was played, the text that goes out of it, and the net that it leads to
pub written_out : (old new : Progress) (a c : Option (List ℕ)) (before after : Pending) (strict : Bool) (cmds : List Cmd) (end : End) (p : PlaysOut old new a before c after strict cmds end) (comps : List ℕ) → IsStrictlyIncreasing new.clashed → comps ≡ new.clashed → (Out : List ℕ → Type 0) → Out (trace_text new.wiring.ports p.entries comps)
    → (trace : WritesTrace old.wiring old.left strict cmds end Out) × (new.wiring ≡ old.wiring) × IsToldBy new trace.entries
written_out old new a c before after strict cmds end p comps rising is Out out =
    let clashed : AreClashed new.wiring p.entries comps = rw is (record { rising = rising; exact = p.told.clashed }) in
    subst (λ (w : Wiring). (trace : WritesTrace w old.left strict cmds end Out) × (new.wiring ≡ w) × IsToldBy new trace.entries) p.wiring (
      record {
        entries = p.entries;
        plays = p.plays;
        within = let left = p.left in omega (arith, left);
        trace = trace_text new.wiring.ports p.entries comps;
        is_trace = record { comps = comps; clashed = clashed; text_is = refl };
        out = out;
      },
      refl,
      p.told,
    )

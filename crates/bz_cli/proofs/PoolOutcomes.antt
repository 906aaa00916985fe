-- What went out of a pool, from what was played and what was written.
use Rattle.std.proofs.Common.{Bool, ◌≡◌, ◌≤◌, ◌+◌, ◌<◌, ℕ, Option, None, Some, Result, Ok, Err, List, [], ◌∷◌, length, map, take, get_or, inl, inr, subst, refl, sym, ap, ◌∙◌}
use Rattle.std.specs.Prelude.{IfSome, vec_len}
use Rattle.std.specs.List.{All, list_all}
use Rattle.std.specs.declared.alloc.Global.{Global}
use Rattle.std.specs.declared.vec.Vec.{Vec}
use Rattle.std.proofs.lemmas.List.{take_more}
use Rattle.std.proofs.lemmas.List.Elements.{All-append, All-cons, All-nil}
use Rattle.std.specs.Io.KnownBytes.{Appends}
use Rattle.bz_model.specs.declared.event.HostCmd.{HostCmd}
use Rattle.bz_model.specs.declared.event.NetError.{NetError}
use Rattle.bz_model.specs.declared.event.NetError.TheVariants as net
use Rattle.bz_model.specs.declared.event.Who.{Who}
use Rattle.bz_model.specs.Clashes.{AreClashed}
use Rattle.bz_model.specs.Nets.{Wiring, opening}
use Rattle.bz_model.specs.Runs.{Run}
use Rattle.bz_model.specs.Traces.{trace_text}
use Rattle.bz_locked.specs.Terms.{Terms, terms}
use Rattle.bz_locked.specs.Journal.{fired_count}
use Rattle.bz_net.specs.Simulation.{Simulation}
use Rattle.bz_locked.specs.declared.closing.CloseError.TheVariants as close
use Rattle.bz_past.specs.Moments.{moment}
use Rattle.bz_past.specs.declared.standing.Turn.{Turn}
use Rattle.bz_pool.specs.Pooled.{ArePlayed, RefusesPool}
use Rattle.bz_pool.specs.declared.pool.PoolError.{PoolError}
use Rattle.bz_pool.specs.declared.pool.PoolError.TheVariants as pool
use Rattle.bz_words.specs.HostWords.{hosts_of, SpellsHosts}
use Rattle.bz_words.specs.declared.words.SessionError.{SessionError}
use Rattle.bz_words.specs.declared.words.SessionError.TheVariants as session
use Rattle.bz_words.specs.Words.{Spell}
use Rattle.bz_pool.specs.declared.playing.End.{End}
use Rattle.bz_cli.specs.declared.pooling.Pooled.{Pooled}
use Rattle.bz_cli_input.specs.declared.fault.Fault.{Fault}
use Rattle.bz_cli_input.specs.declared.fault.Fault.TheVariants.{Write}
use Rattle.bz_cli_input.specs.Limits.{input_limit}
use Rattle.bz_cli_input.specs.Opening.{Denotes}
use Rattle.std.proofs.KnownBytes.{Keeps-refl}
use Rattle.bz_cli.specs.Pooling.{IsAgreed, IsFirstRefused, IsOfPool, Pools, PoolsText, RefusesSessions, TellsRefused, WritesClosed, WritesPlay, fault_for, is_done}
use Rattle.bz_cli_input.specs.Stopping.{AppendsSome}
use Rattle.bz_cli_input.specs.Statuses.{of_words}
use Rattle.bz_cli.specs.Faults.{of_pool}

-- what was played on the net, and the text that goes out of it
pub pooled_so : (fuel : ℕ) (closed : Simulation) (lists : List (Vec HostCmd Global)) (workers : ℕ) (ends : List End) (stopped : Bool) (turns : List Turn) → ArePlayed (terms closed.wiring closed.limit fuel (length lists)) lists workers (moment closed stopped turns) ends → (comps : List ℕ) (Out : List ℕ → Type 0) → AreClashed closed.wiring closed.journal comps
    → Run closed.wiring (opening closed.wiring) closed.journal closed.state → length closed.journal ≤ closed.limit → fired_count closed.journal ≤ fuel → Out (trace_text closed.wiring.ports closed.journal comps) → WritesPlay (terms closed.wiring closed.limit fuel (length lists)) lists workers ends Out
pooled_so fuel closed lists workers ends stopped turns played comps Out clashed run few within out = record {
  entries = closed.journal;
  to = closed.state;
  run = run;
  last = moment closed stopped turns;
  ends_there = (refl, refl);
  few = few;
  within = within;
  played = played;
  trace = trace_text closed.wiring.ports closed.journal comps;
  is_trace = record { comps = comps; clashed = clashed; text_is = refl };
  out = out;
}

-- its trace went out, no end is a refusal, and the net is answered as it was left
pub closed_well : (fuel : ℕ) (closed : Simulation) (lists : List (Vec HostCmd Global)) (workers : ℕ) (ends : Vec End Global) (stopped : Bool) (turns : List Turn) → ArePlayed (terms closed.wiring closed.limit fuel (length lists)) lists workers (moment closed stopped turns) ends.items → (comps : List ℕ) (old new : Option (List ℕ)) → AreClashed closed.wiring closed.journal comps
    → Run closed.wiring (opening closed.wiring) closed.journal closed.state → length closed.journal ≤ closed.limit → fired_count closed.journal ≤ fuel → Appends old new (trace_text closed.wiring.ports closed.journal comps) → All IsAgreed ends.items → vec_len ends ≡ length lists + workers
    → (done : Bool) → done ≡ list_all is_done (take (length lists) ends.items)
    → WritesClosed (terms closed.wiring closed.limit fuel (length lists)) lists workers old new (Ok (record { net = closed; ends = ends; is_done = done }))
unfolding pooled_so
closed_well fuel closed lists workers ends stopped turns played comps old new clashed run few within out agreed counted done done_is =
    (pooled_so fuel closed lists workers ends.items stopped turns played comps (Appends old new) clashed run few within out, agreed, counted, (refl, refl, refl), done_is)

-- an end that was refused is told behind the trace
pub told_behind : (t : Terms) (lists : List (Vec HostCmd Global)) (workers : ℕ) (old new : Option (List ℕ)) (e : NetError) (who : Who) → TellsRefused t lists workers old new (fault_for e who) → WritesClosed t lists workers old new (Err (fault_for e who))
told_behind t lists workers old new net.UnknownPort who p = p
told_behind t lists workers old new net.WrongSide who p = p
told_behind t lists workers old new net.ValueMissing who p = p
told_behind t lists workers old new net.ValueUnwanted who p = p
told_behind t lists workers old new net.TooLarge who p = p
told_behind t lists workers old new net.NotEnabled who p = p
told_behind t lists workers old new net.JournalFull who p = p
told_behind t lists workers old new net.Memory who p = p

pub first_told : (t : Terms) (lists : List (Vec HostCmd Global)) (workers sessions : ℕ) (ends : List End) (old new : Option (List ℕ)) (fault : Fault) → length lists ≡ sessions → IsFirstRefused ends sessions fault → WritesPlay t lists workers ends (Appends old new) → WritesClosed t lists workers old new (Err fault)
first_told t lists workers sessions ends old new fault count first p =
    let is : IsFirstRefused ends (length lists) fault = subst (λ n. IsFirstRefused ends n fault) (sym count) first in
    let tells : TellsRefused t lists workers old new fault = (ends, p, is) in
    subst (λ f. WritesClosed t lists workers old new (Err f)) (sym is.told) (told_behind t lists workers old new is.error _ (subst (λ f. TellsRefused t lists workers old new f) is.told tells))

-- the writer failed
pub cut_short : (t : Terms) (lists : List (Vec HostCmd Global)) (workers : ℕ) (ends : List End) (old new : Option (List ℕ)) (fault : Fault) → fault ≡ Write → WritesPlay t lists workers ends (AppendsSome old new) → WritesClosed t lists workers old new (Err fault)
cut_short t lists workers ends old new fault is p = rw is (ends, p)

-- what the reader had is the text
pub pools_on : (known : Option (List ℕ)) (items : List ℕ) (words : List (List ℕ)) (asked : Option (List ℕ)) (workers fuel journal : ℕ) (sessions : List (Vec HostCmd Global)) (old new : Option (List ℕ)) (answer : Result Pooled Fault) → IfSome known (λ xs. items ≡ xs) → length items ≤ input_limit → Spell words (map hosts_of sessions) → PoolsText items asked fuel journal sessions workers old new answer → IfSome known (λ text. Pools text words asked workers fuel journal old new answer)
pools_on None items words asked workers fuel journal sessions old new answer whole fits are plays = tt
pools_on (Some xs) items words asked workers fuel journal sessions old new answer whole fits are plays =
    inr (sessions, are, inr (subst (λ text. (length text ≤ input_limit) × PoolsText text asked fuel journal sessions workers old new answer) whole (fits, plays)))

-- why a pool came to no close
pub of_a_pool : (e : PoolError) → RefusesPool e → IsOfPool (of_pool e)
of_a_pool (pool.Close (close.Discord who at)) is = absurd is
of_a_pool (pool.Close close.Memory) is = tt
of_a_pool pool.Memory is = tt
of_a_pool pool.NoThread is = tt

-- the words are refused
pub unfit : (words : List (List ℕ)) (e : SessionError) → SpellsHosts words (Err e) → RefusesSessions words (of_words e)
unfit words (session.BadWord at) is = is
unfit words (session.Event e) is = absurd is
unfit words session.Memory is = tt

-- one more end is no refusal
pub agreed_more : (ends : List End) (i : ℕ) (d : End) → i < length ends → All IsAgreed (take i ends) → IsAgreed (get_or ends i d) → All IsAgreed (take (i + 1) ends)
agreed_more ends i d lt all here = rw (take_more ends i d lt) (All-append IsAgreed (take i ends) (get_or ends i d ∷ []) all (All-cons IsAgreed (get_or ends i d) [] here (All-nil IsAgreed)))

-- terms are told by their parts
pub same_terms : (v w : Wiring) (l m fuel j k : ℕ) → v ≡ w → l ≡ m → j ≡ k → terms v l fuel j ≡ terms w m fuel k
same_terms v w l m fuel j k of_wiring of_limit of_sessions =
    ap (λ (x : Wiring). terms x l fuel j) of_wiring ∙ ap (λ (n : ℕ). terms w n fuel j) of_limit ∙ ap (λ (n : ℕ). terms w m fuel n) of_sessions

-- the pool came to no close
pub no_close : (text : List ℕ) (asked : Option (List ℕ)) (fuel journal : ℕ) (lists : List (Vec HostCmd Global)) (workers : ℕ) (w : Wiring) → Denotes text asked w → (old : Option (List ℕ)) (fault : Fault) (e : PoolError) → RefusesPool e → fault ≡ of_pool e → PoolsText text asked fuel journal lists workers old old (Err fault)
no_close text asked fuel journal lists workers w denotes old fault e why is = inr (w, denotes, inl (subst IsOfPool (sym is) (of_a_pool e why), Keeps-refl old))

-- it was closed
pub closed_so : (text : List ℕ) (asked : Option (List ℕ)) (fuel journal : ℕ) (lists : List (Vec HostCmd Global)) (workers : ℕ) (w : Wiring) (t : Terms) (old new : Option (List ℕ)) (answer : Result Pooled Fault) → Denotes text asked w → t ≡ terms w journal fuel (length lists) → WritesClosed t lists workers old new answer → PoolsText text asked fuel journal lists workers old new answer
closed_so text asked fuel journal lists workers w t old new answer denotes same writes =
    inr (w, denotes, inr (subst (λ (u : Terms). WritesClosed u lists workers old new answer) same writes))

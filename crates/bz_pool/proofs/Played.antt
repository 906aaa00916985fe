-- The plays of all sessions, in turn.
use Rattle.std.proofs.Common.{Bool, true, false, true≢false, sym, Result, Ok, Err, ◌≡◌, ℕ, suc, ◌+◌, List, [], ◌∷◌, ◌++◌, length, map, get_or, refl, ap, subst, ◌∙◌, arith, inl, inr, ⊎_elim, length-append}
use Rattle.std.specs.Prelude.{IfErr, IfOk, OnErr}
use Rattle.std.specs.List.{All}
use Rattle.std.specs.declared.alloc.Global.{Global}
use Rattle.std.specs.declared.vec.Vec.{Vec}
use Rattle.bz_model.specs.declared.event.Entry.{Entry}
use Rattle.bz_model.specs.declared.event.HostCmd.{HostCmd}
use Rattle.bz_model.specs.declared.event.Who.{Who}
use Rattle.bz_model.specs.declared.event.Who.TheVariants.{Host}
use Rattle.bz_locked.specs.Closing.{RecordAgrees, StandsSo}
use Rattle.bz_locked.specs.Journal.{part_of}
use Rattle.bz_locked.specs.Parts.{SessionView, WorkerView}
use Rattle.bz_pool.specs.declared.playing.End.{End}
use Rattle.bz_past.specs.Moments.{Leads}
use Rattle.bz_past.specs.Owners.{AreNamed}
use Rattle.bz_past.specs.Standings.{turned_by}
use Rattle.bz_past.specs.Stopping.{HasCause, IsStoppedFor}
use Rattle.bz_past.specs.declared.view.Moment.{Moment}
use Rattle.bz_locked.proofs.Seeing.{once_on}
use Rattle.bz_pool.specs.declared.playing.End.TheVariants as end
use Rattle.bz_words.specs.declared.words.SessionError.TheVariants as session
use Rattle.bz_pool.proofs.Growing.{played_on}
use Rattle.std.proofs.lemmas.List.Elements.{All-append, All-nil, All-cons, All-head, All-tail, All-same}
use Rattle.bz_pool.specs.Crews.{AddsWork, EachPlayed, EachWorked, HavePlayed}
use Rattle.bz_pool.specs.Pooled.{ArePlayed, IsPlayed, PlayInTurn, StopsFor, WorkEndIs, in_turn}
use Rattle.bz_locked.specs.Terms.{Terms}

-- one session more
pub played_more : (w : Terms) (ls : List (Vec HostCmd Global)) (ss : List SessionView) (es : List End) (l : Vec HostCmd Global) (s : SessionView) (e : End) → EachPlayed w ls ss es → IsPlayed w s.seat.saw s.who l.items e s.own → EachPlayed w (ls ++ l ∷ []) (ss ++ s ∷ []) (es ++ e ∷ [])
played_more w [] [] [] l s e all is = (is, tt)
played_more w [] [] (y ∷ ys) l s e all is = absurd all
played_more w [] (x ∷ xs) ys l s e all is = absurd all
played_more w (z ∷ zs) [] ys l s e all is = absurd all
played_more w (z ∷ zs) (x ∷ xs) [] l s e all is = absurd all
played_more w (z ∷ zs) (x ∷ xs) (y ∷ ys) l s e all is = (all.0, played_more w zs xs ys l s e all.1 is)

-- there are as many sessions as lists
pub played_count : (w : Terms) (ls : List (Vec HostCmd Global)) (ss : List SessionView) (es : List End) → EachPlayed w ls ss es → (length ss ≡ length ls) × (length es ≡ length ls)
played_count w [] [] [] all = (refl, refl)
played_count w [] [] (y ∷ ys) all = absurd all
played_count w [] (x ∷ xs) ys all = absurd all
played_count w (z ∷ zs) [] ys all = absurd all
played_count w (z ∷ zs) (x ∷ xs) [] all = absurd all
played_count w (z ∷ zs) (x ∷ xs) (y ∷ ys) all = let rest = played_count w zs xs ys all.1 in (ap suc rest.0, ap suc rest.1)

-- what stands behind the first
abbrev behind : List Who → List Who
behind [] = []
behind (x ∷ xs) = xs

-- what led to this has led to what comes of it
played_later : (t : Terms) (a b : Moment) (who : Who) (words : List HostCmd) (end : End) (own : List Entry) → Leads a b → turned_by who b.turns ≡ turned_by who a.turns → IsPlayed t a who words end own → IsPlayed t b who words end own
played_later t a b who words end own on same is = record {
  had = is.had;
  answers = played_on t is.had a b who words end [] own on is.answers;
  word = is.word;
  stood = (is.stood.0, is.stood.1, same ∙ is.stood.2);
}

work_on : (t : Terms) (a b : Moment) (end : End) → Leads a b → WorkEndIs t a end → WorkEndIs t b end
work_on t a b end.Done on is = absurd is
work_on t a b (end.Resting word) on is = (is.0, once_on t a b _ on is.1)
work_on t a b (end.Spent word) on is = (is.0, once_on t a b _ on is.1)
work_on t a b (end.Stopped word) on is = (is.0, once_on t a b _ on is.1)
work_on t a b (end.Refused word (session.Event e)) on is =
    (is.0, ⊎_elim (λ o. inl (once_on t a b _ on o)) (λ o. inr (o.0, (o.1.0, once_on t a b _ on o.1.1))) is.1)
work_on t a b (end.Refused word (session.BadWord at)) on is = absurd is
work_on t a b (end.Refused word session.Memory) on is = absurd is

-- one worker more
pub worked_more : (t : Terms) (ws : List WorkerView) (es : List End) (v : WorkerView) (e : End) → EachWorked t ws es → WorkEndIs t v.seat.saw e → EachWorked t (ws ++ v ∷ []) (es ++ e ∷ [])
worked_more t [] [] v e all is = (is, tt)
worked_more t [] (y ∷ ys) v e all is = absurd all
worked_more t (x ∷ xs) [] v e all is = absurd all
worked_more t (x ∷ xs) (y ∷ ys) v e all is = (all.0, worked_more t xs ys v e all.1 is)

all_worked : (t : Terms) (last : Moment) (ws : List WorkerView) (es : List End) → All (λ (v : WorkerView). Leads v.seat.saw last) ws → EachWorked t ws es → All (WorkEndIs t last) es
all_worked t last [] [] saw all = All-nil (WorkEndIs t last)
all_worked t last [] (y ∷ ys) saw all = absurd all
all_worked t last (x ∷ xs) [] saw all = absurd all
all_worked t last (x ∷ xs) (y ∷ ys) saw all =
    let Saw : WorkerView → Type 0 = λ v. Leads v.seat.saw last in
    All-cons (WorkEndIs t last) y ys (work_on t x.seat.saw last y (All-head Saw x xs saw) all.0) (all_worked t last xs ys (All-tail Saw x xs saw) all.1)

-- where the sessions are Host k+1 and on, and each record is its part of the journal, they play in turn
pub in_turn_played : (w : Terms) (last : Moment) (k : ℕ) (ls : List (Vec HostCmd Global)) (ss : List SessionView) (es : List End) → map (λ s. s.who) ss ≡ in_turn Host k (length ls) → All (RecordAgrees last.net.journal) ss → All (λ (s : SessionView). Leads s.seat.saw last) ss → All (StandsSo last.turns) ss → EachPlayed w ls ss es → PlayInTurn w last k ls es
in_turn_played w last k [] [] [] whos own saw stood all = tt
in_turn_played w last k [] [] (y ∷ ys) whos own saw stood all = absurd all
in_turn_played w last k [] (x ∷ xs) ys whos own saw stood all = absurd all
in_turn_played w last k (z ∷ zs) [] ys whos own saw stood all = absurd all
in_turn_played w last k (z ∷ zs) (x ∷ xs) [] whos own saw stood all = absurd all
in_turn_played w last k (z ∷ zs) (x ∷ xs) (y ∷ ys) whos own saw stood all =
    let who : x.who ≡ Host (suc k) = ap (λ (l : List Who). get_or l 0 x.who) whos in
    let mine : x.own ≡ part_of (Host (suc k)) last.net.journal = own 0 x (omega arith) ∙ ap (λ h. part_of h last.net.journal) who in
    let later : IsPlayed w last x.who z.items y x.own = played_later w x.seat.saw last x.who z.items y x.own (saw 0 x (omega arith)) (stood 0 x (omega arith)) all.0 in
    let is : IsPlayed w last (Host (suc k)) z.items y x.own = subst (λ (h : Who). IsPlayed w last h z.items y x.own) who later in
    (subst (λ (l : List Entry). IsPlayed w last (Host (suc k)) z.items y l) mine is, in_turn_played w last (suc k) zs xs ys (ap behind whos) (λ i d lt. own (suc i) d (omega arith)) (λ i d lt. saw (suc i) d (omega arith)) (λ i d lt. stood (suc i) d (omega arith)) all.1)

-- the sessions played their lists, and then come the ends of the workers
pub have_played : (w : Terms) (mid lists : List (Vec HostCmd Global)) (ss : List SessionView) (vs : List WorkerView) (n m : ℕ) (es ends : List End) → mid ≡ lists → n ≡ m → EachPlayed w mid ss es → AddsWork w vs n es ends → HavePlayed w lists ss vs m ends
have_played w mid lists ss vs n m es ends same number played adds = record {
  of_sessions = es;
  played = subst (λ (l : List (Vec HostCmd Global)). EachPlayed w l ss es) same played;
  then = subst (λ k. AddsWork w vs k es ends) number adds;
}

-- there is an end of each
pub ends_count : (w : Terms) (lists : List (Vec HostCmd Global)) (ss : List SessionView) (vs : List WorkerView) (m : ℕ) (ends : List End) → HavePlayed w lists ss vs m ends → length ends ≡ length lists + m
ends_count w lists ss vs m ends have =
    let counts = played_count w lists ss have.of_sessions have.played in
    let grown = ap length have.then.grown ∙ length-append have.of_sessions have.then.of_workers in
    omega (arith, counts.1, grown, have.then.number)

-- who was told to stop was told so of a moment that has led to the last, where all is still stopped
module _ (t : Terms) (workers : ℕ) (last : Moment) (why : last.stopped ≡ true → HasCause workers last) where
  host_stops : (who : Who) (words : List HostCmd) (e : End) (own : List Entry) → IsPlayed t last who words e own → StopsFor workers last e
  host_stops who words end.Done own is = tt
  host_stops who words (end.Resting word) own is = tt
  host_stops who words (end.Spent word) own is = tt
  host_stops who words (end.Stopped word) own is = let once = is.answers.why.2.0 in why (once.leads.stays once.fact.1)
  host_stops who words (end.Refused word x) own is = tt

  hosts_stop : (k : ℕ) (ls : List (Vec HostCmd Global)) (es : List End) → PlayInTurn t last k ls es → All (StopsFor workers last) es
  hosts_stop k [] [] all = All-nil (StopsFor workers last)
  hosts_stop k [] (e ∷ es) all = absurd all
  hosts_stop k (l ∷ ls) [] all = absurd all
  hosts_stop k (l ∷ ls) (e ∷ es) all = All-cons (StopsFor workers last) e es (host_stops (Host (suc k)) l.items e (part_of (Host (suc k)) last.net.journal) all.0) (hosts_stop (suc k) ls es all.1)

  worker_stops : (e : End) → WorkEndIs t last e → StopsFor workers last e
  worker_stops end.Done is = tt
  worker_stops (end.Resting word) is = tt
  worker_stops (end.Spent word) is = tt
  worker_stops (end.Stopped word) is = why (is.1.leads.stays is.1.fact)
  worker_stops (end.Refused word x) is = tt

  workers_stop : (es : List End) → All (WorkEndIs t last) es → All (StopsFor workers last) es
  workers_stop [] all = All-nil (StopsFor workers last)
  workers_stop (e ∷ es) all = All-cons (StopsFor workers last) e es (worker_stops e (All-head (WorkEndIs t last) e es all)) (workers_stop es (All-tail (WorkEndIs t last) e es all))

-- where the stopper was not used, an entry was refused
pub unused : (u : Bool) (workers : ℕ) (now : Moment) → u ≡ false → IsStoppedFor u workers now → now.stopped ≡ true → HasCause workers now
unused u workers now not why stopped = ⊎_elim (λ used. absurd (true≢false (sym used ∙ not))) (λ cause. cause) (why stopped)

-- what the threads did, told of the journal
pub all_played : (w : Terms) (last : Moment) (ls : List (Vec HostCmd Global)) (ss : List SessionView) (vs : List WorkerView) (workers : ℕ) (ends : List End) → map (λ s. s.who) ss ≡ in_turn Host 0 (length ls) → All (RecordAgrees last.net.journal) ss
    → All (λ (s : SessionView). Leads s.seat.saw last) ss → All (λ (v : WorkerView). Leads v.seat.saw last) vs → All (StandsSo last.turns) ss → AreNamed (length ls) workers last.net.journal → (last.stopped ≡ true → HasCause workers last) → HavePlayed w ls ss vs workers ends → ArePlayed w ls workers last ends
all_played w last ls ss vs workers ends whos own saw seen stood named why have =
    let played = in_turn_played w last 0 ls ss have.of_sessions whos own saw stood have.played in
    let worked = all_worked w last vs have.then.of_workers seen have.then.worked in record {
      of_sessions = have.of_sessions;
      of_workers = have.then.of_workers;
      ends_are = have.then.grown;
      played = played;
      count = have.then.number;
      worked = worked;
      named = named;
      why = why;
      stops = All-same (StopsFor workers last) _ _ have.then.grown (All-append (StopsFor workers last) have.of_sessions have.then.of_workers (hosts_stop w workers last why 0 ls have.of_sessions played) (workers_stop w workers last why have.then.of_workers worked));
    }

-- what holds of an answer, by two clauses of it
pub of_ok : {A E : Type 0} (P Q R : A → Type 0) (result : Result A E) → ((a : A) → P a → Q a → R a) → IfOk result P → IfOk result Q → IfOk result R
of_ok P Q R (Ok a) f p q = f a p q
of_ok P Q R (Err e) f p q = tt

-- what is never answered has every cause
pub of_never : {A E : Type 0} (P : E → Type 0) (result : Result A E) → OnErr result ⊥ → IfErr result P
of_never P (Ok a) never = tt
of_never P (Err e) never = absurd never

-- A record grows by one answer after another.
use Rattle.std.proofs.Common.{◌≡◌, ℕ, zero, suc, ◌+◌, ◌-◌, ◌<◌, List, [], ◌∷◌, ◌++◌, Some, length, take, get_or, slice_get, refl, sym, ap, ◌∙◌, subst, arith, inl, inr, ⊎_elim}
use Rattle.std.specs.List.{All}
use Rattle.std.proofs.lemmas.List.{append-nil}
use Rattle.std.proofs.lemmas.List.Elements.{All-append, All-cons, All-nil}
use Rattle.bz_model.specs.declared.event.Who.{Who}
use Rattle.bz_model.specs.Nets.{Wiring}
use Rattle.bz_model.specs.declared.event.HostCmd.{HostCmd}
use Rattle.bz_model.specs.declared.event.Entry.{Entry}
use Rattle.bz_locked.specs.Terms.{Terms}
use Rattle.bz_past.specs.Moments.{Leads}
use Rattle.bz_past.proofs.Leading.{here, onward}
use Rattle.bz_locked.specs.Parts.{Seat, Stays}
use Rattle.bz_past.specs.declared.view.Moment.{Moment}
use Rattle.bz_locked.proofs.Seeing.{during_back, during_on}
use Rattle.bz_past.specs.Standings.{HasTurned, turned_by}
use Rattle.bz_past.specs.declared.standing.Standing.{Standing}
use Rattle.bz_past.specs.declared.standing.Standing.TheVariants.{Running, Waiting, Ended}
use Rattle.bz_locked.proofs.Turning.{turned_then}
use Rattle.bz_locked.specs.Quiet.{AwaitsIn}
use Rattle.bz_locked.specs.Working.{HasWaited, HasWaitedOrNot, WasTold}
use Rattle.bz_locked.specs.declared.locked.Work.{Work}
use Rattle.bz_locked.specs.declared.locked.Work.TheVariants as work
use Rattle.bz_pool.specs.declared.playing.End.{End}
use Rattle.bz_pool.specs.declared.playing.End.TheVariants.{Done, Resting, Spent, Stopped, Refused}
use Rattle.bz_words.specs.declared.words.SessionError.TheVariants.{BadWord, Event, Memory}
use Rattle.bz_pool.specs.Playing.{IsAnswerTo, AreAnswers, EndIs, Found, HasEnded, HasWorked, IsAtWork, Played, answered}

pub answers_push : (t : Terms) (a b c : Moment) (who : Who) (cmds : List HostCmd) (es : List Entry) (cmd : HostCmd) (e : Entry) → AreAnswers t a b who cmds es → IsAnswerTo t b c who cmd e → AreAnswers t a c who (cmds ++ cmd ∷ []) (es ++ e ∷ [])
answers_push t a b c who [] [] cmd e all is = (c, (is.0, is.1, is.2, (is.3.0, during_back t a b c _ all is.3.1)), here c)
answers_push t a b c who [] (x ∷ xs) cmd e all is = absurd all
answers_push t a b c who (x ∷ xs) [] cmd e all is = absurd all
answers_push t a b c who (y ∷ ys) (x ∷ xs) cmd e all is = (all.0, all.1, answers_push t all.0 b c who ys xs cmd e all.2 is)

-- what led to this has led to what comes of it
pub answers_on : (t : Terms) (had a b : Moment) (who : Who) (cmds : List HostCmd) (es : List Entry) → Leads a b → AreAnswers t had a who cmds es → AreAnswers t had b who cmds es
answers_on t had a b who [] [] on all = onward had a b all on
answers_on t had a b who [] (x ∷ xs) on all = absurd all
answers_on t had a b who (c ∷ cs) [] on all = absurd all
answers_on t had a b who (c ∷ cs) (x ∷ xs) on all = (all.0, all.1, answers_on t all.0 a b who cs xs on all.2)

slice_at : {X : Type 0} (xs : List X) (i : ℕ) (d : X) → i < length xs → slice_get xs i ≡ Some (get_or xs i d)
slice_at [] i d lt = absurd (omega arith)
slice_at (x ∷ xs) zero d lt = refl
slice_at (x ∷ xs) (suc i) d lt = slice_at xs i d (omega arith)

-- what is known of the command at a place is found at its word
pub found : (P : HostCmd → Type 0) (words : List HostCmd) (i word : ℕ) (d : HostCmd) → word - 1 ≡ i → i < length words → P (get_or words i d) → Found P words word
found P words i word d e lt has = (get_or words i d, ap (slice_get words) e ∙ slice_at words i d lt, has)

-- a told fact stays one as the journal goes on
told_on : (t : Terms) (had a b : Moment) (who : Who) (cmd : HostCmd) (work : Work) → Leads a b → WasTold t had a who cmd work → WasTold t had b who cmd work
told_on t had a b who cmd work on is = during_on t had a b _ on is

pub end_on : (t : Terms) (had a b : Moment) (who : Who) (words : List HostCmd) (end : End) → Leads a b → EndIs t had a who words end → EndIs t had b who words end
end_on t had a b who words Done on is = tt
end_on t had a b who words (Resting word) on is = (is.0, is.1, told_on t had a b who is.0 work.Resting on is.2)
end_on t had a b who words (Spent word) on is = (is.0, is.1, told_on t had a b who is.0 work.Spent on is.2)
end_on t had a b who words (Stopped word) on is = (is.0, is.1, told_on t had a b who is.0 work.Stopped on is.2)
end_on t had a b who words (Refused word (Event e)) on is = (is.0, is.1, ⊎_elim inl (λ o. inr (during_on t had a b _ on o)) is.2)
end_on t had a b who words (Refused word (BadWord at)) on is = absurd is
end_on t had a b who words (Refused word Memory) on is = absurd is

pub stays_on : (a b c : Seat) → Stays a b → Stays b c → Stays a c
stays_on a b c first then = (then.0 ∙ first.0, onward a.saw b.saw c.saw first.1 then.1)

-- the record has not grown since, and this is how many were answered
pub played_so : (t : Terms) (had a b : Moment) (who : Who) (words : List HostCmd) (end : End) (i : ℕ) (old mid new entries : List Entry) → Leads a b → answered end (length words) ≡ i → new ≡ mid → mid ≡ old ++ entries
    → AreAnswers t had a who (take i words) entries → EndIs t a b who words end → Played t had b who words end old new
played_so t had a b who words end i old mid new entries on at same grown all why = record {
  entries = entries;
  grown = same ∙ grown;
  reached = a;
  answers = subst (λ (n : ℕ). AreAnswers t had a who (take n words) entries) (sym at) all;
  why = why;
  on = on;
}

-- what was played leads on
pub played_on : (t : Terms) (had a b : Moment) (who : Who) (words : List HostCmd) (end : End) (old new : List Entry) → Leads a b → Played t had a who words end old new → Played t had b who words end old new
played_on t had a b who words end old new on is = record {
  entries = is.entries;
  grown = is.grown;
  reached = is.reached;
  answers = is.answers;
  why = end_on t is.reached a b who words end on is.why;
  on = onward is.reached a b is.on on;
}

-- how a session stands that waits for the command at a place
at_work : (w : Wiring) (words : List HostCmd) (i : ℕ) (d : HostCmd) (standing : Standing) → i < length words → AwaitsIn w (get_or words i d) standing → IsAtWork w words standing
at_work w words i d Running lt awaits = tt
at_work w words i d (Waiting verb port) lt awaits =
    let at : i + 1 - 1 ≡ i = omega arith in
    (i + 1, found (λ cmd. AwaitsIn w cmd (Waiting verb port)) words i (i + 1) d at lt awaits)
at_work w words i d Ended lt awaits = absurd awaits

-- it has been at work, and then waited
pub worked_on : (w : Wiring) (who : Who) (words : List HostCmd) (i : ℕ) (d : HostCmd) (a b c : Moment) → i < length words → HasWorked w who words a b → HasWaited w who (get_or words i d) b c → HasWorked w who words a c
worked_on w who words i d a b c lt is on =
    let P = IsAtWork w words in
    let two : All P (on.0 ∷ Running ∷ []) = All-cons P on.0 (Running ∷ []) (at_work w words i d on.0 lt on.1) (All-cons P Running [] tt (All-nil P)) in
    (is.0 ++ on.0 ∷ Running ∷ [], All-append P is.0 (on.0 ∷ Running ∷ []) is.1 two, turned_then who is.0 (on.0 ∷ Running ∷ []) a b c is.2 on.2)

pub worked_or : (w : Wiring) (who : Who) (words : List HostCmd) (i : ℕ) (d : HostCmd) (a b c : Moment) → i < length words → HasWorked w who words a b → HasWaitedOrNot w who (get_or words i d) b c → HasWorked w who words a c
worked_or w who words i d a b c lt is = ⊎_elim (worked_on w who words i d a b c lt is) (λ not. (is.0, is.1, subst (λ l. HasTurned who l a c) (append-nil is.0) (turned_then who is.0 [] a b c is.2 not)))

pub nothing_yet : (w : Wiring) (who : Who) (words : List HostCmd) (a : Moment) → HasWorked w who words a a
nothing_yet w who words a = ([], All-nil (IsAtWork w words), sym (append-nil (turned_by who a.turns)))

-- it has been at work, and then ended
pub ended_then : (w : Wiring) (who : Who) (words : List HostCmd) (a b c : Moment) → HasWorked w who words a b → HasTurned who (Ended ∷ []) b c → HasEnded w who words a c
ended_then w who words a b c is on = (is.0, is.1, turned_then who is.0 (Ended ∷ []) a b c is.2 on)

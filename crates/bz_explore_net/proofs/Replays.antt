-- A run that is made again, entry by entry.
use Rattle.std.proofs.lemmas.List.{length-take-le, take-append-drop, take_more}
use Rattle.std.proofs.Common.{◌≡◌, ℕ, ◌+◌, ◌<◌, ◌≤◌, List, [], ◌∷◌, ◌++◌, append_assoc, length, take, drop, get_or, refl, sym, ap, subst, ◌∙◌, arith}
use Rattle.bz_model.specs.declared.event.Entry.{Entry}
use Rattle.bz_model.specs.declared.event.NetError.{NetError}
use Rattle.bz_model.specs.declared.event.NetError.TheVariants as error
use Rattle.bz_model.specs.declared.event.Who.{Who}
use Rattle.bz_model.specs.declared.event.Entry.TheVariants.{Rested}
use Rattle.bz_model.specs.Nets.{Wiring, State, opening}
use Rattle.bz_model.specs.Runs.{CanStep, Follows, IsNext, Run}
use Rattle.bz_net.specs.Replies.{RefusesEntry}
use Rattle.bz_net.specs.Simulation.{IsOpened, Simulation}
use Rattle.bz_explore_net.specs.Replaying.{CanFollow, IsReplayed, IsRun, Repeats}

-- a run in two
pub run_apart : (w : Wiring) (s : State) (xs ys : List Entry) (t : State) → Run w s (xs ++ ys) t → (m : State) × Run w s xs m × Run w m ys t
run_apart w s [] ys t run = (s, refl, run)
run_apart w s (x ∷ xs) ys t run =
    let rest = run_apart w run.0 xs ys t run.2 in
    (rest.0, (run.0, run.1, rest.1), rest.2)

pub front_runs : (w : Wiring) (xs ys : List Entry) → IsRun w (xs ++ ys) → IsRun w xs
front_runs w xs ys (last, run) = let apart = run_apart w (opening w) xs ys last run in (apart.0, apart.1)

pub replayed_opening : (w : Wiring) (limit : ℕ) (net : Simulation) → IsOpened w limit net → IsReplayed w [] limit net
replayed_opening w limit net opened = record {
  wiring = opened.wiring;
  journal = opened.journal;
  limit_is = opened.limit_is;
  sole = λ last run. opened.state ∙ sym run;
}

-- the next entry of a run can follow where the entries before it were made again
pub can_follow : (w : Wiring) (xs : List Entry) (x : Entry) (ys : List Entry) (limit : ℕ) (net : Simulation) → IsRun w (xs ++ x ∷ ys) → IsReplayed w xs limit net → CanFollow net x
can_follow w xs x ys limit net (last, run) made =
    let apart = run_apart w (opening w) xs (x ∷ ys) last run in
    let same = made.sole apart.0 apart.1 in
    let step = apart.2 in (
      step.0,
      subst (λ (v : Wiring). Follows v net.state x step.0) (sym made.wiring) (subst (λ (m : State). Follows w m x step.0) (sym same) step.1),
    )

pub replayed_more : (w : Wiring) (xs : List Entry) (x : Entry) (limit : ℕ) (old new : Simulation) → IsReplayed w xs limit old → Repeats old x new → IsReplayed w (xs ++ x ∷ []) limit new
replayed_more w xs x limit old new made again = record {
  wiring = again.adds.wiring ∙ made.wiring;
  journal = again.adds.journal ∙ ap (λ (es : List Entry). es ++ x ∷ []) made.journal;
  limit_is = again.adds.limit ∙ made.limit_is;
  sole = λ last run.
      let apart = run_apart w (opening w) xs (x ∷ []) last run in
      let same = made.sole apart.0 apart.1 in
      let step = apart.2 in
      let here : Follows old.wiring old.state x step.0 = subst (λ (v : Wiring). Follows v old.state x step.0) (sym made.wiring) (subst (λ (m : State). Follows w m x step.0) (sym same) step.1) in
      again.sole step.0 here ∙ sym step.2;
}

-- with a place left, memory alone can be wanting
pub only_memory : (net : Simulation) (e : NetError) → length net.journal < net.limit → RefusesEntry net e → e ≡ error.Memory
only_memory net error.Memory place r = refl
only_memory net error.JournalFull place r = absurd (omega (arith, place, r))
only_memory net error.UnknownPort place r = absurd r
only_memory net error.WrongSide place r = absurd r
only_memory net error.ValueMissing place r = absurd r
only_memory net error.ValueUnwanted place r = absurd r
only_memory net error.TooLarge place r = absurd r
only_memory net error.NotEnabled place r = absurd r

-- where none can move no component is told
pub not_ready : (old new : Simulation) (who : Who) (c : ℕ) → CanFollow old (Rested who) → IsNext (CanStep old.wiring.sites old.state) 1 c → Repeats old (Rested who) new
not_ready old new who c follows next = absurd (follows.1.0 c next.is_in)

-- the entry at a place can follow where those before it were made again
pub run_at : (w : Wiring) (es : List Entry) (i : ℕ) (d : Entry) (limit : ℕ) (net : Simulation) → i < length es → IsRun w es → IsReplayed w (take i es) limit net → CanFollow net (get_or es i d)
run_at w es i d limit net lt run made =
    let whole : es ≡ take i es ++ get_or es i d ∷ drop (i + 1) es =
    sym (take-append-drop (i + 1) es) ∙ ap (λ (xs : List Entry). xs ++ drop (i + 1) es) (take_more es i d lt) ∙ append_assoc (take i es) (get_or es i d ∷ []) (drop (i + 1) es) in
    can_follow w (take i es) (get_or es i d) (drop (i + 1) es) limit net (subst (IsRun w) whole run) made

pub take_runs : (w : Wiring) (es : List Entry) (n : ℕ) → IsRun w es → IsRun w (take n es)
take_runs w es n run = front_runs w (take n es) (drop n es) (subst (IsRun w) (sym (take-append-drop n es)) run)

-- a net that has made fewer entries than its limit can only want memory
pub memory_wants : (w : Wiring) (entries : List Entry) (i limit : ℕ) (net : Simulation) (e : NetError) → i < length entries → length entries ≤ limit → IsReplayed w (take i entries) limit net → RefusesEntry net e → e ≡ error.Memory
memory_wants w entries i limit net error.JournalFull more within made full =
    let short = length-take-le i entries (omega arith) in
    let long = ap length made.journal in
    let most = made.limit_is in
    absurd (omega (arith, full))
memory_wants w entries i limit net error.Memory more within made wants = refl
memory_wants w entries i limit net error.UnknownPort more within made full = elim full [ ]
memory_wants w entries i limit net error.WrongSide more within made full = elim full [ ]
memory_wants w entries i limit net error.ValueMissing more within made full = elim full [ ]
memory_wants w entries i limit net error.ValueUnwanted more within made full = elim full [ ]
memory_wants w entries i limit net error.TooLarge more within made full = elim full [ ]
memory_wants w entries i limit net error.NotEnabled more within made full = elim full [ ]

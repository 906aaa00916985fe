-- What words play is a run by host 1 and worker 1, so each of its entries has a line.
use Rattle.std.proofs.Common.{◌≡◌, ℕ, zero, suc, ◌+◌, List, [], ◌∷◌, ◌++◌, inl, inr, refl, sym, subst, arith}
use Rattle.std.specs.List.{AllByRecursion}
use Rattle.bz_model.specs.declared.event.Cmd.{Cmd}
use Rattle.bz_model.specs.declared.event.Cmd.TheVariants as word
use Rattle.bz_model.specs.declared.event.Entry.{Entry}
use Rattle.bz_model.specs.declared.event.Entry.TheVariants.{Fired, Host, Rested}
use Rattle.bz_model.specs.declared.event.HostCmd.{HostCmd}
use Rattle.bz_model.specs.declared.event.NetError.{NetError}
use Rattle.bz_model.specs.declared.event.NetError.TheVariants.{UnknownPort, WrongSide, ValueMissing, ValueUnwanted, TooLarge, NotEnabled, JournalFull, Memory}
use Rattle.bz_model.specs.declared.event.Who.TheVariants as who
use Rattle.bz_model.specs.Nets.{Wiring, State, opening, outside}
use Rattle.bz_model.specs.Plays.{Commands, Firings, Rests, PlaysWord, PlaysWords, PlaysAll, Stops, StopsWord}
use Rattle.bz_model.specs.Runs.{Run}
use Rattle.bz_model.specs.Entries.{HasLine, HasWho, IsHost, IsWho}
use Rattle.bz_flat.specs.Wires.{WellWired}
use Rattle.bz_net.proofs.Lines.{run_has_lines}

-- a run by hosts and workers that are in range
abbrev pub IsBy : Wiring → State → List Entry → State → Type 0
IsBy w s es last = Run w s es last × AllByRecursion HasWho es

worker : IsWho (who.Worker 1)
worker = (omega arith, omega arith)

host : IsHost (who.Host 1)
host = (omega arith, omega arith)

joined : (w : Wiring) (s : State) (es : List Entry) (mid : State) (fs : List Entry) (last : State) → IsBy w s es mid → IsBy w mid fs last → IsBy w s (es ++ fs) last
joined w s [] mid fs last a b = subst (λ o. IsBy w o fs last) a.0 b
joined w s (e ∷ es) mid fs last ((next, step, rest), by) b =
    let more = joined w next es mid fs last (rest, by.1) b in
    ((next, step, more.0), (by.0, more.1))

firings_by : (w : Wiring) (s : State) (from n : ℕ) (es : List Entry) (to : ℕ) (last : State) → Firings w.sites (who.Worker 1) s from n es to last → IsBy w s es last
firings_by w s from zero es to last f = subst (λ xs. IsBy w s xs last) (sym f.0) (f.2, tt)
firings_by w s from (suc n) [] to last f = absurd f
firings_by w s from (suc n) (Fired by c p k mv value ∷ es) to last (same, is_next, lowest, (next, step, rest)) =
    let more = firings_by w next (c + 1) n es to last rest in
    ((next, step, more.0), (subst IsWho (sym same) worker, more.1))
firings_by w s from (suc n) (Host by verb port value answer ∷ es) to last f = absurd f
firings_by w s from (suc n) (Rested by ∷ es) to last f = absurd f

commands_by : (w : Wiring) (s : State) (cmd : HostCmd) (es : List Entry) (next : State) → Commands w s cmd es next → IsBy w s es next
commands_by w s cmd es next c = subst (λ xs. IsBy w s xs next) (sym c.entries_are) ((next, c.steps, refl), (host, tt))

rests_by : (w : Wiring) (s : State) (due : ℕ) (es : List Entry) (next : State) → Rests w s due es next → IsBy w s es next
rests_by w s due es next r =
    let (to, f) = r.fires in
    subst (λ xs. IsBy w s xs next) (sym r.entries_are)
    (joined w s r.firings next (Rested (who.Worker 1) ∷ []) next (firings_by w s 1 r.fired r.firings to next f) ((next, (r.rests, refl), refl), (worker, tt)))

word_by : (w : Wiring) (s : State) (cmd : Cmd) (es : List Entry) (next : State) → PlaysWord w s cmd es next → IsBy w s es next
word_by w s (word.Host cmd) es next p = commands_by w s cmd es next p
word_by w s (word.Run due) es next (inl (to, f)) = firings_by w s 1 due es to next f
word_by w s (word.Run due) es next (inr r) = rests_by w s due es next r

words_by : (w : Wiring) (s : State) (cmds : List Cmd) (es : List Entry) (last : State) → PlaysWords w s cmds es last → IsBy w s es last
words_by w s [] es last p = subst (λ xs. IsBy w s xs last) (sym p.0) (p.1, tt)
words_by w s (cmd ∷ cmds) es last (first, others, next, plays, rest, are) =
    subst (λ xs. IsBy w s xs last) (sym are) (joined w s first next others last (word_by w s cmd first next plays) (words_by w next cmds others last rest))

host_stops : (w : Wiring) (s : State) (cmd : HostCmd) (e : NetError) (es : List Entry) → StopsWord w s (word.Host cmd) e es → es ≡ []
host_stops w s cmd UnknownPort es p = p.1
host_stops w s cmd WrongSide es p = p.1
host_stops w s cmd ValueMissing es p = p.1
host_stops w s cmd ValueUnwanted es p = p.1
host_stops w s cmd TooLarge es p = p.1
host_stops w s cmd NotEnabled es p = p.1
host_stops w s cmd JournalFull es p = p.1
host_stops w s cmd Memory es p = p.1

stops_by : (w : Wiring) (s : State) (cmd : Cmd) (e : NetError) (es : List Entry) → StopsWord w s cmd e es → (last : State) × IsBy w s es last
stops_by w s (word.Host cmd) e es p = (s, subst (λ xs. IsBy w s xs s) (sym (host_stops w s cmd e es p)) (refl, tt))
stops_by w s (word.Run due) JournalFull es (fired, next, fewer, (to, f)) = (next, firings_by w s 1 fired es to next f)
stops_by w s (word.Run due) Memory es (fired, next, fewer, (to, f)) = (next, firings_by w s 1 fired es to next f)
stops_by w s (word.Run due) UnknownPort es p = absurd p
stops_by w s (word.Run due) WrongSide es p = absurd p
stops_by w s (word.Run due) ValueMissing es p = absurd p
stops_by w s (word.Run due) ValueUnwanted es p = absurd p
stops_by w s (word.Run due) TooLarge es p = absurd p
stops_by w s (word.Run due) NotEnabled es p = absurd p

pub all_by : (w : Wiring) (cmds : List Cmd) (es : List Entry) → PlaysAll w cmds es → (last : State) × IsBy w (opening w) es last
all_by w cmds es p = (p.last, words_by w (opening w) cmds es p.last p.plays)

pub stopped_by : (w : Wiring) (limit : ℕ) (cmds : List Cmd) (at : ℕ) (e : NetError) (es : List Entry) → Stops w limit cmds at e es → (last : State) × IsBy w (opening w) es last
stopped_by w limit cmds at e es p =
    let front = words_by w (opening w) p.earlier p.front p.mid p.plays in
    let (last, back) = stops_by w p.mid p.cmd e p.back p.stops in
    (last, subst (λ xs. IsBy w (opening w) xs last) (sym p.entries_are) (joined w (opening w) p.front p.mid p.back last front back))

pub plays_have_lines : (w : Wiring) (cmds : List Cmd) (es : List Entry) → WellWired w → PlaysAll w cmds es → AllByRecursion (HasLine (outside w)) es
plays_have_lines w cmds es wired p =
    let (last, by) = all_by w cmds es p in
    run_has_lines w es last wired by.0 by.1

pub stops_have_lines : (w : Wiring) (limit : ℕ) (cmds : List Cmd) (at : ℕ) (e : NetError) (es : List Entry) → WellWired w → Stops w limit cmds at e es → AllByRecursion (HasLine (outside w)) es
stops_have_lines w limit cmds at e es wired p =
    let (last, by) = stopped_by w limit cmds at e es p in
    run_has_lines w es last wired by.0 by.1

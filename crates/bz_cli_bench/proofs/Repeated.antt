-- A state that was there before.
use Rattle.std.proofs.Common.{◌≡◌, ℕ, ◌≤◌, List, length, take, sym, subst, ◌∙◌}
use Rattle.std.proofs.lemmas.List.{take_all}
use Rattle.bz_model.specs.declared.event.Entry.{Entry}
use Rattle.bz_model.specs.Nets.{Wiring, State, opening}
use Rattle.bz_model.specs.Runs.{Run}
use Rattle.bz_net.specs.Simulation.{Simulation}
use Rattle.bz_explore_net.specs.Replaying.{IsReplayed, IsRun}
use Rattle.bz_explore_net.proofs.Replays.{take_runs}
use Rattle.bz_cli_bench.specs.Verdicts.{WasAfter}

-- after all entries the state is that which it is
pub was_now : (w : Wiring) (s : State) (entries : List Entry) (n : ℕ) → length entries ≤ n → Run w (opening w) entries s → WasAfter w s entries n
was_now w s entries n all run = subst (λ (es : List Entry). Run w (opening w) es s) (sym (take_all n entries all)) run

-- a front of the entries can be made again
pub front_again : (v w : Wiring) (s : State) (entries : List Entry) (n : ℕ) → v ≡ w → Run w (opening w) entries s → IsRun v (take n entries)
front_again v w s entries n same run = subst (λ (u : Wiring). IsRun u (take n entries)) (sym same) (take_runs w entries n (s, run))

-- where they lead to this state when they are made again, it was there before
pub was_before : (v w : Wiring) (s : State) (entries : List Entry) (n limit : ℕ) (net : Simulation) → v ≡ w → Run w (opening w) entries s
    → IsReplayed v (take n entries) limit net → net.state ≡ s → WasAfter w s entries n
was_before v w s entries n limit net same run made is =
    let front = take_runs w entries n (s, run) in
    let there : IsReplayed w (take n entries) limit net = subst (λ (u : Wiring). IsReplayed u (take n entries) limit net) same made in
    subst (λ (m : State). Run w (opening w) (take n entries) m) (sym (there.sole front.0 front.1) ∙ is) front.1

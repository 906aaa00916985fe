-- What the command `complete` answers.
use Rattle.std.proofs.Common.{◌≤◌, ℕ, List, Option, length, refl, sym, subst}
use Rattle.std.specs.Prelude.{Result, Ok, Err}
use Rattle.bz_model.specs.Clashes.{AreClashed}
use Rattle.bz_model.specs.Nets.{Wiring, opening}
use Rattle.bz_model.specs.Runs.{Run}
use Rattle.bz_model.specs.Traces.{trace_text}
use Rattle.bz_net.specs.Simulation.{Simulation}
use Rattle.bz_trace_text.specs.declared.text.Version.TheVariants.{Two}
use Rattle.bz_complete.specs.Named.{AreNames, ChanTable}
use Rattle.bz_complete.specs.declared.short.ShortMove.{ShortMove}
use Rattle.bz_complete.specs.Completing.{IsMade}
use Rattle.bz_complete.specs.ShortTexts.{Spells}
use Rattle.bz_complete.specs.Stopping.{IsDeadEndAt}
use Rattle.bz_cli_input.specs.Opening.{Denotes, RefusesNet}
use Rattle.bz_complete.specs.declared.fault.CompleteFault.{CompleteFault}
use Rattle.bz_complete.specs.declared.fault.CompleteFault.TheVariants.{Command, NotShort, Stopped, Unrested, TooLong}
use Rattle.bz_complete.specs.Completions.{Completes, Finds, FindsIn, IsWhole, Makes, RunsTo}

-- the trace of a net on which moves were made
pub whole_of : (w : Wiring) (moves : List ShortMove) (net : Simulation) (comps : List ℕ) → Run net.wiring (opening net.wiring) net.journal net.state → length net.journal ≤ net.limit → AreClashed net.wiring net.journal comps → IsMade w moves net
    → IsWhole w moves (trace_text net.wiring.ports net.journal comps)
whole_of w moves net comps run within clashed made =
    subst (λ (v : Wiring). IsWhole v moves (trace_text net.wiring.ports net.journal comps)) made.wiring (record {
      run = record {
        version = Two;
        entries = net.journal;
        by = made.by;
        few = subst (λ n. length net.journal ≤ n) made.limit within;
        last = net.state;
        run = run;
        clashes = comps;
        due = clashed;
        text_is = refl;
      };
      shows = made.shows;
    })

-- a run that shows the moves that were made, and goes on to show no more
pub run_of : (w : Wiring) (moves front : List ShortMove) (line : ℕ) (net : Simulation) → Run net.wiring (opening net.wiring) net.journal net.state → IsMade w front net → IsDeadEndAt net.wiring net.state moves line
    → RunsTo w moves line front
run_of w moves front line net run made refuted = (
  record {
    entries = net.journal;
    last = net.state;
    run = subst (λ (v : Wiring). Run v (opening v) net.journal net.state) made.wiring run;
    shows = made.shows;
  },
  subst (λ (v : Wiring). IsDeadEndAt v net.state moves line) made.wiring refuted,
)

-- the moves of a text were made
pub read_so : (w : Wiring) (names : ChanTable) (short : List ℕ) (moves : List ShortMove) (answer : Result Simulation CompleteFault) → Spells names short moves → Makes w moves answer → FindsIn w names short answer
read_so w names short moves (Ok net) spelt made = (moves, spelt, made)
read_so w names short moves (Err (Command fault)) spelt is = is
read_so w names short moves (Err (NotShort line why)) spelt none = absurd none
read_so w names short moves (Err (Stopped line why)) spelt front = (moves, spelt, front)
read_so w names short moves (Err (Unrested line why)) spelt none = tt
read_so w names short moves (Err TooLong) spelt none = tt

-- on the net that the netlist denotes, by its names
pub found : (netlist short : List ℕ) (part : Option (List ℕ)) (w : Wiring) (names : ChanTable) (answer : Result Simulation CompleteFault) → Denotes netlist part w → AreNames netlist part w names → FindsIn w names short answer → Finds netlist short part answer
found netlist short part w names (Ok net) denotes theirs is = (w, is.0, record { net = denotes; names = names; theirs = theirs; spelt = is.1 }, is.2)
found netlist short part w names (Err (Command fault)) denotes theirs is = subst (RefusesNet netlist part) (sym is) tt
found netlist short part w names (Err (NotShort line why)) denotes theirs is = (w, denotes, (names, theirs, is))
found netlist short part w names (Err (Stopped line why)) denotes theirs is = (w, denotes, (names, theirs, is))
found netlist short part w names (Err (Unrested line why)) denotes theirs is = (w, denotes, (names, theirs, is))
found netlist short part w names (Err TooLong) denotes theirs is = (w, denotes, (names, theirs, is))

pub completes : (netlist short : List ℕ) (part : Option (List ℕ)) (net : Simulation) (text : List ℕ) → Finds netlist short part (Ok net) → ((w : Wiring) (moves : List ShortMove) → IsMade w moves net → IsWhole w moves text) → Completes netlist short part text
completes netlist short part net text is whole = (is.0, is.1, is.2, whole is.0 is.1 is.3)

use Rattle.std.proofs.Common.{inl}
use Rattle.std.proofs.KnownBytes.{Keeps-refl}
use Rattle.bz_cli_trace.proofs.Makes.{run_judged}
use Rattle.bz_cli_waits.proofs.Ending.{ends_of}
use Rattle.bz_since.proofs.Kept.{kept_of}
use Rattle.bz_cli_commands.proofs.Made.{chart_made, draw_made, page_made}
use Rattle.bz_cli_commands.proofs.makers.made.Goals as goal

pub returns-in-Chart : goal.returns-in-Chart
returns-in-Chart g c =
    rw c.in-Chart.is (λ netlist part is run.
    chart_made netlist c.args.trace.now part _ _ c.args.case.judged.net.wiring (run_judged netlist c.args.trace.now part c.args.case is run) c.in-Chart.options c.args.given.now.sources.now c.chart.result _ (rw c.range_of.ensures at c.chart.ensures) c.sent.ensures)

pub returns-in-Page : goal.returns-in-Page
returns-in-Page g c =
    rw c.in-Page.is (λ netlist part is run. page_made c.args.given.now.sources.now _ netlist c.args.trace.now part _ _ c.args.case c.page.result _ is run c.page.ensures c.ended.ensures)

pub graph_at-requires-clause-ends : goal.graph_at-requires-clause-ends
graph_at-requires-clause-ends g c = ends_of _ c.args.trace.now c.args.case.judged c.requires.found c.requires.run

pub graph_at-requires-clause-behind : goal.graph_at-requires-clause-behind
graph_at-requires-clause-behind g c =
    kept_of _ c.args.trace.now c.place_of-line.result _ _ _ c.requires.found.wired c.requires.shows c.in-Ok.ensures.after c.in-Ok.ensures.kept

pub returns-in-Ok : goal.returns-in-Ok
returns-in-Ok g c =
    rw c.in-Draw.is (λ netlist part is run.
    draw_made netlist c.args.trace.now part _ _ c.args.case.judged.net.wiring (run_judged netlist c.args.trace.now part c.args.case is run) c.in-Draw.options c.args.given.now.sources.now c.graph_at.result _ (rw c.place_of-line.ensures at c.graph_at.ensures) c.sent-in-Ok.ensures)

pub returns-in-Err : goal.returns-in-Err
returns-in-Err g c = λ netlist part is run. inl (tt, Keeps-refl _)

use Rattle.bz_trace_text.specs.Counting.{line_count}
use Rattle.bz_chart.proofs.lines.chart.Goals as goal

pub returns-in-Err-Piece : goal.returns-in-Err-Piece
returns-in-Err-Piece c =
    let undrawn = rw c.in-Err-Piece.field-0-is at c.in-Err-Piece.ensures in
    undrawn (line_count c.args.trace.now)

use Rattle.std.proofs.Common.{◌≡◌, ◌≢◌, ◌+◌, subst, length, arith}
use Rattle.bz_trace_text.specs.declared.text.TheConstants.{MAX_ENTRIES}
use Rattle.bz_trace_text.specs.Texts.{OtherFrom}
use Rattle.bz_trace_text.proofs.Texts.{line_shorter}
use Rattle.bz_trace_text.proofs.Cuts.{bad_most, read_whole, bad_behind, read_more}
use Rattle.bz_trace_text.proofs.text.read_lines.Goals as goal

pub returns-then-len-eq-MAX_ENTRIES : goal.returns-then-len-eq-MAX_ENTRIES
returns-then-len-eq-MAX_ENTRIES c =
    bad_most c.args.names.now c.args.text.now c.in-Some.found.0 c.loop-entry.entries.items c.loop-entry.rest.now c.in-Some-line_at.entry c.in-Some-line_at.after.now c.loop-entry.invariant (omega arith) c.in-Some-line_at.ensures

pub loop-entry-smaller : goal.loop-entry-smaller
loop-entry-smaller c = line_shorter c.args.names.now c.loop-entry.rest.now c.in-Some-line_at.entry c.in-Some-line_at.after.now c.in-Some-line_at.ensures

pub loop-entry-preserved : goal.loop-entry-preserved
loop-entry-preserved c =
    let fewer : length c.loop-entry.entries.items ≢ MAX_ENTRIES = λ e. omega arith in
    rw c.in_ok-push.ensures.items (read_more c.args.names.now c.args.text.now c.in-Some.found.0 c.loop-entry.entries.items c.loop-entry.rest.now c.in-Some-line_at.entry c.in-Some-line_at.after.now c.loop-entry.invariant fewer c.in-Some-line_at.ensures)

pub returns-in-None-other_line : goal.returns-in-None-other_line
returns-in-None-other_line c =
    read_whole c.args.names.now c.args.text.now c.in-Some.found.0 c.loop-entry.entries.items c.loop-entry.rest.now c.loop-entry.invariant c.in-None-other_line.ensures

pub returns-in-Some-other_line : goal.returns-in-Some-other_line
returns-in-Some-other_line c =
    let count : c.len-2.result ≡ length c.loop-entry.entries.items = omega arith in
    bad_behind c.args.names.now c.args.text.now c.in-Some.found.0 c.loop-entry.entries.items c.loop-entry.rest.now c.in-Some-other_line.line c.loop-entry.invariant c.in_default.ensures (subst (λ n. OtherFrom c.in-Some.found.0 c.loop-entry.rest.now (n + 2) c.in-Some-other_line.line) count c.in-Some-other_line.ensures)

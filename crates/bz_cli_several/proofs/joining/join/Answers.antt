use Rattle.std.proofs.Common.{ℕ, List, [], Ok, Err, refl, sym, subst, take, ◌∙◌, arith}
use Rattle.std.proofs.KnownBytes.{Appends-nil}
use Rattle.bz_trace.proofs.Along.{behind_start}
use Rattle.bz_words.specs.Words.{texts}
use Rattle.bz_words.proofs.Sessions.{texts_more}
use Rattle.bz_cli_several.specs.Holding.{asked_of}
use Rattle.bz_cli_several.specs.Joined.{sum}
use Rattle.bz_cli_several.proofs.Joins.{GoneSo, fronts_gone, gone_more, gone_none, joined_none, names_split, run_told, runs_behind, stops_among, stops_behind}
use Rattle.bz_cli_several.proofs.joining.join.Goals as goal

pub returns-in_default : goal.returns-in_default
returns-in_default g c = ([], joined_none (asked_of c.args.judge.now) (g.X.Traces.text c.args.traces.now) c.args.names.now c.in_default.ensures.cases, λ plain. Appends-nil (g.W.Write.contents c.args.output.now))

pub behind-joined-requires : goal.behind-joined-requires
behind-joined-requires g c = ([], behind_start c.args.net c.requires.opened)

pub loop-name-init : goal.loop-name-init
loop-name-init g c = record {
  gone = rw c.behind-joined.ensures (gone_none (asked_of c.args.judge.now) (g.X.Traces.text c.args.traces.now) c.args.net c.requires.net c.requires.opened);
  kept = refl;
}

pub behind-joined-requires-in-Ok-GoesOn : goal.behind-joined-requires-in-Ok-GoesOn
behind-joined-requires-in-Ok-GoesOn g c =
    let so = c.loop-name.invariant.gone in let next = rw c.in-Ok-GoesOn.field-0-is at (c.in-Ok-GoesOn.ensures so.past so.behind) in
    rw c.into_parts-net.ensures.net next.3

pub returns-in-Ok-Ends : goal.returns-in-Ok-Ends
returns-in-Ok-Ends g c =
    let so = c.loop-name.invariant.gone in let fronts = c.in-Some.fronts.now in
    stops_among (asked_of c.args.judge.now) (g.X.Traces.text c.args.traces.now) c.args.judge.now.json _ _ _ c.loop-name.invariant.kept c.args.names.now fronts c.in-Some.last.now (names_split c.args.names.now fronts c.in-Some.last.now c.in-Some.ensures.cases.0)
    c.loop-name.joined c.loop-name.counts (Ok c.in-Ok-Ends.status) c.loop-name.name-index _ c.loop-name-test.true so (rw c.in-Ok-Ends.field-0-is at (c.in-Ok-Ends.ensures so.past so.behind))

pub returns-in-Err : goal.returns-in-Err
returns-in-Err g c =
    let so = c.loop-name.invariant.gone in let fronts = c.in-Some.fronts.now in
    stops_among (asked_of c.args.judge.now) (g.X.Traces.text c.args.traces.now) c.args.judge.now.json _ _ _ c.loop-name.invariant.kept c.args.names.now fronts c.in-Some.last.now (names_split c.args.names.now fronts c.in-Some.last.now c.in-Some.ensures.cases.0)
    c.loop-name.joined c.loop-name.counts (Err c.in-Err.fault) c.loop-name.name-index _ c.loop-name-test.true so (c.in-Err.ensures so.past so.behind)

pub loop-name-preserved : goal.loop-name-preserved
loop-name-preserved g c =
    let asked = asked_of c.args.judge.now in let read = g.X.Traces.text c.args.traces.now in
    let i = c.loop-name.name-index in let fronts = c.in-Some.fronts.now in let piece = c.in-Ok-GoesOn.piece in
    let so = c.loop-name.invariant.gone in let next = rw c.in-Ok-GoesOn.field-0-is at (c.in-Ok-GoesOn.ensures so.past so.behind) in
    let gone = gone_more asked read (texts (take i fronts)) c.loop-name.joined piece.net c.loop-name.counts _ piece.found so next.0 next.1 next.2 next.3 in record {
      gone = rw (c.behind-joined-in-Ok-GoesOn.ensures, c.into_parts-net.ensures.net, c.sum-counts.ensures, c.into_parts-net.ensures.found)
          (subst (λ (ns : List (List ℕ)). GoneSo asked read ns piece.net (sum c.loop-name.counts piece.found.counts)) (sym (texts_more fronts i _ c.loop-name-test.true)) gone);
      kept = next.4 ∙ c.loop-name.invariant.kept;
    }

pub returns-in-Ok-GoesOn-check_next : goal.returns-in-Ok-GoesOn-check_next
returns-in-Ok-GoesOn-check_next g c =
    let asked = asked_of c.args.judge.now in let read = g.X.Traces.text c.args.traces.now in let fronts = c.in-Some.fronts.now in let last = c.in-Some.last.now in
    let so = fronts_gone asked read fronts c.loop-name.joined c.loop-name.counts c.loop-name.name-index (omega (arith, c.loop-name-test.false)) c.loop-name.invariant.gone in
    let next = rw c.in-Ok-GoesOn-check_next.field-0-is at (c.in-Ok-GoesOn-check_next.ensures so.past so.behind) in let piece = c.in-Ok-GoesOn-check_next.piece in let told = c.tell_run in
    runs_behind asked read c.args.judge.now.json _ _ _ (next.4 ∙ c.loop-name.invariant.kept) c.args.names.now fronts last (names_split c.args.names.now fronts last c.in-Some.ensures.cases.0)
    c.loop-name.joined c.loop-name.counts told.result so
    (run_told asked c.args.judge.now.json _ _ c.loop-name.joined.wiring so.past c.loop-name.counts (read last.now) piece.net piece.found told.result next.1 next.0 told.ensures.status told.ensures.told told.ensures.plainly told.ensures.late)

pub returns-in-Ok-Ends-check_next : goal.returns-in-Ok-Ends-check_next
returns-in-Ok-Ends-check_next g c =
    let asked = asked_of c.args.judge.now in let read = g.X.Traces.text c.args.traces.now in let fronts = c.in-Some.fronts.now in let last = c.in-Some.last.now in
    let so = fronts_gone asked read fronts c.loop-name.joined c.loop-name.counts c.loop-name.name-index (omega (arith, c.loop-name-test.false)) c.loop-name.invariant.gone in
    stops_behind asked read c.args.judge.now.json _ _ _ c.loop-name.invariant.kept c.args.names.now fronts last (names_split c.args.names.now fronts last c.in-Some.ensures.cases.0)
    c.loop-name.joined c.loop-name.counts (Ok c.in-Ok-Ends-check_next.status) so (rw c.in-Ok-Ends-check_next.field-0-is at (c.in-Ok-Ends-check_next.ensures so.past so.behind))

pub returns-in-Err-check_next : goal.returns-in-Err-check_next
returns-in-Err-check_next g c =
    let asked = asked_of c.args.judge.now in let read = g.X.Traces.text c.args.traces.now in let fronts = c.in-Some.fronts.now in let last = c.in-Some.last.now in
    let so = fronts_gone asked read fronts c.loop-name.joined c.loop-name.counts c.loop-name.name-index (omega (arith, c.loop-name-test.false)) c.loop-name.invariant.gone in
    stops_behind asked read c.args.judge.now.json _ _ _ c.loop-name.invariant.kept c.args.names.now fronts last (names_split c.args.names.now fronts last c.in-Some.ensures.cases.0)
    c.loop-name.joined c.loop-name.counts (Err c.in-Err-check_next.fault) so (c.in-Err-check_next.ensures so.past so.behind)

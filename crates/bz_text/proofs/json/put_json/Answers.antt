use Rattle.std.proofs.Common.{[], ◌∷◌, ◌++◌}
use Rattle.std.proofs.lemmas.Result.{err_from_is_err_and}
use Rattle.bz_text.specs.Json.{json_inside}
use Rattle.bz_text.proofs.JsonLaws.{reads_as}
use Rattle.bz_text.proofs.Sent.{stops_before, stops_after, writes_after}
use Rattle.bz_text.proofs.json.put_json.Goals as goal

pub returns-in_err-put-clause-writes : goal.returns-in_err-put-clause-writes
returns-in_err-put-clause-writes g c =
    let p = err_from_is_err_and c.from_residual.result c.from_residual.ensures.1 in
    rw p.1 (stops_before _ _ (34 ∷ []) (json_inside c.args.text.now ++ 34 ∷ []) c.in_err-put.ensures)

pub returns-in_err-put_inside-clause-writes : goal.returns-in_err-put_inside-clause-writes
returns-in_err-put_inside-clause-writes g c =
    let p = err_from_is_err_and c.from_residual-in_err-put_inside.result c.from_residual-in_err-put_inside.ensures.1 in
    rw p.1 (stops_after _ _ _ (34 ∷ []) _ c.in_ok-put.ensures (stops_before _ _ (json_inside c.args.text.now) (34 ∷ []) c.in_err-put_inside.ensures))

pub returns-clause-writes : goal.returns-clause-writes
returns-clause-writes g c =
    writes_after _ _ _ _ (34 ∷ []) _ c.in_ok-put.ensures (writes_after _ _ _ _ (json_inside c.args.text.now) (34 ∷ []) c.in_ok-put_inside.ensures c.put-2.ensures)

pub returns-in_err-put-clause-reads_back : goal.returns-in_err-put-clause-reads_back
returns-in_err-put-clause-reads_back g c = reads_as c.args.text.now

pub returns-in_err-put_inside-clause-reads_back : goal.returns-in_err-put_inside-clause-reads_back
returns-in_err-put_inside-clause-reads_back g c = reads_as c.args.text.now

pub returns-clause-reads_back : goal.returns-clause-reads_back
returns-clause-reads_back g c = reads_as c.args.text.now

use Rattle.std.proofs.Common.{map, ◌∙◌, ap}
use Rattle.std.proofs.lemmas.Result.{IfOk-weaker, IfOk-at_ok}
use Rattle.bz_model.specs.NameRows.{IsRow, placed}
use Rattle.bz_model.proofs.NameRows.{row_made}
use Rattle.bz_model.proofs.name_row.row_of.Goals as goal

pub returns : goal.returns
returns c =
    let names = map (λ n. n.items) c.args.names.now in
    let made = row_made (λ e. (e.0.now, e.1)) names _ _ c.in_ok-sorted.ensures c.in_ok-sort.ensures.permutation c.in_ok-sort.ensures.sorted in
    IfOk-weaker c.places_of.result _ (λ row. IsRow names row.items) (λ row are. made row.items (are ∙ ap (λ es. map (λ e. e.1) es) c.deref.ensures.value)) c.places_of.ensures

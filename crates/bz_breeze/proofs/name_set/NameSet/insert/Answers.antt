use Rattle.std.proofs.Common.{◌∙◌, ap, sym, not, bytes_eq}
use Rattle.std.specs.List.{list_any}
use Rattle.bz_breeze.proofs.NameSets.{list_any-map}
use Rattle.bz_breeze.proofs.name_set.NameSet.insert.Goals as goal

pub returns-clause-new : goal.returns-clause-new
returns-clause-new c =
    let keys = c.self.inside.names.keys in
    let name = c.args.name.now in
    c.in_ok-new.ensures.added ∙ ap not (ap (λ n. list_any (λ k. bytes_eq n k.items) keys) c.in_ok-name.ensures.items
    ∙ sym (list_any-map (bytes_eq name) (λ k. k.items) keys) ∙ ap (λ names. list_any (bytes_eq name) names) c.self.view_is)

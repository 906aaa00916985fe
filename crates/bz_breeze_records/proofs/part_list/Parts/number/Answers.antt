use Rattle.std.proofs.Common.{◌∙◌, ap, sym, bytes_eq, position}
use Rattle.bz_model.proofs.Positions.{position-map}
use Rattle.bz_breeze_records.proofs.Finding.{none_plain}
use Rattle.bz_breeze_records.proofs.part_list.Parts.number.Goals as goal

pub returns-then-has_dollar : goal.returns-then-has_dollar
returns-then-has_dollar c =
    let name = c.args.name.now in
    sym (none_plain name c.self.inside.list.items (sym c.has_dollar.ensures ∙ c.if-has_dollar.true) (c.self.invariant.3 c.if-self.true))
    ∙ ap (λ ps. position (λ p. bytes_eq name p.name.items) ps) c.self.view_is

pub returns : goal.returns
returns c =
    let name = c.args.name.now in
    c.place.ensures.place ∙ ap (position (bytes_eq name)) c.self.invariant.0 ∙ position-map (bytes_eq name) (λ p. p.name.items) c.self.inside.list.items
    ∙ ap (λ ps. position (λ p. bytes_eq name p.name.items) ps) c.self.view_is

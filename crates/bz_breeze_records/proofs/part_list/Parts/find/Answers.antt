use Rattle.std.proofs.Common.{◌≡◌, None, Some, ◌∙◌, sym, arith, bytes_eq, position, slice_get}
use Rattle.std.proofs.lemmas.Grind.{common_steps}
use Rattle.std.proofs.lemmas.Option.{gets}
use Rattle.std.specs.Option.{option_copied}
use Rattle.bz_breeze_records.proofs.Finding.{find-at_place, find-no_place}
use Rattle.bz_breeze_records.proofs.part_list.Parts.find.Goals as goal

pub returns-in_err-place : goal.returns-in_err-place
returns-in_err-place c =
    let name = c.args.name.now in
    let none : position (λ p. bytes_eq name p.name.items) c.args.self.now ≡ None = sym c.number.ensures ∙ c.in_err-place.was in
    rw c.from_residual.ensures (sym (find-no_place (λ p. bytes_eq name p.name.items) c.args.self.now none))

pub returns : goal.returns
returns c =
    let name = c.args.name.now in
    let list = c.self.inside.list.items in
    let place : position (λ p. bytes_eq name p.name.items) list ≡ Some c.in_ok-place.place = rw (← c.self.view_is) at (sym c.number.ensures ∙ c.in_ok-place.was) in
    let got : option_copied c.get.result ≡ slice_get c.deref.result.now c.in_ok-place.place = grind (arith, common_steps, gets) in
    rw (got, c.deref.ensures.value, ← c.self.view_is) (sym (find-at_place (λ p. bytes_eq name p.name.items) list c.in_ok-place.place place))

use Rattle.std.proofs.Common.{◌≡◌, sym, length, codes, arith, rules}
use Rattle.std.proofs.lemmas.Slice.Eq.{bytes_eq-Decides, text_from_reads}
use Rattle.bz_breeze.proofs.forms.is_component.Goals as goal

pub returns-in-component : goal.returns-in-component
returns-in-component c =
    let long : length c.args.head.now ≡ 9 = omega arith in
    let is : c.args.head.now ≡ codes "component" = text_from_reads c.args.head.now (codes "component") long (search rules) in
    sym ((bytes_eq-Decides c.args.head.now (codes "component")).1 is)

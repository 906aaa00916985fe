use Rattle.std.proofs.Common.{◌≡◌, ◌<◌, length, ap, ◌∙◌, arith, subst}
use Rattle.std.proofs.lemmas.List.{get_or_read}
use Rattle.std.specs.List.{swap}
use Rattle.bz_ready.specs.Order.{IsEach}
use Rattle.bz_ready.proofs.Orders.{order_swapped, each_of, swap_is}
use Rattle.bz_ready.proofs.order.Order.swap.Goals as goal

pub returns-then-a-b-clause-each : goal.returns-then-a-b-clause-each
returns-then-a-b-clause-each g c = subst IsEach c.self.view_is (each_of _ c.self.inside.places c.self.invariant)

pub swap-requires-2-clause-first_held : goal.swap-requires-2-clause-first_held
swap-requires-2-clause-first_held g c =
    let o = c.self.inside.numbers.items in let is = c.self.invariant in let x = c.index-x.result.now in
    let al : c.args.a < length o = omega (arith, ap length c.self.view_is, c.requires.first_held) in
    omega (arith, get_or_read o c.args.a x al c.index-x.ensures 0, is.number_in c.args.a al, is.size, c.at.ensures)

pub swap-requires-2-clause-second_held : goal.swap-requires-2-clause-second_held
swap-requires-2-clause-second_held g c =
    let o = c.self.inside.numbers.items in let is = c.self.invariant in let y = c.index-y.result.now in
    let bl : c.args.b < length o = omega (arith, ap length c.self.view_is, c.requires.second_held) in
    omega (arith, get_or_read o c.args.b y bl c.index-y.ensures 0, is.number_in c.args.b bl, is.size, c.at-2.ensures)

pub invariant_of-self : goal.invariant_of-self
invariant_of-self g c =
    let o = c.self.inside.numbers.items in let p = c.self.inside.places in let a = c.args.a in let b = c.args.b in
    let x = c.index-x.result.now in let y = c.index-y.result.now in let is = c.self.invariant in
    let al : a < length o = omega (arith, ap length c.self.view_is, c.requires.first_held) in
    let bl : b < length o = omega (arith, ap length c.self.view_is, c.requires.second_held) in
    let xe = get_or_read o a x al c.index-x.ensures 0 in let ye = get_or_read o b y bl c.index-y.ensures 0 in
    let xl : x < length p = omega (arith, xe, is.number_in a al, is.size) in let yl : y < length p = omega (arith, ye, is.number_in b bl, is.size) in
    let now : c.swap-2.new.self ≡ swap p x y = rw (c.at.ensures, c.at-2.ensures) at (c.swap-2.ensures.exchanged 0) ∙ swap_is p x y 0 xl yl in
    rw (c.swap.ensures.items, now) (order_swapped o p a b x y is al bl xe ye)

pub returns-clause-each : goal.returns-clause-each
returns-clause-each g c = each_of _ c.swap-2.new.self (invariant_of-self g c)

use Rattle.std.proofs.Common.{◌≡◌, ◌-◌, ◌<◌, None, Some, length, reverse, position, bytes_eq, inl, inr, sym, ap, subst, arith}
use Rattle.bz_complete.specs.Named.{ChanTable}
use Rattle.bz_complete.proofs.Naming.{alone, named_port, unnamed}
use Rattle.bz_complete.proofs.names.ChanNames.chan.Goals as goal

pub returns-in-Some : goal.returns-in-Some
returns-in-Some c =
    let none = c.is_empty.ensures in let is = c.if-is_empty.false in let some : 0 < length c.args.word.now = grind (arith, none, is) in
    let same = ap (λ (t : ChanTable). t.ports) c.self.view_is in (
      λ e. let zero = ap length e in omega (arith, some, zero),
      inl (named_port c.args.self.now.ports c.args.word.now c.in-Some.place (subst (λ ports. Some c.in-Some.place ≡ position (bytes_eq c.args.word.now) ports) same c.in-Some.ensures.place)),
    )

pub returns-then-first-last : goal.returns-then-first-last
returns-then-first-last c =
    let none = c.is_empty.ensures in let is = c.if-is_empty.false in let some : 0 < length c.args.word.now = grind (arith, none, is) in
    let same = ap (λ (t : ChanTable). t.ports) c.self.view_is in (
      λ e. let zero = ap length e in omega (arith, some, zero),
      inr (
        unnamed c.args.self.now.ports c.args.word.now (subst (λ ports. None ≡ position (bytes_eq c.args.word.now) ports) same c.in_default.ensures.place),
        alone c.args.self.now.labels c.args.word.now c.in_ok-first.first c.in_ok-first.ensures.first
            (subst (λ k. position (bytes_eq c.args.word.now) (reverse c.args.self.now.labels) ≡ Some (length c.args.self.now.labels - 1 - k)) (sym c.if-first-last.true) c.in_ok-first.ensures.last)
            c.in_ok-first.ensures.within.0,
      ),
    )

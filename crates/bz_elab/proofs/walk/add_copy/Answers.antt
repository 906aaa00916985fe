use Rattle.std.proofs.Common.{◌≡◌, ◌∷◌, ◌+◌, ◌-◌, ℕ, drop, set, length, refl, subst, arith}
use Rattle.std.proofs.lemmas.List.{drop-set}
use Rattle.bz_elab.specs.declared.walk.Level.{Level}
use Rattle.bz_elab.proofs.walk.add_copy.Goals as goal

pub returns-clause-ok : goal.returns-clause-ok
returns-clause-ok c =
    let ports : c.len.result ≡ length c.args.inner.now.ports.items = omega arith in
    let levels = c.args.levels.now in
    let at = c.args.depth - 1 in
    let level : Level = record { before = c.len-before.result; ports = c.args.ports } in
    let deeper = c.requires.deeper in
    let room = c.requires.room in
    let next : at + 1 ≡ c.args.depth = omega (arith, deeper) in
    record {
      level = level;
      inside_is = subst (λ (n : ℕ). drop at (set levels at level) ≡ level ∷ drop n levels) next (drop-set levels at level (omega (arith, deeper, room)));
      before_is = omega (arith, c.len-before.ensures);
      ports_are = refl;
      entered = rw ports at c.in_ok-enter.ensures.ok;
    }

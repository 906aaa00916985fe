use Rattle.std.proofs.Common.{ℕ, Option, sym, subst}
use Rattle.bz_kinds.specs.KeptLists.{slots_of}
use Rattle.bz_kinds.specs.Riding.{Made, held}
use Rattle.bz_kinds.proofs.process.turn_far.Goals as goal

pub returns-clause-made : goal.returns-clause-made
returns-clause-made c d e =
    let before = slots_of c.args.proc.now.slots in let after = slots_of c.turn_held-mv.new.proc.slots in let mv = c.turn_held-mv.result.0 in
    subst (λ (v : Option ℕ). Made d (held c.args.rides c.args.value) before after mv v) (sym c.held.ensures) (c.turn_held-mv.ensures.made d e)

use Rattle.std.proofs.Common.{ℕ, Option, sym, subst}
use Rattle.bz_kinds.specs.KeptLists.{slots_of}
use Rattle.bz_kinds.specs.Riding.{Made, held}
use Rattle.bz_kinds.proofs.process.turn_held.Goals as goal

pub returns-clause-made : goal.returns-clause-made
returns-clause-made c d e =
    let before = slots_of c.args.proc.now.slots in let after = slots_of c.turn_rare-mv.new.proc.slots in let mv = c.turn_rare-mv.result.0 in
    subst (λ (v : Option ℕ). Made d (held c.args.rides c.args.value.now) before after mv v) (sym c.parts-carries.ensures)
    (subst (λ (r : Option ℕ). Made d r before after mv c.turn_rare-mv.result.1) c.held-before.ensures (c.turn_rare-mv.ensures.made d e))

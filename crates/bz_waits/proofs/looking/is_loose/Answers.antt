use Rattle.std.proofs.Common.{sym, ◌∙◌}
use Rattle.std.proofs.lemmas.Bool.{false≢true}
use Rattle.bz_waits.proofs.Holding.{loose_told}
use Rattle.bz_waits.proofs.looking.is_loose.Goals as goal

pub returns-then-has : goal.returns-then-has
returns-then-has c =
    let n = c.args.core.now in
    loose_told n.wiring n.state c.args.members.now c.args.comp c.comp_holds.result c.requires.from c.requires.to (sym c.has.ensures ∙ c.if-has.true) c.comp_holds.ensures

pub returns : goal.returns
returns c = λ is. absurd (false≢true (sym c.if-has.false ∙ c.has.ensures ∙ is))

use Rattle.std.proofs.Common.{◌∙◌, sym}
use Rattle.bz_elab.proofs.Numbering.{named_number, number_is_first, found_within}
use Rattle.bz_elab.proofs.walk.find.Goals as goal

pub returns-clause-part : goal.returns-clause-part
returns-clause-part c = rw (c.number.ensures ∙ number_is_first c.args.parts.now c.args.name.now) (sym (named_number c.args.parts.now c.args.name.now))

pub returns-clause-within : goal.returns-clause-within
returns-clause-within c = found_within c.args.parts.now c.args.name.now _ (c.number.ensures ∙ number_is_first c.args.parts.now c.args.name.now)

pub returns-clause-number : goal.returns-clause-number
returns-clause-number c = c.number.ensures ∙ number_is_first c.args.parts.now c.args.name.now

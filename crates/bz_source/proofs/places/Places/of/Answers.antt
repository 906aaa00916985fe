use Rattle.std.proofs.Common.{ap, sym, ◌∙◌}
use Rattle.bz_elab.proofs.Numbering.{named_within}
use Rattle.bz_source.specs.Found.{located}
use Rattle.bz_source.proofs.Net.{finds_named}
use Rattle.bz_source.proofs.places.Places.of.Goals as goal

pub walk-requires : goal.walk-requires
walk-requires c = named_within c.args.parts.now c.args.top.now c.in-Some.number (sym c.number_of.ensures ∙ c.in-Some.is)

pub returns-clause-net : goal.returns-clause-net
returns-clause-net c =
    finds_named c.args.parts.now c.args.top.now c.in_ok-sort.field-0
    (c.in-Some.number, sym c.number_of.ensures ∙ c.in-Some.is, c.in_ok-sort.ensures ∙ ap located c.in_ok-finds.ensures.ok)

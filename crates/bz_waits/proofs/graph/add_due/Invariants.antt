use Rattle.bz_waits.specs.Adding.{AddsUpTo}
use Rattle.bz_waits.specs.Waiting.{IsPlace}
use Rattle.bz_waits.proofs.graph.add_due.Given as goal

abbrev pub invariant-loop-before : goal.invariant-loop-before
invariant-loop-before l = record {
  place : IsPlace l.core.wiring.sites l.core.state l.comp l.due l.place;
  adds : AddsUpTo l.core.wiring.sites l.core.state l.comp l.due l.before l.fn.waits.items l.waits.items;
}

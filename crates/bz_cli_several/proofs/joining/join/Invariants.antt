use Rattle.std.proofs.Common.{◌≡◌, take}
use Rattle.bz_words.specs.Words.{texts}
use Rattle.bz_cli_several.specs.Holding.{asked_of}
use Rattle.bz_cli_several.proofs.Joins.{GoneSo}
use Rattle.bz_cli_several.proofs.joining.join.Given as goal

-- the pieces so far go on one after another, and nothing was told of them
abbrev pub invariant-loop-name : goal.invariant-loop-name
invariant-loop-name g l = record {
  gone : GoneSo (asked_of l.judge) (g.X.Traces.text l.traces) (texts (take l.name-index l.fronts)) l.joined l.counts;
  kept : g.W.Write.contents l.output ≡ g.W.Write.contents l.initial.output;
}

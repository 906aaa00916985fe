use Rattle.std.proofs.Common.{◌≡◌, List, take}
use Rattle.bz_words.specs.Words.{texts}
use Rattle.bz_cli_several.specs.declared.judging.Fate.{Fate}
use Rattle.bz_cli_several.specs.Fates.{tally_of}
use Rattle.bz_cli_several.specs.Holding.{Holds, asked_of}
use Rattle.bz_cli_several.proofs.Lines.{ToldSo}
use Rattle.bz_cli_several.proofs.several.check_all.Given as goal

abbrev pub invariant-loop-name : goal.invariant-loop-name
invariant-loop-name g l = record {
  holds : Holds (asked_of l.judge) l.held;
  told : (fates : List Fate) × (l.tally ≡ tally_of fates)
      × ToldSo (asked_of l.judge) (g.X.Traces.text l.traces) (texts l.names) (texts (take l.name-index l.names)) l.judge.json (g.W.Write.contents l.initial.output) (g.W.Write.contents l.output) fates;
}

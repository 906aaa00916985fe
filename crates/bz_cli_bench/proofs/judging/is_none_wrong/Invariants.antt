use Rattle.std.proofs.Common.{◌≡◌, true, Some}
use Rattle.bz_bench.specs.declared.stream.Item.TheVariants.{Any}
use Rattle.bz_model.specs.Names.{channel, port_sense}
use Rattle.bz_bench.proofs.Each.{OfFirst}
use Rattle.bz_cli_bench.specs.Verdicts.{OfSome, gives}
use Rattle.bz_cli_bench.proofs.judging.is_none_wrong.Given as goal

abbrev pub invariant-loop-place : goal.invariant-loop-place
invariant-loop-place l = record {
  each : OfFirst l.streams (λ port stream. gives (channel l.net.wiring.chans port) (port_sense l.net.wiring.ports port) ≡ true → stream.forever ≡ Some Any) l.place;
  some : l.is_some ≡ true → OfSome l.streams (λ port stream. stream.forever ≡ Some Any);
}

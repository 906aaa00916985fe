use Rattle.std.proofs.Common.{◌≡◌, ◌+◌, ◌-◌, ◌*◌, ◌<◌, ◌^◌, fold, drop}
use Rattle.std.specs.List.{list_all}
use Rattle.std.specs.Char.{is_ascii_digit}
use Rattle.bz_sexpr.proofs.bytes.short_number.Given as goal

abbrev pub invariant-loop-b : goal.invariant-loop-b
invariant-loop-b l = record {
  value : fold (λ n b. n * 10 + (b - 48)) 0 l.run ≡ fold (λ n b. n * 10 + (b - 48)) l.n (drop l.b-index l.run);
  digits : list_all is_ascii_digit l.run ≡ list_all is_ascii_digit (drop l.b-index l.run);
  fits : l.n < 10 ^ l.b-index;
}

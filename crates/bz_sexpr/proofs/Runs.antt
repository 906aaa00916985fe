-- What a table of all bytes tells of one.
use Rattle.std.proofs.Common.{◌≡◌, ◌<◌, ℕ, Bool, false, List, map, slice_index_or, ap, ◌∙◌, arith}
use Rattle.std.specs.List.{range_with_len}
use Rattle.std.proofs.lemmas.List.FromFn.{get_or-map-range_with_len}

pub told : (test : ℕ → Bool) (table : List Bool) (b : ℕ) → b < 256 → table ≡ map test (range_with_len 0 256) → slice_index_or table b false ≡ test b
told test table b below is = ap (λ t. slice_index_or t b false) is ∙ get_or-map-range_with_len test 0 256 b b false below (omega arith)

use Rattle.std.proofs.Common.{◌+◌, ◌/◌, arith}
use Rattle.bz_bits.proofs.Search.{sums_none}
use Rattle.bz_bits.proofs.summed.SummedRow.new.Goals as goal

pub invariant_of-result : goal.invariant_of-result
invariant_of-result g c =
    let n = c.args.len in
    rw (c.in_ok-row.ensures, c.in_ok-words.ensures, c.in_ok-blocks.ensures)
    (sums_none n (n / 64 + 1) (omega arith) c.ranges.len.fits, sums_none (n / 64 + 1) (n / 4096 + 1) (omega arith) (omega (arith, c.ranges.len.fits)))

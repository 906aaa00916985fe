use Rattle.std.proofs.Common.{arith}
use Rattle.bz_since.proofs.Kept.{keeps_begin}
use Rattle.bz_since.proofs.at_line.AtLineWatch.begin.Goals as goal

pub returns-then-self-eq0 : goal.returns-then-self-eq0
returns-then-self-eq0 c =
    let after = c.keep.ensures.others.0 in
    let left = c.keep.ensures.others.1 in
    keeps_begin c.args.net.now c.keep.new.self c.requires (omega (arith, after, left)) (λ none. c.keep.ensures.kept)

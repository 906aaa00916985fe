use Rattle.bz_bits.proofs.Firsts.{ends_before, stops_before, zeros_on_from}
use Rattle.bz_bits.proofs.bits.next_beyond.Goals as goal

pub returns-clause-within : goal.returns-clause-within
returns-clause-within c = ends_before c.args.more.now c.args.from c.args.end c.min-last.result c.min-before.result c.count_zeros.result c.min-last.ensures c.min-before.ensures c.count_zeros.ensures.within c.requires

pub returns-clause-passed : goal.returns-clause-passed
returns-clause-passed c k le lt =
    zeros_on_from c.args.more.now c.args.from c.args.end c.min-last.result c.min-before.result c.count_zeros.result c.min-last.ensures c.min-before.ensures c.count_zeros.ensures.within c.count_zeros.ensures.zeros k le lt

pub returns-clause-stops : goal.returns-clause-stops
returns-clause-stops c before lt =
    stops_before c.args.more.now c.args.from c.args.end c.min-last.result c.min-before.result c.count_zeros.result c.min-last.ensures c.min-before.ensures c.count_zeros.ensures.within c.count_zeros.ensures.stops before lt

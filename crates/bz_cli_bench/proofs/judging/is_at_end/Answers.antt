use Rattle.std.proofs.Common.{inl}
use Rattle.bz_cli_bench.proofs.judging.is_at_end.Goals as goal

pub returns-in-None : goal.returns-in-None
returns-in-None c = λ yes.
    inl (record { from = c.args.from; rest = c.in-None.ensures; was = c.requires.was; served = c.are_served.ensures yes })

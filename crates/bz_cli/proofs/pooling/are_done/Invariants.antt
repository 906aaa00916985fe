use Rattle.std.proofs.Common.{◌≡◌, drop}
use Rattle.std.specs.List.{list_all}
use Rattle.bz_cli.specs.Pooling.{is_done}
use Rattle.bz_cli.proofs.pooling.are_done.Given as goal

-- all ends before are done
abbrev pub invariant-loop-end : goal.invariant-loop-end
invariant-loop-end l = list_all is_done (drop l.end-index l.ends) ≡ list_all is_done l.ends

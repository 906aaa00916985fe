use Rattle.std.proofs.Common.{◌≡◌, map, take}
use Rattle.bz_model.specs.Nets.{chan_in}
use Rattle.bz_elab.proofs.component.gather.Given as goal

abbrev pub invariant-loop-number : goal.invariant-loop-number
invariant-loop-number l = l.carried.items ≡ map (chan_in l.channels) (take l.number-index l.numbers)

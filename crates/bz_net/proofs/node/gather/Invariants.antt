use Rattle.std.proofs.Common.{◌≡◌, map, take}
use Rattle.bz_model.specs.Nets.{chan_in}
use Rattle.bz_net.proofs.node.gather.Given as goal

-- the channels of the ports so far
abbrev pub invariant-loop-number : goal.invariant-loop-number
invariant-loop-number l = l.own.items ≡ map (chan_in l.names.chans) (take l.number-index l.site.chans.items)

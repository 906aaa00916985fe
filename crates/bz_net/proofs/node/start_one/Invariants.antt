use Rattle.std.proofs.Common.{◌≡◌, map, take}
use Rattle.bz_model.specs.Nets.{chan_in}
use Rattle.bz_net.proofs.node.start_one.Given as goal

-- the channels of the ports so far
abbrev pub invariant-loop-chan : goal.invariant-loop-chan
invariant-loop-chan l = l.own.items ≡ map (chan_in l.chans) (take l.chan-index l.site.chans.items)

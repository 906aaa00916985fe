use Rattle.std.proofs.Common.{◌≡◌, ◌≤◌, ◌-◌, suc}
use Rattle.bz_source.specs.Found.{channels_from}
use Rattle.bz_source.specs.Views.{Finds}
use Rattle.bz_source.proofs.walk.add_channels.Given as goal

abbrev pub invariant-loop-position : goal.invariant-loop-position
invariant-loop-position l = (l.channels ≤ l.ports → l.position ≡ l.ports) × Finds l.initial.finds l.finds (channels_from l.part l.path (suc l.ports) (l.position - l.ports))

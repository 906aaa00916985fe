use Rattle.std.proofs.Common.{◌≡◌, ◌++◌, ◌-◌, take, drop}
use Rattle.bz_elab.specs.Growth.{Within}
use Rattle.bz_elab.proofs.walk.enter.Given as goal

abbrev pub invariant-loop-i : goal.invariant-loop-i
invariant-loop-i l = record {
  within : Within l.draft;
  chans_are : l.draft.chans ≡ l.fn.draft.chans ++ take (l.i - l.ports) (drop l.ports l.part.channels.items);
  comps_are : l.draft.comps ≡ l.fn.draft.comps;
  ends_are : l.draft.ends ≡ l.fn.draft.ends;
}

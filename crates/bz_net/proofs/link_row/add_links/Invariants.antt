use Rattle.std.proofs.Common.{◌≡◌, ◌++◌, take}
use Rattle.bz_net.specs.LinkRow.{links_of}
use Rattle.bz_net.proofs.link_row.add_links.Given as goal

abbrev pub invariant-loop-place : goal.invariant-loop-place
invariant-loop-place l = l.row.items ≡ l.fn.row.items ++ links_of l.fn.ends l.fn.comp 1 (take l.place l.fn.chans)

use Rattle.std.proofs.Common.{◌≡◌, map, drop}
use Rattle.bz_flat.specs.Flats.{site_of}
use Rattle.bz_page.specs.Rows.{has_kind}
use Rattle.bz_page.proofs.rows.has_kind.Given as goal

abbrev pub invariant-loop-i : goal.invariant-loop-i
invariant-loop-i l = has_kind (map site_of l.comps) l.word ≡ has_kind (map site_of (drop l.i l.comps)) l.word

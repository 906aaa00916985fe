use Rattle.bz_source.proofs.brought.+brought_in.Given as goal

abbrev pub decreases-brought_in : goal.decreases-brought_in
decreases-brought_in l = l.depth

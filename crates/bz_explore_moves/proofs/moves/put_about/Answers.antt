use Rattle.bz_view.proofs.Lines.{within_then}
use Rattle.bz_explore_moves.proofs.moves.put_about.Goals as goal

pub returns : goal.returns
returns c =
    within_then _ _ _ c.put_comp_port.ensures (within_then _ _ _ c.put_instance_of.ensures (within_then _ _ _ c.put_comp_name.ensures (within_then _ _ _ c.put_comp_source.ensures c.put_chan_name.ensures)))

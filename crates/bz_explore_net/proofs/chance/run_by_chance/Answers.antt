use Rattle.std.proofs.Common.{◌∙◌, subst}
use Rattle.bz_model.specs.declared.event.Entry.{Entry}
use Rattle.bz_net.specs.Simulation.{Adds}
use Rattle.bz_explore_net.specs.Picking.{IsPickedEntry}
use Rattle.bz_explore_net.proofs.Picked.{picks_more}
use Rattle.bz_explore_net.proofs.chance.run_by_chance.Goals as goal

pub loop-made-preserved : goal.loop-made-preserved
loop-made-preserved c =
    let a = c.in-Ok-Fired in let l = c.loop-made in
    let g = l.picker.state in let h = c.pick_move.new.picker.state in
    let picked = subst (λ (e : Entry). IsPickedEntry l.net c.args.who g h e) a.field-0-is a.ensures.picked in
    let adds = subst (λ (e : Entry). Adds l.net e c.pick_move.new.net) a.field-0-is a.ensures.adds in
    record {
      plays = picks_more c.args.net.now l.net c.pick_move.new.net c.args.who a.field-0-0 l.made c.args.picker.now.state g h a.field-0-1 a.field-0-2 a.field-0-3 a.field-0-4 a.field-0-5 l.invariant.plays picked adds;
      seed = c.pick_move.ensures.seed ∙ l.invariant.seed;
      movers = c.pick_move.ensures.movers;
    }

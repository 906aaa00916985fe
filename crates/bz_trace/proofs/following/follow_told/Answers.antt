use Rattle.std.proofs.Common.{refl}
use Rattle.bz_model.specs.declared.event.Entry.TheVariants.{Fired}
use Rattle.bz_model.specs.declared.event.Who.TheVariants.{Worker}
use Rattle.bz_trace.proofs.Stopping.{firing_goes, gives}
use Rattle.bz_trace.proofs.following.follow_told.Goals as goal

pub fire_foretold-requires-clause-given : goal.fire_foretold-requires-clause-given
fire_foretold-requires-clause-given c = let a = c.args in gives a.net.now (Worker 1) a.told.comp a.told.chan a.told.mv a.value c.requires.led c.requires.has_line

pub returns-clause-goes : goal.returns-clause-goes
returns-clause-goes c = λ made.
    let a = c.args in let t = a.told in
    firing_goes a.net.now c.fire_foretold.new.self (Worker 1) t.comp t.chan t.mv a.value (Fired (Worker 1) t.comp t.port t.chan t.mv a.value) (t.port, refl) (c.fire_foretold.ensures.enters made) (c.fire_foretold.ensures.sole made)

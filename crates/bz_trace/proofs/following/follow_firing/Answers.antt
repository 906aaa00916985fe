use Rattle.std.proofs.Common.{refl}
use Rattle.bz_model.specs.declared.event.Entry.TheVariants.{Fired}
use Rattle.bz_trace.proofs.Stopping.{firing_goes, firing_stops, gives}
use Rattle.bz_trace.proofs.following.follow_firing.Goals as goal

pub fire_on-requires : goal.fire_on-requires
fire_on-requires c = let a = c.args in gives a.net.now a.who a.comp a.chan a.mv a.value c.requires.led c.requires.has_line

pub returns-in-Some : goal.returns-in-Some
returns-in-Some c =
    let a = c.args in let made = c.in-Some.ensures in
    firing_goes a.net.now c.fire_on.new.self a.who a.comp a.chan a.mv a.value (Fired a.who a.comp c.in-Some.field-0 a.chan a.mv a.value) (c.in-Some.field-0, refl) made.enters made.sole

pub returns-in-None : goal.returns-in-None
returns-in-None c =
    let a = c.args in let none = c.in-None.ensures.none in
    (firing_stops a.net.now a.who a.comp a.chan a.mv a.value c.requires.place none.1, none.0)

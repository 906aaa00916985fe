use Rattle.std.proofs.Common.{refl, subst}
use Rattle.bz_complete.specs.Completing.{Gains}
use Rattle.bz_complete.proofs.Gaining.{gains_fired}
use Rattle.bz_complete.proofs.making.sends.Goals as goal

pub returns-in_ok-fire_move-in-Some : goal.returns-in_ok-fire_move-in-Some
returns-in_ok-fire_move-in-Some c =
    let seen = c.in-Some in let fired = c.in_ok-fire_move-in-Some in
    subst (Gains c.args.net.now c.fire_move.new.self) (c.if-is_due.ensures.0 refl)
    (gains_fired c.args.net.now c.fire_move.new.self c.args.comp c.args.port seen.chan seen.mv seen.value fired.field-0 seen.ensures.0 seen.ensures.1 fired.ensures.sole fired.ensures.adds)

use Rattle.bz_complete.specs.Shown.{shown_word}
use Rattle.bz_model.specs.declared.event.Reply.TheVariants.{Done}
use Rattle.std.proofs.Common.{None}
use Rattle.bz_complete.proofs.Gaining.{gains_silent}
use Rattle.bz_complete.proofs.making.notes.Goals as goal

pub returns-in-Ok : goal.returns-in-Ok
returns-in-Ok c = gains_silent c.args.net.now c.gives.new.net _ (shown_word c.args.verb c.args.port None Done) c.requires.silent c.in-Ok.ensures

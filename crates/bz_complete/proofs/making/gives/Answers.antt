use Rattle.bz_complete.specs.Shown.{shown_word}
use Rattle.bz_complete.proofs.Gaining.{gains_word, not_given}
use Rattle.bz_model.specs.declared.event.Reply.TheVariants.{Done}
use Rattle.bz_complete.proofs.making.gives.Goals as goal

pub returns-in-Ok : goal.returns-in-Ok
returns-in-Ok c = rw c.is_done.ensures (gains_word c.args.net.now c.host_at.new.self c.args.verb c.args.port c.args.value c.in-Ok.reply c.in-Ok.ensures.adds)

pub returns-in-Err : goal.returns-in-Err
returns-in-Err c = not_given c.args.net.now c.host_at.new.self (shown_word c.args.verb c.args.port c.args.value Done) c.not_given.result c.in-Err.ensures.err c.not_given.ensures

use Rattle.std.proofs.Common.{sym, ap, ◌∙◌}
use Rattle.std.proofs.lemmas.Bool.{false≢true}
use Rattle.bz_complete.specs.Shown.{shown_of}
use Rattle.bz_complete.proofs.Refusals.{sends_other}
use Rattle.bz_complete.proofs.refusing.has_sent.Goals as goal

pub returns-in-Fired : goal.returns-in-Fired
returns-in-Fired c = λ not.
    sends_other c.args.net.now c.in_ok-copy.copy c.fire_move.new.self _ c.args.comp c.args.port c.args.due _ c.in_ok-copy.ensures.same c.requires c.in_ok-chan.ensures.sole
    (λ shows. false≢true (sym not ∙ c.is_due.ensures.1 (sym (ap shown_of c.in-Fired.is) ∙ shows)))

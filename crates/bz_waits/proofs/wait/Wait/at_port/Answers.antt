use Rattle.std.proofs.Common.{inl, sym, ap, subst, ◌∙◌, not}
use Rattle.bz_model.specs.declared.channel.Phase.{Phase}
use Rattle.bz_model.specs.Nets.{passive_at}
use Rattle.bz_waits.specs.Waiting.{IsAtEnd, first_move}
use Rattle.bz_waits.proofs.wait.Wait.at_port.Goals as goal

pub returns-clause-wait : goal.returns-clause-wait
returns-clause-wait c =
    let sites = c.args.core.now.wiring.sites in record {
      stuck = c.requires.stuck;
      waits = inl (record {
        port = c.args.port;
        due = c.args.due;
        is_due = c.requires.due;
        awaited = c.requires.awaited;
        chan = c.chan_at-chan.ensures;
        other = subst (λ k. IsAtEnd sites k (not (passive_at sites c.args.comp c.args.port)) c.other_end-other.result) (sym c.chan_at-chan.ensures) c.other_end-other.ensures;
        whom = c.whom_of.ensures;
        first = c.first_move.ensures ∙ ap (λ (phase : Phase). first_move c.args.due phase) c.phase.ensures.phase;
        place = c.requires.place;
      });
    }

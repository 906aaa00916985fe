use Rattle.std.proofs.Common.{◌≡◌, Option, List, [], ◌∷◌, ◌++◌, refl, sym, ap, subst, ◌∙◌, append-nil}
use Rattle.bz_model.specs.declared.event.Cmd.TheVariants as word
use Rattle.bz_model.specs.declared.event.Entry.{Entry}
use Rattle.bz_model.specs.declared.event.Entry.TheVariants.{Host}
use Rattle.bz_model.specs.declared.event.Reply.{Reply}
use Rattle.bz_model.specs.declared.event.Who.TheVariants as who
use Rattle.bz_net.specs.Progress.{Progress, IsToldBy, with_journal}
use Rattle.bz_cli_core.specs.Playing.{PlaysOne, StopsOne}
use Rattle.bz_cli_core.specs.Running.{refusal_in}
use Rattle.bz_cli_core.proofs.Words.{host_plays, host_stops}
use Rattle.bz_cli_core.proofs.Pieces.{command_wants, sent_with}
use Rattle.bz_cli_core.proofs.playing.command_out.Goals as goal

same_last : (a b : Entry) → (a ∷ []) ≡ (b ∷ []) → a ≡ b
same_last a b e = cc

pub returns-in-Ok-clause-ok : goal.returns-in-Ok-clause-ok
returns-in-Ok-clause-ok g c =
    let old = c.args.play.now in let new = c.command.new.self in let e = c.in-Ok.entry in
    let ready = c.make_room.new.self in let now = g.W.Write.contents c.make_room.new.out in
    let replies = c.in-Ok.ensures.replies in
    let room = rw c.names.ensures.value at c.make_room.ensures.sent in
    let pushed : c.push.new.self.items ≡ ready.entries.items ++ e ∷ [] = rw c.unwrap.ensures at c.push.ensures.items in
    record {
      entries = e ∷ [];
      made = λ journal. subst (λ (o : Option Reply). PlaysOne (with_journal old journal) (with_journal new (journal ++ e ∷ [])) (word.Host c.args.cmd.now) o) (refusal journal)
          (host_plays (with_journal old journal) (with_journal new (journal ++ e ∷ [])) c.args.cmd.now replies.0 (replies.1 journal));
      leads = c.in-Ok.ensures.leads;
      sent = λ start played sent. sent_with old.wiring.ports now ready (record { entries = c.push.new.self; failed = ready.failed }) (e ∷ []) refl pushed start played (room start played sent);
    }
  where
    refusal : (journal : List Entry) → refusal_in (Host (who.Host 1) c.args.cmd.now.verb (c.in-Ok.ensures.replies.1 journal).port c.args.cmd.now.value c.in-Ok.ensures.replies.0) ≡ c.refusal_in.result
    refusal journal = ap refusal_in (sym (same_last _ _ (c.in-Ok.ensures.replies.1 []).adds.journal)) ∙ sym c.refusal_in.ensures

pub returns-in-Err-clause-err : goal.returns-in-Err-clause-err
returns-in-Err-clause-err g c =
    let old = c.args.play.now in let new = c.command.new.self in
    let ready = c.make_room.new.self in let now = g.W.Write.contents c.make_room.new.out in
    let same : new ≡ old = c.in-Err.ensures.err in
    let room = rw c.names.ensures.value at c.make_room.ensures.sent in
    record {
      entries = [];
      made = λ journal. subst (λ es. StopsOne (with_journal old journal) (with_journal new es) (word.Host c.args.cmd.now) c.in-Err.error) (sym (append-nil journal))
          (host_stops (with_journal old journal) (with_journal new journal) c.args.cmd.now c.in-Err.error (c.in-Err.ensures.cause journal) (ap (λ (v : Progress). with_journal v journal) same));
      leads = λ journal told. subst (IsToldBy new) (sym (append-nil journal)) (subst (λ (v : Progress). IsToldBy v journal) (sym same) told);
      sent = λ start played sent. sent_with old.wiring.ports now ready ready [] refl (sym (append-nil ready.entries.items)) start played (room start played sent);
    }

pub returns-in-Err-clause-memory : goal.returns-in-Err-clause-memory
returns-in-Err-clause-memory g c = command_wants c.args.play.now [] c.args.cmd.now c.in-Err.error (c.in-Err.ensures.cause [])

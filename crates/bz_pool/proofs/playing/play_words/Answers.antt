use Rattle.std.proofs.Common.{◌≡◌, ◌+◌, ◌-◌, ◌∷◌, ◌++◌, [], List, length, refl, take, arith, sym, ap, ◌∙◌, subst, append_assoc}
use Rattle.std.proofs.lemmas.List.{append-nil, take_all, take_more}
use Rattle.bz_past.proofs.Leading.{here}
use Rattle.bz_model.specs.declared.event.HostCmd.{HostCmd}
use Rattle.bz_model.specs.declared.event.Entry.{Entry}
use Rattle.bz_locked.specs.Commands.{RefusesPoll}
use Rattle.bz_locked.specs.Working.{HasWaitedOrNot, WasTold, WasRefused}
use Rattle.bz_locked.specs.declared.locked.Work.TheVariants as work
use Rattle.bz_pool.specs.declared.playing.End.TheVariants.{Resting, Spent, Stopped, Refused}
use Rattle.bz_words.specs.declared.words.SessionError.TheVariants.{Event}
use Rattle.bz_pool.specs.Playing.{IsAnswerTo, AreAnswers}
use Rattle.bz_pool.proofs.Growing.{answers_push, found, nothing_yet, played_so, stays_on, worked_or}
use Rattle.bz_pool.proofs.playing.play_words.Goals as goal

pub loop-cmd-preserved : goal.loop-cmd-preserved
loop-cmd-preserved g c =
    let inv = c.loop-cmd.invariant in
    let t = g.L.NetLedger.terms in
    let saw = c.wait_host.new.session.seat.saw in
    let stays = c.wait_host.ensures.who.1 in
    let told = rw c.in-Ok-Answered.field-0-is at c.in-Ok-Answered.ensures.answered in
    let notes = told.1 in
    let first = c.args.session.now.seat.saw in
    let had = c.loop-cmd.session.seat.saw in
    let is : IsAnswerTo t had saw c.loop-cmd.session.who c.cmd-item.result notes.entry = (c.in-Ok-Answered.field-0-0, told.0, notes.is_entry, (notes.len, notes.added)) in
    let mine = subst (λ who. IsAnswerTo t had saw who c.cmd-item.result notes.entry) inv.who is in
    let here = subst (λ (cmd : HostCmd). IsAnswerTo t had saw c.args.session.now.who cmd notes.entry) c.cmd-item.is mine in
    let w = t.wiring in
    let waited = subst (λ who. HasWaitedOrNot w who c.cmd-item.result had saw) inv.who c.wait_host.ensures.no_more in
    record {
      worked = worked_or w c.args.session.now.who c.args.words.now c.loop-cmd.cmd-index _ first had saw c.loop-cmd-test.true inv.worked (subst (λ (cmd : HostCmd). HasWaitedOrNot w c.args.session.now.who cmd had saw) c.cmd-item.is waited);
      who = c.wait_host.ensures.who.0 ∙ inv.who;
      stays = stays_on c.args.session.now.seat c.loop-cmd.session.seat c.wait_host.new.session.seat inv.stays stays;
      table = stays.0 ∙ inv.table;
      word = omega (arith, inv.word);
      entries = inv.entries ++ notes.entry ∷ [];
      grown = notes.grown ∙ ap (λ (l : List Entry). l ++ notes.entry ∷ []) inv.grown ∙ append_assoc c.args.session.now.own inv.entries (notes.entry ∷ []);
      answers = subst (λ (cmds : List HostCmd). AreAnswers t first saw c.args.session.now.who cmds (inv.entries ++ notes.entry ∷ [])) (sym (take_more c.args.words.now c.loop-cmd.cmd-index _ c.loop-cmd-test.true)) (answers_push t first had saw c.args.session.now.who (take c.loop-cmd.cmd-index c.args.words.now) inv.entries _ notes.entry inv.answers here);
    }

pub returns-in-Ok-Resting-clause-who : goal.returns-in-Ok-Resting-clause-who
returns-in-Ok-Resting-clause-who g c =
    let stays = c.wait_host.ensures.who.1 in
    (c.wait_host.ensures.who.0 ∙ c.loop-cmd.invariant.who, stays_on c.args.session.now.seat c.loop-cmd.session.seat c.wait_host.new.session.seat c.loop-cmd.invariant.stays stays)

pub returns-in-Ok-Resting-clause-record : goal.returns-in-Ok-Resting-clause-record
returns-in-Ok-Resting-clause-record g c =
    let inv = c.loop-cmd.invariant in
    let told = rw c.in-Ok-Resting.field-0-is at c.in-Ok-Resting.ensures.answered in
    let at : c.loop-cmd.word + 1 - 1 ≡ c.loop-cmd.cmd-index = omega (arith, inv.word) in
    let P : HostCmd → Type 0 = λ cmd. WasTold g.L.NetLedger.terms c.loop-cmd.session.seat.saw c.wait_host.new.session.seat.saw c.args.session.now.who cmd work.Resting in
    let mine = subst (λ who. WasTold g.L.NetLedger.terms c.loop-cmd.session.seat.saw c.wait_host.new.session.seat.saw who c.cmd-item.result work.Resting) inv.who told.0 in
    let why = found P c.args.words.now c.loop-cmd.cmd-index (c.loop-cmd.word + 1) _ at c.loop-cmd-test.true (subst P c.cmd-item.is mine) in
    played_so g.L.NetLedger.terms c.args.session.now.seat.saw c.loop-cmd.session.seat.saw c.wait_host.new.session.seat.saw c.args.session.now.who c.args.words.now (Resting (c.loop-cmd.word + 1)) c.loop-cmd.cmd-index c.args.session.now.own c.loop-cmd.session.own c.wait_host.new.session.own inv.entries
    c.wait_host.ensures.who.1.1 at told.1.0 inv.grown inv.answers why

pub returns-in-Ok-Resting-clause-stood : goal.returns-in-Ok-Resting-clause-stood
returns-in-Ok-Resting-clause-stood g c =
    let w = g.L.NetLedger.terms.wiring in
    let a = c.loop-cmd.session.seat.saw in
    let b = c.wait_host.new.session.seat.saw in
    let mine = subst (λ who. HasWaitedOrNot w who c.cmd-item.result a b) c.loop-cmd.invariant.who c.wait_host.ensures.no_more in
    worked_or w c.args.session.now.who c.args.words.now c.loop-cmd.cmd-index _ c.args.session.now.seat.saw a b c.loop-cmd-test.true c.loop-cmd.invariant.worked (subst (λ (cmd : HostCmd). HasWaitedOrNot w c.args.session.now.who cmd a b) c.cmd-item.is mine)

pub returns-in-Ok-Spent-clause-who : goal.returns-in-Ok-Spent-clause-who
returns-in-Ok-Spent-clause-who g c =
    let stays = c.wait_host.ensures.who.1 in
    (c.wait_host.ensures.who.0 ∙ c.loop-cmd.invariant.who, stays_on c.args.session.now.seat c.loop-cmd.session.seat c.wait_host.new.session.seat c.loop-cmd.invariant.stays stays)

pub returns-in-Ok-Spent-clause-record : goal.returns-in-Ok-Spent-clause-record
returns-in-Ok-Spent-clause-record g c =
    let inv = c.loop-cmd.invariant in
    let told = rw c.in-Ok-Spent.field-0-is at c.in-Ok-Spent.ensures.answered in
    let at : c.loop-cmd.word + 1 - 1 ≡ c.loop-cmd.cmd-index = omega (arith, inv.word) in
    let P : HostCmd → Type 0 = λ cmd. WasTold g.L.NetLedger.terms c.loop-cmd.session.seat.saw c.wait_host.new.session.seat.saw c.args.session.now.who cmd work.Spent in
    let mine = subst (λ who. WasTold g.L.NetLedger.terms c.loop-cmd.session.seat.saw c.wait_host.new.session.seat.saw who c.cmd-item.result work.Spent) inv.who told.0 in
    let why = found P c.args.words.now c.loop-cmd.cmd-index (c.loop-cmd.word + 1) _ at c.loop-cmd-test.true (subst P c.cmd-item.is mine) in
    played_so g.L.NetLedger.terms c.args.session.now.seat.saw c.loop-cmd.session.seat.saw c.wait_host.new.session.seat.saw c.args.session.now.who c.args.words.now (Spent (c.loop-cmd.word + 1)) c.loop-cmd.cmd-index c.args.session.now.own c.loop-cmd.session.own c.wait_host.new.session.own inv.entries
    c.wait_host.ensures.who.1.1 at told.1.0 inv.grown inv.answers why

pub returns-in-Ok-Spent-clause-stood : goal.returns-in-Ok-Spent-clause-stood
returns-in-Ok-Spent-clause-stood g c =
    let w = g.L.NetLedger.terms.wiring in
    let a = c.loop-cmd.session.seat.saw in
    let b = c.wait_host.new.session.seat.saw in
    let mine = subst (λ who. HasWaitedOrNot w who c.cmd-item.result a b) c.loop-cmd.invariant.who c.wait_host.ensures.no_more in
    worked_or w c.args.session.now.who c.args.words.now c.loop-cmd.cmd-index _ c.args.session.now.seat.saw a b c.loop-cmd-test.true c.loop-cmd.invariant.worked (subst (λ (cmd : HostCmd). HasWaitedOrNot w c.args.session.now.who cmd a b) c.cmd-item.is mine)

pub returns-in-Ok-Stopped-clause-who : goal.returns-in-Ok-Stopped-clause-who
returns-in-Ok-Stopped-clause-who g c =
    let stays = c.wait_host.ensures.who.1 in
    (c.wait_host.ensures.who.0 ∙ c.loop-cmd.invariant.who, stays_on c.args.session.now.seat c.loop-cmd.session.seat c.wait_host.new.session.seat c.loop-cmd.invariant.stays stays)

pub returns-in-Ok-Stopped-clause-record : goal.returns-in-Ok-Stopped-clause-record
returns-in-Ok-Stopped-clause-record g c =
    let inv = c.loop-cmd.invariant in
    let told = rw c.in-Ok-Stopped.field-0-is at c.in-Ok-Stopped.ensures.answered in
    let at : c.loop-cmd.word + 1 - 1 ≡ c.loop-cmd.cmd-index = omega (arith, inv.word) in
    let P : HostCmd → Type 0 = λ cmd. WasTold g.L.NetLedger.terms c.loop-cmd.session.seat.saw c.wait_host.new.session.seat.saw c.args.session.now.who cmd work.Stopped in
    let mine = subst (λ who. WasTold g.L.NetLedger.terms c.loop-cmd.session.seat.saw c.wait_host.new.session.seat.saw who c.cmd-item.result work.Stopped) inv.who told.0 in
    let why = found P c.args.words.now c.loop-cmd.cmd-index (c.loop-cmd.word + 1) _ at c.loop-cmd-test.true (subst P c.cmd-item.is mine) in
    played_so g.L.NetLedger.terms c.args.session.now.seat.saw c.loop-cmd.session.seat.saw c.wait_host.new.session.seat.saw c.args.session.now.who c.args.words.now (Stopped (c.loop-cmd.word + 1)) c.loop-cmd.cmd-index c.args.session.now.own c.loop-cmd.session.own c.wait_host.new.session.own inv.entries
    c.wait_host.ensures.who.1.1 at told.1.0 inv.grown inv.answers why

pub returns-in-Ok-Stopped-clause-stood : goal.returns-in-Ok-Stopped-clause-stood
returns-in-Ok-Stopped-clause-stood g c =
    let w = g.L.NetLedger.terms.wiring in
    let a = c.loop-cmd.session.seat.saw in
    let b = c.wait_host.new.session.seat.saw in
    let mine = subst (λ who. HasWaitedOrNot w who c.cmd-item.result a b) c.loop-cmd.invariant.who c.wait_host.ensures.no_more in
    worked_or w c.args.session.now.who c.args.words.now c.loop-cmd.cmd-index _ c.args.session.now.seat.saw a b c.loop-cmd-test.true c.loop-cmd.invariant.worked (subst (λ (cmd : HostCmd). HasWaitedOrNot w c.args.session.now.who cmd a b) c.cmd-item.is mine)

pub returns-in-Err-clause-who : goal.returns-in-Err-clause-who
returns-in-Err-clause-who g c =
    let stays = c.wait_host.ensures.who.1 in
    (c.wait_host.ensures.who.0 ∙ c.loop-cmd.invariant.who, stays_on c.args.session.now.seat c.loop-cmd.session.seat c.wait_host.new.session.seat c.loop-cmd.invariant.stays stays)

pub returns-in-Err-clause-record : goal.returns-in-Err-clause-record
returns-in-Err-clause-record g c =
    let inv = c.loop-cmd.invariant in
    let at : c.loop-cmd.word + 1 - 1 ≡ c.loop-cmd.cmd-index = omega (arith, inv.word) in
    let P : HostCmd → Type 0 = λ cmd. WasRefused g.L.NetLedger.terms c.loop-cmd.session.seat.saw c.wait_host.new.session.seat.saw (λ net e. RefusesPoll net cmd e) c.in-Err.error in
    let why = found P c.args.words.now c.loop-cmd.cmd-index (c.loop-cmd.word + 1) _ at c.loop-cmd-test.true (subst P c.cmd-item.is c.in-Err.ensures.cause) in
    played_so g.L.NetLedger.terms c.args.session.now.seat.saw c.loop-cmd.session.seat.saw c.wait_host.new.session.seat.saw c.args.session.now.who c.args.words.now (Refused (c.loop-cmd.word + 1) (Event c.in-Err.error)) c.loop-cmd.cmd-index c.args.session.now.own c.loop-cmd.session.own c.wait_host.new.session.own inv.entries
    c.wait_host.ensures.who.1.1 at c.in-Err.ensures.err.0 inv.grown inv.answers why

pub returns-clause-record : goal.returns-clause-record
returns-clause-record g c =
    let inv = c.loop-cmd.invariant in
    let all = take_all c.loop-cmd.cmd-index c.args.words.now c.loop-cmd-test.false in
    record {
      entries = inv.entries;
      grown = inv.grown;
      reached = c.loop-cmd.session.seat.saw;
      answers = subst (λ (cmds : List HostCmd). AreAnswers g.L.NetLedger.terms c.args.session.now.seat.saw c.loop-cmd.session.seat.saw c.args.session.now.who cmds inv.entries) (all ∙ sym (take_all (length c.args.words.now) c.args.words.now (omega arith))) inv.answers;
      why = tt;
      on = here c.loop-cmd.session.seat.saw;
    }

pub loop-cmd-init : goal.loop-cmd-init
loop-cmd-init g c = record {
  worked = nothing_yet g.L.NetLedger.terms.wiring c.args.session.now.who c.args.words.now c.args.session.now.seat.saw;
  who = refl;
  stays = (refl, here c.args.session.now.seat.saw);
  table = c.requires;
  word = refl;
  entries = [];
  grown = sym (append-nil c.args.session.now.own);
  answers = here c.args.session.now.seat.saw;
}

pub returns-in-Err-clause-stood : goal.returns-in-Err-clause-stood
returns-in-Err-clause-stood g c =
    let w = g.L.NetLedger.terms.wiring in
    let a = c.loop-cmd.session.seat.saw in
    let b = c.wait_host.new.session.seat.saw in
    let mine = subst (λ who. HasWaitedOrNot w who c.cmd-item.result a b) c.loop-cmd.invariant.who c.wait_host.ensures.no_more in
    worked_or w c.args.session.now.who c.args.words.now c.loop-cmd.cmd-index _ c.args.session.now.seat.saw a b c.loop-cmd-test.true c.loop-cmd.invariant.worked (subst (λ (cmd : HostCmd). HasWaitedOrNot w c.args.session.now.who cmd a b) c.cmd-item.is mine)

pub returns-clause-stood : goal.returns-clause-stood
returns-clause-stood g c = c.loop-cmd.invariant.worked

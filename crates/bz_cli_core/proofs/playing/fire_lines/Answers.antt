use Rattle.std.proofs.Common.{◌≡◌, ◌≤◌, ◌+◌, ◌-◌, ◌<◌, [], suc, length, ap, subst, arith}
use Rattle.bz_model.specs.declared.event.Entry.{Entry}
use Rattle.bz_model.specs.declared.event.Who.TheVariants as who
use Rattle.bz_model.specs.Nets.{Wiring}
use Rattle.bz_model.specs.Traces.{fired_text}
use Rattle.bz_trace_text.proofs.Going.{gone_more}
use Rattle.bz_net.specs.Progress.{Enters, IsOneOf, with_journal}
use Rattle.bz_net.specs.Replies.{IsPicked}
use Rattle.bz_cli_core.proofs.Running.{entered_left, fired_more, no_line, rested, rests_then}
use Rattle.bz_cli_core.proofs.playing.fire_lines.Goals as goal

pub loop-play-init : goal.loop-play-init
loop-play-init g c = record {
  runs = no_line c.args.play.now (g.W.Write.contents c.args.out.now) c.args.lines.now (suc c.args.from) (c.args.play.now.left - c.args.play.now.left) (omega arith);
  fewer = omega arith;
  stop = c.requires.due;
  within = c.requires.from;
  room = c.requires.room;
}

pub loop-play-smaller : goal.loop-play-smaller
loop-play-smaller g c =
    let l = c.loop-play in
    let one : c.step_after-entry.new.self.left + 1 ≡ l.play.left = entered_left l.play c.step_after-entry.result c.step_after-entry.new.self c.step_after-entry.ensures.enters in
    let more : c.args.stop < l.play.left = omega (arith, c.loop-play-test.true, c.left.ensures) in
    omega (arith, one, more)

pub loop-play-preserved : goal.loop-play-preserved
loop-play-preserved g c =
    let l = c.loop-play in let a = c.in-Fired in let o = c.fired in
    let one : c.step_after-entry.new.self.left + 1 ≡ l.play.left = entered_left l.play c.step_after-entry.result c.step_after-entry.new.self c.step_after-entry.ensures.enters in
    let more : c.args.stop < l.play.left = omega (arith, c.loop-play-test.true, c.left.ensures) in
    let is_one : a.comp ≤ length l.play.wiring.sites = subst (IsOneOf (length l.play.wiring.sites)) a.is c.step_after-entry.ensures.within in
    record {
      runs = fired_more c.args.play.now l.play c.step_after-entry.new.self (g.W.Write.contents c.args.out.now) (g.W.Write.contents l.out) (g.W.Write.contents l.out) c.args.lines.now l.lines o.new.self (suc c.args.from) (c.args.play.now.left - l.play.left) (suc l.last) l.invariant.runs a.who a.comp a.port a.chan a.mv a.value (c.args.play.now.left - c.step_after-entry.new.self.left) (omega (arith, one, l.invariant.fewer))
          (subst (λ (e : Entry). IsPicked (with_journal l.play []) (who.Worker 1) (suc l.last) e) a.is c.step_after-entry.ensures.picked)
          (subst (λ (e : Entry). Enters l.play e c.step_after-entry.new.self) a.is c.step_after-entry.ensures.enters)
          (λ start text gone. rw (o.ensures.text, o.ensures.failed) (gone_more start (g.W.Write.contents l.out) l.lines.failed l.lines.page text (fired_text a.who a.comp a.mv a.chan a.value) gone));
      fewer = omega (arith, one, l.invariant.fewer);
      stop = omega (arith, one, more);
      within = omega (arith, is_one, ap (λ (w : Wiring). length w.sites) (c.step_after-entry.ensures.enters.adds []).wiring);
      room = omega (arith, one, more, l.invariant.room, o.ensures.short);
    }

pub returns-in_default-clause-none : goal.returns-in_default-clause-none
returns-in_default-clause-none g c =
    let l = c.loop-play in let o = c.rested in
    let one : c.step_after-entry.new.self.left + 1 ≡ l.play.left = entered_left l.play c.step_after-entry.result c.step_after-entry.new.self c.step_after-entry.ensures.enters in
    let more : c.args.stop < l.play.left = omega (arith, c.loop-play-test.true, c.left.ensures) in
    let is = rested l.play (who.Worker 1) (suc l.last) c.step_after-entry.result c.step_after-entry.ensures.picked c.in_default.not-Fired in
    rests_then c.args.play.now l.play c.step_after-entry.new.self (g.W.Write.contents c.args.out.now) (g.W.Write.contents l.out) (g.W.Write.contents o.new.out) c.args.lines.now l.lines o.new.self (suc c.args.from) (c.args.play.now.left - l.play.left) (suc l.last) l.invariant.runs (c.args.play.now.left - c.args.stop) (c.args.play.now.left - 1 - c.step_after-entry.new.self.left) (omega (arith, one, l.invariant.fewer)) (omega (arith, more, l.invariant.fewer))
    (subst (λ (e : Entry). Enters l.play e c.step_after-entry.new.self) is c.step_after-entry.ensures.enters)
    o.ensures

pub returns-in_default-clause-fewer : goal.returns-in_default-clause-fewer
returns-in_default-clause-fewer g c =
    let l = c.loop-play in
    let one : c.step_after-entry.new.self.left + 1 ≡ l.play.left = entered_left l.play c.step_after-entry.result c.step_after-entry.new.self c.step_after-entry.ensures.enters in
    omega (arith, one, l.invariant.fewer)

use Rattle.std.proofs.Common.{◌≡◌, ◌-◌, suc, refl, subst, arith}
use Rattle.bz_model.specs.declared.event.Who.TheVariants as who
use Rattle.bz_net.specs.Running.{Plays}
use Rattle.bz_cli_core.specs.Sending.{RunsOut}
use Rattle.bz_cli_core.proofs.Running.{no_line, room_made, runs_all, runs_on, runs_to_rest, stops_full}
use Rattle.bz_cli_core.proofs.playing.fire_out.Goals as goal

pub loop-now-init : goal.loop-now-init
loop-now-init g c = record {
  runs = no_line c.args.play.now (g.W.Write.contents c.args.out.now) c.args.lines.now 1 (c.left-had.result - c.left-had.result) (omega arith);
  left = omega (arith, c.left-had.ensures);
  had = c.left-had.ensures;
  fewer = omega arith;
  end = omega arith;
  within = omega arith;
}

pub loop-now-preserved : goal.loop-now-preserved
loop-now-preserved g c =
    let l = c.loop-now in let m = c.make_room.new in let o = c.fire_lines.new in
    let ready = room_made c.args.play.now l.play (g.W.Write.contents c.args.out.now) (g.W.Write.contents l.out) (g.W.Write.contents m.out) c.args.lines.now l.lines m.self (λ x y. Plays x y (who.Worker 1) 1 (c.left-had.result - l.now) (suc l.last)) c.make_room.ensures.gone l.invariant.runs in
    record {
      runs = runs_on c.args.play.now l.play o.play (g.W.Write.contents c.args.out.now) (g.W.Write.contents m.out) (g.W.Write.contents o.out) c.args.lines.now m.self o.lines 1 (c.left-had.result - l.now) (suc l.last) ready
          (l.play.left - c.max-stop.result) (suc c.in-Some.comp) (c.left-had.result - c.max-stop.result) (omega (arith, l.invariant.left, l.invariant.fewer, l.invariant.end, c.max-stop.ensures, c.saturating_sub.ensures)) c.in-Some.ensures.some;
      left = c.in-Some.ensures.stops;
      had = l.invariant.had;
      fewer = omega (arith, l.invariant.fewer, l.invariant.end, c.max-stop.ensures, c.saturating_sub.ensures);
      end = omega (arith, c.max-stop.ensures);
      within = c.in-Some.ensures.within;
    }

pub returns-in-None : goal.returns-in-None
returns-in-None g c =
    let l = c.loop-now in let m = c.make_room.new in let o = c.fire_lines.new in
    let ready = room_made c.args.play.now l.play (g.W.Write.contents c.args.out.now) (g.W.Write.contents l.out) (g.W.Write.contents m.out) c.args.lines.now l.lines m.self (λ x y. Plays x y (who.Worker 1) 1 (c.left-had.result - l.now) (suc l.last)) c.make_room.ensures.gone l.invariant.runs in
    runs_to_rest c.args.play.now l.play o.play (g.W.Write.contents c.args.out.now) (g.W.Write.contents m.out) (g.W.Write.contents o.out) c.args.lines.now m.self o.lines 1 (c.left-had.result - l.now) (suc l.last) ready
    (l.play.left - c.max-stop.result) (l.play.left - 1 - o.play.left) c.args.fuel (c.left-had.result - 1 - c.left.result)
    (omega (arith, l.invariant.left, l.invariant.fewer, c.left.ensures, c.in-None.ensures.fewer))
    (omega (arith, l.invariant.left, l.invariant.fewer, l.invariant.end, c.min-due.ensures, c.max-stop.ensures))
    c.in-None.ensures.none

pub returns-then-due-fuel : goal.returns-then-due-fuel
returns-then-due-fuel g c =
    let l = c.loop-now in
    let all : c.left-had.result - l.now ≡ c.min-due.result = omega (arith, l.invariant.end, c.loop-now-test.false, c.min-due.ensures) in
    let full : l.play.left ≡ 0 = omega (arith, l.invariant.left, l.invariant.end, c.loop-now-test.false, c.min-due.ensures, c.if-due-fuel.true) in
    stops_full c.args.play.now l.play l.play (g.W.Write.contents c.args.out.now) (g.W.Write.contents l.out) c.args.lines.now l.lines c.min-due.result (suc l.last) c.args.fuel c.if-due-fuel.true (refl, full)
    (subst (λ n. RunsOut c.args.play.now l.play (g.W.Write.contents c.args.out.now) c.args.lines.now (g.W.Write.contents l.out) l.lines (λ x y. Plays x y (who.Worker 1) 1 n (suc l.last))) all l.invariant.runs)

pub returns-else-due-fuel : goal.returns-else-due-fuel
returns-else-due-fuel g c =
    let l = c.loop-now in
    let all : c.left-had.result - l.now ≡ c.args.fuel = omega (arith, l.invariant.end, c.loop-now-test.false, c.min-due.ensures, c.if-due-fuel.false) in
    runs_all c.args.play.now l.play (g.W.Write.contents c.args.out.now) (g.W.Write.contents l.out) c.args.lines.now l.lines (c.left-had.result - l.now) (suc l.last) c.args.fuel all l.invariant.runs

use Rattle.std.proofs.Common.{rules, List, take, refl, sym, subst}
use Rattle.bz_model.specs.declared.event.Entry.{Entry}
use Rattle.bz_model.specs.Nets.{Wiring}
use Rattle.bz_explore_net.specs.Stepping.{Played, IsBack}
use Rattle.bz_explore_net.specs.Replaying.{IsRun}
use Rattle.bz_explore_net.proofs.Going.{back}
use Rattle.bz_explore_net.proofs.Replays.{take_runs}
use Rattle.bz_explore_net.proofs.stepping.Stepping.undo.Goals as goal

pub replay-requires-clause-run : goal.replay-requires-clause-run
replay-requires-clause-run c =
    let n = c.self.inside.net in
    let run : IsRun n.wiring n.journal = (n.state, c.journal-journal.ensures.run) in
    let front = take_runs n.wiring n.journal c.min.result run in
    subst (λ (es : List Entry). IsRun c.self.inside.flat.wiring (take c.min.result es)) (sym c.journal-journal.ensures.entries)
    (subst (λ (w : Wiring). IsRun w (take c.min.result n.journal)) c.self.invariant.0 front)

pub returns-clause-back : goal.returns-clause-back
returns-clause-back c =
    let n = c.self.inside in let mark = c.index-mark.result.now in
    let made = back n.flat.wiring n.net c.in-Ok.net n.limit mark.entries c.min.result c.journal-journal.result.now c.self.invariant.0 c.self.invariant.1 c.journal-journal.ensures.entries c.min.ensures c.in-Ok.ensures.ok in (
      mark,
      subst (λ (v : Played). IsBack v c.args.count mark (record { net = c.in-Ok.net; next = mark.next; picker = mark.picker; marks = c.truncate.new.self.items })) c.self.view_is (record {
        enough = search rules;
        first = search rules;
        marks = search rules;
        net = made;
        next = refl;
        picker = refl;
      }),
    )

use Rattle.std.proofs.Common.{◌≡◌, ◌++◌, List, take}
use Rattle.bz_model.specs.declared.event.Entry.{Entry}
use Rattle.bz_locked.specs.Parts.{Stays}
use Rattle.bz_pool.specs.Playing.{AreAnswers, HasWorked}
use Rattle.bz_pool.proofs.playing.play_words.Given as goal

abbrev pub invariant-loop-cmd : goal.invariant-loop-cmd
invariant-loop-cmd g l = record {
  who : l.session.who ≡ l.initial.session.who;
  stays : Stays l.initial.session.seat l.session.seat;
  table : l.session.seat.table ≡ l.shared.table;
  word : l.word ≡ l.cmd-index;
  worked : HasWorked g.L.NetLedger.terms.wiring l.initial.session.who l.words l.initial.session.seat.saw l.session.seat.saw;
  entries : List Entry;
  grown : l.session.own ≡ l.initial.session.own ++ entries;
  answers : AreAnswers g.L.NetLedger.terms l.initial.session.seat.saw l.session.seat.saw l.initial.session.who (take l.cmd-index l.words) entries;
}

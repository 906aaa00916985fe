use Rattle.std.proofs.Common.{◌≡◌, take, length, vec_len, vec_capacity}
use Rattle.bz_net.proofs.Events.{AnsweredAll}
use Rattle.bz_net.proofs.headline.play_events.Given as goal

-- the events so far were answered as they are to be
abbrev pub invariant-loop-who : goal.invariant-loop-who
invariant-loop-who l = record {
  answered : AnsweredAll l.fn.net l.net (take l.who-index l.events) l.answers.items;
  count : vec_len l.answers ≡ l.who-index;
  room : vec_capacity l.answers ≡ length l.events;
}

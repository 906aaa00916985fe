-- Whether a net has listed the components at which requests met says nothing of where it stands.
use Rattle.std.proofs.Common.{ℕ, true, List, ◌++◌, Option, Some, None}
use Rattle.bz_model.specs.declared.event.Entry.{Entry}
use Rattle.bz_model.specs.Names.{Outside}
use Rattle.bz_model.specs.Nets.{Wiring}
use Rattle.bz_net.specs.Progress.{Progress}
use Rattle.bz_trace.specs.Pieces.{Along}
use Rattle.bz_trace.specs.Following.{FollowsText, Stands}
use Rattle.bz_trace.specs.declared.lines.Followed.{Followed}

abbrev pub with_list : Progress → Progress
with_list net = record net { listed = true }

along_listed : (w : Wiring) (net : Progress) (entries : List Entry) → Along w net entries → Along w (with_list net) entries
along_listed w net entries along = record {
  wiring = along.wiring;
  journal = along.journal;
  tells = along.tells;
  each = along.each;
  of_net = record { run = along.of_net.run; clashed = along.of_net.clashed };
  sole = along.sole;
}

stands_listed : (w : Wiring) (past : List Entry) (net : Progress) (entries : List Entry) (stop : Option ℕ) → Stands w past net entries stop → Stands w past (with_list net) entries stop
stands_listed w past net entries None (along, room) = (along_listed w net (past ++ entries) along, room)
stands_listed w past net entries (Some line) (stops, along) = (stops, along_listed w net (past ++ stops.before) along)

pub follows_listed : (names : Outside) (w : Wiring) (past : List Entry) (net : Progress) (text rest : List ℕ) (followed : Followed) → FollowsText names w past net text rest followed → FollowsText names w past (with_list net) text rest followed
follows_listed names w past net text rest followed f = record {
  names_are = f.names_are;
  wired = f.wired;
  before = f.before;
  entries = f.entries;
  each = f.each;
  few = f.few;
  as_told = f.as_told;
  text_is = f.text_is;
  tells = f.tells;
  count_is = f.count_is;
  stands = stands_listed w past net f.entries followed.stop f.stands;
}

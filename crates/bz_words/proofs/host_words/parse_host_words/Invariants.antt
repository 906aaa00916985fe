use Rattle.std.proofs.Common.{◌≤◌, ◌+◌, [], ◌∷◌, ◌++◌, map, take, length}
use Rattle.bz_words.specs.declared.words.TheConstants.{MAX_SESSIONS}
use Rattle.bz_words.specs.Words.{texts, AreSessions}
use Rattle.bz_words.specs.HostWords.{hosts_of}
use Rattle.bz_words.proofs.host_words.parse_host_words.Given as goal

abbrev pub invariant-loop-place : goal.invariant-loop-place
invariant-loop-place l = record {
  spelt : AreSessions (texts (take l.place l.words)) (map hosts_of l.sessions.items ++ hosts_of l.session ∷ []);
  few : length l.sessions.items + 1 ≤ MAX_SESSIONS;
}

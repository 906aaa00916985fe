-- Sessions of host commands, word by word.
use Rattle.std.proofs.Common.{◌≡◌, ℕ, suc, ◌+◌, ◌<◌, ◌≤◌, Option, List, [], ◌∷◌, ◌++◌, length, map, take, drop, get_or, sym, ap, ap₂, ◌∙◌, codes, arith, length-append, take-append-drop, drop-cons}
use Rattle.std.proofs.lemmas.List.{take_all, map-append, length-map, length-take-le}
use Rattle.std.specs.Borrow.{Bor}
use Rattle.std.specs.declared.alloc.Global.{Global}
use Rattle.std.specs.declared.vec.Vec.{Vec}
use Rattle.bz_model.specs.declared.event.HostCmd.{HostCmd}
use Rattle.bz_model.specs.declared.event.Verb.{Verb}
use Rattle.bz_words.specs.declared.words.TheConstants.{MAX_SESSIONS}
use Rattle.bz_words.specs.Words.{texts, Command, host, run, IsWord, AreSessions, Spell}
use Rattle.bz_words.specs.HostWords.{of_host, hosts_of, IsFirstUnfit}
use Rattle.bz_words.proofs.Commands.{same_command}
use Rattle.bz_words.proofs.Sessions.{texts_more, push_last, push_last-append, more_command, more_separator}

-- a word that spells so many firings spells no host command
pub runs_alone : (word : List ℕ) (n : ℕ) → IsWord word (run n) → (verb : Verb) (name : List ℕ) (value : Option ℕ) → IsWord word (host verb name value) → ⊥
runs_alone word n is verb name value other = apart (same_command word (run n) (host verb name value) is other)
  where
    apart : run n ≡ host verb name value → ⊥
    apart e = cc

-- a `/` begins a session
pub separated : (words : List (Bor (List ℕ))) (i : ℕ) (d : Bor (List ℕ)) (old new : List (Vec HostCmd Global)) (session next : Vec HostCmd Global) → i < length words
    → AreSessions (texts (take i words)) (map hosts_of old ++ hosts_of session ∷ []) → (get_or words i d).now ≡ codes "/"
    → new ≡ old ++ session ∷ [] → next.items ≡ [] → AreSessions (texts (take (i + 1) words)) (map hosts_of new ++ hosts_of next ∷ [])
separated words i d old new session next h spelt is grown empty =
    let sessions : map hosts_of new ++ hosts_of next ∷ [] ≡ (map hosts_of old ++ hosts_of session ∷ []) ++ [] ∷ [] =
    ap₂ (λ a b. a ++ b ∷ []) (ap (map hosts_of) grown ∙ map-append hosts_of old (session ∷ [])) (ap (map of_host) empty) in
    rw (texts_more words i d h, sessions) (more_separator spelt is)

-- a command belongs to the session
pub commanded : (words : List (Bor (List ℕ))) (i : ℕ) (d : Bor (List ℕ)) (old : List (Vec HostCmd Global)) (session next : Vec HostCmd Global) (c : HostCmd) → i < length words
    → AreSessions (texts (take i words)) (map hosts_of old ++ hosts_of session ∷ []) → IsWord (get_or words i d).now (of_host c)
    → next.items ≡ session.items ++ c ∷ [] → AreSessions (texts (take (i + 1) words)) (map hosts_of old ++ hosts_of next ∷ [])
commanded words i d old session next c h spelt is grown =
    let one : hosts_of next ≡ hosts_of session ++ of_host c ∷ [] = ap (map of_host) grown ∙ map-append of_host session.items (c ∷ []) in
    let sessions : map hosts_of old ++ hosts_of next ∷ [] ≡ push_last (map hosts_of old ++ hosts_of session ∷ []) (of_host c) =
    ap (λ s. map hosts_of old ++ s ∷ []) one ∙ sym (push_last-append (map hosts_of old) (hosts_of session) (of_host c)) in
    rw (texts_more words i d h, sessions) (more_command (get_or words i d).now (of_host c) spelt is)

-- a word that fits nowhere
pub first_unfit : (words : List (Bor (List ℕ))) (i : ℕ) (d : Bor (List ℕ)) (old : List (Vec HostCmd Global)) (session : Vec HostCmd Global) → i < length words
    → AreSessions (texts (take i words)) (map hosts_of old ++ hosts_of session ∷ []) → length old + 1 ≤ MAX_SESSIONS
    → ((verb : Verb) (name : List ℕ) (value : Option ℕ) → IsWord (get_or words i d).now (host verb name value) → ⊥) → ((get_or words i d).now ≡ codes "/" → length old + 1 ≡ MAX_SESSIONS)
    → IsFirstUnfit (texts words) (i + 1)
first_unfit words i d old session h spelt few no_host full =
    let count : length (old ++ session ∷ []) ≡ length old + 1 = length-append old (session ∷ []) in
    let all : map hosts_of (old ++ session ∷ []) ≡ map hosts_of old ++ hosts_of session ∷ [] = map-append hosts_of old (session ∷ []) in
    record {
      earlier = texts (take i words);
      word = (get_or words i d).now;
      later = texts (drop (suc i) words);
      words_are = ap texts (sym (take-append-drop i words)) ∙ map-append (λ w. w.now) (take i words) (drop i words) ∙ ap (λ ws. texts (take i words) ++ texts ws) (drop-cons words i d h);
      at_is = omega (arith, length-map (take i words) (λ w. w.now), length-take-le i words (omega arith));
      sessions = old ++ session ∷ [];
      spelt = record { are = rw all spelt; few = omega (arith, length-map (old ++ session ∷ []) hosts_of, count) };
      no_host = no_host;
      no_room = λ is. count ∙ full is;
    }

-- the words at their end
pub all_spelt : (words : List (Bor (List ℕ))) (i : ℕ) (old new : List (Vec HostCmd Global)) (session : Vec HostCmd Global) → length words ≤ i
    → AreSessions (texts (take i words)) (map hosts_of old ++ hosts_of session ∷ []) → length old + 1 ≤ MAX_SESSIONS
    → new ≡ old ++ session ∷ [] → Spell (texts words) (map hosts_of new)
all_spelt words i old new session h spelt few grown =
    let sessions : map hosts_of new ≡ map hosts_of old ++ hosts_of session ∷ [] = ap (map hosts_of) grown ∙ map-append hosts_of old (session ∷ []) in
    record {
      are = rw (sessions, ← take_all i words h) spelt;
      few = omega (arith, length-map new hosts_of, ap length grown, length-append old (session ∷ []));
    }

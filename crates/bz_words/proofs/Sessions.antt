-- Sessions, word by word.
use Rattle.std.proofs.Common.{◌≡◌, ℕ, suc, ◌+◌, ◌<◌, ◌≤◌, ◌⊎◌, inl, inr, Option, Some, None, IfSome, List, [], ◌∷◌, ◌++◌, length, map, take, drop, get_or, refl, sym, ap, ap₂, ◌∙◌, subst, codes, arith, length-append, take-append-drop, drop-cons}
use Rattle.std.proofs.lemmas.List.{take_more, take_all, map-append, length-map, length-take-le}
use Rattle.std.specs.Borrow.{Bor}
use Rattle.std.specs.declared.alloc.Global.{Global}
use Rattle.std.specs.declared.vec.Vec.{Vec}
use Rattle.bz_model.specs.declared.event.Cmd.{Cmd}
use Rattle.bz_words.specs.declared.words.TheConstants.{MAX_SESSIONS}
use Rattle.bz_words.specs.Words.{texts, Command, command_of, session_of, IsWord, AreSessions, none, command, separator, Spell, IsFirstBad, Outcome, sessions_are, bad_word, ComesTo}
use Rattle.bz_words.proofs.NameForms.{cons_same}
use Rattle.bz_words.proofs.Commands.{same_command, no_separator}

-- ---- what words come to

some_session : {words : List (List ℕ)} {sessions : List (List Command)} → AreSessions words sessions → 0 < length sessions
some_session none = omega arith
some_session (command is d) = omega arith
some_session (separator is d) = omega arith

-- words spell one list of sessions at most
same_sessions : {words others : List (List ℕ)} {a b : List (List Command)} → AreSessions words a → AreSessions others b → words ≡ others → a ≡ b
same_sessions none none e = refl
same_sessions none (command is d) e = cc
same_sessions none (separator is d) e = cc
same_sessions (command is d) none e = cc
same_sessions (command {word} {c} is d) (command {c = c'} is' d') e =
    let both = cons_same e in
    let rest = cons_same (same_sessions d d' both.1) in
    let first : c ≡ c' = same_command _ c c' (subst (λ (w : List ℕ). IsWord w c) both.0 is) is' in
    ap₂ (λ s ss. s ∷ ss) (ap₂ (λ x xs. x ∷ xs) first rest.0) rest.1
same_sessions (command {c} is d) (separator is' d') e = absurd (no_separator _ ((cons_same e).0 ∙ is') c is)
same_sessions (separator is d) none e = cc
same_sessions (separator is d) (command {c} is' d') e = absurd (no_separator _ (sym (cons_same e).0 ∙ is) c is')
same_sessions (separator is d) (separator is' d') e = ap (λ ss. [] ∷ ss) (same_sessions d d' (cons_same e).1)

-- in words that spell sessions, the word behind those that spell `a` is a command, or separates one session more
next_word : {earlier all : List (List ℕ)} {a b : List (List Command)} (word : List ℕ) (later : List (List ℕ)) → AreSessions earlier a → AreSessions all b → all ≡ earlier ++ word ∷ later
    → ((c : Command) × IsWord word c) ⊎ ((word ≡ codes "/") × (length a < length b))
next_word word later none none e = cc
next_word word later none (command {c} is d) e = inl (c, subst (λ (w : List ℕ). IsWord w c) (cons_same e).0 is)
next_word word later none (separator is d) e = let some = some_session d in inr (sym (cons_same e).0 ∙ is, omega arith)
next_word word later (command is d) none e = cc
next_word word later (command is d) (command is' d') e = next_word word later d d' (cons_same e).1
next_word word later (command {c} is d) (separator is' d') e = absurd (no_separator _ (sym (cons_same e).0 ∙ is') c is)
next_word word later (separator is d) none e = cc
next_word word later (separator is d) (command {c} is' d') e = absurd (no_separator _ ((cons_same e).0 ∙ is) c is')
next_word word later (separator is d) (separator is' d') e = elim (next_word word later d d' (cons_same e).1) [
  | inl spelt ↦ inl spelt
  | inr more ↦ inr (more.0, omega (arith, more.1))
]

-- words that spell sessions have no bad word
no_bad : (words : List (List ℕ)) (sessions : List (List Command)) (at : ℕ) → Spell words sessions → IsFirstBad words at → ⊥
no_bad words sessions at s bad = elim (next_word bad.word bad.later bad.spelt.are s.are bad.words_are) [
  | inl spelt ↦ bad.no_command spelt.0 spelt.1
  | inr more ↦ omega (arith, more.1, bad.no_room more.0, s.few)
]

-- of two places in a list, one is the other or stands before it
two_places : (earlier others : List (List ℕ)) (word another : List ℕ) (later latest : List (List ℕ)) → earlier ++ word ∷ later ≡ others ++ another ∷ latest
    → (length earlier ≡ length others) ⊎ ((between : List (List ℕ)) × (others ≡ earlier ++ word ∷ between)) ⊎ ((between : List (List ℕ)) × (earlier ≡ others ++ another ∷ between))
two_places [] [] word another later latest e = inl refl
two_places [] (x ∷ xs) word another later latest e = inr (inl (xs, ap (λ w. w ∷ xs) (sym (cons_same e).0)))
two_places (x ∷ xs) [] word another later latest e = inr (inr (xs, ap (λ w. w ∷ xs) (cons_same e).0))
two_places (x ∷ xs) (y ∷ ys) word another later latest e =
    let both = cons_same e in
    elim (two_places xs ys word another later latest both.1) [
      | inl same ↦ inl (omega (arith, same))
      | inr apart ↦ elim apart [
        | inl before ↦ inr (inl (before.0, ap₂ (λ w ws. w ∷ ws) (sym both.0) before.1))
        | inr behind ↦ inr (inr (behind.0, ap₂ (λ w ws. w ∷ ws) both.0 behind.1))
      ]
    ]

-- the first bad word is behind words that have none
no_bad_before : (words : List (List ℕ)) (at : ℕ) (sessions : List (List Command)) (earlier between : List (List ℕ)) (bad : IsFirstBad words at) → Spell earlier sessions → earlier ≡ bad.earlier ++ bad.word ∷ between → ⊥
no_bad_before words at sessions earlier between bad s e =
    no_bad earlier sessions at s (record {
      earlier = bad.earlier;
      word = bad.word;
      later = between;
      words_are = e;
      at_is = bad.at_is;
      sessions = bad.sessions;
      spelt = bad.spelt;
      no_command = bad.no_command;
      no_room = bad.no_room;
    })

same_outcome : (words : List (List ℕ)) (o p : Outcome) → ComesTo words o → ComesTo words p → o ≡ p
same_outcome words (sessions_are a) (sessions_are b) s t = ap sessions_are (same_sessions s.are t.are refl)
same_outcome words (sessions_are a) (bad_word k) s bad = absurd (no_bad words a k s bad)
same_outcome words (bad_word j) (sessions_are b) bad t = absurd (no_bad words b j t bad)
same_outcome words (bad_word j) (bad_word k) bad other = elim (two_places bad.earlier other.earlier bad.word other.word bad.later other.later (sym bad.words_are ∙ other.words_are)) [
  | inl same ↦ ap bad_word (omega (arith, same, bad.at_is, other.at_is))
  | inr apart ↦ elim apart [
    | inl before ↦ absurd (no_bad_before words j other.sessions other.earlier before.0 bad other.spelt before.1)
    | inr behind ↦ absurd (no_bad_before words k bad.sessions bad.earlier behind.0 other bad.spelt behind.1)
  ]
]

-- an answer that words come to is the only one
pub only_outcome : (words : List (List ℕ)) (answer : Option Outcome) → IfSome answer (ComesTo words) → (o : Outcome) → ComesTo words o → IfSome answer (λ p. p ≡ o)
only_outcome words None right o come = tt
only_outcome words (Some p) right o come = same_outcome words p o right come

-- ---- one word more

-- the last session takes one command more
pub push_last : List (List Command) → Command → List (List Command)
push_last [] c = (c ∷ []) ∷ []
push_last (s ∷ []) c = (s ++ c ∷ []) ∷ []
push_last (s ∷ t ∷ ts) c = s ∷ push_last (t ∷ ts) c

pub push_last-append : (front : List (List Command)) (s : List Command) (c : Command) → push_last (front ++ s ∷ []) c ≡ front ++ (s ++ c ∷ []) ∷ []
unfolding push_last
push_last-append [] s c = refl
push_last-append (x ∷ []) s c = refl
push_last-append (x ∷ y ∷ ys) s c = ap (λ ss. x ∷ ss) (push_last-append (y ∷ ys) s c)

pub more_command : {words : List (List ℕ)} {sessions : List (List Command)} (word : List ℕ) (c : Command) → AreSessions words sessions → IsWord word c → AreSessions (words ++ word ∷ []) (push_last sessions c)
unfolding push_last
more_command word c none is = command is none
more_command word c (command {sessions = []} is' d) is = command is' (more_command word c d is)
more_command word c (command {sessions = t ∷ ts} is' d) is = command is' (more_command word c d is)
more_command word c (separator {sessions = []} is' d) is = let some = some_session d in absurd (omega arith)
more_command word c (separator {sessions = t ∷ ts} is' d) is = separator is' (more_command word c d is)

pub more_separator : {words : List (List ℕ)} {sessions : List (List Command)} {word : List ℕ} → AreSessions words sessions → word ≡ codes "/" → AreSessions (words ++ word ∷ []) (sessions ++ [] ∷ [])
more_separator none is = separator is none
more_separator (command is' d) is = command is' (more_separator d is)
more_separator (separator is' d) is = separator is' (more_separator d is)

-- ---- the words of a slice

pub texts_more : (words : List (Bor (List ℕ))) (i : ℕ) (d : Bor (List ℕ)) → i < length words → texts (take (i + 1) words) ≡ texts (take i words) ++ (get_or words i d).now ∷ []
texts_more words i d h = ap texts (take_more words i d h) ∙ map-append (λ w. w.now) (take i words) (get_or words i d ∷ [])

-- a `/` begins a session
pub separated : (words : List (Bor (List ℕ))) (i : ℕ) (d : Bor (List ℕ)) (old new : List (Vec Cmd Global)) (session next : Vec Cmd Global) → i < length words
    → AreSessions (texts (take i words)) (map session_of old ++ session_of session ∷ []) → (get_or words i d).now ≡ codes "/"
    → new ≡ old ++ session ∷ [] → next.items ≡ [] → AreSessions (texts (take (i + 1) words)) (map session_of new ++ session_of next ∷ [])
separated words i d old new session next h spelt is grown empty =
    let sessions : map session_of new ++ session_of next ∷ [] ≡ (map session_of old ++ session_of session ∷ []) ++ [] ∷ [] =
    ap₂ (λ a b. a ++ b ∷ []) (ap (map session_of) grown ∙ map-append session_of old (session ∷ [])) (ap (map command_of) empty) in
    rw (texts_more words i d h, sessions) (more_separator spelt is)

-- a command belongs to the session
pub commanded : (words : List (Bor (List ℕ))) (i : ℕ) (d : Bor (List ℕ)) (old : List (Vec Cmd Global)) (session next : Vec Cmd Global) (c : Cmd) → i < length words
    → AreSessions (texts (take i words)) (map session_of old ++ session_of session ∷ []) → IsWord (get_or words i d).now (command_of c)
    → next.items ≡ session.items ++ c ∷ [] → AreSessions (texts (take (i + 1) words)) (map session_of old ++ session_of next ∷ [])
commanded words i d old session next c h spelt is grown =
    let one : session_of next ≡ session_of session ++ command_of c ∷ [] = ap (map command_of) grown ∙ map-append command_of session.items (c ∷ []) in
    let sessions : map session_of old ++ session_of next ∷ [] ≡ push_last (map session_of old ++ session_of session ∷ []) (command_of c) =
    ap (λ s. map session_of old ++ s ∷ []) one ∙ sym (push_last-append (map session_of old) (session_of session) (command_of c)) in
    rw (texts_more words i d h, sessions) (more_command (get_or words i d).now (command_of c) spelt is)

-- a word that fits nowhere
pub first_bad : (words : List (Bor (List ℕ))) (i : ℕ) (d : Bor (List ℕ)) (old : List (Vec Cmd Global)) (session : Vec Cmd Global) → i < length words
    → AreSessions (texts (take i words)) (map session_of old ++ session_of session ∷ []) → length old + 1 ≤ MAX_SESSIONS
    → ((c : Command) → IsWord (get_or words i d).now c → ⊥) → ((get_or words i d).now ≡ codes "/" → length old + 1 ≡ MAX_SESSIONS)
    → IsFirstBad (texts words) (i + 1)
first_bad words i d old session h spelt few no_command full =
    let count : length (map session_of old ++ session_of session ∷ []) ≡ length old + 1 =
    length-append (map session_of old) (session_of session ∷ []) ∙ ap (λ n. n + 1) (length-map old session_of) in
    record {
      earlier = texts (take i words);
      word = (get_or words i d).now;
      later = texts (drop (suc i) words);
      words_are = ap texts (sym (take-append-drop i words)) ∙ map-append (λ w. w.now) (take i words) (drop i words) ∙ ap (λ ws. texts (take i words) ++ texts ws) (drop-cons words i d h);
      at_is = omega (arith, length-map (take i words) (λ w. w.now), length-take-le i words (omega arith));
      sessions = map session_of old ++ session_of session ∷ [];
      spelt = record { are = spelt; few = omega (arith, count) };
      no_command = no_command;
      no_room = λ is. count ∙ full is;
    }

-- the words at their end
pub all_spelt : (words : List (Bor (List ℕ))) (i : ℕ) (old new : List (Vec Cmd Global)) (session : Vec Cmd Global) → length words ≤ i
    → AreSessions (texts (take i words)) (map session_of old ++ session_of session ∷ []) → length old + 1 ≤ MAX_SESSIONS
    → new ≡ old ++ session ∷ [] → Spell (texts words) (map session_of new)
all_spelt words i old new session h spelt few grown =
    let sessions : map session_of new ≡ map session_of old ++ session_of session ∷ [] = ap (map session_of) grown ∙ map-append session_of old (session ∷ []) in
    record {
      are = rw (sessions, ← take_all i words h) spelt;
      few = omega (arith, length-map new session_of, ap length grown, length-append old (session ∷ []));
    }

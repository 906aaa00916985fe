-- What is shown of a trace, line by line and piece by piece.
use Rattle.std.proofs.Common.{◌≡◌, ℕ, ◌+◌, ◌<◌, ◌≤◌, Bool, true, List, [], ◌∷◌, ◌++◌, drop, length, map, Option, Some, None, refl, sym, ap, subst, ◌∙◌, arith, append_assoc, inl, inr}
use Rattle.std.specs.Prelude.{IfOk, IfSome, Result, Ok, Err}
use Rattle.std.specs.Io.KnownBytes.{Consumes, IsAtEnd}
use Rattle.std.proofs.lemmas.List.{append-nil}
use Rattle.std.proofs.lemmas.Option.{some_pair_parts}
use Rattle.bz_model.specs.declared.event.Entry.{Entry}
use Rattle.bz_model.specs.Entries.{told}
use Rattle.bz_model.specs.Names.{Outside}
use Rattle.bz_model.specs.Nets.{Wiring, outside}
use Rattle.bz_flat.specs.Wires.{WellWired}
use Rattle.bz_net.specs.Progress.{Progress}
use Rattle.bz_net.proofs.Lines.{run_has_lines}
use Rattle.bz_trace_text.specs.declared.text.TheConstants.{MAX_ENTRIES}
use Rattle.bz_trace_text.specs.Reading.{line_at}
use Rattle.bz_trace_text.specs.Texts.{HasText, NoEntry, Trace, clash_lines, first_line, lines}
use Rattle.bz_trace_text.specs.declared.text.Version.{Version}
use Rattle.bz_trace_text.specs.declared.text.Version.TheVariants.{One, Two}
use Rattle.bz_trace_text.proofs.Cuts.{cut_of_whole}
use Rattle.bz_trace_text.proofs.Texts.{no_entry_from, same_entries}
use Rattle.bz_trace.specs.declared.checking.Verdict.{Verdict}
use Rattle.bz_trace.specs.declared.checking.Verdict.TheVariants as verdict
use Rattle.bz_trace.specs.declared.lines.Followed.{Followed}
use Rattle.bz_trace.specs.declared.reading.ReadFault.{ReadFault}
use Rattle.bz_trace.specs.declared.reading.Said.{Said}
use Rattle.bz_trace.specs.Following.{FollowsFront, FollowsOne, FollowsText, NoneToFollow, PlaysOn, Stands}
use Rattle.bz_trace.specs.Pieces.{Along, IsBehind}
use Rattle.bz_trace.specs.Reading.{ReadsMore}
use Rattle.bz_trace.specs.Verdicts.{IsRunText}
use Rattle.bz_trace.specs.Watching.{SeesLine, Shows, ShowsAll, ShowsFront, ShowsTrace}
use Rattle.bz_trace.proofs.Along.{follows_longer, follows_more, follows_start, longer_entries, more_entries, nothing_yet, start_entries}
use Rattle.bz_trace.proofs.Due.{due_numbers, due_without}
use Rattle.bz_trace.proofs.Streams.{Held, consumes_none, consumes_then, each, nothing_comes, said_behind, some_came}

-- what is no verdict on a run
pub never_shown : (o : Option (List ℕ)) (P : List ℕ → Type 0) {B : Type 0} → (B → ⊥) → IfSome o (λ text. B → P text)
never_shown None P never = tt
never_shown (Some text) P never = λ b. absurd (never b)

-- the line at the front is one
same_line : (a : Option (Entry × List ℕ)) (line other : Entry) (after : List ℕ) → a ≡ Some (line, after) → a ≡ Some (other, after) → other ≡ line
same_line a line other after one two = (some_pair_parts other line after after (sym two ∙ one)).0

-- none had stopped before a line behind which none has
none_before : (old new : Progress) (line : Entry) (number : ℕ) (before after : Option ℕ) → PlaysOn old new line number before after → after ≡ None → before ≡ None
none_before old new line number None after plays none = refl
none_before old new line number (Some k) after plays none = let is = plays.0 in cc

-- and the net stands along the entries with that one
stands_along : (w : Wiring) (past : List Entry) (net : Progress) (text rest : List ℕ) (names : Outside) (far : Followed) (f : FollowsText names w past net text rest far) → far.stop ≡ None → Along w net (past ++ f.entries)
stands_along w past net text rest names far f none = (subst (Stands w past net f.entries) none f.stands).0

module _ {A : Type 0} (behind : Wiring → List Entry → A → Type 0) where
  -- a line more, whose number is counted
  shows_counted : (names : Outside) (w : Wiring) (past : List Entry) (old new : Progress) (text rest after : List ℕ) (far to : Followed) (line : Entry) (before now : A) → Shows behind names w past old text rest far before → far.count < MAX_ENTRIES → line_at names rest ≡ Some (line, after) → FollowsOne old new line far to
      → SeesLine behind new line before now → Shows behind names w past new text after (record { counts = to.counts; count = far.count + 1; stop = to.stop }) now
  shows_counted names w past old new text rest after far to line before now shows fewer at one sees =
      let f = shows.follows in
      let fewer_yet : far.count ≡ MAX_ENTRIES → ⊥ = λ e. absurd (omega (arith, e, fewer)) in
      let g = follows_more names w past old new text rest after far to.counts to.stop line f at fewer_yet one.plays one.counted in
      let are = more_entries names w past old new text rest after far to.counts to.stop line f at fewer_yet one.plays one.counted in
      let same : past ++ g.entries ≡ (past ++ f.entries) ++ line ∷ [] = ap (λ es. past ++ es) are ∙ sym (append_assoc past f.entries (line ∷ [])) in
      record {
        follows = g;
        seen = λ none.
            let along = stands_along w past new text after names (record { counts = to.counts; count = far.count + 1; stop = to.stop }) g none in
            let own = sees w (past ++ f.entries) (subst (Along w new) same along) (shows.seen (none_before old new line (far.count + 2) far.stop to.stop one.plays none)) in
            subst (λ es. behind w es now) (sym same) own;
      }

  pub shows_one : (names : Outside) (w : Wiring) (past : List Entry) (old new : Progress) (text rest after : List ℕ) (far to : Followed) (before now : A) → Shows behind names w past old text rest far before → far.count < MAX_ENTRIES → FollowsFront names old new rest after far to → ShowsFront behind names new before rest after now
      → Shows behind names w past new text after to now
  shows_one names w past old new text rest after far to before now shows fewer (line, at, one) (other, there, sees) =
      let own = subst (λ (e : Entry). SeesLine behind new e before now) (same_line (line_at names rest) line other after at there) sees in
      subst (λ (n : ℕ). Shows behind names w past new text after (record { counts = to.counts; count = n; stop = to.stop }) now) (sym one.count_is)
      (shows_counted names w past old new text rest after far to line before now shows fewer at one own)

  -- what was read behind the front so far, with what was shown of it
  pub record HeldShown (old new : Option (List ℕ)) (names : Outside) (w : Wiring) (start net : Progress) (front held : List ℕ) (followed : Followed) (seen now : A) : Type 0 where
    pub so : Held old new names w start net front held followed
    pub shows : (past : List Entry) → IsBehind w start past → behind w past seen → Shows behind names w past net (front ++ so.got) held followed now

  pub shown_start : (old : Option (List ℕ)) (names : Outside) (w : Wiring) (net : Progress) (front : List ℕ) (seen : A) → names ≡ outside w → WellWired w → MAX_ENTRIES ≤ net.left → HeldShown old old names w net net front front nothing_yet seen seen
  shown_start old names w net front seen named wired room =
      let start : (past : List Entry) → IsBehind w net past → FollowsText names w past net front front nothing_yet = λ past is. follows_start names w past net front named wired is room in
      record {
        so = record {
          got = [];
          taken = consumes_none old;
          follows = λ past is. subst (λ t. FollowsText names w past net t front nothing_yet) (sym (append-nil front)) (start past is);
        };
        shows = λ past is has. subst (λ t. Shows behind names w past net t front nothing_yet seen) (sym (append-nil front))
            (record { follows = start past is; seen = λ none. subst (λ es. behind w es seen) (sym (ap (λ es. past ++ es) (start_entries names w past net front named wired is room) ∙ append-nil past)) has });
      }

  -- what is read behind the rest stands behind the text
  shows_longer : (names : Outside) (w : Wiring) (past : List Entry) (net : Progress) (text rest : List ℕ) (far : Followed) (now : A) (more : List ℕ) → Shows behind names w past net text rest far now → Shows behind names w past net (text ++ more) (rest ++ more) far now
  shows_longer names w past net text rest far now more shows = record {
    follows = follows_longer names w past net text rest far more shows.follows;
    seen = λ none. subst (λ es. behind w (past ++ es) now) (sym (longer_entries names w past net text rest far more shows.follows)) (shows.seen none);
  }

  pub shown_on : (old mid new : Option (List ℕ)) (names : Outside) (w : Wiring) (start net : Progress) (front got held rest later : List ℕ) (goal : ℕ) (came : Bool) (followed : Followed) (seen now : A) → came ≡ true → ReadsMore mid new rest later goal came → Consumes old mid got
      → ((past : List Entry) → IsBehind w start past → FollowsText names w past net (front ++ got) rest followed) → ((past : List Entry) → IsBehind w start past → behind w past seen → Shows behind names w past net (front ++ got) rest followed now)
      → HeldShown old new names w start net front later followed seen now
  shown_on old mid new names w start net front got held rest later goal came followed seen now so r taken follows shows =
      let (piece, more, is, some) = some_came mid new rest later goal came so r in
      subst (λ h. HeldShown old new names w start net front h followed seen now) (sym is) (record {
        so = record {
          got = got ++ piece;
          taken = consumes_then old mid new got piece taken more;
          follows = λ past is. subst (λ t. FollowsText names w past net t (rest ++ piece) followed) (append_assoc front got piece) (follows_longer names w past net (front ++ got) rest followed piece (follows past is));
        };
        shows = λ past is has. subst (λ t. Shows behind names w past net t (rest ++ piece) followed now) (append_assoc front got piece) (shows_longer names w past net (front ++ got) rest followed now piece (shows past is has));
      })

  -- all lines of entries, where no more can be followed and none has stopped
  shows_all : (names : Outside) (w : Wiring) (past : List Entry) (net : Progress) (text rest : List ℕ) (followed : Followed) (now : A) → Shows behind names w past net text rest followed now → NoneToFollow names rest followed → followed.stop ≡ None → ShowsAll behind w past text now
  shows_all names w past net text rest followed now shows none on =
      let f = shows.follows in
      let count = f.count_is in
      record {
        entries = f.entries;
        each = f.each;
        few = f.few;
        rest = rest;
        text_is = f.text_is;
        ends = elim (subst (λ (n : Outside). NoneToFollow n rest followed) f.names_are none) [
          | inl no_line ↦ no_entry_from (outside w) (length f.entries) rest no_line
          | inr full ↦ λ e after has is. omega (arith, count, full)
        ];
        seen = shows.seen on;
      }

  -- at the end of what the reader had
  pub shown_at_end : (old mid new : Option (List ℕ)) (names : Outside) (w : Wiring) (past : List Entry) (net : Progress) (front got rest : List ℕ) (followed : Followed) (now : A) (said : Verdict) → Consumes old mid got → Consumes mid new [] → IsAtEnd new → Shows behind names w past net (front ++ got) rest followed now → NoneToFollow names rest followed
      → (said ≡ verdict.Run → followed.stop ≡ None) → IfSome old (λ more. said ≡ verdict.Run → ShowsAll behind w past (front ++ more) now)
  shown_at_end old mid new names w past net front got rest followed now said taken none end shows no_more on =
      nothing_comes old new got (λ more. said ≡ verdict.Run → ShowsAll behind w past (front ++ more) now) (subst (λ t. Consumes old new t) (append-nil got) (consumes_then old mid new got [] taken none)) end
      (λ is. shows_all names w past net (front ++ got) rest followed now shows no_more (on is))

  -- behind the first line, of which a front was held
  shown_front : (w : Wiring) (past : List Entry) (old mid : Option (List ℕ)) (held later text after front : List ℕ) (version : Version) (goal : ℕ) (came : Bool) (said : Said) (now : A) → held ≡ [] → ReadsMore old mid held later goal came → text ≡ later → text ≡ first_line version ++ after → front ≡ after
      → IfSome mid (λ more. said.verdict ≡ verdict.Run → ShowsAll behind w past (front ++ more) now) → IfSome old (λ whole. said.verdict ≡ verdict.Run → ShowsTrace behind w past whole now)
  shown_front w past old mid held later text after front version goal came said now empty reads whole begins front_is shows =
      said_behind (λ (p : List Entry). p ≡ past) (λ p all (s : Said). s.verdict ≡ verdict.Run → ShowsTrace behind w past all now) old mid held later text after front version goal came (Ok said) empty reads whole begins front_is
      (λ p b. each mid (λ more. said.verdict ≡ verdict.Run → ShowsAll behind w past (front ++ more) now) (λ more. said.verdict ≡ verdict.Run → ShowsTrace behind w past (first_line version ++ (front ++ more)) now)
      (λ more all is. record { version = version; body = front ++ more; text_is = refl; shows = all is }) shows) past refl

  pub shown_text : (w : Wiring) (net : Progress) (seen : A) (old mid : Option (List ℕ)) (held later text after front : List ℕ) (version : Version) (goal : ℕ) (came : Bool) (answer : Result Said ReadFault) (now : A) → held ≡ [] → ReadsMore old mid held later goal came → text ≡ later → text ≡ first_line version ++ after → front ≡ after
      → IfOk answer (λ said. (past : List Entry) → IsBehind w net past → behind w past seen → IfSome mid (λ more. said.verdict ≡ verdict.Run → ShowsAll behind w past (front ++ more) now))
      → IfOk answer (λ said. (past : List Entry) → IsBehind w net past → behind w past seen → IfSome old (λ whole. said.verdict ≡ verdict.Run → ShowsTrace behind w past whole now))
  shown_text w net seen old mid held later text after front version goal came (Err e) now empty reads whole begins front_is shows = tt
  shown_text w net seen old mid held later text after front version goal came (Ok said) now empty reads whole begins front_is shows =
      λ past is has. shown_front w past old mid held later text after front version goal came said now empty reads whole begins front_is (shows past is has)

  -- of a net at its opening
  pub shown_opened : (w : Wiring) (net : Progress) (seen : A) (old : Option (List ℕ)) (answer : Result Said ReadFault) (now : A) → IsBehind w net []
      → IfOk answer (λ said. (past : List Entry) → IsBehind w net past → behind w past seen → IfSome old (λ whole. said.verdict ≡ verdict.Run → ShowsTrace behind w past whole now))
      → IfOk answer (λ said. behind w [] seen → IfSome old (λ whole. said.verdict ≡ verdict.Run → ShowsTrace behind w [] whole now))
  shown_opened w net seen old (Err e) now is shows = tt
  shown_opened w net seen old (Ok said) now is shows = shows [] is

-- behind the first line
behind_first : (v : Version) (x : List ℕ) → drop 8 (first_line v ++ x) ≡ x
behind_first One x = refl
behind_first Two x = refl

no_more : (n : ℕ) → n ≡ 0 + n
no_more n = omega arith

most : (n : ℕ) → n ≤ MAX_ENTRIES → 0 + n ≤ MAX_ENTRIES
most n h = omega arith

-- what was shown of a text is told as each run whose trace it is
pub shown_alike : {A : Type 0} (behind : Wiring → List Entry → A → Type 0) (w : Wiring) (past : List Entry) (text : List ℕ) (now : A) → WellWired w → (shows : ShowsTrace behind w past text now) (run : IsRunText w text) → map told run.entries ≡ map told shows.shows.entries
shown_alike behind w past text now wired shows run =
    let own : Trace = record { version = run.version; entries = run.entries; clashes = run.clashes } in
    let has : HasText (outside w) own = record {
      each = run_has_lines w run.entries run.last wired run.run run.by;
      few = run.few;
      numbers = due_numbers w run.version run.entries run.clashes wired run.due;
      without = due_without w run.version run.entries run.clashes run.due;
    } in
    let cut = cut_of_whole (outside w) text own has run.text_is in
    let all = shows.shows in
    let body = sym (behind_first run.version (lines w.ports run.entries ++ (clash_lines run.clashes ++ []))) ∙ ap (drop 8) (sym cut.text_is ∙ shows.text_is) ∙ behind_first shows.version shows.body ∙ all.text_is in
    (same_entries (outside w) 0 run.entries all.entries (clash_lines run.clashes ++ []) all.rest has.each all.each (most _ has.few) (most _ all.few) (subst (λ n. NoEntry (outside w) n (clash_lines run.clashes ++ [])) (no_more _) cut.no_entry) (subst (λ n. NoEntry (outside w) n all.rest) (no_more _) all.ends) body).0

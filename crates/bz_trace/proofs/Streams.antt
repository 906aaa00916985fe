-- A trace that a reader gives piece by piece.
use Rattle.std.proofs.Common.{◌≡◌, ◌≢◌, Bool, true, false, ℕ, ◌+◌, ◌<◌, ◌≤◌, ◌-◌, ◌*◌, List, [], ◌∷◌, ◌++◌, length, Option, Some, None, refl, sym, ap, ap₂, subst, ◌∙◌, arith, append_assoc, length-append, ◌⊎◌, inl, inr}
use Rattle.std.specs.Prelude.{IfErr, IfOk, IfSome, Result, Ok, Err}
use Rattle.std.specs.Io.KnownBytes.{Consumes, IsAtEnd}
use Rattle.std.proofs.lemmas.List.{append-nil}
use Rattle.bz_model.specs.Names.{Outside}
use Rattle.bz_model.specs.Nets.{Wiring, outside}
use Rattle.bz_flat.specs.Wires.{WellWired}
use Rattle.bz_model.specs.declared.event.Entry.{Entry}
use Rattle.bz_net.specs.Progress.{Progress, IsToldBy}
use Rattle.bz_trace_text.specs.declared.text.Version.{Version}
use Rattle.bz_trace_text.specs.declared.text.Version.TheVariants.{One, Two}
use Rattle.bz_trace_text.specs.declared.text.TheConstants.{MAX_ENTRIES}
use Rattle.bz_trace_text.specs.Reading.{line_at}
use Rattle.bz_trace_text.specs.Texts.{IsBad, NoEntry, first_line, lines}
use Rattle.bz_trace.specs.declared.lines.Followed.{Followed}
use Rattle.bz_trace_text.specs.declared.tally.Counts.{Counts}
use Rattle.bz_trace.specs.declared.checking.Verdict.{Verdict}
use Rattle.bz_trace.specs.declared.checking.Verdict.TheVariants as verdict
use Rattle.bz_trace.specs.declared.reading.ReadFault.{ReadFault}
use Rattle.bz_trace.specs.declared.reading.Said.{Said}
use Rattle.bz_trace.specs.Verdicts.{CountsRun, Judges}
use Rattle.bz_trace.specs.Following.{FollowsText, GetsOn, NoneToFollow}
use Rattle.bz_trace.specs.Pieces.{ConcludesPiece, GoesOver, IsBehind, JudgesPieceTo, StopsInFrontBehind}
use Rattle.bz_trace.specs.declared.reading.ReadFault.TheVariants as fault
use Rattle.bz_trace.specs.Reading.{AwaitsMore, Comes, ConcludesAs, ConcludesPieceAs, ConcludesPieceTo, ConcludesTo, HasEnd, IsEarly, IsOther, IsTooLong, JudgesTo, LeavesTo, ReadsMore, StopsInFront}
use Rattle.bz_trace.proofs.Along.{bad_here, behind_start, cons_same, counts_run, follows_longer, follows_start, judges, leaves, nothing_yet, told_here}
use Rattle.bz_trace.proofs.Ends.{no_entry_on}
use Rattle.bz_trace.proofs.Pieces.{said_alone}
use Rattle.bz_trace.proofs.Sole.{one_verdict_or_memory}

-- two pieces, one after the other
pub consumes_then : (a b c : Option (List ℕ)) (t u : List ℕ) → Consumes a b t → Consumes b c u → Consumes a c (t ++ u)
consumes_then None b c t u p q = tt
consumes_then (Some xs) None c t u p q = absurd p
consumes_then (Some xs) (Some ys) None t u p q = q
consumes_then (Some xs) (Some ys) (Some zs) t u p q = p ∙ ap (λ s. t ++ s) q ∙ sym (append_assoc t u zs)

pub consumes_none : (a : Option (List ℕ)) → Consumes a a []
consumes_none None = tt
consumes_none (Some xs) = refl

-- what holds of what was read with anything behind it holds of all that the reader had
pub whatever_comes : (old new : Option (List ℕ)) (got : List ℕ) (P : List ℕ → Type 0) → Consumes old new got → ((left : List ℕ) → P (got ++ left)) → IfSome old P
whatever_comes None new got P taken holds = tt
whatever_comes (Some xs) None got P taken holds = absurd taken
whatever_comes (Some xs) (Some left) got P taken holds = subst P (sym taken) (holds left)

-- at the end it is all
pub nothing_comes : (old new : Option (List ℕ)) (got : List ℕ) (P : List ℕ → Type 0) → Consumes old new got → IsAtEnd new → P got → IfSome old P
nothing_comes None new got P taken end holds = tt
nothing_comes (Some xs) None got P taken end holds = absurd taken
nothing_comes (Some xs) (Some left) got P taken end holds = subst P (sym (taken ∙ ap (λ s. got ++ s) end ∙ append-nil got)) holds

-- Behind the front more was read, and all that was followed up to what is held, by a net that stood where `start` does.
pub record Held (old new : Option (List ℕ)) (names : Outside) (w : Wiring) (start net : Progress) (front held : List ℕ) (followed : Followed) : Type 0 where
  pub got : List ℕ
  pub taken : Consumes old new got
  pub follows : (past : List Entry) → IsBehind w start past → FollowsText names w past net (front ++ got) held followed

pub held_start : (old : Option (List ℕ)) (names : Outside) (w : Wiring) (net : Progress) (front : List ℕ) → names ≡ outside w → WellWired w → MAX_ENTRIES ≤ net.left → Held old old names w net net front front nothing_yet
held_start old names w net front named wired room = record {
  got = [];
  taken = consumes_none old;
  follows = λ past behind. subst (λ t. FollowsText names w past net t front nothing_yet) (sym (append-nil front)) (follows_start names w past net front named wired behind room);
}

pub held_more : (old new later : Option (List ℕ)) (names : Outside) (w : Wiring) (start net : Progress) (front got held piece : List ℕ) (followed : Followed) → Consumes old new got → Consumes new later piece → ((past : List Entry) → IsBehind w start past → FollowsText names w past net (front ++ got) held followed)
    → Held old later names w start net front (held ++ piece) followed
held_more old new later names w start net front got held piece followed taken more follows = record {
  got = got ++ piece;
  taken = consumes_then old new later got piece taken more;
  follows = λ past behind. subst (λ t. FollowsText names w past net t (held ++ piece) followed) (append_assoc front got piece) (follows_longer names w past net (front ++ got) held followed piece (follows past behind));
}

no_end : (text more : List ℕ) → HasEnd text → text ++ more ≡ [] → ⊥
no_end [] more h e = cc
no_end (b ∷ text) more h e = cc

pub no_entry : (names net : Outside) (text more : List ℕ) (followed : Followed) → names ≡ net → HasEnd text → NoneToFollow names text followed → NoEntry net followed.count (text ++ more)
no_entry names net text more followed named h (inl none) = no_entry_on net followed.count text more h (subst (λ n. line_at n text ≡ None) named none)
no_entry names net text more followed named h (inr full) = λ e after has is. full

-- where another line is whole, the trace is bad there, whatever comes
pub bad_line : (old new : Option (List ℕ)) (names : Outside) (last : Bool) (w : Wiring) (past : List Entry) (net : Progress) (v : Version) (front got held : List ℕ) (followed : Followed) → Consumes old new got → FollowsText names w past net (front ++ got) held followed → NoneToFollow names held followed → IsOther v held
    → IfSome old (λ more. ConcludesPiece last w past (first_line v ++ (front ++ more)) net followed.counts (verdict.Bad (followed.count + 2)))
bad_line old new names last w past net v front got held followed taken follows none other =
    whatever_comes old new got (λ more. ConcludesPiece last w past (first_line v ++ (front ++ more)) net followed.counts (verdict.Bad (followed.count + 2))) taken (λ left. (
      subst (λ t. IsBad (outside w) (first_line v ++ t) (followed.count + 2)) (append_assoc front got left)
          (bad_here names w past net v ((front ++ got) ++ left) (held ++ left) followed (follows_longer names w past net (front ++ got) held followed left follows) (no_end held left other.0) (no_entry names (outside w) held left followed follows.names_are other.0 none) (other.1 left)),
      told_here names w past net (front ++ got) held followed follows,
    ))

-- where more is held than can be, and it is no line yet, it is too long
pub too_long : (old new : Option (List ℕ)) (names : Outside) (w : Wiring) (past : List Entry) (net : Progress) (v : Version) (front got held : List ℕ) (followed : Followed) → Consumes old new got → FollowsText names w past net (front ++ got) held followed → 67108864 < length held → AwaitsMore v held
    → IfSome old (λ more. IsTooLong w (first_line v ++ (front ++ more)))
too_long old new names w past net v front got held followed taken follows long awaits =
    whatever_comes old new got (λ more. IsTooLong w (first_line v ++ (front ++ more))) taken (λ left. record {
      version = v;
      entries = follows.entries;
      held = held;
      more = left;
      text_is = ap (λ t. first_line v ++ t) (sym (append_assoc front got left) ∙ ap (λ t. t ++ left) follows.text_is ∙ append_assoc (lines w.ports follows.entries) held left);
      long = long;
      awaits = awaits;
    })

-- ---- the first line

front_within : (p text more rest : List ℕ) → length p ≤ length text → text ++ more ≡ p ++ rest → (r : List ℕ) × (text ≡ p ++ r)
front_within [] text more rest long e = (text, refl)
front_within (b ∷ p) [] more rest long e = absurd (omega (arith, long))
front_within (b ∷ p) (c ∷ text) more rest long e =
    let same = cons_same e in
    let (r, is) = front_within p text more rest (omega (arith, long)) same.1 in
    (r, ap₂ (λ d ds. d ∷ ds) same.0 is)

eight : (v : Version) → length (first_line v) ≡ 8
eight One = refl
eight Two = refl

-- where no version stands in front of eight bytes or all of them, the first line is bad
pub first_bad : (old new : Option (List ℕ)) (net : Outside) (held : List ℕ) → Consumes old new held → (8 ≤ length held) ⊎ IsAtEnd new → ((v : Version) (rest : List ℕ) → held ≡ first_line v ++ rest → ⊥) → IfSome old (λ text. IsBad net text 1)
first_bad old new net held taken (inr end) none = nothing_comes old new held (λ text. IsBad net text 1) taken end (inl (refl, none))
first_bad old new net held taken (inl long) none = whatever_comes old new held (λ text. IsBad net text 1) taken (λ left.
    inl (refl, λ v rest e. let (r, is) = front_within (first_line v) held left rest (omega (arith, long, eight v)) e in none v r is))

-- ---- how long it goes on

pub held_within : (old new : Followed) (text rest : List ℕ) (most : ℕ) → GetsOn old new text rest → length text ≤ most → length rest ≤ most
held_within old new text rest most (inl same) fits = let is = ap length same.1 in omega (arith, is, fits)
held_within old new text rest most (inr more) fits = let less = more.1 in omega (arith, less, fits)

-- more lines are followed or more is held
pub falls : (old new : Followed) (text rest piece later : List ℕ) → GetsOn old new text rest → later ≡ rest ++ piece → 0 < length piece → length rest ≤ 67108864 → new.count ≤ 16777216
    → (16777216 - new.count) * 67108865 + (67108865 - length later) < (16777216 - old.count) * 67108865 + (67108865 - length text)
falls old new text rest piece later (inl same) is some fits within =
    let count = same.0 in
    let whole = ap length same.1 in
    let long = ap length is in
    let sum = length-append rest piece in
    omega (arith, count, whole, long, sum, some, fits, within)
falls old new text rest piece later (inr more) is some fits within =
    let count = more.0 in
    let long = ap length is in
    let sum = length-append rest piece in
    omega (arith, count, long, sum, some, within)

-- ---- what is said of all that the reader had

pub each : (o : Option (List ℕ)) (P Q : List ℕ → Type 0) → ((text : List ℕ) → P text → Q text) → IfSome o P → IfSome o Q
each None P Q all p = tt
each (Some text) P Q all p = all text p

pub both : (o : Option (List ℕ)) (P Q R : List ℕ → Type 0) → ((text : List ℕ) → P text → Q text → R text) → IfSome o P → IfSome o Q → IfSome o R
both None P Q R all p q = tt
both (Some text) P Q R all p q = all text p q

judges_as : (early : Bool) (w : Wiring) (text : List ℕ) (net : Progress) (counts : Counts) (v : Verdict) → ConcludesAs early w text net counts v → JudgesTo early w text v
judges_as false w text net counts v by = judges w text net counts v by
judges_as true w text net counts verdict.Run by = absurd by
judges_as true w text net counts (verdict.Not line) by = by.0
judges_as true w text net counts (verdict.Bad line) by = absurd by
judges_as true w text net counts verdict.Memory by = absurd by

leaves_as : (early : Bool) (w : Wiring) (text : List ℕ) (net : Progress) (counts : Counts) (v : Verdict) → ConcludesAs early w text net counts v → LeavesTo early w text net v
leaves_as false w text net counts v by = leaves w text net counts v by
leaves_as true w text net counts v by = by

counts_as : (early : Bool) (w : Wiring) (text : List ℕ) (net : Progress) (counts : Counts) (v : Verdict) → ConcludesAs early w text net counts v → v ≡ verdict.Run → CountsRun w text counts
counts_as false w text net counts v by is = counts_run w text net counts v by is
counts_as true w text net counts verdict.Run by is = absurd by
counts_as true w text net counts (verdict.Not line) by is = absurd (let e = is in cc)
counts_as true w text net counts (verdict.Bad line) by is = absurd by
counts_as true w text net counts verdict.Memory by is = absurd by

only_as : (early : Bool) (w : Wiring) (text : List ℕ) (net : Progress) (counts : Counts) (v : Verdict) → WellWired w → ConcludesAs early w text net counts v → early ≡ false
    → (u : Verdict) → Judges w text u → u ≢ verdict.Memory → (v ≡ u) ⊎ (v ≡ verdict.Memory)
only_as false w text net counts v wired by whole u holds some = one_verdict_or_memory w text v u (λ other. wired) (judges w text net counts v by) holds some
only_as true w text net counts v wired by whole u holds some = absurd (let e = whole in cc)

abbrev pub IsSaid : Bool → Wiring → Option (List ℕ) → Progress → Result Said ReadFault → Type 0
IsSaid to_first w old net result = IfOk result (λ said. IfSome old (λ text. ConcludesTo to_first w text net said))

module _ (to_first : Bool) (w : Wiring) (old : Option (List ℕ)) (net : Progress) where
  pub right_of : (r : Result Said ReadFault) → IsSaid to_first w old net r → IfOk r (λ said. IfSome old (λ text. JudgesTo said.early w text said.verdict))
  right_of (Ok said) by = each old _ _ (λ text c. judges_as said.early w text net said.counts said.verdict c.concludes) by
  right_of (Err f) by = tt

  pub counted_of : (r : Result Said ReadFault) → IsSaid to_first w old net r → IfOk r (λ said. IfSome old (λ text. said.verdict ≡ verdict.Run → CountsRun w text said.counts))
  counted_of (Ok said) by = each old _ _ (λ text c. counts_as said.early w text net said.counts said.verdict c.concludes) by
  counted_of (Err f) by = tt

  pub leaves_of : (r : Result Said ReadFault) → IsSaid to_first w old net r → IfOk r (λ said. IfSome old (λ text. LeavesTo said.early w text net said.verdict))
  leaves_of (Ok said) by = each old _ _ (λ text c. leaves_as said.early w text net said.counts said.verdict c.concludes) by
  leaves_of (Err f) by = tt

  pub only_of : (r : Result Said ReadFault) → WellWired w → IsSaid to_first w old net r
      → IfOk r (λ said. IfSome old (λ text. said.early ≡ false → (v : Verdict) → Judges w text v → v ≢ verdict.Memory → (said.verdict ≡ v) ⊎ (said.verdict ≡ verdict.Memory)))
  only_of (Ok said) wired by = each old _ _ (λ text c. only_as said.early w text net said.counts said.verdict wired c.concludes) by
  only_of (Err f) wired by = tt

  first_in : (o : Option (List ℕ)) (said : Said) → to_first ≡ true → IfSome o (λ text. ConcludesTo to_first w text net said) → IfSome o (λ text. (line : ℕ) → StopsInFront w text line → IsEarly line said)
  first_in o said so by = each o _ _ (λ text c. c.first so) by

  pub first_of : (r : Result Said ReadFault) → IsSaid to_first w old net r → IfOk r (λ said. to_first ≡ true → IfSome old (λ text. (line : ℕ) → StopsInFront w text line → IsEarly line said))
  first_of (Ok said) by = λ so. first_in old said so by
  first_of (Err f) by = tt

-- ---- the same of pieces

-- what was said of a reader's text, whatever pieces the net stood behind
abbrev pub IsSaidBehind : Bool → Bool → Wiring → Progress → Option (List ℕ) → Progress → Result Said ReadFault → Type 0
IsSaidBehind to_first last w start old net result = IfOk result (λ said. (past : List Entry) → IsBehind w start past → IfSome old (λ text. ConcludesPieceTo to_first last w past text net said))

-- a trace that begins at the opening
pub said_opened : (to_first : Bool) (start : Progress) (old : Option (List ℕ)) (net : Progress) (r : Result Said ReadFault) → IsToldBy start [] → IsSaidBehind to_first true start.wiring start old net r → IsSaid to_first start.wiring old net r
said_opened to_first start old net (Ok said) opened by = each old _ _ (λ text c. said_alone to_first start.wiring text net said c) (by [] (behind_start start opened))
said_opened to_first start old net (Err f) opened by = tt

judges_piece : (early last : Bool) (w : Wiring) (past : List Entry) (text : List ℕ) (net : Progress) (counts : Counts) (v : Verdict) → ConcludesPieceAs early last w past text net counts v → JudgesPieceTo early last w past text v
judges_piece false last w past text net counts verdict.Run by = by.piece
judges_piece false last w past text net counts (verdict.Not line) by = by.0
judges_piece false last w past text net counts (verdict.Bad line) by = by.0
judges_piece false last w past text net counts verdict.Memory by = tt
judges_piece true last w past text net counts verdict.Run by = absurd by
judges_piece true last w past text net counts (verdict.Not line) by = by.0
judges_piece true last w past text net counts (verdict.Bad line) by = absurd by
judges_piece true last w past text net counts verdict.Memory by = absurd by

goes_over : (early last : Bool) (w : Wiring) (past : List Entry) (text : List ℕ) (net : Progress) (counts : Counts) (v : Verdict) → ConcludesPieceAs early last w past text net counts v → v ≡ verdict.Run → GoesOver last w past text net counts
goes_over false last w past text net counts verdict.Run by is = by
goes_over false last w past text net counts (verdict.Not line) by is = absurd (let e = is in cc)
goes_over false last w past text net counts (verdict.Bad line) by is = absurd (let e = is in cc)
goes_over false last w past text net counts verdict.Memory by is = absurd (let e = is in cc)
goes_over true last w past text net counts verdict.Run by is = absurd by
goes_over true last w past text net counts (verdict.Not line) by is = absurd (let e = is in cc)
goes_over true last w past text net counts (verdict.Bad line) by is = absurd by
goes_over true last w past text net counts verdict.Memory by is = absurd by

module _ (to_first last : Bool) (w : Wiring) (start : Progress) (old : Option (List ℕ)) (net : Progress) (said : Said)
    (by : (past : List Entry) → IsBehind w start past → IfSome old (λ text. ConcludesPieceTo to_first last w past text net said)) where
  pub right_behind : (past : List Entry) → IsBehind w start past → IfSome old (λ text. JudgesPieceTo said.early last w past text said.verdict)
  right_behind past behind = each old _ _ (λ text c. judges_piece said.early last w past text net said.counts said.verdict c.concludes) (by past behind)

  pub goes_behind : said.verdict ≡ verdict.Run → (past : List Entry) → IsBehind w start past → IfSome old (λ text. GoesOver last w past text net said.counts)
  goes_behind is past behind = each old _ _ (λ text c. goes_over said.early last w past text net said.counts said.verdict c.concludes is) (by past behind)

  pub first_behind : to_first ≡ true → (past : List Entry) → IsBehind w start past → IfSome old (λ text. (line : ℕ) → StopsInFrontBehind w past text line → IsEarly line said)
  first_behind so past behind = each old _ _ (λ text c. c.first so) (by past behind)

-- ---- a piece more, or the end

pub none_came : (old new : Option (List ℕ)) (held later : List ℕ) (goal : ℕ) (came : Bool) → came ≡ false → ReadsMore old new held later goal came → Consumes old new [] × (later ≡ held) × IsAtEnd new
none_came old new held later goal true never r = absurd (let e = never in cc)
none_came old new held later goal false never r = (subst (λ p. Consumes old new p) r.3.0 r.1, r.2 ∙ ap (λ p. held ++ p) r.3.0 ∙ append-nil held, r.3.1)

pub some_came : (old new : Option (List ℕ)) (held later : List ℕ) (goal : ℕ) (came : Bool) → came ≡ true → ReadsMore old new held later goal came → (piece : List ℕ) × Consumes old new piece × (later ≡ held ++ piece) × (0 < length piece)
some_came old new held later goal true so r = (r.0, r.1, r.2, r.3.0)
some_came old new held later goal false so r = absurd (let e = so in cc)

pub said_at_end : (old mid new : Option (List ℕ)) (last : Bool) (w : Wiring) (past : List Entry) (net : Progress) (v : Version) (front got : List ℕ) (counts : Counts) (said : Verdict) → Consumes old mid got → Consumes mid new [] → IsAtEnd new → ConcludesPiece last w past (first_line v ++ (front ++ got)) net counts said
    → IfSome old (λ more. ConcludesPiece last w past (first_line v ++ (front ++ more)) net counts said)
said_at_end old mid new last w past net v front got counts said taken none end by =
    nothing_comes old new got (λ more. ConcludesPiece last w past (first_line v ++ (front ++ more)) net counts said) (subst (λ t. Consumes old new t) (append-nil got) (consumes_then old mid new got [] taken none)) end by

pub held_on : (old mid new : Option (List ℕ)) (names : Outside) (w : Wiring) (start net : Progress) (front got held later : List ℕ) (goal : ℕ) (came : Bool) (followed : Followed) → came ≡ true → ReadsMore mid new held later goal came → Consumes old mid got
    → ((past : List Entry) → IsBehind w start past → FollowsText names w past net (front ++ got) held followed) → Held old new names w start net front later followed
held_on old mid new names w start net front got held later goal came followed so r taken follows =
    let (piece, more, is, some) = some_came mid new held later goal came so r in
    subst (λ h. Held old new names w start net front h followed) (sym is) (held_more old mid new names w start net front got held piece followed taken more follows)

-- what was held first is nothing

comes_long : (new : Option (List ℕ)) (came : Bool) (piece later : List ℕ) (goal : ℕ) → Comes new came piece later goal → (goal ≤ length later) ⊎ IsAtEnd new
comes_long new true piece later goal c = c.1
comes_long new false piece later goal c = inr c.1

first_bad_of : (old new : Option (List ℕ)) (net : Outside) (held later text : List ℕ) (came : Bool) → held ≡ [] → ReadsMore old new held later 8 came → text ≡ later → ((v : Version) (rest : List ℕ) → text ≡ first_line v ++ rest → ⊥) → IfSome old (λ t. IsBad net t 1)
first_bad_of old new net held later text came empty r is none =
    let taken = subst (λ p. Consumes old new p) (sym (r.2 ∙ ap (λ h. h ++ r.0) empty)) r.1 in
    first_bad old new net later taken (comes_long new came r.0 later 8 r.3) (λ v rest e. none v rest (is ∙ e))

-- without a first line no line stops
none_in_bad : (w : Wiring) (past : List Entry) (text : List ℕ) (line : ℕ) → IsBad (outside w) text 1 → StopsInFrontBehind w past text line → ⊥
none_in_bad w past text line (inl bad) stops = bad.1 stops.version _ stops.text_is
none_in_bad w past text line (inr later) stops = let is = later.line_is in absurd (omega (arith, is))

-- so nothing was played
pub begins_badly : (to_first last : Bool) (old new : Option (List ℕ)) (w : Wiring) (net : Progress) (counts : Counts) (held later text : List ℕ) (came : Bool) → held ≡ [] → ReadsMore old new held later 8 came → text ≡ later → ((v : Version) (rest : List ℕ) → text ≡ first_line v ++ rest → ⊥)
    → (past : List Entry) → IsBehind w net past → IfSome old (λ t. ConcludesPieceTo to_first last w past t net (record { verdict = verdict.Bad 1; counts = counts; early = false }))
begins_badly to_first last old new w net counts held later text came empty r is none past behind =
    each old _ _ (λ t bad. record { concludes = (bad, (behind.along.journal, behind.along.of_net)); first = λ so line s. absurd (none_in_bad w past t line bad s) }) (first_bad_of old new (outside w) held later text came empty r is none)

-- what was said of the lines behind the first one, of which a front was held, holds of all that the reader had
said_at : (P : List ℕ → Type 0) (old mid : Option (List ℕ)) (held later text lines front : List ℕ) (version : Version) (goal : ℕ) (came : Bool)
    → held ≡ [] → ReadsMore old mid held later goal came → text ≡ later → text ≡ first_line version ++ lines → front ≡ lines
    → IfSome mid (λ more. P (first_line version ++ (front ++ more))) → IfSome old P
said_at P None mid held later text lines front version goal came empty reads whole begins front_is judged = tt
said_at P (Some xs) None held later text lines front version goal came empty (piece, taken, is, comes) whole begins front_is judged = absurd taken
said_at P (Some xs) (Some ys) held later text lines front version goal came empty (piece, taken, is, comes) whole begins front_is judged =
    let piece_is : piece ≡ first_line version ++ front = ap (λ (l : List ℕ). l ++ piece) (sym empty) ∙ sym is ∙ sym whole ∙ begins ∙ ap (λ (l : List ℕ). first_line version ++ l) (sym front_is) in
    subst P (sym (taken ∙ ap (λ (l : List ℕ). l ++ ys) piece_is ∙ append_assoc (first_line version) front ys)) judged

pub said_behind : {A : Type 0} (B : List Entry → Type 0) (P : List Entry → List ℕ → A → Type 0) (old mid : Option (List ℕ)) (held later text lines front : List ℕ) (version : Version) (goal : ℕ) (came : Bool) (answer : Result A ReadFault)
    → held ≡ [] → ReadsMore old mid held later goal came → text ≡ later → text ≡ first_line version ++ lines → front ≡ lines
    → IfOk answer (λ said. (past : List Entry) → B past → IfSome mid (λ more. P past (first_line version ++ (front ++ more)) said))
    → IfOk answer (λ said. (past : List Entry) → B past → IfSome old (λ text. P past text said))
said_behind B P old mid held later text lines front version goal came (Err e) empty reads whole begins front_is judged = tt
said_behind B P old mid held later text lines front version goal came (Ok said) empty reads whole begins front_is judged =
    λ past b. said_at (λ t. P past t said) old mid held later text lines front version goal came empty reads whole begins front_is (judged past b)

-- and so does that they are too long
pub long_behind : {A : Type 0} (w : Wiring) (old mid : Option (List ℕ)) (held later text lines front : List ℕ) (version : Version) (goal : ℕ) (came : Bool) (answer : Result A ReadFault)
    → held ≡ [] → ReadsMore old mid held later goal came → text ≡ later → text ≡ first_line version ++ lines → front ≡ lines
    → IfErr answer (λ e. e ≡ fault.TooLong → IfSome mid (λ more. IsTooLong w (first_line version ++ (front ++ more))))
    → IfErr answer (λ e. e ≡ fault.TooLong → IfSome old (IsTooLong w))
long_behind w old mid held later text lines front version goal came (Ok said) empty reads whole begins front_is long = tt
long_behind w None mid held later text lines front version goal came (Err e) empty reads whole begins front_is long = λ so. tt
long_behind w (Some xs) None held later text lines front version goal came (Err e) empty (piece, taken, is, comes) whole begins front_is long = absurd taken
long_behind w (Some xs) (Some ys) held later text lines front version goal came (Err e) empty (piece, taken, is, comes) whole begins front_is long =
    let piece_is : piece ≡ first_line version ++ front = ap (λ (l : List ℕ). l ++ piece) (sym empty) ∙ sym is ∙ sym whole ∙ begins ∙ ap (λ (l : List ℕ). first_line version ++ l) (sym front_is) in
    λ so. subst (λ (t : List ℕ). IsTooLong w t) (sym (taken ∙ ap (λ (l : List ℕ). l ++ ys) piece_is ∙ append_assoc (first_line version) front ys)) (long so)

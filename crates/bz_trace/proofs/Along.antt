-- A net that is played along the lines of a text.
use Rattle.std.proofs.Common.{◌≡◌, ◌≢◌, Bool, cond, ℕ, zero, suc, ◌+◌, ◌-◌, ◌<◌, ◌≤◌, List, [], ◌∷◌, ◌++◌, length, map, take, Option, Some, None, refl, sym, ap, ap₂, subst, ◌∙◌, arith, append_assoc, ◌⊎◌, inl, inr, length-append}
use Rattle.std.specs.List.{AllByRecursion, count_by}
use Rattle.std.proofs.lemmas.List.Sums.{sum_by-cons}
use Rattle.std.proofs.lemmas.List.{append-nil, map-append, take_all}
use Rattle.std.proofs.Math.Seq.{take-append_seam}
use Rattle.bz_model.specs.declared.event.Entry.{Entry}
use Rattle.bz_model.specs.declared.event.Entry.TheVariants.{Fired, Host, Rested}
use Rattle.bz_model.specs.Names.{Outside, External}
use Rattle.bz_model.specs.Nets.{Wiring, State, opening, outside}
use Rattle.bz_model.specs.Runs.{Run, Follows}
use Rattle.bz_model.specs.Traces.{line_text}
use Rattle.bz_net.specs.Progress.{Progress, IsToldBy}
use Rattle.bz_trace_text.specs.declared.text.TheConstants.{MAX_ENTRIES}
use Rattle.bz_trace_text.specs.declared.text.Version.{Version}
use Rattle.bz_model.specs.Entries.{HasLine, HasWho, told}
use Rattle.bz_flat.specs.Wires.{WellWired}
use Rattle.bz_net.proofs.Lines.{run_has_lines}
use Rattle.bz_trace_text.specs.Reading.{line_at}
use Rattle.bz_trace_text.specs.Texts.{lines, first_line, Trace, HasText, IsBad, NoClash, NoEntry, ClashesFrom, OtherFrom, spelling}
use Rattle.bz_trace_text.proofs.Lines.{line_takes}
use Rattle.bz_trace_text.proofs.Strips.{none-some}
use Rattle.bz_trace_text.proofs.Texts.{all_more, flat_more}
use Rattle.bz_trace_text.proofs.Cuts.{Read, bad_behind, bad_most, lines_tell}
use Rattle.bz_trace.specs.Pieces.{Along, AreDueBehind, ConcludesPiece, IsBehind, LeavesPiece, StandsSomewhere, StopsBehind}
use Rattle.bz_trace.specs.Verdicts.{Concludes, CountsRun, DifferAt, Judges, Leaves}
use Rattle.bz_trace.specs.declared.checking.Verdict.{Verdict}
use Rattle.bz_trace.specs.declared.checking.Verdict.TheVariants as verdict
use Rattle.bz_trace_text.specs.declared.tally.Counts.{Counts}
use Rattle.bz_trace_text.specs.Counting.{AreFewer, Tells, is_fired, is_host, is_rest}
use Rattle.bz_trace_text.proofs.Counted.{fewer}
use Rattle.bz_trace.specs.Following.{FollowsFront, FollowsText, GetsOn, Goes, IsLed, NoneToFollow, PlaysOn, Stands, Stops}
use Rattle.bz_trace.specs.declared.lines.Followed.{Followed}

-- a line is that of the entry as told
line_told : (ports : List External) (e : Entry) → line_text ports e ≡ line_text ports (told e)
line_told ports (Fired w comp port chan mv value) = refl
line_told ports (Host w v port value r) = refl
line_told ports (Rested w) = refl

lines_told : (ports : List External) (es : List Entry) → lines ports es ≡ lines ports (map told es)
lines_told ports [] = refl
lines_told ports (e ∷ es) = ap₂ (λ x y. x ++ y) (line_told ports e) (lines_told ports es)

pub same_lines : (ports : List External) (es fs : List Entry) → map told es ≡ map told fs → lines ports es ≡ lines ports fs
same_lines ports es fs same = lines_told ports es ∙ ap (lines ports) same ∙ sym (lines_told ports fs)

-- whether an entry has a line, the entry as told tells
told_has : (net : Outside) (e : Entry) → HasLine net e → HasLine net (told e)
told_has net (Fired w comp port chan mv value) has = has
told_has net (Host w v port value r) has = has
told_has net (Rested w) has = has

has_told : (net : Outside) (e : Entry) → HasLine net (told e) → HasLine net e
has_told net (Fired w comp port chan mv value) has = has
has_told net (Host w v port value r) has = has
has_told net (Rested w) has = has

-- who made an entry that has a line is in range
has_who : (net : Outside) (e : Entry) → HasLine net e → HasWho e
has_who net (Fired w comp port chan mv value) has = has.0
has_who net (Host w v port value r) has = has.0
has_who net (Rested w) has = has

pub all_who : (net : Outside) (es : List Entry) → AllByRecursion (HasLine net) es → AllByRecursion HasWho es
all_who net [] all = tt
all_who net (e ∷ es) all = (has_who net e all.0, all_who net es all.1)

-- entries told alike up to a last one
pub record Last (xs ys : List Entry) (y : Entry) : Type 0 where
  pub front : List Entry
  pub last : Entry
  pub is : xs ≡ front ++ last ∷ []
  pub alike : map told front ≡ map told ys
  pub last_alike : told last ≡ told y

pub cons_same : {X : Type 0} {x y : X} {xs ys : List X} → (x ∷ xs) ≡ (y ∷ ys) → (x ≡ y) × (xs ≡ ys)
cons_same e = (cc, cc)

pub no_nil : {X : Type 0} (x : X) (xs : List X) → [] ≡ (x ∷ xs) → ⊥
no_nil x xs e = cc

pub last_of : (xs ys : List Entry) (y : Entry) → map told xs ≡ map told (ys ++ y ∷ []) → Last xs ys y
last_of [] [] y e = absurd (no_nil _ _ e)
last_of [] (z ∷ ys) y e = absurd (no_nil _ _ e)
last_of (x ∷ []) [] y e = record { front = []; last = x; is = refl; alike = refl; last_alike = (cons_same e).0 }
last_of (x ∷ w ∷ xs) [] y e = absurd (no_nil _ _ (sym (cons_same e).1))
last_of (x ∷ xs) (z ∷ ys) y e =
    let both = cons_same e in
    let l = last_of xs ys y both.1 in
    record { front = x ∷ l.front; last = l.last; is = ap (λ s. x ∷ s) l.is; alike = ap₂ (λ u us. u ∷ us) both.0 l.alike; last_alike = l.last_alike }

pub run_pop : (w : Wiring) (s : State) (es : List Entry) (e : Entry) (t : State) → Run w s (es ++ e ∷ []) t → (m : State) × Run w s es m × Follows w m e t
run_pop w s [] e t (next, step, last) = (s, refl, subst (λ o. Follows w s e o) (sym last) step)
run_pop w s (x ∷ es) e t (next, step, run) = let (m, front, after) = run_pop w next es e t run in (m, (next, step, front), after)

pub run_along : (w : Wiring) (net : Progress) (entries : List Entry) (along : Along w net entries) → Run w (opening w) along.journal net.state
run_along w net entries along = subst (λ (v : Wiring). Run v (opening v) along.journal net.state) along.wiring along.of_net.run

told_nil : (es : List Entry) → map told es ≡ [] → es ≡ []
told_nil [] e = refl
told_nil (x ∷ es) e = absurd (no_nil _ _ (sym e))

pub along_start : (net : Progress) → IsToldBy net [] → Along net.wiring net []
along_start net opened = record {
  wiring = refl;
  journal = [];
  tells = refl;
  each = tt;
  of_net = opened;
  sole = λ es t run alike. subst (λ xs. Run net.wiring (opening net.wiring) xs t) (told_nil es alike) run ∙ sym opened.run;
}

pub behind_start : (net : Progress) → IsToldBy net [] → IsBehind net.wiring net []
behind_start net opened = record { each = tt; along = along_start net opened }

pub all_both : {A : Type 0} (P : A → Type 0) (xs ys : List A) → AllByRecursion P xs → AllByRecursion P ys → AllByRecursion P (xs ++ ys)
all_both P [] ys p q = q
all_both P (x ∷ xs) ys p q = (p.0, all_both P xs ys p.1 q)

pub all_front : {A : Type 0} (P : A → Type 0) (xs ys : List A) → AllByRecursion P (xs ++ ys) → AllByRecursion P xs
all_front P [] ys all = tt
all_front P (x ∷ xs) ys all = (all.0, all_front P xs ys all.1)

along_more : (w : Wiring) (old new : Progress) (entries : List Entry) (line : Entry) → Along w old entries → HasLine (outside w) line → Goes old new line → Along w new (entries ++ line ∷ [])
along_more w old new entries line along has goes =
    let adds = goes.enters.adds [] in
    let own : HasLine (outside w) goes.entry = has_told (outside w) goes.entry (subst (HasLine (outside w)) (sym goes.tells) (told_has (outside w) line has)) in
    record {
      wiring = adds.wiring ∙ along.wiring;
      journal = along.journal ++ goes.entry ∷ [];
      tells = map-append told along.journal (goes.entry ∷ []) ∙ ap₂ (λ x y. x ++ y ∷ []) along.tells goes.tells ∙ sym (map-append told entries (line ∷ []));
      each = all_more (HasLine (outside w)) along.journal goes.entry along.each own;
      of_net = goes.enters.leads along.journal along.of_net;
      sole = λ es t run alike.
          let l = last_of es entries line alike in
          let (m, front, after) = run_pop w (opening w) l.front l.last t (subst (λ xs. Run w (opening w) xs t) l.is run) in
          let same = along.sole l.front m front l.alike in
          goes.sole l.last t l.last_alike (subst (λ o. Follows old.wiring o l.last t) same (subst (λ (v : Wiring). Follows v m l.last t) (sym along.wiring) after));
    }

-- the entries before a line that stops are those that the net is along
abbrev pub Halts : Wiring → List Entry → Progress → List Entry → ℕ → Type 0
Halts w past net entries number = (stops : StopsBehind w past entries number) × Along w net (past ++ stops.before)

stops_here : (w : Wiring) (past : List Entry) (old : Progress) (entries : List Entry) (line : Entry) (number : ℕ) → WellWired w → AllByRecursion (HasLine (outside w)) past → AllByRecursion (HasLine (outside w)) entries → HasLine (outside w) line
    → Along w old (past ++ entries) → Stops old line → number ≡ length entries + 2 → Halts w past old (entries ++ line ∷ []) number
stops_here w past old entries line number wired before each has along stops is = (
  record {
    before = entries;
    here = line;
    after = [];
    entries_are = refl;
    line_is = is;
    runs = record {
      entries = along.journal;
      by = all_who (outside w) along.journal along.each;
      last = old.state;
      run = run_along w old (past ++ entries) along;
      text_is = same_lines w.ports (past ++ entries) along.journal (sym along.tells);
    };
    fails = λ r.
        let own = run_has_lines w r.entries r.last wired r.run r.by in
        let all = all_both (HasLine (outside w)) past (entries ++ line ∷ []) before (all_more (HasLine (outside w)) entries line each has) in
        let alike = lines_tell (outside w) r.entries (past ++ (entries ++ line ∷ [])) own all (sym r.text_is) ∙ ap (map told) (sym (append_assoc past entries (line ∷ []))) in
        let l = last_of r.entries (past ++ entries) line alike in
        let (m, front, after) = run_pop w (opening w) l.front l.last r.last (subst (λ xs. Run w (opening w) xs r.last) l.is r.run) in
        let same = along.sole l.front m front l.alike in
        stops l.last r.last l.last_alike (subst (λ o. Follows old.wiring o l.last r.last) same (subst (λ (v : Wiring). Follows v m l.last r.last) (sym along.wiring) after));
  },
  along,
)

stopped_before : (w : Wiring) (past : List Entry) (net : Progress) (entries : List Entry) (line : Entry) (number : ℕ) → Halts w past net entries number → Halts w past net (entries ++ line ∷ []) number
stopped_before w past net entries line number (stops, along) = (
  record {
    before = stops.before;
    here = stops.here;
    after = stops.after ++ line ∷ [];
    entries_are = ap (λ xs. xs ++ line ∷ []) stops.entries_are ∙ append_assoc stops.before (stops.here ∷ stops.after) (line ∷ []);
    line_is = stops.line_is;
    runs = stops.runs;
    fails = stops.fails;
  },
  along,
)

room_more : (old new : Progress) (entries : List Entry) (line : Entry) → Goes old new line → MAX_ENTRIES ≤ old.left + length entries → MAX_ENTRIES ≤ new.left + length (entries ++ line ∷ [])
room_more old new entries line goes room =
    let long = length-append entries (line ∷ []) in
    let limit = (goes.enters.adds []).limit in
    omega (arith, long, limit, room)

stands_more : (w : Wiring) (past : List Entry) (old new : Progress) (entries : List Entry) (line : Entry) (number : ℕ) (stop later : Option ℕ) → WellWired w → AllByRecursion (HasLine (outside w)) past → AllByRecursion (HasLine (outside w)) entries → HasLine (outside w) line
    → number ≡ length entries + 2 → Stands w past old entries stop → PlaysOn old new line number stop later → Stands w past new (entries ++ line ∷ []) later
stands_more w past old new entries line number None None wired before each has is (along, room) plays =
    (subst (Along w new) (append_assoc past entries (line ∷ [])) (along_more w old new (past ++ entries) line along has plays), room_more old new entries line plays room)
stands_more w past old new entries line number None (Some k) wired before each has is (along, room) plays =
    subst (λ (net : Progress). Halts w past net (entries ++ line ∷ []) k) (sym plays.1) (stops_here w past old entries line k wired before each has along plays.0 (plays.2 ∙ is))
stands_more w past old new entries line number (Some k) later wired before each has is stops plays =
    subst (λ (o : Option ℕ). Stands w past new (entries ++ line ∷ []) o) (sym plays.0) (subst (λ (net : Progress). Halts w past net (entries ++ line ∷ []) k) (sym plays.1) (stopped_before w past old entries line k stops))

-- ---- what a line is counted as is what its entry is

fired_told : (e : Entry) → is_fired e ≡ is_fired (told e)
fired_told (Fired w comp port chan mv value) = refl
fired_told (Host w v port value r) = refl
fired_told (Rested w) = refl

host_told : (e : Entry) → is_host e ≡ is_host (told e)
host_told (Fired w comp port chan mv value) = refl
host_told (Host w v port value r) = refl
host_told (Rested w) = refl

rest_told : (e : Entry) → is_rest e ≡ is_rest (told e)
rest_told (Fired w comp port chan mv value) = refl
rest_told (Host w v port value r) = refl
rest_told (Rested w) = refl

count_told : (p : Entry → Bool) → ((e : Entry) → p e ≡ p (told e)) → (es : List Entry) → count_by p es ≡ count_by p (map told es)
count_told p same [] = refl
count_told p same (e ∷ es) =
    sum_by-cons (λ x. cond (p x) 1 0) e es ∙ ap₂ (λ n m. n + m) (ap (λ b. cond b 1 0) (same e)) (count_told p same es) ∙ sym (sum_by-cons (λ x. cond (p x) 1 0) (told e) (map told es))

same_count : (p : Entry → Bool) → ((e : Entry) → p e ≡ p (told e)) → (es fs : List Entry) → map told es ≡ map told fs → count_by p es ≡ count_by p fs
same_count p same es fs alike = count_told p same es ∙ ap (count_by p) alike ∙ sym (count_told p same fs)

pub tells_alike : (counts : Counts) (es fs : List Entry) → map told es ≡ map told fs → Tells counts es → Tells counts fs
tells_alike counts es fs alike tells = record {
  fired = tells.fired ∙ same_count is_fired fired_told es fs alike;
  host = tells.host ∙ same_count is_host host_told es fs alike;
  rests = tells.rests ∙ same_count is_rest rest_told es fs alike;
}

-- as far as the lines of entries are read
read_of : (names : Outside) (w : Wiring) (past : List Entry) (net : Progress) (v : Version) (text rest : List ℕ) (far : Followed) (f : FollowsText names w past net text rest far) → Read (outside w) (first_line v ++ text) v f.entries rest
read_of names w past net v text rest far f = record { each = f.each; few = f.few; as_told = f.as_told; text_is = ap (λ s. first_line v ++ s) f.text_is }

abbrev pub nothing_yet : Followed
nothing_yet = record { counts = record { fired = 0; host = 0; rests = 0 }; count = 0; stop = None }

pub follows_start : (names : Outside) (w : Wiring) (past : List Entry) (net : Progress) (text : List ℕ) → names ≡ outside w → WellWired w → IsBehind w net past → MAX_ENTRIES ≤ net.left → FollowsText names w past net text text nothing_yet
follows_start names w past net text named wired behind room = record {
  names_are = named;
  wired = wired;
  before = behind.each;
  entries = [];
  each = tt;
  few = omega arith;
  as_told = refl;
  text_is = refl;
  tells = record { fired = refl; host = refl; rests = refl };
  count_is = refl;
  stands = (subst (Along w net) (sym (append-nil past)) behind.along, omega (arith, room));
}

pub start_entries : (names : Outside) (w : Wiring) (past : List Entry) (net : Progress) (text : List ℕ) (named : names ≡ outside w) (wired : WellWired w) (behind : IsBehind w net past) (room : MAX_ENTRIES ≤ net.left) → (follows_start names w past net text named wired behind room).entries ≡ []
unfolding follows_start
start_entries names w past net text named wired behind room = refl

stands_wired : (w : Wiring) (past : List Entry) (net : Progress) (entries : List Entry) (stop : Option ℕ) → Stands w past net entries stop → net.wiring ≡ w
stands_wired w past net entries None (along, room) = along.wiring
stands_wired w past net entries (Some line) (stops, along) = along.wiring

stands_told : (w : Wiring) (past : List Entry) (net : Progress) (entries : List Entry) (stop : Option ℕ) → Stands w past net entries stop → (journal : List Entry) × IsToldBy net journal
stands_told w past net entries None (along, room) = (along.journal, along.of_net)
stands_told w past net entries (Some line) (stops, along) = (along.journal, along.of_net)

stands_behind : (w : Wiring) (past : List Entry) (net : Progress) (entries : List Entry) (stop : Option ℕ) → AllByRecursion (HasLine (outside w)) past → AllByRecursion (HasLine (outside w)) entries → Stands w past net entries stop → (es : List Entry) × IsBehind w net es
stands_behind w past net entries None before each (along, room) = (past ++ entries, record { each = all_both (HasLine (outside w)) past entries before each; along = along })
stands_behind w past net entries (Some line) before each (stops, along) =
    let own = all_front (HasLine (outside w)) stops.before (stops.here ∷ stops.after) (subst (AllByRecursion (HasLine (outside w))) stops.entries_are each) in
    (past ++ stops.before, record { each = all_both (HasLine (outside w)) past stops.before before own; along = along })

some_left : (n : ℕ) → (n ≡ 0 → ⊥) → 0 < n
some_left zero none = absurd (none refl)
some_left (suc n) none = omega arith

module _ (names : Outside) (w : Wiring) (past : List Entry) (net : Progress) (text rest : List ℕ) (far : Followed) (f : FollowsText names w past net text rest far) where
  plays_on : far.stop ≡ None → Along w net (past ++ f.entries) × (MAX_ENTRIES ≤ net.left + length f.entries)
  plays_on none = subst (Stands w past net f.entries) none f.stands

  goes_on : far.stop ≡ None → Along w net (past ++ f.entries)
  goes_on none = (plays_on none).0

  named : (o : Option (Entry × List ℕ)) → line_at names rest ≡ o → line_at (outside w) rest ≡ o
  named o at = subst (λ n. line_at n rest ≡ o) f.names_are at

  -- where no line has stopped, one more can be played
  pub has_place : far.count ≢ MAX_ENTRIES → far.stop ≡ None → 0 < net.left
  has_place fewer none =
      let left = (plays_on none).1 in
      let is = f.count_is in
      let few = f.few in
      some_left net.left (λ zero. fewer (omega (arith, left, is, zero, few)))

  pub line_of_net : (line : Entry) (after : List ℕ) → line_at names rest ≡ Some (line, after) → far.stop ≡ None → HasLine (outside net.wiring) line
  line_of_net line after at none = subst (λ (u : Wiring). HasLine (outside u) line) (sym (goes_on none).wiring) (line_takes (outside w) rest line after (named (Some (line, after)) at)).has_line

  -- and a run led to where the net is
  pub led : far.stop ≡ None → IsLed net
  led none = let along = goes_on none in (subst WellWired (sym along.wiring) f.wired, (along.journal, along.of_net))

  pub wiring_is : net.wiring ≡ w
  wiring_is = stands_wired w past net f.entries far.stop f.stands

  pub told_here : (journal : List Entry) × IsToldBy net journal
  told_here = stands_told w past net f.entries far.stop f.stands

  -- the net stands behind entries, whether a line has stopped or not
  pub somewhere : StandsSomewhere net
  somewhere =
      let (es, behind) = stands_behind w past net f.entries far.stop f.before f.each f.stands in
      (es, subst (λ (u : Wiring). IsBehind u net es) (sym wiring_is) behind)

  pub can_count : AreFewer far.counts 18446744073709551615
  can_count =
      let few = f.few in
      fewer far.counts f.entries 18446744073709551615 f.tells (omega (arith, few))

  pub within : far.count ≤ MAX_ENTRIES
  within = let is = f.count_is in let few = f.few in omega (arith, is, few)

pub follows_more : (names : Outside) (w : Wiring) (past : List Entry) (old new : Progress) (text rest after : List ℕ) (far : Followed) (more : Counts) (later : Option ℕ) (line : Entry) → FollowsText names w past old text rest far → line_at names rest ≡ Some (line, after) → far.count ≢ MAX_ENTRIES
    → PlaysOn old new line (far.count + 2) far.stop later → ((entries : List Entry) → Tells far.counts entries → Tells more (entries ++ line ∷ [])) → FollowsText names w past new text after (record { counts = more; count = far.count + 1; stop = later })
follows_more names w past old new text rest after far more later line f at fewer plays adds =
    let is = f.count_is in
    let long = length-append f.entries (line ∷ []) in
    let few = f.few in
    let stands = line_takes (outside w) rest line after (named names w past old text rest far f (Some (line, after)) at) in
    record {
      names_are = f.names_are;
      wired = f.wired;
      before = f.before;
      entries = f.entries ++ line ∷ [];
      each = all_more (HasLine (outside w)) f.entries line f.each stands.has_line;
      few = omega (arith, long, is, few, fewer);
      as_told = map-append told f.entries (line ∷ []) ∙ ap₂ (λ x y. x ++ y ∷ []) f.as_told stands.as_told;
      text_is = f.text_is ∙ flat_more (line_text w.ports) f.entries line after rest stands.text;
      tells = adds f.entries f.tells;
      count_is = omega (arith, long, is);
      stands = stands_more w past old new f.entries line (far.count + 2) far.stop later f.wired f.before f.each stands.has_line (omega (arith, is)) f.stands plays;
    }

-- the entries are those before with the one of the line
pub more_entries : (names : Outside) (w : Wiring) (past : List Entry) (old new : Progress) (text rest after : List ℕ) (far : Followed) (more : Counts) (later : Option ℕ) (line : Entry) (f : FollowsText names w past old text rest far) (at : line_at names rest ≡ Some (line, after)) (fewer : far.count ≢ MAX_ENTRIES)
    (plays : PlaysOn old new line (far.count + 2) far.stop later) (adds : (entries : List Entry) → Tells far.counts entries → Tells more (entries ++ line ∷ [])) → (follows_more names w past old new text rest after far more later line f at fewer plays adds).entries ≡ f.entries ++ line ∷ []
unfolding follows_more
more_entries names w past old new text rest after far more later line f at fewer plays adds = refl

-- what is read behind the rest stands behind the text
pub follows_longer : (names : Outside) (w : Wiring) (past : List Entry) (net : Progress) (text rest : List ℕ) (far : Followed) (more : List ℕ) → FollowsText names w past net text rest far → FollowsText names w past net (text ++ more) (rest ++ more) far
follows_longer names w past net text rest far more f = record {
  names_are = f.names_are;
  wired = f.wired;
  before = f.before;
  entries = f.entries;
  each = f.each;
  few = f.few;
  as_told = f.as_told;
  text_is = ap (λ s. s ++ more) f.text_is ∙ append_assoc (lines w.ports f.entries) rest more;
  tells = f.tells;
  count_is = f.count_is;
  stands = f.stands;
}

pub longer_entries : (names : Outside) (w : Wiring) (past : List Entry) (net : Progress) (text rest : List ℕ) (far : Followed) (more : List ℕ) (f : FollowsText names w past net text rest far) → (follows_longer names w past net text rest far more f).entries ≡ f.entries
unfolding follows_longer
longer_entries names w past net text rest far more f = refl

pub judges : (w : Wiring) (text : List ℕ) (net : Progress) (counts : Counts) (v : Verdict) → Concludes w text net counts v → Judges w text v
judges w text net counts verdict.Run by = by.0
judges w text net counts (verdict.Not line) by = by.0
judges w text net counts (verdict.Bad line) by = by.0
judges w text net counts verdict.Memory by = tt

pub counts_run : (w : Wiring) (text : List ℕ) (net : Progress) (counts : Counts) (v : Verdict) → Concludes w text net counts v → v ≡ verdict.Run → CountsRun w text counts
counts_run w text net counts verdict.Run by is = (by.0, by.1)
counts_run w text net counts (verdict.Not line) by is = absurd (let e = is in cc)
counts_run w text net counts (verdict.Bad line) by is = absurd (let e = is in cc)
counts_run w text net counts verdict.Memory by is = absurd (let e = is in cc)

pub leaves : (w : Wiring) (text : List ℕ) (net : Progress) (counts : Counts) (v : Verdict) → Concludes w text net counts v → Leaves w text net v
leaves w text net counts verdict.Run by = (by.0, by.2)
leaves w text net counts (verdict.Not line) by = by
leaves w text net counts (verdict.Bad line) by = by.1
leaves w text net counts verdict.Memory by = tt

-- the entries in front of a line
pub taken_front : (es before rest : List Entry) (line : ℕ) → es ≡ before ++ rest → line ≡ length before + 2 → take (line - 2) es ≡ before
taken_front es before rest line is at =
    let long : line - 2 ≡ length before = omega (arith, at) in
    ap₂ (λ n xs. take n xs) long is ∙ take-append_seam before rest

taken_all : (es : List Entry) (line : ℕ) → length es + 2 ≤ line → take (line - 2) es ≡ es
taken_all es line long = take_all (line - 2) es (omega (arith, long))

-- the text as a trace, where clash lines go on to its end
abbrev trace_of : Version → List Entry → List ℕ → Trace
trace_of v es cs = record { version = v; entries = es; clashes = cs }

module _ (names : Outside) (w : Wiring) (past : List Entry) (net : Progress) (v : Version) (text rest : List ℕ) (far : Followed) (f : FollowsText names w past net text rest far) where
  pub too_many : (line : Entry) (after : List ℕ) → NoneToFollow names rest far → line_at names rest ≡ Some (line, after) → IsBad (outside w) (first_line v ++ text) 16777218
  too_many line after (inl none) at = absurd (none-some (line, after) (sym none ∙ at))
  too_many line after (inr full) at =
      bad_most (outside w) (first_line v ++ text) v f.entries rest line after (read_of names w past net v text rest far f) (sym f.count_is ∙ full) (named names w past net text rest far f (Some (line, after)) at)

  pub other_behind : (line : ℕ) → line_at names rest ≡ None → OtherFrom v rest (far.count + 2) line → IsBad (outside w) (first_line v ++ text) line
  other_behind line none other =
      bad_behind (outside w) (first_line v ++ text) v f.entries rest line (read_of names w past net v text rest far f) (named names w past net text rest far f None none) (subst (λ n. OtherFrom v rest (n + 2) line) f.count_is other)

  -- no entry and no clash line goes on from here
  pub bad_here : rest ≢ [] → NoEntry (outside w) far.count rest → NoClash v rest → IsBad (outside w) (first_line v ++ text) (far.count + 2)
  bad_here some no_entry no_clash = inr (record {
    before = record { version = v; entries = f.entries; clashes = [] };
    has_text = record { each = f.each; few = f.few; numbers = tt; without = λ _. refl };
    rest = rest;
    text_is = ap (λ s. first_line v ++ s) (f.text_is ∙ ap (λ s. s ++ rest) (sym (append-nil (lines w.ports f.entries)))) ∙ sym (append_assoc (first_line v) (lines w.ports f.entries ++ []) rest);
    line_is = let is = f.count_is in omega (arith, is);
    some_rest = some;
    no_entry = λ _. subst (λ n. NoEntry (outside w) n rest) f.count_is no_entry;
    no_clash = no_clash;
  })

  module _ (from : ClashesFrom v rest) where
    has_text : HasText (outside w) (trace_of v f.entries from.0)
    has_text = record { each = f.each; few = f.few; numbers = from.1; without = from.2 }

    text_is : first_line v ++ text ≡ spelling w.ports (trace_of v f.entries from.0)
    text_is = ap (λ s. first_line v ++ s) (f.text_is ∙ ap (λ s. lines w.ports f.entries ++ s) from.3)

    pub stops_at : (last : Bool) (line : ℕ) → far.stop ≡ Some line → LeavesPiece last w past (first_line v ++ text) net (verdict.Not line)
    stops_at last line is =
        let (stops, along) = subst (Stands w past net f.entries) is f.stands in (
          record {
            trace = trace_of v f.entries from.0;
            has_text = has_text;
            text_is = text_is;
            stops = inl stops;
          },
          (along.journal, along.tells ∙ ap (λ es. map told (past ++ es)) (sym (taken_front f.entries stops.before (stops.here ∷ stops.after) line stops.entries_are stops.line_is)), along.of_net),
        )

    -- no line of an entry has stopped
    module _ (last : Bool) (due : List ℕ) (plays : far.stop ≡ None) (are_due : (journal : List Entry) → IsToldBy net journal → AreDueBehind last net.wiring v journal due) where
      along : Along w net (past ++ f.entries)
      along = goes_on names w past net text rest far f plays

      own_due : AreDueBehind last w v along.journal due
      own_due = subst (λ (u : Wiring). AreDueBehind last u v along.journal due) along.wiring (are_due along.journal along.of_net)

      pub run_text : from.0 ≡ due → ConcludesPiece last w past (first_line v ++ text) net far.counts verdict.Run
      run_text same = record {
        piece = record {
          trace = trace_of v f.entries from.0;
          has_text = has_text;
          text_is = text_is;
          journal = along.journal;
          by = all_who (outside w) along.journal along.each;
          alike = along.tells;
          end = net.state;
          run = run_along w net (past ++ f.entries) along;
          due = subst (AreDueBehind last w v along.journal) (sym same) own_due;
        };
        told_by = along.of_net;
        tells = f.tells;
        behind = record { each = all_both (HasLine (outside w)) past f.entries f.before f.each; along = along };
      }

      pub no_run : (place : ℕ) → DifferAt from.0 due place → LeavesPiece last w past (first_line v ++ text) net (verdict.Not (far.count + place + 2))
      no_run place differ = (
        record {
          trace = trace_of v f.entries from.0;
          has_text = has_text;
          text_is = text_is;
          stops = inr (record {
            journal = along.journal;
            by = all_who (outside w) along.journal along.each;
            end = net.state;
            run = run_along w net (past ++ f.entries) along;
            alike = along.tells;
            clashes = due;
            due = own_due;
            place = place;
            differ = differ;
            line_is = ap (λ n. n + place + 2) f.count_is;
          });
        },
        (along.journal, along.tells ∙ ap (λ es. map told (past ++ es)) (sym (taken_all f.entries (far.count + place + 2) (let is = f.count_is in omega (arith, is)))), along.of_net),
      )

-- one line more was followed
pub gets_on_more : (from : Followed) (count : ℕ) (text rest after : List ℕ) → ((count ≡ from.count) × (rest ≡ text)) ⊎ ((from.count < count) × (length rest < length text)) → length after < length rest
    → (from.count < count + 1) × (length after < length text)
gets_on_more from count text rest after (inl same) less = let is = same.0 in (omega (arith, is), subst (λ s. length after < length s) same.1 less)
gets_on_more from count text rest after (inr more) less = let m = more.0 in let n = more.1 in (omega (arith, m), omega (arith, n, less))

-- the same of a line that was followed at the front
pub follows_one : (names : Outside) (w : Wiring) (past : List Entry) (old new : Progress) (text rest after : List ℕ) (far to : Followed) → FollowsText names w past old text rest far → far.count < MAX_ENTRIES → FollowsFront names old new rest after far to → FollowsText names w past new text after to
follows_one names w past old new text rest after far to f fewer (line, at, one) =
    subst (λ (n : ℕ). FollowsText names w past new text after (record { counts = to.counts; count = n; stop = to.stop })) (sym one.count_is)
    (follows_more names w past old new text rest after far to.counts to.stop line f at (λ e. absurd (omega (arith, e, fewer))) one.plays one.counted)

-- lines that were followed behind others
pub gets_on_then : (a b c : Followed) (s t u : List ℕ) → GetsOn a b s t → GetsOn b c t u → GetsOn a c s u
gets_on_then a b c s t u (inl one) (inl two) = inl (two.0 ∙ one.0, two.1 ∙ one.1)
gets_on_then a b c s t u (inl one) (inr two) = let n = one.0 in let m = two.0 in inr (omega (arith, n, m), subst (λ x. length u < length x) one.1 two.1)
gets_on_then a b c s t u (inr one) (inl two) = let n = one.0 in let m = two.0 in inr (omega (arith, n, m), subst (λ x. length x < length s) (sym two.1) one.1)
gets_on_then a b c s t u (inr one) (inr two) = let n = one.0 in let m = two.0 in let k = one.1 in let l = two.1 in inr (omega (arith, n, m), omega (arith, k, l))

pub no_longer : (a b : Followed) (s t : List ℕ) → GetsOn a b s t → length t ≤ length s
no_longer a b s t (inl same) = subst (λ x. length t ≤ length x) same.1 (omega arith)
no_longer a b s t (inr more) = let l = more.1 in omega (arith, l)

pub below : (n most : ℕ) → n ≤ most → n ≢ most → n < most
below n most le other = omega (arith, le, other)

-- A verdict on a front of a text: the first line that no run allows, whatever comes after it.
use Rattle.std.proofs.Common.{◌≡◌, ◌⊎◌, inl, inr, ℕ, ◌+◌, ◌≤◌, Bool, true, false, Option, Some, None, List, [], ◌∷◌, ◌++◌, length, map, refl, sym, ap, ap₂, subst, ◌∙◌, arith, append_assoc, length-append, codes}
use Rattle.std.specs.Prelude.{IfSome}
use Rattle.std.specs.Io.KnownBytes.{Consumes, IsAtEnd}
use Rattle.std.specs.List.{AllByRecursion}
use Rattle.std.proofs.lemmas.List.{append-nil}
use Rattle.std.proofs.lemmas.Option.{some_pair_parts}
use Rattle.std.proofs.Math.ListN.{length-map}
use Rattle.bz_model.specs.declared.event.Entry.{Entry}
use Rattle.bz_model.specs.Entries.{HasLine, told}
use Rattle.bz_model.specs.Limits.{max_entries}
use Rattle.bz_model.specs.Names.{Outside}
use Rattle.bz_model.specs.Nets.{Wiring, outside}
use Rattle.bz_model.specs.Traces.{line_text}
use Rattle.bz_flat.specs.Wires.{WellWired}
use Rattle.bz_net.specs.Progress.{Progress}
use Rattle.bz_trace_text.specs.declared.text.Version.{Version}
use Rattle.bz_trace_text.specs.declared.text.Version.TheVariants.{One, Two}
use Rattle.bz_trace_text.specs.Reading.{line_at, strip}
use Rattle.bz_trace_text.specs.Texts.{NoEntry, first_line, lines}
use Rattle.bz_trace_text.proofs.Cuts.{same_first_rest}
use Rattle.bz_trace_text.proofs.Lines.{line_again}
use Rattle.bz_trace_text.proofs.Strips.{none-some, strip_again}
use Rattle.bz_trace_text.proofs.Texts.{no_entry_from}
use Rattle.bz_trace.specs.declared.checking.Verdict.TheVariants as verdict
use Rattle.bz_trace.specs.declared.lines.Followed.{Followed}
use Rattle.bz_trace.specs.Following.{FollowsText, NoneToFollow, Stands}
use Rattle.bz_trace.specs.Pieces.{Along, ConcludesPiece, LeavesPieceEarly, StopsBehind, StopsInFrontBehind}
use Rattle.bz_trace.specs.Reading.{ConcludesPieceTo, IsOther}
use Rattle.bz_trace.specs.declared.checking.Verdict.{Verdict}
use Rattle.bz_trace.specs.declared.reading.Said.{Said}
use Rattle.bz_trace_text.specs.declared.tally.Counts.{Counts}
use Rattle.bz_trace.proofs.Along.{all_both, all_who, run_along, taken_front}
use Rattle.bz_trace.proofs.Pieces.{behind_alike, none_stops_behind, one_behind}
use Rattle.bz_trace.proofs.Streams.{bad_line, both, consumes_then, no_entry, nothing_comes, said_at_end, whatever_comes}

-- the first line is that of one version
not_one : (y : List ℕ) → strip (codes "trace 1\n") (first_line Two ++ y) ≡ None
unfolding strip
not_one y = refl

other_first : (x y : List ℕ) → first_line One ++ x ≡ first_line Two ++ y → ⊥
other_first x y e = none-some x (sym (not_one y) ∙ ap (strip (codes "trace 1\n")) (sym e) ∙ strip_again (codes "trace 1\n") x)

same_text : (v u : Version) (x y : List ℕ) → first_line v ++ x ≡ first_line u ++ y → x ≡ y
same_text One One x y e = same_first_rest (first_line One) x y e
same_text One Two x y e = absurd (other_first x y e)
same_text Two One x y e = absurd (other_first y x (sym e))
same_text Two Two x y e = same_first_rest (first_line Two) x y e

-- these entries go on from those, and so does their text
abbrev GoesOn : Outside → List Entry → List Entry → List ℕ → List ℕ → Type 0
GoesOn net es fs x y = (r : List Entry) × (map told fs ≡ map told (es ++ r)) × AllByRecursion (HasLine net) r × (x ≡ lines net.ports r ++ y)

-- of two lists of entries in front of one text, one goes on from the other
fronts : (net : Outside) (es fs : List Entry) (x y : List ℕ) → AllByRecursion (HasLine net) es → AllByRecursion (HasLine net) fs → lines net.ports es ++ x ≡ lines net.ports fs ++ y → GoesOn net es fs x y ⊎ GoesOn net fs es y x
fronts net [] fs x y p q e = inl (fs, refl, q, e)
fronts net (d ∷ es) [] x y p q e = inr (d ∷ es, refl, p, sym e)
fronts net (d ∷ es) (f ∷ fs) x y p q e =
    let left = sym (line_again net d (lines net.ports es ++ x) p.0) ∙ ap (line_at net) (sym (append_assoc (line_text net.ports d) (lines net.ports es) x) ∙ e ∙ append_assoc (line_text net.ports f) (lines net.ports fs) y) ∙ line_again net f (lines net.ports fs ++ y) q.0 in
    let alike = some_pair_parts (told d) (told f) (lines net.ports es ++ x) (lines net.ports fs ++ y) left in
    elim (fronts net es fs x y p.1 q.1 alike.1) [
      | inl h ↦ inl (h.0, ap₂ (λ u us. u ∷ us) (sym alike.0) h.1, h.2, h.3)
      | inr h ↦ inr (h.0, ap₂ (λ u us. u ∷ us) alike.0 h.1, h.2, h.3)
    ]

-- a line that stops does so whatever lines follow
stops_on : (w : Wiring) (past es r : List Entry) (n : ℕ) → StopsBehind w past es n → StopsBehind w past (es ++ r) n
stops_on w past es r n s = record {
  before = s.before;
  here = s.here;
  after = s.after ++ r;
  entries_are = ap (λ xs. xs ++ r) s.entries_are ∙ append_assoc s.before (s.here ∷ s.after) r;
  line_is = s.line_is;
  runs = s.runs;
  fails = s.fails;
}

same_length : (es fs : List Entry) → map told es ≡ map told fs → length es ≡ length fs
same_length es fs alike = sym (length-map es told) ∙ ap length alike ∙ length-map fs told

module _ (w : Wiring) (wired : WellWired w) (past : List Entry) where
  -- where all lines of entries are those of a run, none of them stops
  goes_past : (net : Progress) (es fs r : List Entry) (rest more : List ℕ) (line : ℕ) → Along w net (past ++ es) → NoEntry (outside w) (length es) rest → length fs ≤ max_entries → StopsBehind w past fs line
      → map told fs ≡ map told (es ++ r) → AllByRecursion (HasLine (outside w)) r → rest ≡ lines w.ports r ++ more → ⊥
  goes_past net es fs [] rest more line along none few stops alike all is =
      none_stops_behind w wired past along.journal fs line net.state stops (all_who (outside w) along.journal along.each) (run_along w net (past ++ es) along) (along.tells ∙ behind_alike past es fs (ap (map told) (sym (append-nil es)) ∙ sym alike))
  goes_past net es fs (e ∷ r) rest more line along none few stops alike all is =
      let full = none e (lines w.ports r ++ more) all.0 (is ∙ append_assoc (line_text w.ports e) (lines w.ports r) more) in
      let long = same_length fs (es ++ e ∷ r) alike in
      let sum = length-append es (e ∷ r) in
      absurd (omega (arith, full, long, sum, few))

  pub none_early : (net : Progress) (v : Version) (es : List Entry) (text rest : List ℕ) (line : ℕ) → Along w net (past ++ es) → AllByRecursion (HasLine (outside w)) es → NoEntry (outside w) (length es) rest → text ≡ lines w.ports es ++ rest
      → StopsInFrontBehind w past (first_line v ++ text) line → ⊥
  none_early net v es text rest line along each none is s =
      let same = same_text v s.version text (lines w.ports s.entries ++ s.more) s.text_is in
      elim (fronts (outside w) es s.entries rest s.more each s.each (sym is ∙ same)) [
        | inl h ↦ goes_past net es s.entries h.0 rest s.more line along none s.few s.stops h.1 h.2 h.3
        | inr h ↦ none_stops_behind w wired past along.journal (s.entries ++ h.0) line net.state (stops_on w past s.entries h.0 line s.stops) (all_who (outside w) along.journal along.each) (run_along w net (past ++ es) along) (along.tells ∙ behind_alike past es (s.entries ++ h.0) h.1)
      ]

  -- one line of a text is the first that stops
  pub one_early : (v : Version) (es : List Entry) (text rest : List ℕ) (k line : ℕ) → AllByRecursion (HasLine (outside w)) past → AllByRecursion (HasLine (outside w)) es → text ≡ lines w.ports es ++ rest → StopsBehind w past es k → StopsInFrontBehind w past (first_line v ++ text) line → k ≡ line
  one_early v es text rest k line before each is stops s =
      let same = same_text v s.version text (lines w.ports s.entries ++ s.more) s.text_is in
      elim (fronts (outside w) es s.entries rest s.more each s.each (sym is ∙ same)) [
        | inl h ↦ one_behind w wired past (es ++ h.0) s.entries k line before (all_both (HasLine (outside w)) es h.0 each h.2) s.each (sym h.1) (stops_on w past es h.0 k stops) s.stops
        | inr h ↦ one_behind w wired past es (s.entries ++ h.0) k line before each (all_both (HasLine (outside w)) s.entries h.0 s.each h.2) h.1 stops (stops_on w past s.entries h.0 line s.stops)
      ]

module _ (names : Outside) (w : Wiring) (past : List Entry) (net : Progress) (v : Version) (text rest : List ℕ) (far : Followed) (f : FollowsText names w past net text rest far) where
  -- the line that stops, in front of whatever comes
  early_at : (line : ℕ) (left : List ℕ) → far.stop ≡ Some line → LeavesPieceEarly w past (first_line v ++ (text ++ left)) net (verdict.Not line)
  early_at line left is =
      let (stops, along) = subst (Stands w past net f.entries) is f.stands in (
        record {
          version = v;
          entries = f.entries;
          each = f.each;
          few = f.few;
          more = rest ++ left;
          text_is = ap (λ t. first_line v ++ t) (ap (λ t. t ++ left) f.text_is ∙ append_assoc (lines w.ports f.entries) rest left);
          stops = stops;
        },
        (along.journal, along.tells ∙ ap (λ es. map told (past ++ es)) (sym (taken_front f.entries stops.before (stops.here ∷ stops.after) line stops.entries_are stops.line_is)), along.of_net),
      )

  one_here : (k line : ℕ) (left : List ℕ) → far.stop ≡ Some k → StopsInFrontBehind w past (first_line v ++ (text ++ left)) line → k ≡ line
  one_here k line left is s =
      let (stops, along) = subst (Stands w past net f.entries) is f.stands in
      one_early w f.wired past v f.entries (text ++ left) (rest ++ left) k line f.before f.each (ap (λ t. t ++ left) f.text_is ∙ append_assoc (lines w.ports f.entries) rest left) stops s

  none_here : (line : ℕ) (left : List ℕ) → far.stop ≡ None → NoEntry (outside w) far.count (rest ++ left) → StopsInFrontBehind w past (first_line v ++ (text ++ left)) line → ⊥
  none_here line left is none s =
      none_early w f.wired past net v f.entries (text ++ left) (rest ++ left) line (subst (Stands w past net f.entries) is f.stands).0 f.each (subst (λ n. NoEntry (outside w) n (rest ++ left)) f.count_is none) (ap (λ t. t ++ left) f.text_is ∙ append_assoc (lines w.ports f.entries) rest left) s

abbrev whole : Verdict → Counts → Said
whole v counts = record { verdict = v; counts = counts; early = false }

module _ (to_first last : Bool) (old new : Option (List ℕ)) (names : Outside) (w : Wiring) (past : List Entry) (net : Progress) (v : Version) (front got held : List ℕ) (far : Followed) (taken : Consumes old new got) (follows : FollowsText names w past net (front ++ got) held far) where
  -- a line that stops, where no more is asked for
  pub stop_to : (line : ℕ) → far.stop ≡ Some line → IfSome old (λ more. ConcludesPieceTo to_first last w past (first_line v ++ (front ++ more)) net (record { verdict = verdict.Not line; counts = far.counts; early = true }))
  stop_to line is = whatever_comes old new got (λ more. ConcludesPieceTo to_first last w past (first_line v ++ (front ++ more)) net (record { verdict = verdict.Not line; counts = far.counts; early = true })) taken (λ left. record {
    concludes = subst (λ t. LeavesPieceEarly w past (first_line v ++ t) net (verdict.Not line)) (append_assoc front got left) (early_at names w past net v (front ++ got) held far follows line left is);
    first = λ so other s.
        (refl, ap verdict.Not (one_here names w past net v (front ++ got) held far follows line other left is (subst (λ t. StopsInFrontBehind w past (first_line v ++ t) other) (sym (append_assoc front got left)) s)));
  })

  -- a line of another form
  pub bad_to : NoneToFollow names held far → IsOther v held → (to_first ≡ true → far.stop ≡ None) → IfSome old (λ more. ConcludesPieceTo to_first last w past (first_line v ++ (front ++ more)) net (whole (verdict.Bad (far.count + 2)) far.counts))
  bad_to none other plays =
      both old (λ more. ConcludesPiece last w past (first_line v ++ (front ++ more)) net far.counts (verdict.Bad (far.count + 2))) (λ more. to_first ≡ true → (line : ℕ) → StopsInFrontBehind w past (first_line v ++ (front ++ more)) line → ⊥) (λ more. ConcludesPieceTo to_first last w past (first_line v ++ (front ++ more)) net (whole (verdict.Bad (far.count + 2)) far.counts))
      (λ more a b. record { concludes = a; first = λ so line s. absurd (b so line s) })
      (bad_line old new names last w past net v front got held far taken follows none other)
      (whatever_comes old new got (λ more. to_first ≡ true → (line : ℕ) → StopsInFrontBehind w past (first_line v ++ (front ++ more)) line → ⊥) taken (λ left so line s.
      none_here names w past net v (front ++ got) held far follows line left (plays so) (no_entry names (outside w) held left far follows.names_are other.0 none) (subst (λ t. StopsInFrontBehind w past (first_line v ++ t) line) (sym (append_assoc front got left)) s)))

no_entry_here : (names net : Outside) (rest : List ℕ) (far : Followed) → names ≡ net → NoneToFollow names rest far → NoEntry net far.count rest
no_entry_here names net rest far named (inl none) = no_entry_from net far.count rest (subst (λ n. line_at n rest ≡ None) named none)
no_entry_here names net rest far named (inr full) = λ e after has is. full

module _ (to_first last : Bool) (old mid new : Option (List ℕ)) (names : Outside) (w : Wiring) (past : List Entry) (net : Progress) (v : Version) (front got held : List ℕ) (far : Followed) (taken : Consumes old mid got) (nothing : Consumes mid new []) (end : IsAtEnd new)
    (follows : FollowsText names w past net (front ++ got) held far) (none : NoneToFollow names held far) (plays : to_first ≡ true → far.stop ≡ None) where
  none_now : to_first ≡ true → (line : ℕ) → StopsInFrontBehind w past (first_line v ++ (front ++ got)) line → ⊥
  none_now so line s =
      none_early w follows.wired past net v follows.entries (front ++ got) held line (subst (Stands w past net follows.entries) (plays so) follows.stands).0 follows.each (subst (λ n. NoEntry (outside w) n held) follows.count_is (no_entry_here names (outside w) held far follows.names_are none)) follows.text_is s

  none_at_end : IfSome old (λ more. to_first ≡ true → (line : ℕ) → StopsInFrontBehind w past (first_line v ++ (front ++ more)) line → ⊥)
  none_at_end =
      nothing_comes old new got (λ more. to_first ≡ true → (line : ℕ) → StopsInFrontBehind w past (first_line v ++ (front ++ more)) line → ⊥) (subst (λ t. Consumes old new t) (append-nil got) (consumes_then old mid new got [] taken nothing)) end none_now

  -- all was followed, to the end
  pub end_to : (said : Verdict) → ConcludesPiece last w past (first_line v ++ (front ++ got)) net far.counts said → IfSome old (λ more. ConcludesPieceTo to_first last w past (first_line v ++ (front ++ more)) net (whole said far.counts))
  end_to said by =
      both old (λ more. ConcludesPiece last w past (first_line v ++ (front ++ more)) net far.counts said) (λ more. to_first ≡ true → (line : ℕ) → StopsInFrontBehind w past (first_line v ++ (front ++ more)) line → ⊥) (λ more. ConcludesPieceTo to_first last w past (first_line v ++ (front ++ more)) net (whole said far.counts))
      (λ more a b. record { concludes = a; first = λ so line s. absurd (b so line s) })
      (said_at_end old mid new last w past net v front got far.counts said taken nothing end by)
      none_at_end

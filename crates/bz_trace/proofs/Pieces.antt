-- A piece of a run: where it stops, as a line of the one run; and a trace that is the one piece.
use Rattle.std.proofs.Common.{◌≡◌, ◌⊎◌, inl, inr, ℕ, ◌+◌, ◌≤◌, Bool, true, false, List, [], ◌∷◌, ◌++◌, length, map, sym, ap, subst, ◌∙◌, arith, append_assoc, length-append}
use Rattle.std.specs.List.{AllByRecursion}
use Rattle.std.proofs.Math.ListN.{length-map}
use Rattle.std.proofs.lemmas.List.{map-append}
use Rattle.bz_model.specs.declared.event.Entry.{Entry}
use Rattle.bz_model.specs.Nets.{Wiring, State, opening, outside}
use Rattle.bz_model.specs.Runs.{Run}
use Rattle.bz_model.specs.Entries.{HasLine, HasWho, told}
use Rattle.bz_model.specs.Limits.{max_entries}
use Rattle.bz_flat.specs.Wires.{WellWired}
use Rattle.bz_net.specs.Progress.{Progress}
use Rattle.bz_trace_text.specs.declared.tally.Counts.{Counts}
use Rattle.bz_trace_text.specs.Texts.{Trace, clash_lines, first_line, lines}
use Rattle.bz_trace.specs.declared.checking.Verdict.{Verdict}
use Rattle.bz_trace.specs.declared.checking.Verdict.TheVariants as verdict
use Rattle.bz_trace.specs.declared.reading.Said.{Said}
use Rattle.bz_trace.specs.Pieces.{ConcludesPiece, LeavesPieceEarly, StopsAtClashBehind, StopsBehind, StopsInFrontBehind}
use Rattle.bz_trace.specs.Reading.{ConcludesAs, ConcludesPieceAs, ConcludesPieceTo, ConcludesTo, LeavesTo, StopsInFront}
use Rattle.bz_trace.specs.Verdicts.{AreRunLines, Concludes, StopsAtClash, StopsAtEntry}
use Rattle.bz_trace.proofs.Along.{all_both, same_lines, tells_alike}
use Rattle.bz_trace.proofs.Sole.{none_stops, one_entry}

-- behind the same entries
pub behind_alike : (past es fs : List Entry) → map told es ≡ map told fs → map told (past ++ es) ≡ map told (past ++ fs)
behind_alike past es fs alike = map-append told past es ∙ ap (λ xs. map told past ++ xs) alike ∙ sym (map-append told past fs)

-- the line that stops is one of the one run
as_one : (w : Wiring) (past es : List Entry) (n : ℕ) → StopsBehind w past es n → StopsAtEntry w (past ++ es) (length past + n)
as_one w past es n s =
    let long = length-append past s.before in
    let at = s.line_is in
    record {
      before = past ++ s.before;
      here = s.here;
      after = s.after;
      entries_are = ap (λ xs. past ++ xs) s.entries_are ∙ sym (append_assoc past s.before (s.here ∷ s.after));
      line_is = omega (arith, long, at);
      runs = s.runs;
      fails = λ r. s.fails (subst (λ xs. AreRunLines w (lines w.ports xs)) (append_assoc past s.before (s.here ∷ [])) r);
    }

module _ (w : Wiring) (wired : WellWired w) (past : List Entry) where
  pub none_stops_behind : (es fs : List Entry) (n : ℕ) (t : State) → StopsBehind w past fs n → AllByRecursion HasWho es → Run w (opening w) es t → map told es ≡ map told (past ++ fs) → ⊥
  none_stops_behind es fs n t s by run alike = none_stops w wired es (past ++ fs) (length past + n) t (as_one w past fs n s) by run alike

  pub one_behind : (es fs : List Entry) (n m : ℕ) → AllByRecursion (HasLine (outside w)) past → AllByRecursion (HasLine (outside w)) es → AllByRecursion (HasLine (outside w)) fs → map told es ≡ map told fs → StopsBehind w past es n → StopsBehind w past fs m → n ≡ m
  one_behind es fs n m before each own alike a b =
      let same = one_entry w wired (past ++ es) (past ++ fs) (length past + n) (length past + m) (all_both (HasLine (outside w)) past es before each) (all_both (HasLine (outside w)) past fs before own) (behind_alike past es fs alike) (as_one w past es n a) (as_one w past fs m b) in
      omega (arith, same)

-- ---- a trace is the one piece of its run

stops_alone : (w : Wiring) (t : Trace) (line : ℕ) → StopsBehind w [] t.entries line ⊎ StopsAtClashBehind true w [] t line → StopsAtEntry w t.entries line ⊎ StopsAtClash w t line
stops_alone w t line (inl s) = inl (record { before = s.before; here = s.here; after = s.after; entries_are = s.entries_are; line_is = s.line_is; runs = s.runs; fails = s.fails })
stops_alone w t line (inr s) = inr (record {
  entries = s.journal;
  by = s.by;
  last = s.end;
  run = s.run;
  alike = same_lines w.ports t.entries s.journal (sym s.alike);
  clashes = s.clashes;
  due = s.due;
  place = s.place;
  differ = s.differ;
  line_is = s.line_is;
})

same_few : (es fs : List Entry) → map told es ≡ map told fs → length fs ≤ max_entries → length es ≤ max_entries
same_few es fs alike few =
    let long = sym (length-map es told) ∙ ap length alike ∙ length-map fs told in
    omega (arith, long, few)

pub alone : (w : Wiring) (text : List ℕ) (net : Progress) (counts : Counts) (v : Verdict) → ConcludesPiece true w [] text net counts v → Concludes w text net counts v
alone w text net counts verdict.Run by =
    let p = by.piece in (
      record {
        version = p.trace.version;
        entries = p.journal;
        by = p.by;
        few = same_few p.journal p.trace.entries p.alike p.has_text.few;
        last = p.end;
        run = p.run;
        clashes = p.trace.clashes;
        due = p.due;
        text_is = p.text_is ∙ ap (λ x. first_line p.trace.version ++ (x ++ clash_lines p.trace.clashes)) (same_lines w.ports p.trace.entries p.journal (sym p.alike));
      },
      tells_alike counts p.trace.entries p.journal (sym p.alike) by.tells,
      by.told_by,
    )
alone w text net counts (verdict.Not line) (stopped, after) = (record { trace = stopped.trace; has_text = stopped.has_text; text_is = stopped.text_is; stops = stops_alone w stopped.trace line stopped.stops }, after)
alone w text net counts (verdict.Bad line) by = by
alone w text net counts verdict.Memory by = tt

front_alone : (w : Wiring) (text : List ℕ) (net : Progress) (v : Verdict) → LeavesPieceEarly w [] text net v → LeavesTo true w text net v
front_alone w text net verdict.Run by = absurd by
front_alone w text net (verdict.Bad line) by = absurd by
front_alone w text net verdict.Memory by = absurd by
front_alone w text net (verdict.Not line) (s, after) = (
  record {
    version = s.version;
    entries = s.entries;
    each = s.each;
    few = s.few;
    more = s.more;
    text_is = s.text_is;
    stops =
        let e = s.stops in
        record { before = e.before; here = e.here; after = e.after; entries_are = e.entries_are; line_is = e.line_is; runs = e.runs; fails = e.fails };
  },
  after,
)

in_front : (w : Wiring) (text : List ℕ) (line : ℕ) → StopsInFront w text line → StopsInFrontBehind w [] text line
in_front w text line s = record {
  version = s.version;
  entries = s.entries;
  each = s.each;
  few = s.few;
  more = s.more;
  text_is = s.text_is;
  stops =
      let e = s.stops in
      record { before = e.before; here = e.here; after = e.after; entries_are = e.entries_are; line_is = e.line_is; runs = e.runs; fails = e.fails };
}

as_alone : (early : Bool) (w : Wiring) (text : List ℕ) (net : Progress) (counts : Counts) (v : Verdict) → ConcludesPieceAs early true w [] text net counts v → ConcludesAs early w text net counts v
as_alone false w text net counts v by = alone w text net counts v by
as_alone true w text net counts v by = front_alone w text net v by

pub said_alone : (to_first : Bool) (w : Wiring) (text : List ℕ) (net : Progress) (said : Said) → ConcludesPieceTo to_first true w [] text net said → ConcludesTo to_first w text net said
said_alone to_first w text net said by = record {
  concludes = as_alone said.early w text net said.counts said.verdict by.concludes;
  first = λ so line s. by.first so line (in_front w text line s);
}

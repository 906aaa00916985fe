-- One verdict holds of a text.
use Rattle.std.proofs.Common.{◌≡◌, ◌≢◌, ℕ, zero, suc, ◌+◌, ◌<◌, List, [], ◌∷◌, ◌++◌, length, map, refl, sym, ap, ap₂, subst, ◌∙◌, arith, append_assoc, ◌⊎◌, inl, inr}
use Rattle.std.specs.List.{AllByRecursion}
use Rattle.std.proofs.Math.ListN.{length-map}
use Rattle.bz_model.specs.declared.event.Entry.{Entry}
use Rattle.bz_model.specs.Nets.{Wiring, State, opening, outside}
use Rattle.bz_model.specs.Runs.{Run}
use Rattle.bz_model.specs.Entries.{HasLine, HasWho, told}
use Rattle.bz_flat.specs.Wires.{WellWired}
use Rattle.bz_net.proofs.Lines.{run_has_lines}
use Rattle.bz_trace_text.specs.Texts.{lines, Trace, HasText, IsBad, spelling, Spells, entries_are, bad_line}
use Rattle.bz_trace_text.proofs.Cuts.{SameCut, cut_of_whole, lines_tell, one_outcome, same_cut}
use Rattle.bz_trace.specs.declared.checking.Verdict.{Verdict}
use Rattle.bz_trace.specs.declared.checking.Verdict.TheVariants as verdict
use Rattle.bz_trace.specs.Verdicts.{AreDue, AreRunLines, DifferAt, IsRunText, IsNoRun, StopsAtClash, StopsAtEntry, Judges}
use Rattle.bz_trace.proofs.Along.{all_front, same_lines, cons_same, no_nil}
use Rattle.bz_trace.proofs.Clashes.{one_place, same_differ}
use Rattle.bz_trace.proofs.Due.{due_numbers, due_without, one_due}

-- entries told as two lists, one after the other, are two such lists
pub record Split (es xs ys : List Entry) : Type 0 where
  pub front : List Entry
  pub rest : List Entry
  pub is : es ≡ front ++ rest
  pub front_alike : map told front ≡ map told xs

split : (es xs ys : List Entry) → map told es ≡ map told (xs ++ ys) → Split es xs ys
split es [] ys e = record { front = []; rest = es; is = refl; front_alike = refl }
split [] (x ∷ xs) ys e = absurd (no_nil _ _ e)
split (d ∷ es) (x ∷ xs) ys e =
    let both = cons_same e in
    let s = split es xs ys both.1 in
    record { front = d ∷ s.front; rest = s.rest; is = ap (λ l. d ∷ l) s.is; front_alike = ap₂ (λ u us. u ∷ us) both.0 s.front_alike }

run_front : (w : Wiring) (s : State) (es fs : List Entry) (t : State) → Run w s (es ++ fs) t → (m : State) × Run w s es m
run_front w s [] fs t run = (s, refl)
run_front w s (e ∷ es) fs t (next, step, run) = let (m, front) = run_front w next es fs t run in (m, (next, step, front))

-- of two cuts of lists told alike, the shorter one and its next entry are a front of the longer one
shorter : (a b cs bs : List Entry) (x y : Entry) → map told (a ++ x ∷ cs) ≡ map told (b ++ y ∷ bs) → length a < length b → (ys : List Entry) × (map told b ≡ map told ((a ++ x ∷ []) ++ ys))
shorter [] [] cs bs x y e less = absurd (omega arith)
shorter [] (z ∷ b) cs bs x y e less = (b, ap (λ u. u ∷ map told b) (sym (cons_same e).0))
shorter (p ∷ a) [] cs bs x y e less = absurd (omega arith)
shorter (p ∷ a) (q ∷ b) cs bs x y e less =
    let both = cons_same e in
    let (ys, is) = shorter a b cs bs x y both.1 (omega arith) in
    (ys, ap₂ (λ u us. u ∷ us) (sym both.0) is)

compare : (a b : ℕ) → (a < b) ⊎ ((b < a) ⊎ (a ≡ b))
compare zero zero = inr (inr refl)
compare zero (suc b) = inl (omega arith)
compare (suc a) zero = inr (inl (omega arith))
compare (suc a) (suc b) = elim (compare a b) [
  | inl h ↦ inl (omega arith)
  | inr h ↦ elim h [ inl k ↦ inr (inl (omega arith)) | inr k ↦ inr (inr (omega arith)) ]
]

-- two texts are one trace, but for the ports of firings
same_trace : (w : Wiring) (text : List ℕ) (t u : Trace) → HasText (outside w) t → HasText (outside w) u → text ≡ spelling w.ports t → text ≡ spelling w.ports u → SameCut t u [] []
same_trace w text t u a b e f = same_cut (outside w) text t u [] [] (cut_of_whole (outside w) text t a e) (cut_of_whole (outside w) text u b f)

module _ (w : Wiring) (wired : WellWired w) where
  has_text : (text : List ℕ) (r : IsRunText w text) → HasText (outside w) (record { version = r.version; entries = r.entries; clashes = r.clashes })
  has_text text r = record {
    each = run_has_lines w r.entries r.last wired r.run r.by;
    few = r.few;
    numbers = due_numbers w r.version r.entries r.clashes wired r.due;
    without = due_without w r.version r.entries r.clashes r.due;
  }

  -- the lines of a front of a run are those of a run
  front_runs : (es xs ys : List Entry) (t : State) → AllByRecursion HasWho es → Run w (opening w) es t → map told es ≡ map told (xs ++ ys) → AreRunLines w (lines w.ports xs)
  front_runs es xs ys t by run alike =
      let s = split es xs ys alike in
      let (m, front) = run_front w (opening w) s.front s.rest t (subst (λ l. Run w (opening w) l t) s.is run) in
      record {
        entries = s.front;
        by = all_front HasWho s.front s.rest (subst (AllByRecursion HasWho) s.is by);
        last = m;
        run = front;
        text_is = same_lines w.ports xs s.front (sym s.front_alike);
      }

  -- where all entries are those of a run, no line of an entry stops
  pub none_stops : (es fs : List Entry) (n : ℕ) (t : State) → StopsAtEntry w fs n → AllByRecursion HasWho es → Run w (opening w) es t → map told es ≡ map told fs → ⊥
  none_stops es fs n t s by run alike =
      s.fails (front_runs es (s.before ++ s.here ∷ []) s.after t by run (alike ∙ ap (map told) (s.entries_are ∙ sym (append_assoc s.before (s.here ∷ []) s.after))))

  -- a run's entries are told by its lines
  told_by : (es fs : List Entry) (t : State) → AllByRecursion (HasLine (outside w)) es → AllByRecursion HasWho fs → Run w (opening w) fs t → lines w.ports es ≡ lines w.ports fs → map told es ≡ map told fs
  told_by es fs t each by run alike = lines_tell (outside w) es fs each (run_has_lines w fs t wired run by) alike

  -- no line can stop before another one does
  not_earlier : (es fs : List Entry) (n m : ℕ) (s : StopsAtEntry w es n) (t : StopsAtEntry w fs m) → AllByRecursion (HasLine (outside w)) fs → map told es ≡ map told fs → length s.before < length t.before → ⊥
  not_earlier es fs n m s t each alike less =
      let (ys, is) = shorter s.before t.before s.after t.after s.here t.here (sym (ap (map told) s.entries_are) ∙ alike ∙ ap (map told) t.entries_are) less in
      let r = t.runs in
      let own = all_front (HasLine (outside w)) t.before (t.here ∷ t.after) (subst (AllByRecursion (HasLine (outside w))) t.entries_are each) in
      let same = sym (told_by t.before r.entries r.last own r.by r.run r.text_is) in
      s.fails (front_runs r.entries (s.before ++ s.here ∷ []) ys r.last r.by r.run (same ∙ is))

  pub one_entry : (es fs : List Entry) (n m : ℕ) → AllByRecursion (HasLine (outside w)) es → AllByRecursion (HasLine (outside w)) fs → map told es ≡ map told fs → StopsAtEntry w es n → StopsAtEntry w fs m → n ≡ m
  one_entry es fs n m each own alike a b =
      elim (compare (length a.before) (length b.before)) [
        | inl less ↦ absurd (not_earlier es fs n m a b own alike less)
        | inr h ↦ elim h [
          | inl more ↦ absurd (not_earlier fs es m n b a each (sym alike) more)
          | inr same ↦ a.line_is ∙ ap (λ k. k + 2) same ∙ sym b.line_is
        ]
      ]

  not_both : (text : List ℕ) (line : ℕ) → IsRunText w text → IsNoRun w text line → ⊥
  not_both text line r n =
      let same = same_trace w text (record { version = r.version; entries = r.entries; clashes = r.clashes }) n.trace (has_text text r) n.has_text r.text_is n.text_is in
      elim n.stops [
        | inl s ↦ none_stops r.entries n.trace.entries line r.last s r.by r.run same.entries
        | inr s ↦
            (let alike = same.entries ∙ told_by n.trace.entries s.entries s.last n.has_text.each s.by s.run s.alike in
            let due = one_due w n.trace.version r.entries s.entries r.last s.last r.clashes s.clashes r.run s.run alike (subst (λ v. AreDue w v r.entries r.clashes) same.version r.due) s.due in
            same_differ s.clashes s.place (subst (λ cs. DifferAt cs s.clashes s.place) (sym same.clashes ∙ due) s.differ))
      ]

  same_place : (text : List ℕ) (n m : ℕ) (a : IsNoRun w text n) (b : IsNoRun w text m) → SameCut a.trace b.trace [] [] → StopsAtClash w a.trace n → StopsAtClash w b.trace m → n ≡ m
  same_place text n m a b same s t =
      let one = told_by a.trace.entries s.entries s.last a.has_text.each s.by s.run s.alike in
      let other = told_by b.trace.entries t.entries t.last b.has_text.each t.by t.run t.alike in
      let due = one_due w b.trace.version s.entries t.entries s.last t.last s.clashes t.clashes s.run t.run (sym one ∙ same.entries ∙ other) (subst (λ v. AreDue w v s.entries s.clashes) same.version s.due) t.due in
      let place = one_place b.trace.clashes t.clashes s.place t.place (subst (λ cs. DifferAt cs t.clashes s.place) same.clashes (subst (λ ds. DifferAt a.trace.clashes ds s.place) due s.differ)) t.differ in
      let count = sym (length-map a.trace.entries told) ∙ ap length same.entries ∙ length-map b.trace.entries told in
      s.line_is ∙ ap₂ (λ c p. c + p + 2) count place ∙ sym t.line_is

  one_stop : (text : List ℕ) (n m : ℕ) → IsNoRun w text n → IsNoRun w text m → n ≡ m
  one_stop text n m a b =
      let same = same_trace w text a.trace b.trace a.has_text b.has_text a.text_is b.text_is in
      elim a.stops [
        | inl s ↦ elim b.stops [
          | inl t ↦ one_entry a.trace.entries b.trace.entries n m a.has_text.each b.has_text.each same.entries s t
          | inr t ↦
              (let alike = same.entries ∙ told_by b.trace.entries t.entries t.last b.has_text.each t.by t.run t.alike in
              absurd (none_stops t.entries a.trace.entries n t.last s t.by t.run (sym alike)))
        ]
        | inr s ↦ elim b.stops [
          | inl t ↦
              (let alike = sym same.entries ∙ told_by a.trace.entries s.entries s.last a.has_text.each s.by s.run s.alike in
              absurd (none_stops s.entries b.trace.entries m s.last t s.by s.run (sym alike)))
          | inr t ↦ same_place text n m a b same s t
        ]
      ]

  spelt : (text : List ℕ) (t : Trace) → HasText (outside w) t → text ≡ spelling w.ports t → Spells (outside w) text (map told t.entries)
  spelt text t has is = (t, has, is, refl)

  other_outcome : (es : List Entry) (n : ℕ) → entries_are es ≡ bad_line n → ⊥
  other_outcome es n e = cc

  not_bad : (text : List ℕ) (t : Trace) (line : ℕ) → HasText (outside w) t → text ≡ spelling w.ports t → IsBad (outside w) text line → ⊥
  not_bad text t line has is bad = other_outcome _ _ (one_outcome (outside w) text (entries_are (map told t.entries)) (bad_line line) (spelt text t has is) bad)

  same_line : (n m : ℕ) → bad_line n ≡ bad_line m → n ≡ m
  same_line n m e = cc

  run_not_bad : (text : List ℕ) (line : ℕ) → IsRunText w text → IsBad (outside w) text line → ⊥
  run_not_bad text line r bad = not_bad text (record { version = r.version; entries = r.entries; clashes = r.clashes }) line (has_text text r) r.text_is bad

  -- Two verdicts that hold of one text are the same, memory aside.
  pub one_verdict : (text : List ℕ) (v u : Verdict) → Judges w text v → Judges w text u → u ≢ verdict.Memory → (v ≡ u) ⊎ (v ≡ verdict.Memory)
  one_verdict text verdict.Memory u a b some = inr refl
  one_verdict text verdict.Run verdict.Memory a b some = absurd (some refl)
  one_verdict text (verdict.Not n) verdict.Memory a b some = absurd (some refl)
  one_verdict text (verdict.Bad n) verdict.Memory a b some = absurd (some refl)
  one_verdict text verdict.Run verdict.Run a b some = inl refl
  one_verdict text verdict.Run (verdict.Not m) a b some = absurd (not_both text m a b)
  one_verdict text verdict.Run (verdict.Bad m) a b some = absurd (run_not_bad text m a b)
  one_verdict text (verdict.Not n) verdict.Run a b some = absurd (not_both text n b a)
  one_verdict text (verdict.Not n) (verdict.Not m) a b some = inl (ap verdict.Not (one_stop text n m a b))
  one_verdict text (verdict.Not n) (verdict.Bad m) a b some = absurd (not_bad text a.trace m a.has_text a.text_is b)
  one_verdict text (verdict.Bad n) verdict.Run a b some = absurd (run_not_bad text n b a)
  one_verdict text (verdict.Bad n) (verdict.Not m) a b some = absurd (not_bad text b.trace n b.has_text b.text_is a)
  one_verdict text (verdict.Bad n) (verdict.Bad m) a b some = inl (ap verdict.Bad (same_line n m (one_outcome (outside w) text (bad_line n) (bad_line m) a b)))

is_memory : (v : Verdict) → (v ≡ verdict.Memory) ⊎ (v ≢ verdict.Memory)
is_memory verdict.Memory = inl refl
is_memory verdict.Run = inr (λ e. cc)
is_memory (verdict.Not n) = inr (λ e. cc)
is_memory (verdict.Bad n) = inr (λ e. cc)

pub one_verdict_or_memory : (w : Wiring) (text : List ℕ) (v u : Verdict) → (v ≢ verdict.Memory → WellWired w) → Judges w text v → Judges w text u → u ≢ verdict.Memory → (v ≡ u) ⊎ (v ≡ verdict.Memory)
one_verdict_or_memory w text v u wired a b some = elim (is_memory v) [
  | inl is ↦ inr is
  | inr other ↦ one_verdict w (wired other) text v u a b some
]

-- What tells a run: its entries its states, and its lines its entries.
use Rattle.std.proofs.Common.{◌≡◌, ℕ, Option, List, [], ◌∷◌, map, refl, sym, ap, ap₂, subst, ◌∙◌}
use Rattle.std.specs.List.{AllByRecursion}
use Rattle.bz_model.specs.declared.channel.Move.{Move}
use Rattle.bz_model.specs.declared.event.Entry.{Entry}
use Rattle.bz_model.specs.declared.event.Entry.TheVariants.{Fired, Host, Rested}
use Rattle.bz_model.specs.Entries.{HasWho, told}
use Rattle.bz_model.specs.Nets.{State, Step, Wiring, opening, outside}
use Rattle.bz_model.specs.Runs.{Follows, Run}
use Rattle.bz_flat.specs.Wires.{IsEnd, WellWired}
use Rattle.bz_net.specs.Sides.{answers}
use Rattle.bz_net.specs.Unbroken.{UnbrokenRun}
use Rattle.bz_net.proofs.Lines.{run_has_lines}
use Rattle.bz_net.proofs.Soles.{same_step, step_end}
use Rattle.bz_trace_text.specs.Texts.{HasText, Trace, lines}
use Rattle.bz_trace_text.proofs.Cuts.{cut_of_whole, lines_tell, same_cut}
use Rattle.bz_trace.specs.Verdicts.{IsRunText}
use Rattle.bz_trace.proofs.Due.{due_numbers, due_without}
use Rattle.bz_run_laws.proofs.Alive.{Alive, alive-follows, alive-opening, one-head-at, state-is, unbroken-run}

-- the parts of two firings that are told alike
record SameFiring (c d k j : ℕ) (mv mw : Move) : Type 0 where
  comp : c ≡ d
  chan : k ≡ j
  move : mv ≡ mw

module _ (w : Wiring) (wired : WellWired w) where
  -- an entry leads to one state
  one-next : (s : State) (e : Entry) (x y : State) → Alive w s → Follows w s e x → Follows w s e y → x ≡ y
  one-next s (Fired who c p k mv value) x y alive a b =
      let at = a.steps_at.is_port in
      (same_step w.sites s c p k k mv mv value value x y (one-head-at w wired s c alive at.comp_from at.comp_to) a b).next_is
  one-next s (Host who verb port value reply) x y alive a b = a.next_is ∙ sym b.next_is
  one-next s (Rested who) x y alive a b = a.1 ∙ sym b.1

  one-last : (s : State) (es : List Entry) (x y : State) → Alive w s → Run w s es x → Run w s es y → x ≡ y
  one-last s [] x y alive a b = a ∙ sym b
  one-last s (e ∷ es) x y alive (m, f, a) (n, g, b) =
      one-last m es x y (alive-follows w wired s e m alive f) a (subst (λ r. Run w r es y) (sym (one-next s e m n alive f g)) b)

  pub last-is-sole : (es : List Entry) (x y : State) → Run w (opening w) es x → Run w (opening w) es y → x ≡ y
  last-is-sole es x y a b = one-last (opening w) es x y (alive-opening w wired) a b

  -- a step is made at the end of a channel that its move is of
  pub end-of : (s : State) (c p k : ℕ) (mv : Move) (value : Option ℕ) (next : State) → Alive w s → Step w.sites s c p k mv value next → IsEnd w.sites k (answers mv) c p
  end-of s c p k mv value next alive step =
      step_end w s.phases alive.comps c p k mv value next alive.tied (subst (λ (r : State). Step w.sites r c p k mv value next) (sym (state-is w wired s alive)) step)

  -- so its line tells its port
  one-port : (c d p q k j : ℕ) (mv mw : Move) → SameFiring c d k j mv mw → IsEnd w.sites k (answers mv) c p → IsEnd w.sites j (answers mw) d q → p ≡ q
  one-port c d p q k j mv mw same a b = (wired.one_end c p d q a.is_port b.is_port (a.on ∙ same.chan ∙ sym b.on) (a.sense ∙ ap answers same.move ∙ sym b.sense)).1

  one-entry : (s : State) (e f : Entry) (x y : State) → Alive w s → Follows w s e x → Follows w s f y → told e ≡ told f → e ≡ f
  one-entry s (Fired who c p k mv value) (Fired other d q j mw val) x y alive a b same =
      let same-told : Fired who c 0 k mv value ≡ Fired other d 0 j mw val = same in
      let alike : SameFiring c d k j mv mw = record { comp = cc; chan = cc; move = cc } in
      let port : p ≡ q = one-port c d p q k j mv mw alike (end-of s c p k mv value x alive a) (end-of s d q j mw val y alive b) in
      cc
  one-entry s (Fired who c p k mv value) (Host other verb port val reply) x y alive a b same = absurd (cc)
  one-entry s (Fired who c p k mv value) (Rested other) x y alive a b same = absurd (cc)
  one-entry s (Host who verb port value reply) (Fired other d q j mw val) x y alive a b same = absurd (cc)
  one-entry s (Host who verb port value reply) (Host other verb' port' value' reply') x y alive a b same = same
  one-entry s (Host who verb port value reply) (Rested other) x y alive a b same = absurd (cc)
  one-entry s (Rested who) (Fired other d q j mw val) x y alive a b same = absurd (cc)
  one-entry s (Rested who) (Host other verb port val reply) x y alive a b same = absurd (cc)
  one-entry s (Rested who) (Rested other) x y alive a b same = same

  first-told : (e f : Entry) (es fs : List Entry) → e ∷ es ≡ f ∷ fs → e ≡ f
  first-told e f es fs same = cc

  rest-told : (e f : Entry) (es fs : List Entry) → e ∷ es ≡ f ∷ fs → es ≡ fs
  rest-told e f es fs same = cc

  one-journal : (s : State) (es fs : List Entry) (x y : State) → Alive w s → Run w s es x → Run w s fs y → map told es ≡ map told fs → es ≡ fs
  one-journal s [] [] x y alive a b same = refl
  one-journal s [] (f ∷ fs) x y alive a b same = absurd (cc)
  one-journal s (e ∷ es) [] x y alive a b same = absurd (cc)
  one-journal s (e ∷ es) (f ∷ fs) x y alive (m, g, a) (n, h, b) same =
      let first : e ≡ f = one-entry s e f m n alive g h (first-told (told e) (told f) (map told es) (map told fs) same) in
      let state : n ≡ m = sym (one-next s e m n alive g (subst (λ d. Follows w s d n) (sym first) h)) in
      ap₂ (λ d ds. d ∷ ds) first
      (one-journal m es fs x y (alive-follows w wired s e m alive g) a (subst (λ r. Run w r fs y) state b) (rest-told (told e) (told f) (map told es) (map told fs) same))

  told-run : (es fs : List Entry) (x y : State) → Run w (opening w) es x → Run w (opening w) fs y → map told es ≡ map told fs → (es ≡ fs) × (x ≡ y)
  told-run es fs x y a b same =
      let journal : es ≡ fs = one-journal (opening w) es fs x y (alive-opening w wired) a b same in
      (journal, last-is-sole es x y a (subst (λ ds. Run w (opening w) ds y) (sym journal) b))

  pub lines-tell-run : (es fs : List Entry) (x y : State) → Run w (opening w) es x → Run w (opening w) fs y → AllByRecursion HasWho es → AllByRecursion HasWho fs → lines w.ports es ≡ lines w.ports fs → (es ≡ fs) × (x ≡ y)
  lines-tell-run es fs x y a b mine yours same =
      told-run es fs x y a b (lines_tell (outside w) es fs (run_has_lines w es x wired a mine) (run_has_lines w fs y wired b yours) same)

  -- ---- texts

  trace-of : (text : List ℕ) → IsRunText w text → Trace
  trace-of text r = record { version = r.version; entries = r.entries; clashes = r.clashes }

  has-text : (text : List ℕ) (r : IsRunText w text) → HasText (outside w) (trace-of text r)
  unfolding trace-of
  has-text text r = record {
    each = run_has_lines w r.entries r.last wired r.run r.by;
    few = r.few;
    numbers = due_numbers w r.version r.entries r.clashes wired r.due;
    without = due_without w r.version r.entries r.clashes r.due;
  }

  pub text-tells-run : (text : List ℕ) (r t : IsRunText w text) → (r.entries ≡ t.entries) × (r.last ≡ t.last)
  unfolding trace-of
  text-tells-run text r t =
      let same = same_cut (outside w) text (trace-of text r) (trace-of text t) [] [] (cut_of_whole (outside w) text (trace-of text r) (has-text text r) r.text_is) (cut_of_whole (outside w) text (trace-of text t) (has-text text t) t.text_is) in
      told-run r.entries t.entries r.last t.last r.run t.run same.entries

  pub text-unbroken : (text : List ℕ) (r : IsRunText w text) → UnbrokenRun w (opening w) r.entries r.last
  text-unbroken text r = unbroken-run w wired (opening w) r.entries r.last (alive-opening w wired) r.run

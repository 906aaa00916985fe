-- A text is cut in one way: into a trace, as long as one goes, and the rest.
use Rattle.std.proofs.Common.{◌≡◌, ◌≢◌, ℕ, ◌+◌, ◌≤◌, List, [], ◌∷◌, ◌++◌, length, map, Option, Some, None, refl, sym, ap, ap₂, subst, ◌∙◌, arith, append_assoc, inl, inr, codes, length-append}
use Rattle.std.specs.Prelude.{IfSome}
use Rattle.std.specs.List.{AllByRecursion}
use Rattle.std.proofs.Math.ListN.{length-map}
use Rattle.std.proofs.lemmas.List.{append-nil, map-append}
use Rattle.bz_model.specs.declared.event.Entry.{Entry}
use Rattle.bz_model.specs.Names.{Outside}
use Rattle.bz_model.specs.Traces.{clash_text, line_text}
use Rattle.bz_trace_text.specs.declared.text.Version.{Version}
use Rattle.bz_trace_text.specs.declared.text.Version.TheVariants.{One, Two}
use Rattle.bz_trace_text.specs.declared.text.TheConstants.{MAX_ENTRIES}
use Rattle.bz_model.specs.Entries.{HasLine, IsNumber32, told}
use Rattle.bz_trace_text.specs.Reading.{line_at, clash_at, who_at, strip}
use Rattle.bz_trace_text.specs.Texts.{first_line, lines, clash_lines, Trace, spelling, HasText, NoEntry, NoClash, IsLaterBad, IsBad, Spells, Outcome, entries_are, bad_line, ComesTo, ClashesFrom, OtherFrom}
use Rattle.bz_trace_text.proofs.Strips.{none-some, strip_again}
use Rattle.std.proofs.lemmas.Option.{some_pair_parts}
use Rattle.bz_trace_text.proofs.Lines.{line_again, line_takes}
use Rattle.bz_trace_text.proofs.Texts.{all_more, flat_more, no_clash_from, no_entry_from, clash_no_entry, same_entries, same_clashes}

pub record Cut (net : Outside) (text : List ℕ) (t : Trace) (rest : List ℕ) : Type 0 where
  pub has_text : HasText net t
  pub text_is : text ≡ first_line t.version ++ (lines net.ports t.entries ++ (clash_lines t.clashes ++ rest))
  pub no_entry : NoEntry net (length t.entries) (clash_lines t.clashes ++ rest)
  pub no_clash : NoClash t.version rest

tail_no_entry : (net : Outside) (n : ℕ) (cs rest : List ℕ) → (cs ≡ [] → NoEntry net n rest) → NoEntry net n (clash_lines cs ++ rest)
tail_no_entry net n [] rest none = none refl
tail_no_entry net n (c ∷ cs) rest none =
    no_entry_from net n (clash_lines (c ∷ cs) ++ rest) (clash_no_entry net c _ (clash_lines cs ++ rest) (append_assoc (clash_text c) (clash_lines cs) rest))

pub nothing_read : (net : Outside) → line_at net [] ≡ None
unfolding line_at who_at
nothing_read net = refl

no_clash_nothing : clash_at [] ≡ None
unfolding clash_at strip
no_clash_nothing = refl

pub cut_of_whole : (net : Outside) (text : List ℕ) (t : Trace) → HasText net t → text ≡ spelling net.ports t → Cut net text t []
cut_of_whole net text t is e = record {
  has_text = is;
  text_is = e ∙ ap (λ s. first_line t.version ++ (lines net.ports t.entries ++ s)) (sym (append-nil (clash_lines t.clashes)));
  no_entry = tail_no_entry net (length t.entries) t.clashes [] (λ none. no_entry_from net (length t.entries) [] (nothing_read net));
  no_clash = no_clash_from t.version [] no_clash_nothing;
}

pub cut_of_bad : (net : Outside) (text : List ℕ) (line : ℕ) (bad : IsLaterBad net text line) → Cut net text bad.before bad.rest
cut_of_bad net text line bad = record {
  has_text = bad.has_text;
  text_is = bad.text_is ∙ append_assoc (first_line bad.before.version) _ bad.rest ∙ ap (λ s. first_line bad.before.version ++ s) (append_assoc (lines net.ports bad.before.entries) (clash_lines bad.before.clashes) bad.rest);
  no_entry = tail_no_entry net (length bad.before.entries) bad.before.clashes bad.rest bad.no_entry;
  no_clash = bad.no_clash;
}

not_one : (y : List ℕ) → strip (codes "trace 1\n") (first_line Two ++ y) ≡ None
unfolding strip
not_one y = refl

other_first : (x y : List ℕ) → first_line One ++ x ≡ first_line Two ++ y → ⊥
other_first x y e = none-some x (sym (not_one y) ∙ ap (strip (codes "trace 1\n")) (sym e) ∙ strip_again (codes "trace 1\n") x)

pub same_first_rest : (p x y : List ℕ) → p ++ x ≡ p ++ y → x ≡ y
same_first_rest [] x y e = e
same_first_rest (a ∷ p) x y e = same_first_rest p x y cc

same_first : (v w : Version) (x y : List ℕ) → first_line v ++ x ≡ first_line w ++ y → (v ≡ w) × (x ≡ y)
same_first One One x y e = (refl, same_first_rest (first_line One) x y e)
same_first One Two x y e = absurd (other_first x y e)
same_first Two One x y e = absurd (other_first y x (sym e))
same_first Two Two x y e = (refl, same_first_rest (first_line Two) x y e)

two_is : Two ≡ One → ⊥
two_is e = cc

tails : (v : Version) (cs ds x y : List ℕ) → (v ≡ One → cs ≡ []) → (v ≡ One → ds ≡ []) → AllByRecursion IsNumber32 cs → AllByRecursion IsNumber32 ds → NoClash v x → NoClash v y
    → clash_lines cs ++ x ≡ clash_lines ds ++ y → (cs ≡ ds) × (x ≡ y)
tails One cs ds x y p q a b no_x no_y e =
    let none = p refl in
    let same = q refl in
    let left = ap (λ s. clash_lines s ++ x) (sym none) ∙ e ∙ ap (λ s. clash_lines s ++ y) same in
    (none ∙ sym same, left)
tails Two cs ds x y p q a b no_x no_y e = same_clashes Two cs ds x y two_is a b no_x no_y e

pub record SameCut (t u : Trace) (x y : List ℕ) : Type 0 where
  pub version : t.version ≡ u.version
  pub entries : map told t.entries ≡ map told u.entries
  pub clashes : t.clashes ≡ u.clashes
  pub rest : x ≡ y

zero_add : (n : ℕ) → n ≡ 0 + n
zero_add n = omega arith

zero_le : (n : ℕ) → n ≤ MAX_ENTRIES → 0 + n ≤ MAX_ENTRIES
zero_le n h = omega arith

pub same_cut : (net : Outside) (text : List ℕ) (t u : Trace) (x y : List ℕ) → Cut net text t x → Cut net text u y → SameCut t u x y
same_cut net text t u x y a b =
    let first = same_first t.version u.version _ _ (sym a.text_is ∙ b.text_is) in
    let body = same_entries net 0 t.entries u.entries (clash_lines t.clashes ++ x) (clash_lines u.clashes ++ y) a.has_text.each b.has_text.each (zero_le _ a.has_text.few) (zero_le _ b.has_text.few) (subst (λ n. NoEntry net n (clash_lines t.clashes ++ x)) (zero_add _) a.no_entry) (subst (λ n. NoEntry net n (clash_lines u.clashes ++ y)) (zero_add _) b.no_entry) first.1 in
    let ends = tails u.version t.clashes u.clashes x y (λ e. a.has_text.without (first.0 ∙ e)) b.has_text.without a.has_text.numbers b.has_text.numbers (subst (λ v. NoClash v x) first.0 a.no_clash) b.no_clash body.1 in
    record { version = first.0; entries = body.0; clashes = ends.0; rest = ends.1 }

same_number : (n m a b c d : ℕ) → n ≡ a + b + 2 → m ≡ c + d + 2 → a ≡ c → b ≡ d → n ≡ m
same_number n m a b c d p q r s = omega arith

-- A text comes to one outcome at most.
pub one_outcome : (net : Outside) (text : List ℕ) (o p : Outcome) → ComesTo net text o → ComesTo net text p → o ≡ p
one_outcome net text (entries_are es) (entries_are fs) (t, a, e, is) (u, b, f, same) =
    let cut = same_cut net text t u [] [] (cut_of_whole net text t a e) (cut_of_whole net text u b f) in
    ap entries_are (is ∙ cut.entries ∙ sym same)
one_outcome net text (entries_are es) (bad_line n) (t, a, e, is) (inl (first, differs)) = absurd (differs t.version _ e)
one_outcome net text (entries_are es) (bad_line n) (t, a, e, is) (inr bad) =
    let cut = same_cut net text t bad.before [] bad.rest (cut_of_whole net text t a e) (cut_of_bad net text n bad) in
    absurd (bad.some_rest (sym cut.rest))
one_outcome net text (bad_line n) (entries_are es) (inl (first, differs)) (t, a, e, is) = absurd (differs t.version _ e)
one_outcome net text (bad_line n) (entries_are es) (inr bad) (t, a, e, is) =
    let cut = same_cut net text t bad.before [] bad.rest (cut_of_whole net text t a e) (cut_of_bad net text n bad) in
    absurd (bad.some_rest (sym cut.rest))
one_outcome net text (bad_line n) (bad_line m) (inl (first, differs)) (inl (second, other)) = ap bad_line (first ∙ sym second)
one_outcome net text (bad_line n) (bad_line m) (inl (first, differs)) (inr bad) = absurd (differs bad.before.version _ (cut_of_bad net text m bad).text_is)
one_outcome net text (bad_line n) (bad_line m) (inr bad) (inl (first, differs)) = absurd (differs bad.before.version _ (cut_of_bad net text n bad).text_is)
one_outcome net text (bad_line n) (bad_line m) (inr bad) (inr other) =
    let cut = same_cut net text bad.before other.before bad.rest other.rest (cut_of_bad net text n bad) (cut_of_bad net text m other) in
    let count = sym (length-map bad.before.entries told) ∙ ap length cut.entries ∙ length-map other.before.entries told in
    let clashes = ap length cut.clashes in
    ap bad_line (same_number n m _ _ _ _ bad.line_is other.line_is count clashes)

pub only_one : (net : Outside) (text : List ℕ) (r : Option Outcome) → IfSome r (ComesTo net text) → (o : Outcome) → ComesTo net text o → IfSome r (λ p. p ≡ o)
only_one net text None is o comes = tt
only_one net text (Some p) is o comes = one_outcome net text p o is comes

-- as far as the entries go
pub record Read (net : Outside) (text : List ℕ) (version : Version) (entries : List Entry) (rest : List ℕ) : Type 0 where
  pub each : AllByRecursion (HasLine net) entries
  pub few : length entries ≤ MAX_ENTRIES
  pub as_told : map told entries ≡ entries
  pub text_is : text ≡ first_line version ++ (lines net.ports entries ++ rest)

pub some_text : (net : Outside) (rest : List ℕ) (e : Entry) (after : List ℕ) → line_at net rest ≡ Some (e, after) → rest ≢ []
some_text net rest e after h none = none-some (e, after) (sym (nothing_read net) ∙ ap (line_at net) (sym none) ∙ h)

pub bad_most : (net : Outside) (text : List ℕ) (v : Version) (es : List Entry) (rest : List ℕ) (e : Entry) (after : List ℕ) → Read net text v es rest → length es ≡ MAX_ENTRIES → line_at net rest ≡ Some (e, after) → IsBad net text 16777218
bad_most net text v es rest e after read most h = inr (record {
  before = record { version = v; entries = es; clashes = [] };
  has_text = record { each = read.each; few = read.few; numbers = tt; without = λ _. refl };
  rest = rest;
  text_is = read.text_is ∙ ap (λ s. first_line v ++ (s ++ rest)) (sym (append-nil (lines net.ports es))) ∙ sym (append_assoc (first_line v) (lines net.ports es ++ []) rest);
  line_is = omega arith;
  some_rest = some_text net rest e after h;
  no_entry = λ _ f more has is. most;
  no_clash = λ comp more small is. absurd (none-some (e, after) (sym (clash_no_entry net comp rest more is) ∙ h));
})

regroup : (net : Outside) (v : Version) (es : List Entry) (cs rest : List ℕ) → first_line v ++ (lines net.ports es ++ (clash_lines cs ++ rest)) ≡ (first_line v ++ (lines net.ports es ++ clash_lines cs)) ++ rest
regroup net v es cs rest = ap (λ s. first_line v ++ s) (sym (append_assoc (lines net.ports es) (clash_lines cs) rest)) ∙ sym (append_assoc (first_line v) (lines net.ports es ++ clash_lines cs) rest)

pub read_whole : (net : Outside) (text : List ℕ) (v : Version) (es : List Entry) (rest : List ℕ) → Read net text v es rest → ClashesFrom v rest → Spells net text es
read_whole net text v es rest read (cs, numbers, without, is) =
    (record { version = v; entries = es; clashes = cs }, record { each = read.each; few = read.few; numbers = numbers; without = without }, read.text_is ∙ ap (λ s. first_line v ++ (lines net.ports es ++ s)) is, sym read.as_told)

pub bad_behind : (net : Outside) (text : List ℕ) (v : Version) (es : List Entry) (rest : List ℕ) (line : ℕ) → Read net text v es rest → line_at net rest ≡ None → OtherFrom v rest (length es + 2) line → IsBad net text line
bad_behind net text v es rest line read none other = inr (record {
  before = record { version = v; entries = es; clashes = other.clashes };
  has_text = record { each = read.each; few = read.few; numbers = other.numbers; without = other.without };
  rest = other.rest;
  text_is = read.text_is ∙ ap (λ s. first_line v ++ (lines net.ports es ++ s)) other.text_is ∙ regroup net v es other.clashes other.rest;
  line_is = let is = other.line_is in omega arith;
  some_rest = other.some_rest;
  no_entry = λ nothing. subst (λ s. NoEntry net (length es) s) (other.text_is ∙ ap (λ cs. clash_lines cs ++ other.rest) nothing) (no_entry_from net (length es) rest none);
  no_clash = other.no_clash;
})

pub read_more : (net : Outside) (text : List ℕ) (v : Version) (es : List Entry) (rest : List ℕ) (e : Entry) (after : List ℕ) → Read net text v es rest → length es ≢ MAX_ENTRIES → line_at net rest ≡ Some (e, after) → Read net text v (es ++ e ∷ []) after
read_more net text v es rest e after read fewer h =
    let stands = line_takes net rest e after h in
    let count = length-append es (e ∷ []) in
    record {
      each = all_more (HasLine net) es e read.each stands.has_line;
      few = let few = read.few in omega (arith, fewer);
      as_told = map-append told es (e ∷ []) ∙ ap₂ (λ x y. x ++ y ∷ []) read.as_told stands.as_told;
      text_is = read.text_is ∙ ap (λ s. first_line v ++ s) (flat_more (line_text net.ports) es e after rest stands.text);
    }

-- lines tell their entries
pub lines_tell : (net : Outside) (es fs : List Entry) → AllByRecursion (HasLine net) es → AllByRecursion (HasLine net) fs → lines net.ports es ≡ lines net.ports fs → map told es ≡ map told fs
lines_tell net [] [] a b e = refl
lines_tell net [] (f ∷ fs) a b e = absurd (none-some _ (sym (nothing_read net) ∙ ap (line_at net) e ∙ line_again net f (lines net.ports fs) b.0))
lines_tell net (f ∷ es) [] a b e = absurd (none-some _ (sym (nothing_read net) ∙ ap (line_at net) (sym e) ∙ line_again net f (lines net.ports es) a.0))
lines_tell net (d ∷ es) (f ∷ fs) a b e =
    let both = some_pair_parts (told d) (told f) (lines net.ports es) (lines net.ports fs) (sym (line_again net d (lines net.ports es) a.0) ∙ ap (line_at net) e ∙ line_again net f (lines net.ports fs) b.0) in
    ap₂ (λ u us. u ∷ us) both.0 (lines_tell net es fs a.1 b.1 both.1)

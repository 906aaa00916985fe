-- Whole texts: a text comes to one outcome at most.
use Rattle.std.proofs.Common.{◌≡◌, ℕ, suc, ◌+◌, ◌<◌, ◌≤◌, List, [], ◌∷◌, ◌++◌, length, map, Some, None, refl, sym, ap, ap₂, subst, ◌∙◌, arith, append_assoc, codes, length-append}
use Rattle.std.specs.Fmt.{decimal}
use Rattle.std.specs.List.{flat_map, AllByRecursion}
use Rattle.std.proofs.lemmas.List.{append-nil}
use Rattle.std.proofs.lemmas.Option.{some_pair_parts}
use Rattle.bz_model.specs.declared.event.Entry.{Entry}
use Rattle.bz_model.specs.declared.event.Entry.TheVariants as entry
use Rattle.bz_model.specs.declared.event.Who.{Who}
use Rattle.bz_model.specs.declared.event.Who.TheVariants as who
use Rattle.bz_model.specs.Names.{Outside}
use Rattle.bz_model.specs.Traces.{clash_text, line_text, who_text}
use Rattle.bz_trace_text.specs.declared.text.Version.{Version}
use Rattle.bz_trace_text.specs.declared.text.Version.TheVariants.{One, Two}
use Rattle.bz_trace_text.specs.declared.text.TheConstants.{MAX_ENTRIES}
use Rattle.bz_model.specs.Entries.{HasLine, IsNumber32, told}
use Rattle.bz_trace_text.specs.Reading.{strip, number_at, who_at, line_at, clash_at, most_number}
use Rattle.bz_trace_text.specs.Texts.{first_line, lines, clash_lines, NoEntry, NoClash}
use Rattle.bz_trace_text.proofs.Strips.{none-some, strip_again, strip_takes}
use Rattle.bz_trace_text.proofs.Numbers.{number_again}
use Rattle.bz_trace_text.proofs.Taken.{answered, bind_some, number32_takes}
use Rattle.bz_trace_text.proofs.Lines.{line_again, line_takes}

pub no_version : (t : List ℕ) → strip (codes "trace 1\n") t ≡ None → strip (codes "trace 2\n") t ≡ None → (v : Version) (rest : List ℕ) → t ≡ first_line v ++ rest → ⊥
no_version t p q One rest e = none-some rest (sym p ∙ ap (strip (codes "trace 1\n")) e ∙ strip_again (codes "trace 1\n") rest)
no_version t p q Two rest e = none-some rest (sym q ∙ ap (strip (codes "trace 2\n")) e ∙ strip_again (codes "trace 2\n") rest)

pub clash_again : (c : ℕ) (t : List ℕ) → IsNumber32 c → clash_at (clash_text c ++ t) ≡ Some (c, t)
unfolding clash_at strip
clash_again c t is = rw (append_assoc (decimal c) (codes "\n") t, number_again most_number c (10 ∷ t) (omega arith) (omega arith) refl) refl

pub clash_takes : (c : ℕ) (t r : List ℕ) → clash_at t ≡ Some (c, r) → (t ≡ clash_text c ++ r) × IsNumber32 c
unfolding clash_at
clash_takes c t r h =
    let (s, a, h1) = bind_some (strip (codes "clash ") t) _ _ h in
    let (n, b, h2) = bind_some (number_at most_number s) _ _ h1 in
    let (u, d, h3) = bind_some (strip (codes "\n") n.1) _ _ h2 in
    let m = number32_takes n.0 s n.1 b in
    answered (λ c r. (t ≡ clash_text c ++ r) × IsNumber32 c) n.0 c u r h3
    (strip_takes (codes "clash ") t s a ∙ ap (λ q. codes "clash " ++ q) (m.0 ∙ ap (λ q. decimal n.0 ++ q) (strip_takes (codes "\n") n.1 u d) ∙ sym (append_assoc (decimal n.0) (codes "\n") u)), m.1)

longer : (a b r : List ℕ) → 0 < length a → length r < length (a ++ (b ++ r))
longer a b r some = simp length-append (omega arith)

pub clash_shorter : (c : ℕ) (t r : List ℕ) → clash_at t ≡ Some (c, r) → length r < length t
clash_shorter c t r h =
    let takes = clash_takes c t r h in
    rw (takes.0) (longer (codes "clash ") (decimal c ++ codes "\n") r (omega arith))

pub longer_by : (a r : List ℕ) → 0 < length a → length r < length (a ++ r)
longer_by a r some = simp length-append (omega arith)

some_who : (w : Who) → 0 < length (who_text w)
some_who (who.Host n) = omega arith
some_who (who.Worker n) = omega arith

append_some : (a b : List ℕ) → 0 < length a → 0 < length (a ++ b)
append_some a b some = simp length-append (omega arith)

pub some_line : (net : Outside) (e : Entry) → 0 < length (line_text net.ports e)
some_line net (entry.Fired w comp port chan mv value) = append_some (who_text w) _ (some_who w)
some_line net (entry.Host w v port value r) = append_some (who_text w) _ (some_who w)
some_line net (entry.Rested w) = append_some (who_text w) _ (some_who w)

pub line_shorter : (net : Outside) (t : List ℕ) (e : Entry) (r : List ℕ) → line_at net t ≡ Some (e, r) → length r < length t
line_shorter net t e r h = let s = line_takes net t e r h in rw (s.text) (longer_by (line_text net.ports e) r (some_line net e))

pub no_clash_from : (v : Version) (t : List ℕ) → clash_at t ≡ None → NoClash v t
no_clash_from v t none c after is e = absurd (none-some (c, after) (sym none ∙ ap clash_at e ∙ clash_again c after is))

pub no_entry_from : (net : Outside) (n : ℕ) (t : List ℕ) → line_at net t ≡ None → NoEntry net n t
no_entry_from net n t none e after has is = absurd (none-some (told e, after) (sym none ∙ ap (line_at net) is ∙ line_again net e after has))

-- a clash line is no entry's
letter_c : (net : Outside) (t : List ℕ) → line_at net (99 ∷ t) ≡ None
unfolding line_at who_at
letter_c net t = refl

pub clash_no_entry : (net : Outside) (c : ℕ) (t r : List ℕ) → t ≡ clash_text c ++ r → line_at net t ≡ None
clash_no_entry net c t r is = ap (line_at net) is ∙ letter_c net _

pub all_more : {A : Type 0} (P : A → Type 0) (xs : List A) (x : A) → AllByRecursion P xs → P x → AllByRecursion P (xs ++ x ∷ [])
all_more P [] x all is = (is, tt)
all_more P (y ∷ ys) x all is = (all.0, all_more P ys x all.1 is)

pub flat_more : {A : Type 0} (f : A → List ℕ) (xs : List A) (x : A) (t r : List ℕ) → r ≡ f x ++ t → flat_map f xs ++ r ≡ flat_map f (xs ++ x ∷ []) ++ t
flat_more f [] x t r e = e ∙ ap (λ s. s ++ t) (sym (append-nil (f x)))
flat_more f (y ∷ ys) x t r e = append_assoc (f y) (flat_map f ys) r ∙ ap (λ s. f y ++ s) (flat_more f ys x t r e) ∙ sym (append_assoc (f y) (flat_map f (ys ++ x ∷ [])) t)

-- entries one after another, with no further one: the text tells them
pub same_entries : (net : Outside) (n : ℕ) (es fs : List Entry) (x y : List ℕ) → AllByRecursion (HasLine net) es → AllByRecursion (HasLine net) fs
    → n + length es ≤ MAX_ENTRIES → n + length fs ≤ MAX_ENTRIES → NoEntry net (n + length es) x → NoEntry net (n + length fs) y
    → lines net.ports es ++ x ≡ lines net.ports fs ++ y → (map told es ≡ map told fs) × (x ≡ y)
same_entries net n [] [] x y p q a b no_x no_y e = (refl, e)
same_entries net n [] (f ∷ fs) x y p q a b no_x no_y e =
    let most = no_x f (lines net.ports fs ++ y) q.0 (e ∙ append_assoc (line_text net.ports f) (lines net.ports fs) y) in absurd (omega arith)
same_entries net n (f ∷ es) [] x y p q a b no_x no_y e =
    let most = no_y f (lines net.ports es ++ x) p.0 (sym e ∙ append_assoc (line_text net.ports f) (lines net.ports es) x) in absurd (omega arith)
same_entries net n (d ∷ es) (f ∷ fs) x y p q a b no_x no_y e =
    let left = sym (line_again net d (lines net.ports es ++ x) p.0) ∙ ap (line_at net) (sym (append_assoc (line_text net.ports d) (lines net.ports es) x) ∙ e ∙ append_assoc (line_text net.ports f) (lines net.ports fs) y) ∙ line_again net f (lines net.ports fs ++ y) q.0 in
    let both = some_pair_parts (told d) (told f) (lines net.ports es ++ x) (lines net.ports fs ++ y) left in
    let s : n + suc (length es) ≡ suc n + length es = omega arith in
    let t : n + suc (length fs) ≡ suc n + length fs = omega arith in
    let later = same_entries net (suc n) es fs x y p.1 q.1 (omega arith) (omega arith) (subst (λ m. NoEntry net m x) s no_x) (subst (λ m. NoEntry net m y) t no_y) both.1 in
    (ap₂ (λ u us. u ∷ us) both.0 later.0, later.1)

-- the same of clash lines
pub same_clashes : (v : Version) (cs ds : List ℕ) (x y : List ℕ) → (v ≡ One → ⊥) → AllByRecursion IsNumber32 cs → AllByRecursion IsNumber32 ds → NoClash v x → NoClash v y
    → clash_lines cs ++ x ≡ clash_lines ds ++ y → (cs ≡ ds) × (x ≡ y)
same_clashes v [] [] x y two p q no_x no_y e = (refl, e)
same_clashes v [] (d ∷ ds) x y two p q no_x no_y e = absurd (two (no_x d (clash_lines ds ++ y) q.0 (e ∙ append_assoc (clash_text d) (clash_lines ds) y)))
same_clashes v (d ∷ ds) [] x y two p q no_x no_y e = absurd (two (no_y d (clash_lines ds ++ x) p.0 (sym e ∙ append_assoc (clash_text d) (clash_lines ds) x)))
same_clashes v (c ∷ cs) (d ∷ ds) x y two p q no_x no_y e =
    let left = sym (clash_again c (clash_lines cs ++ x) p.0) ∙ ap clash_at (sym (append_assoc (clash_text c) (clash_lines cs) x) ∙ e ∙ append_assoc (clash_text d) (clash_lines ds) y) ∙ clash_again d (clash_lines ds ++ y) q.0 in
    let both = some_pair_parts c d (clash_lines cs ++ x) (clash_lines ds ++ y) left in
    let later = same_clashes v cs ds x y two p.1 q.1 no_x no_y both.1 in
    (ap₂ (λ u us. u ∷ us) both.0 later.0, later.1)

-- Clash lines beside a list of components: where they first differ.
use Rattle.std.proofs.Common.{◌≡◌, ◌≢◌, ℕ, zero, suc, ◌+◌, ◌<◌, ◌≤◌, List, [], ◌∷◌, ◌++◌, length, take, drop, get_or, Some, None, refl, sym, ap, ap₂, subst, ◌∙◌, arith, append_assoc}
use Rattle.std.specs.List.{AllByRecursion}
use Rattle.std.proofs.lemmas.List.{append-nil, take-append-drop, take_more}
use Rattle.std.proofs.lemmas.Option.{some_pair_parts}
use Rattle.bz_model.specs.Entries.{IsNumber32}
use Rattle.bz_model.specs.Traces.{clash_text}
use Rattle.bz_trace_text.specs.Reading.{clash_at, strip}
use Rattle.bz_trace_text.specs.Texts.{clash_lines}
use Rattle.bz_trace_text.proofs.Strips.{none-some}
use Rattle.bz_trace_text.proofs.Texts.{all_more, clash_again, clash_takes, flat_more}
use Rattle.bz_trace.specs.Verdicts.{DifferAt, FirstDiffers, first_of}

nothing_there : clash_at [] ≡ None
unfolding clash_at strip
nothing_there = refl

some_there : (c : ℕ) (cs : List ℕ) → IsNumber32 c → clash_at (clash_lines (c ∷ cs)) ≡ Some (c, clash_lines cs)
some_there c cs is = clash_again c (clash_lines cs) is

-- what is left of clash lines behind some of them
record Left (clashes front rest : List ℕ) : Type 0 where
  pub others : List ℕ
  pub clashes_are : clashes ≡ front ++ others
  pub rest_is : rest ≡ clash_lines others
  pub numbers : AllByRecursion IsNumber32 others

left : (clashes front rest : List ℕ) → AllByRecursion IsNumber32 clashes → AllByRecursion IsNumber32 front → clash_lines clashes ≡ clash_lines front ++ rest → Left clashes front rest
left clashes [] rest all own e = record { others = clashes; clashes_are = refl; rest_is = sym e; numbers = all }
left [] (f ∷ fs) rest all own e =
    absurd (none-some _ (sym nothing_there ∙ ap clash_at (e ∙ append_assoc (clash_text f) (clash_lines fs) rest) ∙ clash_again f (clash_lines fs ++ rest) own.0))
left (c ∷ cs) (f ∷ fs) rest all own e =
    let found = sym (some_there c cs all.0) ∙ ap clash_at (e ∙ append_assoc (clash_text f) (clash_lines fs) rest) ∙ clash_again f (clash_lines fs ++ rest) own.0 in
    let both = some_pair_parts c f (clash_lines cs) (clash_lines fs ++ rest) found in
    let more = left cs fs rest all.1 own.1 both.1 in
    record { others = more.others; clashes_are = ap₂ (λ x xs. x ∷ xs) both.0 more.clashes_are; rest_is = more.rest_is; numbers = more.numbers }

-- the first of them is the one that is read
first_read : (others rest : List ℕ) → AllByRecursion IsNumber32 others → rest ≡ clash_lines others → clash_at rest ≡ None → first_of others ≡ None
first_read [] rest all is none = refl
first_read (x ∷ xs) rest all is none = absurd (none-some _ (sym none ∙ ap clash_at is ∙ some_there x xs all.0))

first_found : (others rest : List ℕ) (c : ℕ) (after : List ℕ) → AllByRecursion IsNumber32 others → rest ≡ clash_lines others → clash_at rest ≡ Some (c, after) → first_of others ≡ Some c
first_found [] rest c after all is some = absurd (none-some _ (sym nothing_there ∙ ap clash_at (sym is) ∙ some))
first_found (x ∷ xs) rest c after all is some = ap Some (some_pair_parts x c (clash_lines xs) after (sym (some_there x xs all.0) ∙ ap clash_at (sym is) ∙ some)).0

first_drop : (xs : List ℕ) (i : ℕ) (x : ℕ) → i < length xs → get_or xs i x ≡ x → first_of (drop i xs) ≡ Some x
first_drop [] i x lt is = absurd (omega arith)
first_drop (y ∷ ys) zero x lt is = ap Some is
first_drop (y ∷ ys) (suc i) x lt is = first_drop ys i x (omega arith) is

long : (xs : List ℕ) (i : ℕ) → i ≤ length xs → i ≡ length (take i xs)
long xs zero le = refl
long [] (suc i) le = absurd (omega arith)
long (x ∷ xs) (suc i) le = ap suc (long xs i (omega arith))

some_none : (x : ℕ) → None ≡ Some x → ⊥
some_none x e = cc

some_same : (x y : ℕ) → Some x ≡ Some y → x ≡ y
some_same x y e = cc

pub stops_short : (text due rest : List ℕ) (i x : ℕ) → AllByRecursion IsNumber32 (take i due) → text ≡ clash_lines (take i due) ++ rest → i < length due → get_or due i x ≡ x → clash_at rest ≡ None → FirstDiffers text due (Some i)
stops_short text due rest i x own is lt here none clashes all e =
    let l = left clashes (take i due) rest all own (sym e ∙ is) in
    record {
      front = take i due;
      rest = l.others;
      other = drop i due;
      xs_are = l.clashes_are;
      ys_are = sym (take-append-drop i due);
      place_is = long due i (omega arith);
      apart = λ same. some_none x (sym (first_read l.others rest l.numbers l.rest_is none) ∙ same ∙ first_drop due i x lt here);
    }

pub stops_other : (text due rest : List ℕ) (i x c : ℕ) (after : List ℕ) → AllByRecursion IsNumber32 (take i due) → text ≡ clash_lines (take i due) ++ rest → i < length due → get_or due i x ≡ x → clash_at rest ≡ Some (c, after) → c ≢ x
    → FirstDiffers text due (Some i)
stops_other text due rest i x c after own is lt here some differ clashes all e =
    let l = left clashes (take i due) rest all own (sym e ∙ is) in
    record {
      front = take i due;
      rest = l.others;
      other = drop i due;
      xs_are = l.clashes_are;
      ys_are = sym (take-append-drop i due);
      place_is = long due i (omega arith);
      apart = λ same. differ (some_same c x (sym (first_found l.others rest c after l.numbers l.rest_is some) ∙ same ∙ first_drop due i x lt here));
    }

no_lines : (others : List ℕ) → [] ≡ clash_lines others → AllByRecursion IsNumber32 others → others ≡ []
no_lines [] e all = refl
no_lines (x ∷ xs) e all = absurd (none-some _ (sym nothing_there ∙ ap clash_at e ∙ some_there x xs all.0))

pub all_there : (text due rest : List ℕ) → AllByRecursion IsNumber32 due → text ≡ clash_lines due ++ rest → rest ≡ [] → FirstDiffers text due None
all_there text due rest own is end clashes all e =
    let l = left clashes due rest all own (sym e ∙ is) in
    l.clashes_are ∙ ap (λ xs. due ++ xs) (no_lines l.others (sym end ∙ l.rest_is) l.numbers) ∙ append-nil due

some_first : (others : List ℕ) → [] ≢ others → first_of others ≢ None
some_first [] some = absurd (some refl)
some_first (x ∷ xs) some = λ e. some_none x (sym e)

pub goes_past : (text due rest : List ℕ) → AllByRecursion IsNumber32 due → text ≡ clash_lines due ++ rest → rest ≢ [] → FirstDiffers text due (Some (length due))
goes_past text due rest own is some clashes all e =
    let l = left clashes due rest all own (sym e ∙ is) in
    record {
      front = due;
      rest = l.others;
      other = [];
      xs_are = l.clashes_are;
      ys_are = sym (append-nil due);
      place_is = refl;
      apart = some_first l.others (λ none. some (l.rest_is ∙ ap clash_lines (sym none)));
    }

-- ---- one place is the first where two lists differ

one_front : (f g r s o p : List ℕ) → f ++ r ≡ g ++ s → f ++ o ≡ g ++ p → first_of r ≢ first_of o → first_of s ≢ first_of p → length f ≡ length g
one_front [] [] r s o p e d a b = refl
one_front [] (z ∷ zs) r s o p e d a b = absurd (a (ap first_of e ∙ sym (ap first_of d)))
one_front (z ∷ zs) [] r s o p e d a b = absurd (b (ap first_of (sym e) ∙ ap first_of d))
one_front (y ∷ ys) (z ∷ zs) r s o p e d a b = ap suc (one_front ys zs r s o p (tail_is _ _ _ _ e) (tail_is _ _ _ _ d) a b)
  where
    tail_is : (x y : ℕ) (xs ys : List ℕ) → (x ∷ xs) ≡ (y ∷ ys) → xs ≡ ys
    tail_is x y xs ys e = cc

pub one_place : (xs ys : List ℕ) (i j : ℕ) → DifferAt xs ys i → DifferAt xs ys j → i ≡ j
one_place xs ys i j a b = a.place_is ∙ one_front a.front b.front a.rest b.rest a.other b.other (sym a.xs_are ∙ b.xs_are) (sym a.ys_are ∙ b.ys_are) a.apart b.apart ∙ sym b.place_is

front_same : (f r o : List ℕ) → f ++ r ≡ f ++ o → r ≡ o
front_same [] r o e = e
front_same (x ∷ f) r o e = front_same f r o cc

-- no list differs from itself
pub same_differ : (xs : List ℕ) (i : ℕ) → DifferAt xs xs i → ⊥
same_differ xs i a = a.apart (ap first_of (front_same a.front a.rest a.other (sym a.xs_are ∙ a.ys_are)))

-- ---- as far as the lines are read

pub here_is : (xs : List ℕ) (i : ℕ) → i < length xs → get_or xs i (get_or xs i 0) ≡ get_or xs i 0
here_is [] i lt = absurd (omega arith)
here_is (y ∷ ys) zero lt = refl
here_is (y ∷ ys) (suc i) lt = here_is ys i (omega arith)

pub whole_take : (xs : List ℕ) (i : ℕ) → length xs ≤ i → take i xs ≡ xs
whole_take [] zero le = refl
whole_take [] (suc i) le = refl
whole_take (x ∷ xs) zero le = absurd (omega arith)
whole_take (x ∷ xs) (suc i) le = ap (λ l. x ∷ l) (whole_take xs i (omega arith))

pub more_read : (text due rest after : List ℕ) (i found : ℕ) → AllByRecursion IsNumber32 (take i due) → text ≡ clash_lines (take i due) ++ rest → i < length due → found ≡ get_or due i 0 → clash_at rest ≡ Some (found, after)
    → AllByRecursion IsNumber32 (take (i + 1) due) × (text ≡ clash_lines (take (i + 1) due) ++ after)
more_read text due rest after i found own is lt same some =
    let takes = clash_takes found rest after some in
    let grown : take (i + 1) due ≡ take i due ++ found ∷ [] = take_more due i 0 lt ∙ ap (λ z. take i due ++ z ∷ []) (sym same) in (
      subst (AllByRecursion IsNumber32) (sym grown) (all_more IsNumber32 (take i due) found own takes.1),
      is ∙ flat_more clash_text (take i due) found after rest takes.0 ∙ ap (λ l. clash_lines l ++ after) (sym grown),
    )

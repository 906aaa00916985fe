-- Texts printed one after another.
use Rattle.std.proofs.Common.{◌≡◌, ℕ, ◌+◌, ◌<◌, ◌≤◌, Bool, true, false, Option, None, Some, Result, Ok, Err, List, [], ◌++◌, refl, sym, ap, ◌∙◌, subst, append_assoc, append-nil, take, get_or, length}
use Rattle.std.specs.Result.{is_err}
use Rattle.std.specs.List.{flat_map}
use Rattle.std.proofs.Math.Seq.{take-append_seam}
use Rattle.std.proofs.lemmas.List.{take_all, take_more, flat_map_more}
use Rattle.std.specs.Io.KnownBytes.{Appends, Keeps}
use Rattle.bz_text.specs.Writing.{AppendsFront, Writes}
use Rattle.bz_text.proofs.Sent.{appends_then, stops_before, stops_after, writes_after}
use Rattle.bz_trace_text.specs.Printing.{EndsFrom, PrintsFrom}

-- what was composed after the first bytes was left out
pub shortened : (old mid text : List ℕ) → AppendsFront (Some old) (Some mid) text → take (length old) mid ≡ old
shortened old mid text (front, rest, cut, left, went) = ap (take (length old)) went ∙ take-append_seam old front

keeps_itself : (a : Option (List ℕ)) → Keeps a a
keeps_itself None = tt
keeps_itself (Some xs) = refl

appends_nothing : (a : Option (List ℕ)) → Appends a a []
appends_nothing None = tt
appends_nothing (Some xs) = sym (append-nil xs)

appends_kept : (a b c : Option (List ℕ)) (t : List ℕ) → Appends a b t → Keeps b c → Appends a c t
appends_kept None b c t p q = tt
appends_kept (Some xs) None c t p q = absurd p
appends_kept (Some xs) (Some ys) None t p q = absurd q
appends_kept (Some xs) (Some ys) (Some zs) t p q = q ∙ p

keeps_then : (a b c : Option (List ℕ)) → Keeps a b → Keeps b c → Keeps a c
keeps_then None b c p q = tt
keeps_then (Some xs) None c p q = absurd p
keeps_then (Some xs) (Some ys) None p q = absurd q
keeps_then (Some xs) (Some ys) (Some zs) p q = q ∙ p

front_kept : (a b c : Option (List ℕ)) (t : List ℕ) → AppendsFront a b t → Keeps b c → AppendsFront a c t
front_kept a b c t (front, rest, cut, left, p) q = (front, rest, cut, left, appends_kept a b c front p q)

-- what was composed alone
pub printed_on : (a : Option (List ℕ)) (f : Bool) (p t : List ℕ) → PrintsFrom a f p a f (p ++ t) t
printed_on a false p t = ([], refl, appends_nothing a)
printed_on a true p t = keeps_itself a

pub printed_nothing : (a : Option (List ℕ)) (f : Bool) (p : List ℕ) → PrintsFrom a f p a f p []
printed_nothing a false p = ([], append-nil p, appends_nothing a)
printed_nothing a true p = keeps_itself a

past : {A E : Type 0} (a b : Option (List ℕ)) (r : Result A E) (t : List ℕ) → Writes a b r t → PrintsFrom a false [] b (is_err r) [] t
past a b (Ok u) t w = (t, sym (append-nil t), w)
past a b (Err e) t w = w

-- what was written at once, the page being empty
pub printed_past : {A E : Type 0} (a b : Option (List ℕ)) (r : Result A E) (f g : Bool) (p t : List ℕ) → f ≡ false → p ≡ [] → g ≡ is_err r → Writes a b r t → PrintsFrom a f p b g p t
printed_past a b r f g p t well none is w = rw (well, none, is) (past a b r t w)

out : {A E : Type 0} (a b : Option (List ℕ)) (r : Result A E) (p : List ℕ) → Writes a b r p → PrintsFrom a false p b (is_err r) [] []
out a b (Ok u) p w = (p, refl, w)
out a b (Err e) p w = subst (AppendsFront a b) (sym (append-nil p)) w

-- a page that went out
pub printed_out : {A E : Type 0} (a b : Option (List ℕ)) (r : Result A E) (f g : Bool) (p q : List ℕ) → f ≡ false → q ≡ [] → g ≡ is_err r → Writes a b r p → PrintsFrom a f p b g q []
printed_out a b r f g p q well none is w = rw (well, none, is) (out a b r p w)

-- where the writer has failed, the page is of no account
pub printed_failed : (a : Option (List ℕ)) (f : Bool) (p q t : List ℕ) → f ≡ true → PrintsFrom a f p a f q t
printed_failed a f p q t has = rw has (keeps_itself a)

pub prints_then : (a b c : Option (List ℕ)) (f g h : Bool) (p q r t u : List ℕ) → PrintsFrom a f p b g q t → PrintsFrom b g q c h r u → PrintsFrom a f p c h r (t ++ u)
prints_then a b c false false false p q r t u (s, e, m) (s', e', m') =
    (s ++ s', sym (append_assoc p t u) ∙ ap (λ v. v ++ u) e ∙ append_assoc s q u ∙ ap (λ v. s ++ v) e' ∙ sym (append_assoc s s' r), appends_then a b c s s' m m')
prints_then a b c false false true p q r t u (s, e, m) w =
    subst (AppendsFront a c) (sym (sym (append_assoc p t u) ∙ ap (λ v. v ++ u) e ∙ append_assoc s q u)) (stops_after a b c s (q ++ u) m w)
prints_then a b c false true false p q r t u m n = absurd n
prints_then a b c false true true p q r t u m n = subst (AppendsFront a c) (append_assoc p t u) (stops_before a c (p ++ t) u (front_kept a b c (p ++ t) m n))
prints_then a b c true false h p q r t u m n = absurd m
prints_then a b c true true false p q r t u m n = absurd n
prints_then a b c true true true p q r t u m n = keeps_then a b c m n

-- more was composed after what was printed
pub prints_on : (a b : Option (List ℕ)) (f g : Bool) (p q t : List ℕ) → PrintsFrom a f p b g q [] → PrintsFrom a f p b g (q ++ t) t
prints_on a b f g p q t printed = prints_then a b b f g g p q (q ++ t) [] t printed (printed_on b g q t)

-- all that was printed went out
pub prints_end : {A E : Type 0} (a b c : Option (List ℕ)) (f g : Bool) (p q t : List ℕ) (r : Result A E) → f ≡ false → p ≡ [] → PrintsFrom a f p b g q t → EndsFrom b g q c r → Writes a c r t
prints_end a b c true g p q t r is none m n = absurd cc
prints_end a b c false false p q t r is none (s, e, m) n =
    subst (Writes a c r) (sym e ∙ ap (λ u. u ++ t) none) (writes_after a b c r s q m n)
prints_end a b c false true p q t (Ok u) is none m n = absurd n
prints_end a b c false true p q t (Err e) is none m n = front_kept a b c t (subst (AppendsFront a b) (ap (λ u. u ++ t) none) m) n

-- one text more of a list
pub prints_more : {X : Type 0} (text : X → List ℕ) (xs : List X) (i : ℕ) (d : X) → i < length xs → (a b c : Option (List ℕ)) (f g h : Bool) (p q r : List ℕ)
    → PrintsFrom a f p b g q (flat_map text (take i xs)) → PrintsFrom b g q c h r (text (get_or xs i d)) → PrintsFrom a f p c h r (flat_map text (take (i + 1) xs))
prints_more text xs i d lt a b c f g h p q r m n =
    let all : flat_map text (take (i + 1) xs) ≡ flat_map text (take i xs) ++ text (get_or xs i d) =
    ap (flat_map text) (take_more xs i d lt) ∙ sym (flat_map_more text [] (take i xs) (get_or xs i d)) in
    subst (PrintsFrom a f p c h r) (sym all) (prints_then a b c f g h p q r _ _ m n)

-- all of the list
pub printed_all : {X : Type 0} (text : X → List ℕ) (xs : List X) (i : ℕ) → length xs ≤ i → (a b : Option (List ℕ)) (f g : Bool) (p q : List ℕ) → PrintsFrom a f p b g q (flat_map text (take i xs)) → PrintsFrom a f p b g q (flat_map text xs)
printed_all text xs i le a b f g p q so_far = subst (λ ys. PrintsFrom a f p b g q (flat_map text ys)) (take_all i xs le) so_far

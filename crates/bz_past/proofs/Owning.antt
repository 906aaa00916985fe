-- Whose entries a list has, as it grows.
use Rattle.std.proofs.Common.{zero, suc, true, false, Bool, ◌≡◌, ℕ, ◌≤◌, List, [], ◌∷◌, ◌++◌, sym, refl, ap, ◌∙◌, subst, arith, length, true≢false}
use Rattle.std.proofs.lemmas.Bool.{eq-eqb, eqb-true, ne_eqb}
use Rattle.bz_model.specs.declared.event.Who.{Who}
use Rattle.bz_model.specs.declared.event.Who.TheVariants as who
use Rattle.bz_model.specs.declared.event.Entry.{Entry}
use Rattle.bz_past.specs.Moments.{Leads}
use Rattle.bz_past.specs.Owners.{who_of, same_who, AreOf, AreOthers, AreTurnsOf, AreTurnsOfOthers, LeadsWithout, MayMake, behind, last_of, IsNamed, AreNamed}
use Rattle.bz_past.specs.declared.standing.Turn.{Turn}
use Rattle.bz_past.specs.declared.view.Moment.{Moment}
use Rattle.bz_past.proofs.Leading.{here, onward}

pub same_self : (w : Who) → same_who w w ≡ true
same_self (who.Host k) = eq-eqb k k refl
same_self (who.Worker k) = eq-eqb k k refl

pub same_is : (v w : Who) → same_who v w ≡ true → v ≡ w
same_is (who.Host j) (who.Host k) is = ap who.Host (eqb-true j k is)
same_is (who.Host j) (who.Worker k) is = absurd (true≢false (sym is))
same_is (who.Worker j) (who.Host k) is = absurd (true≢false (sym is))
same_is (who.Worker j) (who.Worker k) is = ap who.Worker (eqb-true j k is)

pub apart_sym : (v w : Who) → same_who v w ≡ false → same_who w v ≡ false
apart_sym (who.Host j) (who.Host k) apart = ne_eqb k j (λ e. true≢false (sym (eq-eqb j k (sym e)) ∙ apart))
apart_sym (who.Host j) (who.Worker k) apart = refl
apart_sym (who.Worker j) (who.Host k) apart = refl
apart_sym (who.Worker j) (who.Worker k) apart = ne_eqb k j (λ e. true≢false (sym (eq-eqb j k (sym e)) ∙ apart))

-- entries of this one are not of another
pub others_of : (w v : Who) (es : List Entry) → same_who w v ≡ false → AreOf w es → AreOthers v es
others_of w v [] apart all = tt
others_of w v (e ∷ es) apart all = (ap (λ u. same_who u v) all.0 ∙ apart, others_of w v es apart all.2)

pub others_append : (w : Who) (xs ys : List Entry) → AreOthers w xs → AreOthers w ys → AreOthers w (xs ++ ys)
others_append w [] ys one two = two
others_append w (x ∷ xs) ys one two = (one.0, others_append w xs ys one.1 two)

-- the same of turns
pub turns_of_others : (w v : Who) (ts : List Turn) → same_who w v ≡ false → AreTurnsOf w ts → AreTurnsOfOthers v ts
turns_of_others w v [] apart all = tt
turns_of_others w v (t ∷ ts) apart all = (ap (λ u. same_who u v) all.0 ∙ apart, turns_of_others w v ts apart all.2)

turns_append : (w : Who) (xs ys : List Turn) → AreTurnsOfOthers w xs → AreTurnsOfOthers w ys → AreTurnsOfOthers w (xs ++ ys)
turns_append w [] ys one two = two
turns_append w (x ∷ xs) ys one two = (one.0, turns_append w xs ys one.1 two)

pub without_here : (w : Who) (a : Moment) → LeadsWithout w a a
unfolding here
without_here w a = (here a, tt, tt)

pub without_on : (w : Who) (a b c : Moment) → LeadsWithout w a b → (leads : Leads b c) → AreOthers w leads.rest → AreTurnsOfOthers w leads.later → LeadsWithout w a c
unfolding onward
without_on w a b c one leads others turns = (onward a b c one.0 leads, others_append w one.0.rest leads.rest one.1 others, turns_append w one.0.later leads.later one.2 turns)

-- the last entry of one's own stays where others come
last_none : (w : Who) (es : List Entry) → AreOthers w es → last_of w es ≡ 0
last_none w [] others = refl
last_none w (e ∷ es) others = ap (λ b. behind b (last_of w es)) others.0 ∙ ap (behind false) (last_none w es others.1)

pub last_others : (w : Who) (xs ys : List Entry) → AreOthers w ys → last_of w (xs ++ ys) ≡ last_of w xs
last_others w [] ys others = last_none w ys others
last_others w (x ∷ xs) ys others = ap (behind (same_who (who_of x) w)) (last_others w xs ys others)

behind_suc : (b : Bool) (n : ℕ) → behind b (suc n) ≡ suc (suc n)
behind_suc true n = refl
behind_suc false n = refl

behind_le : (b : Bool) (n : ℕ) → behind b n ≤ suc n
behind_le true n = omega arith
behind_le false zero = omega arith
behind_le false (suc n) = omega arith

-- an entry more of one's own is the last
pub last_push : (w : Who) (xs : List Entry) (e : Entry) → same_who (who_of e) w ≡ true → last_of w (xs ++ e ∷ []) ≡ suc (length xs)
last_push w [] e is = ap (λ b. behind b 0) is
last_push w (x ∷ xs) e is = ap (behind (same_who (who_of x) w)) (last_push w xs e is) ∙ behind_suc (same_who (who_of x) w) (length xs)

pub last_within : (w : Who) (xs : List Entry) → last_of w xs ≤ length xs
last_within w [] = omega arith
last_within w (x ∷ xs) =
    let more = behind_le (same_who (who_of x) w) (last_of w xs) in
    let rest = last_within w xs in
    omega (arith, more, rest)

-- the last entry of all is somebody's
someone : (x : Entry) (xs : List Entry) → (w : Who) × (last_of w (x ∷ xs) ≡ length (x ∷ xs))
someone x [] = (who_of x, ap (λ b. behind b 0) (same_self (who_of x)))
someone x (y ∷ ys) = let r = someone y ys in
    (r.0, ap (behind (same_who (who_of x) r.0)) r.1 ∙ behind_suc (same_who (who_of x) r.0) (length ys))

pub all_within : (n : ℕ) (xs : List Entry) → ((w : Who) → last_of w xs ≤ n) → length xs ≤ n
all_within n [] each = omega arith
all_within n (x ∷ xs) each = let r = someone x xs in subst (λ k. k ≤ n) r.1 (each r.0)

pub named_up : (h m j k : ℕ) (w : Who) → h ≤ j → m ≤ k → IsNamed h m w → IsNamed j k w
named_up h m j k (who.Host i) hosts workers is = (is.0, omega (arith, is.1, hosts))
named_up h m j k (who.Worker i) hosts workers is = (is.0, omega (arith, is.1, workers))

pub named_more : (h m j k : ℕ) (es : List Entry) → h ≤ j → m ≤ k → AreNamed h m es → AreNamed j k es
named_more h m j k [] hosts workers all = tt
named_more h m j k (e ∷ es) hosts workers all = (named_up h m j k (who_of e) hosts workers all.0, all.1, named_more h m j k es hosts workers all.2)

pub named_of : (h m : ℕ) (w : Who) (es : List Entry) → IsNamed h m w → AreOf w es → AreNamed h m es
named_of h m w [] is all = tt
named_of h m w (e ∷ es) is all = (subst (IsNamed h m) (sym all.0) is, subst (λ u. MayMake u e) (sym all.0) all.1, named_of h m w es is all.2)

pub named_append : (h m : ℕ) (xs ys : List Entry) → AreNamed h m xs → AreNamed h m ys → AreNamed h m (xs ++ ys)
named_append h m [] ys one two = two
named_append h m (x ∷ xs) ys one two = (one.0, one.1, named_append h m xs ys one.2 two)

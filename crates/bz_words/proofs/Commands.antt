-- Words, cut at their first colon.
use Rattle.std.proofs.Common.{◌≡◌, ℕ, zero, suc, ◌<◌, ◌^◌, Bool, true, false, not, ◌&&◌, ◌==◌, codes, if◌then◌else◌, Option, Some, None, List, [], ◌∷◌, ◌++◌, get_or, refl, sym, ap, ap₂, ◌∙◌, subst, arith}
use Rattle.std.specs.List.{list_all}
use Rattle.std.specs.Str.Parse.{IsNumeral, digits_value}
use Rattle.bz_model.specs.Limits.{max_width}
use Rattle.bz_model.specs.declared.event.Verb.{Verb}
use Rattle.bz_model.specs.declared.event.Verb.TheVariants.{Offer, Collect, Accept, Answer, Watch}
use Rattle.bz_model.specs.Traces.{verb_text}
use Rattle.bz_words.specs.Words.{colon, Command, host, run, IsName, takes_value, AreOperands, IsNumber, IsWord}
use Rattle.bz_words.proofs.NameForms.{cons_same, NoColon, name_no_colon, same_name}

rest_no_colon : (x : ℕ) (xs : List ℕ) → NoColon (x ∷ xs) → NoColon xs
rest_no_colon x xs none = λ i h. none (suc i) (omega arith)

-- the first colon of a text is at one place
first_colon : (xs ys zs ws : List ℕ) → NoColon xs → NoColon zs → xs ++ colon ∷ ys ≡ zs ++ colon ∷ ws → (xs ≡ zs) × (ys ≡ ws)
first_colon [] ys [] ws p q e = (refl, (cons_same e).1)
first_colon [] ys (z ∷ zs) ws p q e = absurd (q 0 (omega arith) (sym (cons_same e).0))
first_colon (x ∷ xs) ys [] ws p q e = absurd (p 0 (omega arith) (cons_same e).0)
first_colon (x ∷ xs) ys (z ∷ zs) ws p q e =
    let both = cons_same e in
    let same = first_colon xs ys zs ws (rest_no_colon x xs p) (rest_no_colon z zs q) both.1 in
    (ap₂ (λ a as'. a ∷ as') both.0 same.0, same.1)

-- a text with a colon has one
has_colon : (text xs ys : List ℕ) → text ≡ xs ++ colon ∷ ys → NoColon text → ⊥
has_colon [] [] ys e none = cc
has_colon [] (x ∷ xs) ys e none = cc
has_colon (t ∷ ts) [] ys e none = none 0 (omega arith) (cons_same e).0
has_colon (t ∷ ts) (x ∷ xs) ys e none = has_colon ts xs ys (cons_same e).1 (rest_no_colon t ts none)

-- no operands: a value that the verb doesn't take
pub untaken_value : (operands form digits : List ℕ) (verb : Verb) → operands ≡ form ++ colon ∷ digits → takes_value verb ≡ false
    → (name : List ℕ) (value : Option ℕ) → AreOperands operands verb name value → ⊥
untaken_value operands form digits verb cut untaken name None is = has_colon operands form digits cut (name_no_colon operands name is)
untaken_value operands form digits verb cut untaken name (Some v) (f, d, e, is, takes, n) = let t : true ≡ false = sym takes ∙ untaken in cc

-- digits of no value
pub no_value : (operands form digits : List ℕ) (verb : Verb) → operands ≡ form ++ colon ∷ digits → NoColon form
    → (IsNumeral 10 digits × (digits_value 10 digits < 2 ^ max_width) → ⊥)
    → (name : List ℕ) (value : Option ℕ) → AreOperands operands verb name value → ⊥
no_value operands form digits verb cut front none name None is = has_colon operands form digits cut (name_no_colon operands name is)
no_value operands form digits verb cut front none name (Some v) (f, d, e, is, takes, n) =
    let same = first_colon f d form digits (name_no_colon f name is) front (sym e ∙ cut) in
    let P : List ℕ → Type 0 = λ ds. IsNumber max_width ds v in
    let number = subst P same.1 n in
    none (number.numeral, omega (arith, number.value, number.fits))

-- no name before the value
pub no_form : (operands form digits : List ℕ) (verb : Verb) → operands ≡ form ++ colon ∷ digits → NoColon form
    → ((name : List ℕ) → IsName form name → ⊥)
    → (name : List ℕ) (value : Option ℕ) → AreOperands operands verb name value → ⊥
no_form operands form digits verb cut front none name None is = has_colon operands form digits cut (name_no_colon operands name is)
no_form operands form digits verb cut front none name (Some v) (f, d, e, is, takes, n) =
    let same = first_colon f d form digits (name_no_colon f name is) front (sym e ∙ cut) in
    let P : List ℕ → Type 0 = λ s. IsName s name in
    none name (subst P same.0 is)

-- no name, and no value
pub no_name_alone : (operands : List ℕ) (verb : Verb) → NoColon operands → ((name : List ℕ) → IsName operands name → ⊥)
    → (name : List ℕ) (value : Option ℕ) → AreOperands operands verb name value → ⊥
no_name_alone operands verb front none name None is = none name is
no_name_alone operands verb front none name (Some v) (f, d, e, is, takes, n) = has_colon operands f d e front

-- a host word, from its parts
pub host_word : (word head operands : List ℕ) (verb same_verb : Verb) (name : List ℕ) (value : Option ℕ) → word ≡ head ++ colon ∷ operands → head ≡ verb_text verb → same_verb ≡ verb
    → AreOperands operands verb name value → IsWord word (host same_verb name value)
host_word word head operands verb same_verb name value cut is same are =
    subst (λ (v : Verb). IsWord word (host v name value)) (sym same) (operands, cut ∙ ap (λ s. s ++ colon ∷ operands) is, are)

and_right : (a b : Bool) → a && b ≡ true → b ≡ true
and_right true b e = e
and_right false b e = cc

all_but_colon : (xs : List ℕ) → list_all (λ b. not (b == colon)) xs ≡ true → NoColon xs
all_but_colon [] e i h = λ is. omega arith
all_but_colon (x ∷ xs) e zero h = λ is.
    let P : ℕ → Type 0 = λ b. not (b == colon) && list_all (λ y. not (y == colon)) xs ≡ true in
    let none : false ≡ true = subst P is e in
    cc
all_but_colon (x ∷ xs) e (suc i) h = all_but_colon xs (and_right (not (x == colon)) _ e) i (omega arith)

verb_no_colon : (verb : Verb) → NoColon (verb_text verb)
verb_no_colon Offer = all_but_colon (verb_text Offer) refl
verb_no_colon Collect = all_but_colon (verb_text Collect) refl
verb_no_colon Accept = all_but_colon (verb_text Accept) refl
verb_no_colon Answer = all_but_colon (verb_text Answer) refl
verb_no_colon Watch = all_but_colon (verb_text Watch) refl

run_no_colon : NoColon (codes "run")
run_no_colon = all_but_colon (codes "run") refl

no_run : (verb : Verb) → verb_text verb ≡ codes "run" → ⊥
no_run Offer e = cc
no_run Collect e = cc
no_run Accept e = cc
no_run Answer e = cc
no_run Watch e = cc

-- the third letters of the verbs tell them apart
verb_by_third : ℕ → Verb
verb_by_third b = if b == 102 then Offer else (if b == 108 then Collect else (if b == 99 then Accept else (if b == 115 then Answer else Watch)))

third_tells : (verb : Verb) → verb_by_third (get_or (verb_text verb) 2 0) ≡ verb
unfolding verb_by_third
third_tells Offer = refl
third_tells Collect = refl
third_tells Accept = refl
third_tells Answer = refl
third_tells Watch = refl

same_verb : (a b : Verb) → verb_text a ≡ verb_text b → a ≡ b
same_verb a b e = sym (third_tells a) ∙ ap (λ s. verb_by_third (get_or s 2 0)) e ∙ third_tells b

-- no command: a word without a colon
no_cut : (word : List ℕ) → NoColon word → (c : Command) → IsWord word c → ⊥
no_cut word none (host verb name value) (rest, e, are) = has_colon word (verb_text verb) rest e none
no_cut word none (run n) (rest, e, number) = has_colon word (codes "run") rest e none

-- `/` is no command
pub no_separator : (word : List ℕ) → word ≡ codes "/" → (c : Command) → IsWord word c → ⊥
no_separator word is c spelt = no_cut (codes "/") (all_but_colon (codes "/") refl) c (subst (λ (s : List ℕ). IsWord s c) is spelt)

same_number : (bits : ℕ) (digits m_digits : List ℕ) (n m : ℕ) → IsNumber bits digits n → IsNumber bits m_digits m → digits ≡ m_digits → n ≡ m
same_number bits digits m_digits n m p q e = p.value ∙ ap (digits_value 10) e ∙ sym q.value

-- operands stand for one name and one value at most
same_operands : (operands : List ℕ) (verb : Verb) (a b : List ℕ) (v w : Option ℕ) → AreOperands operands verb a v → AreOperands operands verb b w → (a ≡ b) × (v ≡ w)
same_operands operands verb a b None None p q = (same_name operands a b p q, refl)
same_operands operands verb a b None (Some w) p (f, d, e, is, takes, n) = absurd (has_colon operands f d e (name_no_colon operands a p))
same_operands operands verb a b (Some v) None (f, d, e, is, takes, n) q = absurd (has_colon operands f d e (name_no_colon operands b q))
same_operands operands verb a b (Some v) (Some w) (f, d, e, is, takes, n) (g, k, e', is', takes', m) =
    let same = first_colon f d g k (name_no_colon f a is) (name_no_colon g b is') (sym e ∙ e') in
    (same_name g a b (subst (λ (s : List ℕ). IsName s a) same.0 is) is', ap (λ x. Some x) (same_number max_width d k v w n m same.1))

-- a word spells one command at most
pub same_command : (word : List ℕ) (a b : Command) → IsWord word a → IsWord word b → a ≡ b
same_command word (host v a x) (host w b y) (rest, e, are) (rest', e', are') =
    let same = first_colon (verb_text v) rest (verb_text w) rest' (verb_no_colon v) (verb_no_colon w) (sym e ∙ e') in
    let verbs : v ≡ w = same_verb v w same.0 in
    let P : List ℕ → Verb → Type 0 = λ s u. AreOperands s u a x in
    let both = same_operands rest' w a b x y (subst (λ (u : Verb). P rest' u) verbs (subst (λ (s : List ℕ). P s v) same.1 are)) are' in
    cc (verbs, both.0, both.1)
same_command word (host v a x) (run n) (rest, e, are) (digits, e', number) =
    absurd (no_run v (first_colon (verb_text v) rest (codes "run") digits (verb_no_colon v) run_no_colon (sym e ∙ e')).0)
same_command word (run n) (host w b y) (digits, e, number) (rest, e', are) =
    absurd (no_run w (first_colon (verb_text w) rest (codes "run") digits (verb_no_colon w) run_no_colon (sym e' ∙ e)).0)
same_command word (run n) (run m) (digits, e, number) (digits', e', number') =
    ap run (same_number 64 digits digits' n m number number' (first_colon (codes "run") digits (codes "run") digits' run_no_colon run_no_colon (sym e ∙ e')).1)

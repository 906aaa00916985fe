-- Which clash lines are due is told by the lines of the entries.
use Rattle.std.proofs.Common.{◌≡◌, ◌⊎◌, inl, inr, ℕ, zero, suc, ◌<◌, ◌≤◌, List, [], ◌∷◌, length, map, Contains, refl, sym, ap, ap₂, subst, ◌∙◌, arith}
use Rattle.std.specs.List.{AllByRecursion, AllPairs}
use Rattle.std.proofs.lemmas.List.Kept.{AllPairs-from_increasing}
use Rattle.bz_model.specs.declared.channel.Phase.{Phase}
use Rattle.bz_model.specs.declared.event.Entry.{Entry}
use Rattle.bz_model.specs.declared.event.Entry.TheVariants.{Fired, Host, Rested}
use Rattle.bz_model.specs.Nets.{Site, Wiring, State, opening}
use Rattle.bz_model.specs.Runs.{Run}
use Rattle.bz_model.specs.Clashes.{Clashes, ClashesIn}
use Rattle.bz_model.specs.Entries.{IsNumber32, told}
use Rattle.bz_flat.specs.Wires.{WellWired}
use Rattle.bz_net.proofs.Clashing.{after_entry, follows_phases}
use Rattle.bz_trace_text.specs.declared.text.Version.{Version}
use Rattle.bz_trace_text.specs.declared.text.Version.TheVariants.{One, Two}
use Rattle.bz_trace.specs.Verdicts.{AreDue}

-- ---- two rising lists with the same members are the same

abbrev Rises : List ℕ → Type 0
Rises xs = AllPairs (λ x y. x < y) xs

in_tail : (x : ℕ) (xs : List ℕ) (c : ℕ) → Contains xs c → Contains (x ∷ xs) c
in_tail x xs c (k, lt, is) = (suc k, omega arith, is)

at_head : (x : ℕ) (xs : List ℕ) → Contains (x ∷ xs) x
at_head x xs = (0, omega arith, refl)

head_or_tail : (x : ℕ) (xs : List ℕ) (c : ℕ) → Contains (x ∷ xs) c → (x ≡ c) ⊎ Contains xs c
head_or_tail x xs c (zero, lt, is) = inl is
head_or_tail x xs c (suc k, lt, is) = inr (k, omega arith, is)

none_in : (c : ℕ) → Contains [] c → ⊥
none_in c (k, lt, is) = absurd (omega arith)

above : (x : ℕ) (xs : List ℕ) (c : ℕ) → Rises (x ∷ xs) → Contains xs c → x < c
above x xs c rises (k, lt, is) = subst (λ n. x < n) is (rises 0 (suc k) c (omega arith) (omega arith))

tail_rises : (x : ℕ) (xs : List ℕ) → Rises (x ∷ xs) → Rises xs
tail_rises x xs rises i j d less in_range = rises (suc i) (suc j) d (omega arith) (omega arith)

same_heads : (x y : ℕ) (xs ys : List ℕ) → Rises (x ∷ xs) → Rises (y ∷ ys) → (y ≡ x) ⊎ Contains ys x → (x ≡ y) ⊎ Contains xs y → x ≡ y
same_heads x y xs ys p q (inl e) other = sym e
same_heads x y xs ys p q (inr a) (inl e) = e
same_heads x y xs ys p q (inr a) (inr b) =
    let less = above y ys x q a in
    let more = above x xs y p b in
    absurd (omega arith)

in_other_tail : (x y : ℕ) (ys : List ℕ) (c : ℕ) → x < c → x ≡ y → (y ≡ c) ⊎ Contains ys c → Contains ys c
in_other_tail x y ys c less same (inl e) = absurd (omega arith)
in_other_tail x y ys c less same (inr has) = has

same_members : (xs ys : List ℕ) → Rises xs → Rises ys → ((c : ℕ) → Contains xs c → Contains ys c) → ((c : ℕ) → Contains ys c → Contains xs c) → xs ≡ ys
same_members [] [] p q there back = refl
same_members [] (y ∷ ys) p q there back = absurd (none_in y (back y (at_head y ys)))
same_members (x ∷ xs) [] p q there back = absurd (none_in x (there x (at_head x xs)))
same_members (x ∷ xs) (y ∷ ys) p q there back =
    let same = same_heads x y xs ys p q (head_or_tail y ys x (there x (at_head x xs))) (head_or_tail x xs y (back y (at_head y ys))) in
    ap₂ (λ u us. u ∷ us) same (same_members xs ys (tail_rises x xs p) (tail_rises y ys q)
    (λ c has. in_other_tail x y ys c (above x xs c p has) same (head_or_tail y ys c (there c (in_tail x xs c has))))
    (λ c has. in_other_tail y x xs c (above y ys c q has) (sym same) (head_or_tail x xs c (back c (in_tail y ys c has)))))

-- ---- where requests met is told by the entries without the ports of firings

after_told : (phases : List Phase) (e : Entry) → after_entry phases e ≡ after_entry phases (told e)
after_told phases (Fired w comp port chan mv value) = refl
after_told phases (Host w v port value r) = refl
after_told phases (Rested w) = refl

at_phases : (sites : List Site) (phases phases' : List Phase) (c : ℕ) → phases' ≡ phases → Clashes sites phases c → Clashes sites phases' c
at_phases sites phases phases' c e x = subst (λ ps. Clashes sites ps c) (sym e) x

no_nil : {X : Type 0} (x : X) (xs : List X) → [] ≡ (x ∷ xs) → ⊥
no_nil x xs e = cc

heads_are : {X : Type 0} {x y : X} {xs ys : List X} → (x ∷ xs) ≡ (y ∷ ys) → (x ≡ y) × (xs ≡ ys)
heads_are e = (cc, cc)

clashes_told : (w : Wiring) (c : ℕ) (es fs : List Entry) (s t last : State) → t.phases ≡ s.phases → map told es ≡ map told fs → Run w t fs last → ClashesIn w s es c → ClashesIn w t fs c
clashes_told w c [] [] s t last same alike run x = at_phases w.sites s.phases t.phases c same x
clashes_told w c [] (f ∷ fs) s t last same alike run x = absurd (no_nil _ _ alike)
clashes_told w c (e ∷ es) [] s t last same alike run x = absurd (no_nil _ _ (sym alike))
clashes_told w c (e ∷ es) (f ∷ fs) s t last same alike run (inl x) = inl (at_phases w.sites s.phases t.phases c same x)
clashes_told w c (e ∷ es) (f ∷ fs) s t last same alike (m, g, run) (inr (n, h, x)) =
    let both = heads_are alike in
    let here : m.phases ≡ n.phases = follows_phases w t f m g ∙ ap (λ ps. after_entry ps f) same ∙ after_told s.phases f ∙ ap (after_entry s.phases) (sym both.0) ∙ sym (after_told s.phases e) ∙ sym (follows_phases w s e n h) in
    inr (m, g, clashes_told w c es fs n m last here both.1 run x)

-- Of two runs told alike the same clash lines are due.
pub one_due : (w : Wiring) (v : Version) (es fs : List Entry) (last end : State) (cs ds : List ℕ) → Run w (opening w) es last → Run w (opening w) fs end → map told es ≡ map told fs → AreDue w v es cs → AreDue w v fs ds → cs ≡ ds
one_due w One es fs last end cs ds run other alike a b = a ∙ sym b
one_due w Two es fs last end cs ds run other alike a b =
    same_members cs ds (AllPairs-from_increasing cs a.rising) (AllPairs-from_increasing ds b.rising)
    (λ c has. (b.exact c).1 (clashes_told w c es fs (opening w) (opening w) end refl alike other ((a.exact c).0 has)))
    (λ c has. (a.exact c).1 (clashes_told w c fs es (opening w) (opening w) last refl (sym alike) run ((b.exact c).0 has)))

-- ---- they have lines

met_in : (w : Wiring) (c : ℕ) (es : List Entry) (s : State) → ClashesIn w s es c → c ≤ length w.sites
met_in w c [] s x = x.first.is_port.comp_to
met_in w c (e ∷ es) s (inl x) = x.first.is_port.comp_to
met_in w c (e ∷ es) s (inr (n, h, x)) = met_in w c es n x

all_numbers : (xs : List ℕ) → ((c : ℕ) → Contains xs c → IsNumber32 c) → AllByRecursion IsNumber32 xs
all_numbers [] each = tt
all_numbers (x ∷ xs) each = (each x (at_head x xs), all_numbers xs (λ c has. each c (in_tail x xs c has)))

pub due_numbers : (w : Wiring) (v : Version) (es : List Entry) (cs : List ℕ) → WellWired w → AreDue w v es cs → AllByRecursion IsNumber32 cs
due_numbers w One es cs wired due = subst (AllByRecursion IsNumber32) (sym due) tt
due_numbers w Two es cs wired due = all_numbers cs (λ c has.
    let to = met_in w c es (opening w) ((due.exact c).0 has) in
    let few = wired.comps_few in
    omega arith)

pub due_without : (w : Wiring) (v : Version) (es : List Entry) (cs : List ℕ) → AreDue w v es cs → v ≡ One → cs ≡ []
due_without w One es cs due e = due
due_without w Two es cs due e = absurd (two_is e)
  where
    two_is : Two ≡ One → ⊥
    two_is e = cc

-- Words of which no port has the number 1.
use Rattle.std.proofs.Common.{◌≡◌, ◌≢◌, ℕ, zero, suc, ◌+◌, ◌-◌, ◌*◌, ◌/◌, ◌%◌, ◌<◌, ◌≤◌, List, ◌∷◌, length, get_or, set, take, drop, sym, ap, ◌∙◌, subst, inl, inr, arith, min}
use Rattle.std.specs.Int.{bit_at}
use Rattle.std.proofs.lemmas.Nat.Bits.{bit_at_and, bit_at-lt}
use Rattle.std.specs.List.{All}
use Rattle.std.proofs.lemmas.List.Elements.{All-get_or}
use Rattle.std.proofs.lemmas.List.{get_or-take, get_or-drop, length-take, length-drop, get_or-set_same, get_or-set_other}
use Rattle.std.proofs.lemmas.Bool.{cases_eq}
use Rattle.bz_bits.specs.declared.word.PortWord.{PortWord}
use Rattle.bz_bits.specs.PortWords.{no_ports, number_in, numbers, AreNumbers, LacksOne, NoneOne}
use Rattle.bz_bits.proofs.Words.{any-number}

-- no number 1 at a place whose bits lack it
two_bits : (d o : ℕ) → d < 2 → o < 2 → min d o ≡ d → d + 2 * o ≢ 1
two_bits zero zero l k e f = absurd (omega (arith, f))
two_bits zero (suc o) l k e f = absurd (omega (arith, f))
two_bits (suc d) zero l k e f = absurd (omega (arith, e))
two_bits (suc d) (suc o) l k e f = absurd (omega (arith, f))

-- so at none of a word that lacks it, behind the first
lacks_at : (f : PortWord) (rest : List PortWord) (n p : ℕ) → AreNumbers (f ∷ rest) n → 64 ≤ p → LacksOne (get_or rest (p / 64 - 1) no_ports) → get_or (numbers (f ∷ rest) n) p 0 ≢ 1
lacks_at f rest n p are far same one =
    let j = p / 64 - 1 in let i = p % 64 in let w = get_or rest j no_ports in
    let e : p / 64 ≡ suc j = omega (arith, far) in
    let number : number_in w i ≡ 1 = sym (any-number (f ∷ rest) n p are ∙ ap (λ (q : ℕ). number_in (get_or (f ∷ rest) q no_ports) i) e) ∙ one in
    two_bits (bit_at w.due i) (bit_at w.opened i) (bit_at-lt w.due i) (bit_at-lt w.opened i) (sym (bit_at_and w.due w.opened i) ∙ ap (λ (x : ℕ). bit_at x i) same) number

-- nor of the words that lack it from `at` on
pub lacks_behind : (f : PortWord) (rest : List PortWord) (n at b m : ℕ) → AreNumbers (f ∷ rest) n → 0 < at → b ≡ min (at - 1) (length rest) → m ≤ length (drop b rest)
    → All LacksOne (take m (drop b rest)) → (p : ℕ) → 64 * at ≤ p → p < 64 * (at + m) → get_or (numbers (f ∷ rest) n) p 0 ≢ 1
lacks_behind f rest n at b m are from is within all p le lt =
    let j = p / 64 - 1 in let ws = drop b rest in
    let long = length-drop b rest in
    let first : b ≡ at - 1 = omega (arith, is, within, long, le, lt) in
    let there : b + (j - b) ≡ j = omega (arith, first, le) in
    let before : j - b < m = omega (arith, first, from, le, lt) in
    let held = All-get_or LacksOne (take m ws) (j - b) no_ports (omega (arith, before, within, length-take m ws)) all in
    lacks_at f rest n p are (omega (arith, from, le))
    (subst LacksOne (get_or-take m ws (j - b) no_ports before ∙ get_or-drop b rest (j - b) no_ports ∙ ap (λ (q : ℕ). get_or rest q no_ports) there) held)

-- nor of those in front of which none has it
pub lacks_in_front : (f : PortWord) (rest : List PortWord) (n ones p : ℕ) → AreNumbers (f ∷ rest) n → NoneOne rest ones → 64 ≤ p → p < 64 * (ones + 1) → get_or (numbers (f ∷ rest) n) p 0 ≢ 1
lacks_in_front f rest n ones p are none far lt = lacks_at f rest n p are far (none (p / 64 - 1) (omega (arith, far, lt)))

-- a word is put behind those
pub ones_put : (ws : List PortWord) (n m at : ℕ) (w : PortWord) → NoneOne ws n → m ≤ n → m ≤ at → NoneOne (set ws at w) m
ones_put ws n m at w none le upto k lt = subst LacksOne (sym (get_or-set_other ws at k w no_ports (λ e. omega (arith, e, lt, upto)))) (none k (omega (arith, lt, le)))

-- a word that lacks it is put among those
pub ones_left : (ws : List PortWord) (n m at : ℕ) (w : PortWord) → NoneOne ws n → at < length ws → LacksOne w → ((k : ℕ) → k < m → k ≢ at → k < n) → NoneOne (set ws at w) m
ones_left ws n m at w none within lacks but k lt =
    elim (cases_eq k at) [
      | inl e ↦ subst (λ (j : ℕ). LacksOne (get_or (set ws at w) j no_ports)) (sym e) (subst LacksOne (sym (get_or-set_same ws at w no_ports within)) lacks)
      | inr ne ↦ subst LacksOne (sym (get_or-set_other ws at k w no_ports ne)) (none k (but k lt ne))
    ]

-- Words of ports: what a mask and one bit leave of them.
use Rattle.std.proofs.Common.{◌≡◌, ◌≢◌, ◌⊎◌, ℕ, zero, suc, ◌+◌, ◌-◌, ◌*◌, ◌/◌, ◌%◌, ◌^◌, ◌<◌, ◌≤◌, Bool, true, false, not, ◌&&◌, ◌||◌, ◌==◌, List, [], ◌∷◌, ◌++◌, length, get_or, set, take, drop, replicate, refl, sym, ap, ◌∙◌, subst, inl, inr, arith, min, max}
use Rattle.std.specs.Prelude.{nat_le, nat_lt, if◌then◌else◌}
use Rattle.std.specs.Int.{bit_at, from_bool, trailing_zeros, w64}
use Rattle.std.proofs.lemmas.Nat.{one_shl}
use Rattle.std.proofs.lemmas.Nat.Bits.{bit_at-trailing_zeros, bit_at-zero, bit_at-lt, bit_at-pow_same, bit_at-pow_other}
use Rattle.std.specs.List.{All}
use Rattle.std.proofs.lemmas.List.Elements.{All-get_or}
use Rattle.std.proofs.lemmas.List.{get_or-take, get_or-drop, length-take, length-drop, ext_get_or, length-set, length-replicate, get_or-replicate, get_or-set_same, get_or-set_other, get_or_past, get_or_append_left, get_or-append_right}
use borrow.Rule.Slice.PartMut.{put_mid}
use Rattle.std.proofs.lemmas.List.FromFn.{length-map-range_with_len, get_or-map-range_with_len}
use Rattle.std.proofs.lemmas.Bool.{cases_eq, cases_lt, le-leb, lt-leb, lt-ltb, le-ltb}
use Rattle.bz_bits.specs.declared.word.PortWord.{PortWord}
use Rattle.bz_bits.specs.Row.{bit_of}
use Rattle.bz_bits.specs.PortWords.{no_ports, number_in, number_at, numbers, AreNumbers, FilledIn, HasOdd, IsEven, IsLowest, NoneOdd, between, goes}

pub table : (d o p h : ℕ) → d < 2 → o < 2 → p < 2 → h < 2
    → (min d (max h ((p + o) % 2)) == 1) ≡ goes (d == 1) (o == 1) (not (p == 1)) (h == 1)
table zero zero zero zero a b c e = refl
table zero zero zero (suc zero) a b c e = refl
table zero zero (suc zero) zero a b c e = refl
table zero zero (suc zero) (suc zero) a b c e = refl
table zero (suc zero) zero zero a b c e = refl
table zero (suc zero) zero (suc zero) a b c e = refl
table zero (suc zero) (suc zero) zero a b c e = refl
table zero (suc zero) (suc zero) (suc zero) a b c e = refl
table (suc zero) zero zero zero a b c e = refl
table (suc zero) zero zero (suc zero) a b c e = refl
table (suc zero) zero (suc zero) zero a b c e = refl
table (suc zero) zero (suc zero) (suc zero) a b c e = refl
table (suc zero) (suc zero) zero zero a b c e = refl
table (suc zero) (suc zero) zero (suc zero) a b c e = refl
table (suc zero) (suc zero) (suc zero) zero a b c e = refl
table (suc zero) (suc zero) (suc zero) (suc zero) a b c e = refl
table (suc (suc d)) o p h a b c e = absurd (omega arith)
table d (suc (suc o)) p h a b c e = absurd (omega arith)
table d o (suc (suc p)) h a b c e = absurd (omega arith)
table d o p (suc (suc h)) a b c e = absurd (omega arith)

-- a bit of a word with a mask put on it, or taken off
pub put_on : (x m : ℕ) → x < 2 → m < 2 → max x m ≡ (if m == 1 then 1 else x)
put_on zero zero a b = refl
put_on zero (suc zero) a b = refl
put_on (suc zero) zero a b = refl
put_on (suc zero) (suc zero) a b = refl
put_on (suc (suc x)) m a b = absurd (omega arith)
put_on x (suc (suc m)) a b = absurd (omega arith)

pub taken_off : (x m : ℕ) → x < 2 → m < 2 → min x (1 - m) ≡ (if m == 1 then 0 else x)
taken_off zero zero a b = refl
taken_off zero (suc zero) a b = refl
taken_off (suc zero) zero a b = refl
taken_off (suc zero) (suc zero) a b = refl
taken_off (suc (suc x)) m a b = absurd (omega arith)
taken_off x (suc (suc m)) a b = absurd (omega arith)

-- a bit of a word with one of a mask turned
pub turned_bit : (x m : ℕ) → x < 2 → m < 2 → (x + m) % 2 ≡ (if m == 1 then 1 - x else x)
turned_bit zero zero l k = refl
turned_bit zero (suc zero) l k = refl
turned_bit (suc zero) zero l k = refl
turned_bit (suc zero) (suc zero) l k = refl
turned_bit (suc (suc x)) m l k = absurd (omega arith)
turned_bit x (suc (suc m)) l k = absurd (omega arith)

-- both bits of a place, of which the upper one is turned, or both are, or the lower one of an even number
pub turned_two : (b : Bool) (d o : ℕ) → d < 2 → o < 2 → d + 2 * (if b then 1 - o else o) ≡ (if b then (d + 2 * o + 2) % 4 else d + 2 * o)
turned_two false d o l k = refl
turned_two true zero zero l k = refl
turned_two true zero (suc zero) l k = refl
turned_two true (suc zero) zero l k = refl
turned_two true (suc zero) (suc zero) l k = refl
turned_two true (suc (suc d)) o l k = absurd (omega arith)
turned_two true d (suc (suc o)) l k = absurd (omega arith)

pub flipped_two : (b : Bool) (d o : ℕ) → d < 2 → o < 2 → (if b then 1 - d else d) + 2 * (if b then 1 - o else o) ≡ (if b then 3 - (d + 2 * o) else d + 2 * o)
flipped_two false d o l k = refl
flipped_two true zero zero l k = refl
flipped_two true zero (suc zero) l k = refl
flipped_two true (suc zero) zero l k = refl
flipped_two true (suc zero) (suc zero) l k = refl
flipped_two true (suc (suc d)) o l k = absurd (omega arith)
flipped_two true d (suc (suc o)) l k = absurd (omega arith)

pub raised_two : (b : Bool) (d o : ℕ) → d < 2 → o < 2 → (b ≡ true → (d + 2 * o) % 2 ≡ 0) → (if b then 1 - d else d) + 2 * o ≡ (if b then d + 2 * o + 1 else d + 2 * o)
raised_two false d o l k even = refl
raised_two true zero zero l k even = refl
raised_two true zero (suc zero) l k even = refl
raised_two true (suc zero) o l k even = absurd (let z = even refl in omega (arith, z))
raised_two true (suc (suc d)) o l k even = absurd (omega arith)
raised_two true d (suc (suc o)) l k even = absurd (omega arith)

-- both bits of a place, with a mask
pub both_filled : (b : Bool) (s x y : ℕ) → s < 4 → (if b then from_bool (s % 2 == 1) else x) + 2 * (if b then from_bool (s / 2 == 1) else y) ≡ (if b then s else x + 2 * y)
both_filled true zero x y lt = refl
both_filled true (suc zero) x y lt = refl
both_filled true (suc (suc zero)) x y lt = refl
both_filled true (suc (suc (suc zero))) x y lt = refl
both_filled true (suc (suc (suc (suc s)))) x y lt = absurd (omega arith)
both_filled false s x y lt = refl

pub length-numbers : (ws : List PortWord) (n : ℕ) → length (numbers ws n) ≡ n
unfolding numbers
length-numbers ws n = length-map-range_with_len (number_at ws) 0 n

pub get-numbers : (ws : List PortWord) (n p : ℕ) → p < n → get_or (numbers ws n) p 0 ≡ number_at ws p
unfolding numbers
get-numbers ws n p lt = get_or-map-range_with_len (number_at ws) 0 n p p 0 lt (omega arith)

-- with no number past the end, a place may be any
pub any-number : (ws : List PortWord) (n p : ℕ) → AreNumbers ws n → get_or (numbers ws n) p 0 ≡ number_at ws p
any-number ws n p are =
    elim (cases_lt p n) [
      | inl lt ↦ get-numbers ws n p lt
      | inr past ↦ get_or_past (numbers ws n) p 0 (omega (arith, length-numbers ws n)) ∙ sym (are.clear p past)
    ]

-- one of the first word
pub near-number : (f : PortWord) (rest : List PortWord) (n p : ℕ) → AreNumbers (f ∷ rest) n → p < 64 → get_or (numbers (f ∷ rest) n) p 0 ≡ number_in f p
near-number f rest n p are near =
    let z : p / 64 ≡ 0 = omega (arith, near) in let m : p % 64 ≡ p = omega (arith, near) in
    any-number (f ∷ rest) n p are ∙ ap (λ (at : ℕ). number_in (get_or (f ∷ rest) at no_ports) (p % 64)) z ∙ ap (number_in f) m

-- a word of them
pub word_numbers : (ws : List PortWord) (n at i : ℕ) → AreNumbers ws n → i < 64 → number_in (get_or ws at no_ports) i ≡ get_or (numbers ws n) (64 * at + i) 0
word_numbers ws n at i are lt =
    let p = 64 * at + i in let a : p / 64 ≡ at = omega arith in let b : p % 64 ≡ i = omega arith in
    sym (any-number ws n p are ∙ ap (λ (m : ℕ). number_in (get_or ws m no_ports) (p % 64)) a ∙ ap (number_in (get_or ws at no_ports)) b)

-- a word behind the first that has no bit for a move that is due
pub even_word : (f : PortWord) (rest : List PortWord) (n k : ℕ) → AreNumbers (f ∷ rest) n → 0 < k → (w : PortWord) → w ≡ get_or rest (k - 1) no_ports → w.due ≡ 0 → IsEven (numbers (f ∷ rest) n) k
even_word f rest n zero are from w is none = absurd (omega arith)
even_word f rest n (suc j) are from w is none =
    let e : suc j - 1 ≡ j = omega arith in
    record {
      word = get_or rest j no_ports;
      each = λ i lt. word_numbers (f ∷ rest) n (suc j) i are lt;
      none_due = ap (λ (v : PortWord). v.due) (sym (is ∙ ap (λ (m : ℕ). get_or rest m no_ports) e)) ∙ none;
    }

-- the words before `start` have no odd number, and of those that follow m have none
pub lowest_on : (ws : List PortWord) (start m : ℕ) → length ws < 2 ^ 16 → NoneOdd ws start → m ≤ length (drop start ws) → All (λ (w : PortWord). w.due ≡ 0) (take m (drop start ws))
    → (m < length (drop start ws) → (get_or (drop start ws) m no_ports).due ≢ 0) → (get_or ws (start + m) no_ports).due < 2 ^ 64 → IsLowest ws (start + m)
lowest_on ws start m few before within all stops fits =
    let rest = drop start ws in
    record {
      few = few;
      even = λ k lt. elim (cases_lt k start) [
        | inl below ↦ before k below
        | inr past ↦
            let j = k - start in let jm : j < m = omega (arith, past, lt) in let there : start + j ≡ k = omega (arith, past) in
            let none = All-get_or (λ (w : PortWord). w.due ≡ 0) (take m rest) j no_ports (omega (arith, jm, within, length-take m rest)) all in
            ap (λ (i : ℕ). (get_or ws i no_ports).due) (sym there)
            ∙ ap (λ (w : PortWord). w.due) (sym (get_or-take m rest j no_ports jm ∙ get_or-drop start ws j no_ports)) ∙ none
      ];
      stops = λ lt z. stops (omega (arith, lt, length-drop start ws)) (ap (λ (w : PortWord). w.due) (get_or-drop start ws m no_ports) ∙ z);
      fits = fits;
    }

-- before a word that was put and the lowest alike
pub none_put : (ws : List PortWord) (low at n : ℕ) (w : PortWord) → IsLowest ws low → n ≤ at → n ≤ low → NoneOdd (set ws at w) n
none_put ws low at n w is up upto k lt =
    ap (λ (v : PortWord). v.due) (get_or-set_other ws at k w no_ports (λ e. omega (arith, e, lt, up))) ∙ is.even k (omega (arith, lt, upto))

-- a word with an odd number is put: the lowest is that one, or the one that was
pub lowest_put : (ws : List PortWord) (low at : ℕ) (w : PortWord) → IsLowest ws low → at < length ws → w.due ≢ 0 → w.due < 2 ^ 64 → IsLowest (set ws at w) (min at low)
lowest_put ws low at w is lt some small =
    let n = min at low in let new = λ (k : ℕ). (get_or (set ws at w) k no_ports).due in
    let there : new at ≡ w.due = ap (λ (v : PortWord). v.due) (get_or-set_same ws at w no_ports lt) in
    let same = λ (k : ℕ) (other : k ≢ at). ap (λ (v : PortWord). v.due) (get_or-set_other ws at k w no_ports other) in
    elim (cases_lt low at) [
      | inl below ↦ let e : n ≡ low = omega (arith, below) in let other : low ≢ at = λ f. omega (arith, f, below) in
          record {
            few = omega (arith, is.few, length-set ws at w);
            even = none_put ws low at n w is (omega arith) (omega arith);
            stops = λ held z. is.stops (omega (arith, held, e, length-set ws at w)) (sym (ap new e ∙ same low other) ∙ z);
            fits = let l = ap new e ∙ same low other in omega (arith, is.fits, l);
          }
      | inr ge ↦ let e : n ≡ at = omega (arith, ge) in
          record {
            few = omega (arith, is.few, length-set ws at w);
            even = none_put ws low at n w is (omega arith) (omega arith);
            stops = λ held z. some (sym (ap new e ∙ there) ∙ z);
            fits = let l = ap new e ∙ there in omega (arith, small, l);
          }
    ]

-- a word without one is put, and not at the lowest
pub lowest_left : (ws : List PortWord) (low at : ℕ) (w : PortWord) → IsLowest ws low → at < length ws → w.due ≡ 0 → at ≢ low → IsLowest (set ws at w) low
lowest_left ws low at w is lt none other =
    let same = λ (k : ℕ) (ne : k ≢ at). ap (λ (v : PortWord). v.due) (get_or-set_other ws at k w no_ports ne) in
    let kept = same low (λ e. other (sym e)) in
    record {
      few = omega (arith, is.few, length-set ws at w);
      even = λ k below. elim (cases_eq k at) [
        | inl e ↦ ap (λ (j : ℕ). (get_or (set ws at w) j no_ports).due) e ∙ ap (λ (v : PortWord). v.due) (get_or-set_same ws at w no_ports lt) ∙ none
        | inr f ↦ same k f ∙ is.even k below
      ];
      stops = λ held z. is.stops (omega (arith, held, length-set ws at w)) (sym kept ∙ z);
      fits = omega (arith, is.fits, kept);
    }

-- a word with the same odd numbers is put
pub lowest_same : (ws : List PortWord) (low at : ℕ) (w : PortWord) → IsLowest ws low → at < length ws → w.due ≡ (get_or ws at no_ports).due → IsLowest (set ws at w) low
lowest_same ws low at w is lt same =
    record {
      few = omega (arith, is.few, length-set ws at w);
      even = λ k below. each k ∙ is.even k below;
      stops = λ held z. is.stops (omega (arith, held, length-set ws at w)) (sym (each low) ∙ z);
      fits = omega (arith, is.fits, each low);
    }
  where
    each : (k : ℕ) → (get_or (set ws at w) k no_ports).due ≡ (get_or ws k no_ports).due
    each k = elim (cases_eq k at) [
      | inl e ↦ ap (λ (j : ℕ). (get_or (set ws at w) j no_ports).due) e ∙ ap (λ (v : PortWord). v.due) (get_or-set_same ws at w no_ports lt)
          ∙ same ∙ sym (ap (λ (j : ℕ). (get_or ws j no_ports).due) e)
      | inr ne ↦ ap (λ (v : PortWord). v.due) (get_or-set_other ws at k w no_ports ne)
    ]

-- where all are without ports
pub lowest_none : (m : ℕ) → m < 2 ^ 16 → IsLowest (replicate m no_ports) m
lowest_none m few = record {
  few = omega (arith, few, length-replicate m no_ports);
  even = λ k lt. ap (λ (w : PortWord). w.due) (get_or-replicate m k no_ports no_ports lt);
  stops = λ lt z. absurd (omega (arith, lt, length-replicate m no_ports));
  fits = let none = ap (λ (w : PortWord). w.due) (get_or_past (replicate m no_ports) m no_ports (omega (arith, length-replicate m no_ports))) in omega (arith, none);
}

-- the first m of the words from `at` on
pub even_words : (f : PortWord) (rest : List PortWord) (n at b m : ℕ) → AreNumbers (f ∷ rest) n → 0 < at → b ≡ min (at - 1) (length rest)
    → m ≤ length (drop b rest) → All (λ (w : PortWord). w.due ≡ 0) (take m (drop b rest)) → (k : ℕ) → at ≤ k → k < at + m → IsEven (numbers (f ∷ rest) n) k
even_words f rest n at b m are from is within all k le lt =
    let ws = drop b rest in let j = k - at in let jm : j < m = omega (arith, le, lt) in
    let at_once : b ≡ at - 1 = omega (arith, is, within, length-drop b rest, jm) in
    let there : b + j ≡ k - 1 = omega (arith, at_once, le, from) in
    let none = All-get_or (λ (w : PortWord). w.due ≡ 0) (take m ws) j no_ports (omega (arith, jm, within, length-take m ws)) all in
    even_word f rest n k are (omega (arith, from, le)) (get_or rest (k - 1) no_ports) refl
    (ap (λ (i : ℕ). (get_or rest i no_ports).due) (sym there)
    ∙ ap (λ (w : PortWord). w.due) (sym (get_or-take m ws j no_ports jm ∙ get_or-drop b rest j no_ports)) ∙ none)

-- a word with a bit for a move that is due has an odd number
odd_of : (d o : ℕ) → d ≡ 1 → o < 2 → (d + 2 * o ≡ 1) ⊎ (d + 2 * o ≡ 3)
odd_of d zero one lt = inl (omega (arith, one))
odd_of d (suc zero) one lt = inr (omega (arith, one))
odd_of d (suc (suc o)) one lt = absurd (omega (arith, lt))

pos_of : (x : ℕ) → x ≢ 0 → 0 < x
pos_of zero some = absurd (some refl)
pos_of (suc x) some = omega arith

has_odd : (ns : List ℕ) (k : ℕ) (w : PortWord) → ((i : ℕ) → i < 64 → number_in w i ≡ get_or ns (64 * k + i) 0) → w.due ≢ 0 → w.due < 2 ^ 64 → HasOdd ns k
has_odd ns k w each some fits =
    let t = trailing_zeros w64 w.due in let f = bit_at-trailing_zeros w64 w.due (pos_of w.due some) fits in let tl : t < 64 = f.0 in
    record {
      place = t;
      within = tl;
      odd = subst (λ (x : ℕ). (x ≡ 1) ⊎ (x ≡ 3)) (each t tl) (odd_of (bit_at w.due t) (bit_at w.opened t) f.1 (bit_at-lt w.opened t));
    }

-- so the search stops past all words, or at one that has
pub stops_there : (f : PortWord) (rest : List PortWord) (n at b m : ℕ) → AreNumbers (f ∷ rest) n → 0 < at → b ≡ min (at - 1) (length rest)
    → m ≤ length (drop b rest) → (m < length (drop b rest) → (get_or (drop b rest) m no_ports).due ≢ 0)
    → (w : PortWord) → w ≡ get_or (f ∷ rest) (at + m) no_ports → w.due < 2 ^ 64 → (n ≤ 64 * (at + m)) ⊎ HasOdd (numbers (f ∷ rest) n) (at + m)
stops_there f rest n at b m are from is within stops w word fits =
    let ws = drop b rest in let all = f ∷ rest in
    elim (cases_lt m (length ws)) [
      | inl lt ↦
          let at_once : b ≡ at - 1 = omega (arith, is, length-drop b rest, lt) in let next : suc (b + m) ≡ at + m = omega (arith, at_once, from) in
          let found : get_or ws m no_ports ≡ w = get_or-drop b rest m no_ports ∙ ap (λ (k : ℕ). get_or all k no_ports) next ∙ sym word in
          inr (has_odd (numbers all n) (at + m) w (λ i il. ap (λ (v : PortWord). number_in v i) word ∙ word_numbers all n (at + m) i are il)
          (λ z. stops lt (ap (λ (v : PortWord). v.due) found ∙ z)) fits)
      | inr past ↦ let long : length all ≡ suc (length rest) = refl in let room = are.room in inl (omega (arith, room, long, is, length-drop b rest, past, within, from))
    ]

-- the lowest one with an odd number is one, or it is past all
pub lowest_odd : (f : PortWord) (rest : List PortWord) (n low : ℕ) → AreNumbers (f ∷ rest) n → IsLowest rest low → (n ≤ 64 * (low + 1)) ⊎ HasOdd (numbers (f ∷ rest) n) (low + 1)
lowest_odd f rest n low are is =
    let all = f ∷ rest in let w = get_or rest low no_ports in
    elim (cases_lt low (length rest)) [
      | inl lt ↦
          let next : suc low ≡ low + 1 = omega arith in
          let word : w ≡ get_or all (low + 1) no_ports = ap (λ (k : ℕ). get_or all k no_ports) next in
          inr (has_odd (numbers all n) (low + 1) w (λ i il. ap (λ (v : PortWord). number_in v i) word ∙ word_numbers all n (low + 1) i are il)
          (is.stops lt) is.fits)
      | inr past ↦ let long : length all ≡ suc (length rest) = refl in let room = are.room in inl (omega (arith, room, long, past))
    ]

number_none : (p : ℕ) → number_in no_ports p ≡ 0
number_none p = let z = bit_at-zero p in omega (arith, z)

pub number_none_at : (m p : ℕ) → number_at (no_ports ∷ replicate m no_ports) p ≡ 0
number_none_at m p =
    let ws = no_ports ∷ replicate m no_ports in
    let none : get_or ws (p / 64) no_ports ≡ no_ports = each m (p / 64) in
    ap (λ (w : PortWord). number_in w (p % 64)) none ∙ number_none (p % 64)
  where
    rest : (m i : ℕ) → get_or (replicate m no_ports) i no_ports ≡ no_ports
    rest zero i = refl
    rest (suc m) zero = refl
    rest (suc m) (suc i) = rest m i

    each : (m i : ℕ) → get_or (no_ports ∷ replicate m no_ports) i no_ports ≡ no_ports
    each m zero = refl
    each m (suc i) = rest m i

pub are_none : (m n : ℕ) → n ≤ 64 * suc m → n < 2 ^ 64 → AreNumbers (no_ports ∷ replicate m no_ports) n
are_none m n room small = record {
  room = omega (arith, room, length-replicate m no_ports);
  small = small;
  clear = λ p past. number_none_at m p;
}

pub numbers_none : (m n : ℕ) → numbers (no_ports ∷ replicate m no_ports) n ≡ replicate n 0
numbers_none m n =
    let ws = no_ports ∷ replicate m no_ports in let zero_of : ℕ = 0 in
    ext_get_or 0 (numbers ws n) (replicate n 0) (length-numbers ws n ∙ sym (length-replicate n zero_of)) (λ j within.
    let below : j < n = omega (arith, length-numbers ws n) in
    get-numbers ws n j below ∙ number_none_at m j ∙ sym (get_or-replicate n j 0 0 below))

-- the words were filled between two places
module _ (ws vs : List PortWord) (n from to s : ℕ) (are : AreNumbers ws n) (len : length vs ≡ length ws) (filled : (p : ℕ) → number_at vs p ≡ (if between from to p then s else number_at ws p)) where
  within : to ≤ n → (p : ℕ) → n ≤ p → between from to p ≡ false
  within le p past = grind (arith, le, past)

  pub are_filled : to ≤ n → AreNumbers vs n
  are_filled le = record {
    room = omega (arith, are.room, len);
    small = are.small;
    clear = λ p past. filled p ∙ ap (λ (b : Bool). if b then s else number_at ws p) (within le p past) ∙ are.clear p past;
  }

  pub each_filled : to ≤ n → (p : ℕ) → get_or (numbers vs n) p 0 ≡ (if between from to p then s else get_or (numbers ws n) p 0)
  each_filled le p = any-number vs n p (are_filled le) ∙ filled p ∙ ap (λ (x : ℕ). if between from to p then s else x) (sym (any-number ws n p are))

-- one place was
only : (k j : ℕ) → (j ≡ k → ⊥) → between k (k + 1) j ≡ false
only k j ne = grind (arith, ne)

pub only_here : (k j : ℕ) → between k (k + 1) j ≡ true → j ≡ k
only_here k j is = elim (cases_eq j k) [ inl e ↦ e | inr ne ↦ absurd (let f = only k j ne in cc) ]

pub one_filled : (ws vs : List PortWord) (n k s : ℕ) → AreNumbers ws n → length vs ≡ length ws → ((p : ℕ) → number_at vs p ≡ (if between k (k + 1) p then s else number_at ws p)) → k < n → numbers vs n ≡ set (numbers ws n) k s
one_filled ws vs n k s are len filled lt =
    let old = numbers ws n in let new = numbers vs n in
    ext_get_or 0 new (set old k s) (length-numbers vs n ∙ sym (length-set old k s ∙ length-numbers ws n)) (λ j in'.
    let each = each_filled ws vs n k (k + 1) s are len filled (omega arith) j in
    elim (cases_eq j k) [
      | inl e ↦ let b : between k (k + 1) j ≡ true = grind (arith, e) in
          each ∙ ap (λ (b : Bool). if b then s else get_or old j 0) b ∙ sym (ap (λ (m : ℕ). get_or (set old k s) m 0) e ∙ get_or-set_same old k s 0 (omega (arith, length-numbers ws n)))
      | inr f ↦ each ∙ ap (λ (b : Bool). if b then s else get_or old j 0) (only k j f) ∙ sym (get_or-set_other old k j s 0 f)
    ])

leb_same : (a b c d : ℕ) → (a ≤ b → c ≤ d) → (c ≤ d → a ≤ b) → nat_le a b ≡ nat_le c d
leb_same a b c d to back =
    elim (cases_lt b a) [
      | inl lt ↦ lt-leb a b lt ∙ sym (lt-leb c d (elim (cases_lt d c) [ inl l ↦ l | inr ge ↦ absurd (let le = back ge in omega (arith, le, lt)) ]))
      | inr ge ↦ le-leb a b ge ∙ sym (le-leb c d (to ge))
    ]

-- the places of a word that lie between two ports
pub window : (from to start i s : ℕ) → s ≡ from - start → start < to → (nat_le s i && not (nat_le (to - start) i)) ≡ between from to (start + i)
window from to start i s is lt =
    ap (λ (b : Bool). b && not (nat_le (to - start) i)) (leb_same s i from (start + i) (λ le. omega (arith, is, le)) (λ le. omega (arith, is, le)))
    ∙ ap (λ (b : Bool). nat_le from (start + i) && b) (elim (cases_lt i (to - start)) [
      | inl below ↦ ap not (lt-leb (to - start) i below) ∙ sym (lt-ltb (start + i) to (omega (arith, below)))
      | inr past ↦ ap not (le-leb (to - start) i past) ∙ sym (le-ltb (start + i) to (omega (arith, past, lt)))
    ])

pub set_tail : {X : Type 0} (x v : X) (xs : List X) (at : ℕ) → (at ≡ 0 → ⊥) → x ∷ set xs (at - 1) v ≡ set (x ∷ xs) at v
set_tail x v xs zero ne = absurd (ne refl)
set_tail x v xs (suc at) ne = let e : suc at - 1 ≡ at = omega arith in ap (λ (k : ℕ). x ∷ set xs k v) e

pub get_tail : {X : Type 0} (x d : X) (xs : List X) (at : ℕ) → (at ≡ 0 → ⊥) → get_or xs (at - 1) d ≡ get_or (x ∷ xs) at d
get_tail x d xs zero ne = absurd (ne refl)
get_tail x d xs (suc at) ne = let e : suc at - 1 ≡ at = omega arith in ap (λ (k : ℕ). get_or xs k d) e

pub set_beyond : {X : Type 0} (ys : List X) (k : ℕ) (v : X) → length ys ≤ k → set ys k v ≡ ys
set_beyond [] k v le = refl
set_beyond (y ∷ ys) zero v le = absurd (omega arith)
set_beyond (y ∷ ys) (suc k) v le = ap (λ l. y ∷ l) (set_beyond ys k v (omega arith))

pub set_past : {X : Type 0} (x v : X) (xs : List X) (at : ℕ) → length xs < at → x ∷ xs ≡ set (x ∷ xs) at v
set_past x v xs at lt = sym (set_beyond (x ∷ xs) at v (omega arith))

and_no : (b : Bool) (s x : ℕ) → (if b && false then s else x) ≡ x
and_no true s x = refl
and_no false s x = refl

and_yes : (b : Bool) (s x : ℕ) → (if b then s else x) ≡ (if b && true then s else x)
and_yes true s x = refl
and_yes false s x = refl

-- the word whose only 1 is at a place
pub one_place : (k i : ℕ) → k < 64 → (bit_at (1 * 2 ^ k % 2 ^ 64) i == 1) ≡ between k (k + 1) i
one_place k i lt =
    ap (λ (x : ℕ). bit_at x i == 1) (one_shl k 64 lt) ∙ elim (cases_eq i k) [
      | inl e ↦ let b : between k (k + 1) i ≡ true = grind (arith, e) in
          ap (λ (m : ℕ). bit_at (2 ^ k) m == 1) e ∙ ap (λ (x : ℕ). x == 1) (bit_at-pow_same k) ∙ sym b
      | inr f ↦ ap (λ (x : ℕ). x == 1) (bit_at-pow_other k i f) ∙ sym (only k i f)
    ]

-- a port among all, and in its word
pub in_word : (port i : ℕ) → between (port % 64) (port % 64 + 1) i ≡ between port (port + 1) (64 * (port / 64) + i)
in_word port i =
    let m = port % 64 in let p = 64 * (port / 64) + i in
    ap (λ (b : Bool). b && nat_lt i (m + 1)) (leb_same m i port p (λ le. omega (arith, le)) (λ le. omega (arith, le)))
    ∙ ap (λ (b : Bool). nat_le port p && b) (leb_same (suc i) (m + 1) (suc p) (port + 1) (λ le. omega (arith, le)) (λ le. omega (arith, le)))

-- one place of the first word has this number now
pub first_put : (f w : PortWord) (rest : List PortWord) (n k s : ℕ) → AreNumbers (f ∷ rest) n → k < n
    → ((i : ℕ) → i < 64 → number_in w i ≡ (if between k (k + 1) i then s else number_in f i))
    → k < 64 → numbers (w ∷ rest) n ≡ set (numbers (f ∷ rest) n) k s
first_put f w rest n k s are lt put near =
    one_filled (f ∷ rest) (w ∷ rest) n k s are refl each lt
  where
    each : (p : ℕ) → number_at (w ∷ rest) p ≡ (if between k (k + 1) p then s else number_at (f ∷ rest) p)
    each p =
        let i = p % 64 in
        elim (cases_lt p 64) [
          | inl below ↦ let z : p / 64 ≡ 0 = omega (arith, below) in let il : i < 64 = omega arith in let m : i ≡ p = omega (arith, below) in
              ap (λ (at : ℕ). number_in (get_or (w ∷ rest) at no_ports) i) z ∙ put i il
              ∙ ap (λ (m : ℕ). if between k (k + 1) m then s else number_in f i) m
              ∙ ap (λ (x : ℕ). if between k (k + 1) p then s else x) (sym (ap (λ (at : ℕ). number_in (get_or (f ∷ rest) at no_ports) i) z))
          | inr past ↦ let e : p / 64 ≡ suc (p / 64 - 1) = omega (arith, past) in
              ap (λ (at : ℕ). number_in (get_or (w ∷ rest) at no_ports) i) e
              ∙ sym (ap (λ (at : ℕ). number_in (get_or (f ∷ rest) at no_ports) i) e)
              ∙ sym (ap (λ (b : Bool). if b then s else number_at (f ∷ rest) p) (only k p (λ same. omega (arith, same, past, near))))
        ]

-- it was filled
pub first_filled : (f w : PortWord) (rest : List PortWord) (n k s mask : ℕ) → AreNumbers (f ∷ rest) n → k < n
    → ((i : ℕ) → i < 64 → (bit_at mask i == 1) ≡ between k (k + 1) i)
    → ((i : ℕ) → i < 64 → number_in w i ≡ (if bit_at mask i == 1 then s else number_in f i))
    → k < 64 → numbers (w ∷ rest) n ≡ set (numbers (f ∷ rest) n) k s
first_filled f w rest n k s mask are lt masks filled near =
    first_put f w rest n k s are lt (λ i il. filled i il ∙ ap (λ (b : Bool). if b then s else number_in f i) (masks i il)) near

-- its number was changed
pub first_changed : (g : ℕ → ℕ) (f w : PortWord) (rest : List PortWord) (n k : ℕ) → AreNumbers (f ∷ rest) n → k < n
    → ((i : ℕ) → i < 64 → number_in w i ≡ (if between k (k + 1) i then g (number_in f i) else number_in f i))
    → k < 64 → numbers (w ∷ rest) n ≡ set (numbers (f ∷ rest) n) k (g (get_or (numbers (f ∷ rest) n) k 0))
first_changed g f w rest n k are lt changed near =
    first_put f w rest n k (g (number_in f k)) are lt (λ i il. changed i il ∙ here i) near
    ∙ ap (λ (x : ℕ). set (numbers (f ∷ rest) n) k (g x)) (sym (near-number f rest n k are near))
  where
    here : (i : ℕ) → (if between k (k + 1) i then g (number_in f i) else number_in f i) ≡ (if between k (k + 1) i then g (number_in f k) else number_in f i)
    here i = elim (cases_eq i k) [
      | inl e ↦ ap (λ (m : ℕ). if between k (k + 1) i then g (number_in f m) else number_in f i) e
      | inr ne ↦ ap (λ (b : Bool). if b then g (number_in f i) else number_in f i) (only k i ne) ∙ sym (ap (λ (b : Bool). if b then g (number_in f k) else number_in f i) (only k i ne))
    ]

-- and no other
pub unchanged : (g : ℕ → ℕ) (f w : PortWord) (k i : ℕ) → ((i : ℕ) → i < 64 → number_in w i ≡ (if between k (k + 1) i then g (number_in f i) else number_in f i)) → i < 64 → (i ≡ k → ⊥) → number_in w i ≡ number_in f i
unchanged g f w k i changed lt ne = changed i lt ∙ ap (λ (b : Bool). if b then g (number_in f i) else number_in f i) (only k i ne)

-- with another word in front
pub are_changed : (g : ℕ → ℕ) (f w : PortWord) (rest : List PortWord) (n k : ℕ) → AreNumbers (f ∷ rest) n → k < n
    → ((i : ℕ) → i < 64 → number_in w i ≡ (if between k (k + 1) i then g (number_in f i) else number_in f i))
    → k < 64 → AreNumbers (w ∷ rest) n
are_changed g f w rest n k are lt changed near = record {
  room = are.room;
  small = are.small;
  clear = λ p past. elim (cases_lt p 64) [
    | inl below ↦
        let z : p / 64 ≡ 0 = omega (arith, below) in let m : p % 64 ≡ p = omega (arith, below) in
        ap (λ (at : ℕ). number_in (get_or (w ∷ rest) at no_ports) (p % 64)) z ∙ ap (number_in w) m ∙ changed p below
        ∙ ap (λ (b : Bool). if b then g (number_in f p) else number_in f p) (only k p (λ e. omega (arith, e, past, lt)))
        ∙ sym (ap (λ (at : ℕ). number_in (get_or (f ∷ rest) at no_ports) (p % 64)) z ∙ ap (number_in f) m) ∙ are.clear p past
    | inr far ↦ let e : p / 64 ≡ suc (p / 64 - 1) = omega (arith, far) in
        ap (λ (at : ℕ). number_in (get_or (w ∷ rest) at no_ports) (p % 64)) e
        ∙ sym (ap (λ (at : ℕ). number_in (get_or (f ∷ rest) at no_ports) (p % 64)) e) ∙ are.clear p past
  ];
}

-- the places of it between two were filled
pub are_between : (f w : PortWord) (rest : List PortWord) (from to s mask p : ℕ) → to ≤ 64
    → ((i : ℕ) → i < 64 → (bit_at mask i == 1) ≡ between from to (64 * 0 + i))
    → ((i : ℕ) → i < 64 → number_in w i ≡ (if bit_at mask i == 1 then s else number_in f i))
    → number_at (w ∷ rest) p ≡ (if between from to p then s else number_at (f ∷ rest) p)
are_between f w rest from to s mask p near masks filled =
    let i = p % 64 in
    elim (cases_lt p 64) [
      | inl below ↦ let z : p / 64 ≡ 0 = omega (arith, below) in let il : i < 64 = omega arith in let m : 64 * 0 + i ≡ p = omega (arith, below) in
          ap (λ (at : ℕ). number_in (get_or (w ∷ rest) at no_ports) i) z ∙ filled i il
          ∙ ap (λ (b : Bool). if b then s else number_in f i) (masks i il ∙ ap (between from to) m)
          ∙ ap (λ (x : ℕ). if between from to p then s else x) (sym (ap (λ (at : ℕ). number_in (get_or (f ∷ rest) at no_ports) i) z))
      | inr past ↦ let e : p / 64 ≡ suc (p / 64 - 1) = omega (arith, past) in
          let out : between from to p ≡ false = grind (arith, past, near) in
          ap (λ (at : ℕ). number_in (get_or (w ∷ rest) at no_ports) i) e
          ∙ sym (ap (λ (at : ℕ). number_in (get_or (f ∷ rest) at no_ports) i) e)
          ∙ sym (ap (λ (b : Bool). if b then s else number_at (f ∷ rest) p) out)
    ]

-- a number is from 0 to 3
pub number_small : (ws : List PortWord) (n p : ℕ) → AreNumbers ws n → get_or (numbers ws n) p 0 < 4
number_small ws n p are =
    let w = get_or ws (p / 64) no_ports in
    omega (arith, any-number ws n p are, bit_at-lt w.due (p % 64), bit_at-lt w.opened (p % 64))

-- one word is filled
pub word_filled : (ws : List PortWord) (from to at s mask : ℕ) (w : PortWord) → at < length ws → ((i : ℕ) → i < 64 → (bit_at mask i == 1) ≡ between from to (64 * at + i))
    → ((i : ℕ) → i < 64 → number_in w i ≡ (if bit_at mask i == 1 then s else number_in (get_or ws at no_ports) i))
    → FilledIn ws (set ws at w) from to s at (at + 1)
word_filled ws from to at s mask w in' masks filled p =
    let i = p % 64 in let il : i < 64 = omega arith in let b = between from to p in
    elim (cases_eq (p / 64) at) [
      | inl e ↦ let back : 64 * at + i ≡ p = omega (arith, e) in let here : between at (at + 1) (p / 64) ≡ true = grind (arith, e) in
          ap (λ (m : ℕ). number_in (get_or (set ws at w) m no_ports) i) e
          ∙ ap (λ (v : PortWord). number_in v i) (get_or-set_same ws at w no_ports in')
          ∙ filled i il
          ∙ ap (λ (c : Bool). if c then s else number_in (get_or ws at no_ports) i) (masks i il ∙ ap (between from to) back)
          ∙ ap (λ (x : ℕ). if b then s else x) (ap (λ (m : ℕ). number_in (get_or ws m no_ports) i) (sym e))
          ∙ and_yes b s (number_at ws p)
          ∙ ap (λ (c : Bool). if b && c then s else number_at ws p) (sym here)
      | inr f ↦ ap (λ (v : PortWord). number_in v i) (get_or-set_other ws at (p / 64) w no_ports f)
          ∙ sym (ap (λ (c : Bool). if b && c then s else number_at ws p) (only at (p / 64) f) ∙ and_no b s (number_at ws p))
    ]

-- the number at one place of it is changed
pub one_changed : (g : ℕ → ℕ) (ws : List PortWord) (w : PortWord) (k : ℕ) → k / 64 < length ws
    → ((i : ℕ) → i < 64 → number_in w i ≡ (if between (k % 64) (k % 64 + 1) i then g (number_in (get_or ws (k / 64) no_ports) i) else number_in (get_or ws (k / 64) no_ports) i))
    → (p : ℕ) → number_at (set ws (k / 64) w) p ≡ (if between k (k + 1) p then g (number_at ws k) else number_at ws p)
one_changed g ws w k held changed p =
    let at = k / 64 in let m = k % 64 in let i = p % 64 in let old = get_or ws at no_ports in
    let there = get_or-set_same ws at w no_ports held in
    elim (cases_eq p k) [
      | inl e ↦ let here : between m (m + 1) m ≡ true = grind (arith) in let yes : between k (k + 1) p ≡ true = grind (arith, e) in
          ap (number_at (set ws at w)) e ∙ ap (λ (v : PortWord). number_in v m) there ∙ changed m (omega arith)
          ∙ ap (λ (b : Bool). if b then g (number_in old m) else number_in old m) here
          ∙ sym (ap (λ (b : Bool). if b then g (number_at ws k) else number_at ws p) yes)
      | inr f ↦ sym (ap (λ (b : Bool). if b then g (number_at ws k) else number_at ws p) (only k p f) ∙ sym (elim (cases_eq (p / 64) at) [
        | inl e ↦ ap (λ (q : ℕ). number_in (get_or (set ws at w) q no_ports) i) e ∙ ap (λ (v : PortWord). number_in v i) there ∙ changed i (omega arith)
            ∙ ap (λ (b : Bool). if b then g (number_in old i) else number_in old i) (only m i (λ d. f (omega (arith, d, e))))
            ∙ sym (ap (λ (q : ℕ). number_in (get_or ws q no_ports) i) e)
        | inr ne ↦ ap (λ (v : PortWord). number_in v i) (get_or-set_other ws at (p / 64) w no_ports ne)
      ]))
    ]

-- or whole words are
words_filled : (ws vs : List PortWord) (from to s a b : ℕ) (word : PortWord) → ((k : ℕ) → get_or vs k no_ports ≡ (if between a b k then word else get_or ws k no_ports))
    → ((i : ℕ) → i < 64 → number_in word i ≡ s) → from ≤ 64 * a → 64 * b ≤ to → FilledIn ws vs from to s a b
words_filled ws vs from to s a b word each whole low high p =
    let i = p % 64 in let q = p / 64 in let il : i < 64 = omega arith in let out = between from to p in
    ap (λ (w : PortWord). number_in w i) (each q) ∙ elim (cases_lt q a) [
      | inl lt ↦ let no : between a b q ≡ false = grind (arith, lt) in
          ap (λ (c : Bool). number_in (if c then word else get_or ws q no_ports) i) no
          ∙ sym (ap (λ (c : Bool). if out && c then s else number_at ws p) no ∙ and_no out s (number_at ws p))
      | inr ge ↦ elim (cases_lt q b) [
        | inl lt ↦ let yes : between a b q ≡ true = grind (arith, ge, lt) in
            let from_le : from ≤ p = omega (arith, ge, low) in let to_gt : p < to = omega (arith, lt, high) in
            let all : out ≡ true = grind (arith, from_le, to_gt) in
            ap (λ (c : Bool). number_in (if c then word else get_or ws q no_ports) i) yes ∙ whole i il
            ∙ sym (ap (λ (c : Bool). if out && c then s else number_at ws p) yes ∙ ap (λ (c : Bool). if c && true then s else number_at ws p) all)
        | inr past ↦ let no : between a b q ≡ false = grind (arith, past) in
            ap (λ (c : Bool). number_in (if c then word else get_or ws q no_ports) i) no
            ∙ sym (ap (λ (c : Bool). if out && c then s else number_at ws p) no ∙ and_no out s (number_at ws p))
      ]
    ]

-- those from place a + 1 to before b, of which the first word of all is none
pub put_at : (f word : PortWord) (rest ys : List PortWord) (a b : ℕ) → a < b → b ≤ suc (length rest) → ys ≡ replicate (b - 1 - a) word
    → (j : ℕ) → get_or (f ∷ put_mid a (b - 1 - a) rest ys) j no_ports ≡ (if between (a + 1) b j then word else get_or (f ∷ rest) j no_ports)
put_at f word rest ys a b some held same zero =
    let no : between (a + 1) b 0 ≡ false = grind (arith) in sym (ap (λ (c : Bool). if c then word else f) no)
put_at f word rest ys a b some held same (suc j) =
    let k = b - 1 - a in let front = take a rest in let back = drop k (drop a rest) in let left = get_or rest j no_ports in
    let front_len : length front ≡ a = length-take a rest ∙ omega (arith, some, held) in let ys_len : length ys ≡ k = ap length same ∙ length-replicate k word in
    elim (cases_lt j a) [
      | inl lt ↦ let no : between (a + 1) b (suc j) ≡ false = grind (arith, lt) in
          get_or_append_left front (ys ++ back) no_ports j (omega (arith, lt, front_len)) ∙ get_or-take a rest j no_ports lt
          ∙ sym (ap (λ (c : Bool). if c then word else left) no)
      | inr ge ↦ get_or-append_right front (ys ++ back) a j no_ports front_len ge ∙ elim (cases_lt (suc j) b) [
        | inl lt ↦ let yes : between (a + 1) b (suc j) ≡ true = grind (arith, lt, ge) in let within : j - a < k = omega (arith, lt, ge) in
            get_or_append_left ys back no_ports (j - a) (omega (arith, within, ys_len)) ∙ ap (λ (l : List PortWord). get_or l (j - a) no_ports) same
            ∙ get_or-replicate k (j - a) word no_ports within ∙ sym (ap (λ (c : Bool). if c then word else left) yes)
        | inr past ↦ let no : between (a + 1) b (suc j) ≡ false = grind (arith, past) in
            let there : a + (k + (j - a - k)) ≡ j = omega (arith, past, ge, some) in
            get_or-append_right ys back k (j - a) no_ports ys_len (omega (arith, past)) ∙ get_or-drop k (drop a rest) (j - a - k) no_ports ∙ get_or-drop a rest (k + (j - a - k)) no_ports
            ∙ ap (λ (m : ℕ). get_or rest m no_ports) there ∙ sym (ap (λ (c : Bool). if c then word else left) no)
      ]
    ]

mid_long : (rest : List PortWord) (a b : ℕ) → a < b → b ≤ suc (length rest) → length (take (b - 1 - a) (drop a rest)) ≡ b - 1 - a
mid_long rest a b some held = length-take (b - 1 - a) (drop a rest) ∙ omega (arith, some, held, length-drop a rest)

pub whole_filled : (f word : PortWord) (rest ys : List PortWord) (from to s a b : ℕ) → a < b → b ≤ suc (length rest) → from ≤ 64 * (a + 1) → 64 * b ≤ to
    → ys ≡ replicate (length (take (b - 1 - a) (drop a rest))) word → ((i : ℕ) → i < 64 → number_in word i ≡ s)
    → FilledIn (f ∷ rest) (f ∷ put_mid a (b - 1 - a) rest ys) from to s (a + 1) b
whole_filled f word rest ys from to s a b some held low high same whole =
    words_filled (f ∷ rest) (f ∷ put_mid a (b - 1 - a) rest ys) from to s (a + 1) b word
    (put_at f word rest ys a b some held (same ∙ ap (λ (n : ℕ). replicate n word) (mid_long rest a b some held))) whole low high

-- of these no port is due, if none of the word is
pub whole_even : (f word : PortWord) (rest ys : List PortWord) (a b : ℕ) → a < b → b ≤ suc (length rest)
    → ys ≡ replicate (length (take (b - 1 - a) (drop a rest))) word → word.due ≡ 0 → (k : ℕ) → a ≤ k → suc k < b → (get_or (put_mid a (b - 1 - a) rest ys) k no_ports).due ≡ 0
whole_even f word rest ys a b some held same even k le lt =
    let yes : between (a + 1) b (suc k) ≡ true = grind (arith, le, lt) in
    ap (λ (w : PortWord). w.due) (put_at f word rest ys a b some held (same ∙ ap (λ (n : ℕ). replicate n word) (mid_long rest a b some held)) (suc k)
    ∙ ap (λ (c : Bool). if c then word else get_or rest k no_ports) yes) ∙ even

-- then those that follow
filled_twice : (out c d : Bool) (s x : ℕ) → (if out && c then s else (if out && d then s else x)) ≡ (if out && (d || c) then s else x)
filled_twice true true true s x = refl
filled_twice true true false s x = refl
filled_twice true false true s x = refl
filled_twice true false false s x = refl
filled_twice false c d s x = refl

pub filled_on : (ws vs us : List PortWord) (from to s a b c : ℕ) → a ≤ b → b ≤ c → FilledIn ws vs from to s a b → FilledIn vs us from to s b c → FilledIn ws us from to s a c
filled_on ws vs us from to s a b c ab bc one two p =
    let q = p / 64 in let out = between from to p in
    let joined : (between a b q || between b c q) ≡ between a c q = elim (cases_lt q b) [ inl lt ↦ grind (arith, lt, bc) | inr ge ↦ grind (arith, ge, ab) ] in
    two p ∙ ap (λ (x : ℕ). if out && between b c q then s else x) (one p) ∙ filled_twice out (between b c q) (between a b q) s (number_at ws p)
    ∙ ap (λ (d : Bool). if out && d then s else number_at ws p) joined

-- so all are
pub filled_all : (ws vs : List PortWord) (from to s a b : ℕ) → 64 * a ≤ from → to ≤ 64 * b → FilledIn ws vs from to s a b → (p : ℕ) → number_at vs p ≡ (if between from to p then s else number_at ws p)
filled_all ws vs from to s a b low high filled p =
    let q = p / 64 in
    filled p ∙ elim (cases_lt p from) [
      | inl lt ↦ let no : between from to p ≡ false = grind (arith, lt) in
          ap (λ (c : Bool). if c && between a b q then s else number_at ws p) no ∙ sym (ap (λ (c : Bool). if c then s else number_at ws p) no)
      | inr ge ↦ elim (cases_lt p to) [
        | inl lt ↦ let in' : a ≤ q = omega (arith, ge, low) in let in'' : q < b = omega (arith, lt, high) in
            let yes : between a b q ≡ true = grind (arith, in', in'') in
            ap (λ (c : Bool). if between from to p && c then s else number_at ws p) yes ∙ sym (and_yes (between from to p) s (number_at ws p))
        | inr past ↦ let no : between from to p ≡ false = grind (arith, past) in
            ap (λ (c : Bool). if c && between a b q then s else number_at ws p) no ∙ sym (ap (λ (c : Bool). if c then s else number_at ws p) no)
      ]
    ]

-- one bit of a row is written
module _ (ws vs : List ℕ) (port v : ℕ) (b : ℕ) (is : vs ≡ set ws (port / 64) v) (lt : port < 64 * length ws) (bits : (i : ℕ) → i < 64 → bit_at v i ≡ (if between (port % 64) (port % 64 + 1) i then b else bit_at (get_or ws (port / 64) 0) i)) where
  at_word : (k : ℕ) → k / 64 ≡ port / 64 → bit_of vs k ≡ (if between (port % 64) (port % 64 + 1) (k % 64) then b else bit_of ws k)
  at_word k e =
      let i = k % 64 in
      ap (λ (l : List ℕ). bit_of l k) is ∙ ap (λ (m : ℕ). bit_at (get_or (set ws (port / 64) v) m 0) i) e
      ∙ ap (λ (x : ℕ). bit_at x i) (get_or-set_same ws (port / 64) v 0 (omega arith)) ∙ bits i (omega arith)
      ∙ ap (λ (m : ℕ). if between (port % 64) (port % 64 + 1) i then b else bit_at (get_or ws m 0) i) (sym e)

  pub put_here : bit_of vs port ≡ b
  put_here = let e : between (port % 64) (port % 64 + 1) (port % 64) ≡ true = one_in (port % 64) in at_word port refl ∙ ap (λ (c : Bool). if c then b else bit_of ws port) e
    where
      one_in : (m : ℕ) → between m (m + 1) m ≡ true
      one_in m = ap (λ (c : Bool). c && nat_lt m (m + 1)) (le-leb m m (omega arith)) ∙ lt-ltb m (m + 1) (omega arith)

  pub put_other : (k : ℕ) → (k ≡ port → ⊥) → bit_of vs k ≡ bit_of ws k
  put_other k ne =
      elim (cases_eq (k / 64) (port / 64)) [
        | inl e ↦ at_word k e ∙ ap (λ (c : Bool). if c then b else bit_of ws k) (only (port % 64) (k % 64) (λ f. ne (omega (arith, e, f))))
        | inr f ↦ ap (λ (l : List ℕ). bit_of l k) is ∙ ap (λ (x : ℕ). bit_at x (k % 64)) (get_or-set_other ws (port / 64) (k / 64) v 0 f)
      ]

pub mask_with : (v w m b n : ℕ) → ((i : ℕ) → i < 64 → bit_at v i ≡ (if bit_at m i == 1 then b else bit_at w i)) → ((i : ℕ) → i < 64 → (bit_at m i == 1) ≡ between n (n + 1) i) → (u : ℕ) → w ≡ u → (i : ℕ) → i < 64 → bit_at v i ≡ (if between n (n + 1) i then b else bit_at u i)
mask_with v w m b n bits masks u is i lt =
    bits i lt ∙ ap (λ (c : Bool). if c then b else bit_at w i) (masks i lt) ∙ ap (λ (x : ℕ). if between n (n + 1) i then b else bit_at x i) is

-- a number of two bits is 2 or 3 where its higher bit is 1
high_is : (low high : ℕ) → low < 2 → high < 2 → (high == 1) ≡ nat_le 2 (low + 2 * high)
high_is zero zero l h = refl
high_is zero (suc zero) l h = refl
high_is (suc zero) zero l h = refl
high_is (suc zero) (suc zero) l h = refl
high_is (suc (suc low)) high l h = absurd (omega (arith, l))
high_is zero (suc (suc high)) l h = absurd (omega (arith, h))
high_is (suc zero) (suc (suc high)) l h = absurd (omega (arith, h))

pub number_high : (w : PortWord) (i : ℕ) → (bit_at w.opened i == 1) ≡ nat_le 2 (number_in w i)
number_high w i = high_is (bit_at w.due i) (bit_at w.opened i) (bit_at-lt w.due i) (bit_at-lt w.opened i)

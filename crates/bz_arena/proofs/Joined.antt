-- The nodes of full chunks, by the place in the whole list.
use Rattle.std.proofs.Common.{◌≡◌, ◌≢◌, ℕ, zero, suc, ◌+◌, ◌-◌, ◌*◌, ◌<◌, List, [], ◌∷◌, ◌++◌, length, get_or, set, refl, sym, ap, ◌∙◌, arith, append_assoc, zero-add, ◌/◌, ◌%◌}
use Rattle.std.proofs.lemmas.List.{length-append, get_or_append_left, get_or-append_right, set-append_left, set-append_right, append-nil, length-set, set-set, get_or-set_same, get_or-set_other}
use Rattle.bz_arena.specs.declared.chunk.FullChunk.{FullChunk}
use Rattle.bz_arena.specs.Chunks.{joined}
use Rattle.bz_arena.specs.Lends.{with_node}
use Rattle.bz_arena.proofs.Pairs.{set_both, read_front, read_back}

module _ {X A : Type 0} where
  pub length-joined : (fs : List (FullChunk X A)) → length (joined fs) ≡ 256 * length fs
  length-joined [] = refl
  length-joined (f ∷ fs) = omega (arith, length-append f.chunk (joined fs), f.whole, length-joined fs)

  get_row : (fs : List (FullChunk X A)) (k j : ℕ) (d : FullChunk X A) (e : X) → k < length fs → j < 256 → get_or (joined fs) (256 * k + j) e ≡ get_or (get_or fs k d).chunk j e
  get_row [] k j d e kl jl = absurd (omega arith)
  get_row (f ∷ fs) zero j d e kl jl = ap (λ (i : ℕ). get_or (f.chunk ++ joined fs) i e) (zero-add j) ∙ get_or_append_left f.chunk (joined fs) e j (omega (arith, f.whole))
  get_row (f ∷ fs) (suc k) j d e kl jl =
      let past : 256 * suc k + j - 256 ≡ 256 * k + j = omega arith in
      get_or-append_right f.chunk (joined fs) 256 (256 * suc k + j) e f.whole (omega arith) ∙ ap (λ (i : ℕ). get_or (joined fs) i e) past ∙ get_row fs k j d e (omega arith) jl

  set_row : (fs : List (FullChunk X A)) (k j : ℕ) (d c : FullChunk X A) (w : X) → k < length fs → j < 256 → c.chunk ≡ set (get_or fs k d).chunk j w
      → joined (set fs k c) ≡ set (joined fs) (256 * k + j) w
  set_row [] k j d c w kl jl e = absurd (omega arith)
  set_row (f ∷ fs) zero j d c w kl jl e =
      ap (λ (l : List X). l ++ joined fs) e ∙ sym (ap (λ (i : ℕ). set (f.chunk ++ joined fs) i w) (zero-add j) ∙ set-append_left f.chunk (joined fs) j w (omega (arith, f.whole)))
  set_row (f ∷ fs) (suc k) j d c w kl jl e =
      let past : 256 * suc k + j - 256 ≡ 256 * k + j = omega arith in
      ap (λ (l : List X). f.chunk ++ l) (set_row fs k j d c w (omega arith) jl e)
      ∙ sym (set-append_right f.chunk (joined fs) 256 (256 * suc k + j) w f.whole (omega arith) ∙ ap (λ (i : ℕ). f.chunk ++ set (joined fs) i w) past)

  pub joined_more : (fs : List (FullChunk X A)) (c : FullChunk X A) → joined (fs ++ c ∷ []) ≡ joined fs ++ c.chunk
  joined_more [] c = append-nil c.chunk
  joined_more (f ∷ fs) c = ap (λ (l : List X). f.chunk ++ l) (joined_more fs c) ∙ sym (append_assoc f.chunk (joined fs) c.chunk)

  module _ (fs : List (FullChunk X A)) (i : ℕ) (lt : i < length (joined fs)) where
    parts : 256 * (i / 256) + i % 256 ≡ i
    parts = omega arith

    small : i % 256 < 256
    small = omega arith

    pub chunk_in : i / 256 < length fs
    chunk_in = omega (arith, length-joined fs)

    pub node_get : (d : FullChunk X A) (e : X) → get_or (joined fs) i e ≡ get_or (get_or fs (i / 256) d).chunk (i % 256) e
    node_get d e = ap (λ (n : ℕ). get_or (joined fs) n e) (sym parts) ∙ get_row fs (i / 256) (i % 256) d e chunk_in small

    pub node_set : (d c : FullChunk X A) (w : X) → c.chunk ≡ set (get_or fs (i / 256) d).chunk (i % 256) w → joined (set fs (i / 256) c) ≡ set (joined fs) i w
    node_set d c w e = set_row fs (i / 256) (i % 256) d c w chunk_in small e ∙ ap (λ (n : ℕ). set (joined fs) n w) parts

  -- two nodes of one chunk
  module _ (fs : List (FullChunk X A)) (a b : ℕ) (al : a < length (joined fs)) (bl : b < length (joined fs)) (d c : FullChunk X A) (x y : X) where
    pub pair_set_one : a / 256 ≡ b / 256 → c.chunk ≡ set (set (get_or fs (a / 256) d).chunk (a % 256) x) (b % 256) y → joined (set fs (a / 256) c) ≡ set (set (joined fs) a x) b y
    pair_set_one same e =
        let k = a / 256 in let inner = with_node (get_or fs k d) (a % 256) x in let gs = set fs k inner in
        let read : get_or gs (b / 256) d ≡ inner = ap (λ (n : ℕ). get_or gs n d) (sym same) ∙ get_or-set_same fs k inner d (chunk_in fs a al) in
        let step : joined gs ≡ set (joined fs) a x = node_set fs a al d inner x refl in
        let bl' : b < length (joined gs) = omega (arith, ap length step, length-set (joined fs) a x) in
        ap joined (sym (set-set fs k inner c)) ∙ ap (λ (n : ℕ). joined (set gs n c)) same
        ∙ node_set gs b bl' d c y (e ∙ ap (λ (f : FullChunk X A). set f.chunk (b % 256) y) (sym read)) ∙ ap (λ (l : List X). set l b y) step

  -- and of two chunks, which lie on the two sides of a cut
  module _ (fs front back : List (FullChunk X A)) (whole : fs ≡ front ++ back) (a b : ℕ) (al : a < length (joined fs)) (bl : b < length (joined fs)) (d e : FullChunk X A) (x y : X) where
    pair_set_two : (p q : FullChunk X A) → a / 256 ≢ b / 256 → p.chunk ≡ set (get_or fs (a / 256) d).chunk (a % 256) x → q.chunk ≡ set (get_or fs (b / 256) e).chunk (b % 256) y
        → joined (set (set fs (a / 256) p) (b / 256) q) ≡ set (set (joined fs) a x) b y
    pair_set_two p q apart pe qe =
        let gs = set fs (a / 256) p in
        let step : joined gs ≡ set (joined fs) a x = node_set fs a al d p x pe in
        let bl' : b < length (joined gs) = omega (arith, ap length step, length-set (joined fs) a x) in
        let read : get_or gs (b / 256) e ≡ get_or fs (b / 256) e = get_or-set_other fs (a / 256) (b / 256) p e (λ z. apart (sym z)) in
        node_set gs b bl' e q y (qe ∙ ap (λ (f : FullChunk X A). set f.chunk (b % 256) y) (sym read)) ∙ ap (λ (l : List X). set l b y) step

    module _ (len : length front ≡ b / 256) (lt : a / 256 < b / 256) (first_is : d ≡ get_or front (a / 256) d) (second_is : e ≡ get_or back 0 e) where
      pub first_of : get_or front (a / 256) d ≡ get_or fs (a / 256) d
      first_of = sym first_is ∙ read_front fs front back whole (a / 256) d (omega (arith, len)) first_is

      pub second_of : get_or back 0 e ≡ get_or fs (b / 256) e
      second_of = sym second_is ∙ read_back fs front back whole (b / 256) e len second_is

      pub set_two : joined (set front (a / 256) (with_node (get_or front (a / 256) d) (a % 256) x) ++ set back 0 (with_node (get_or back 0 e) (b % 256) y)) ≡ set (set (joined fs) a x) b y
      set_two =
          let p = with_node (get_or front (a / 256) d) (a % 256) x in let q = with_node (get_or back 0 e) (b % 256) y in
          ap joined (set_both fs front back whole (a / 256) (b / 256) p q len lt)
          ∙ pair_set_two p q (omega arith) (ap (λ (f : FullChunk X A). set f.chunk (a % 256) x) first_of) (ap (λ (f : FullChunk X A). set f.chunk (b % 256) y) second_of)

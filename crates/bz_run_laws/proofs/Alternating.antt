-- What a term does at one port: it opens it where it is closed and closes it where it is open, whatever comes in; and no two of
-- its next moves are made there.
use Rattle.std.proofs.Common.{◌≡◌, ◌≢◌, ◌⊎◌, inl, inr, ℕ, zero, suc, Bool, true, false, Option, Some, None, refl, sym, ap, subst, ◌∙◌, cond}
use Rattle.std.specs.Prelude.{◌==◌, ◌&&◌, not, ⊤}
use Rattle.std.proofs.lemmas.Bool.{cases_eq, eq-eqb, ne_eqb}
use Rattle.bz_model.specs.declared.channel.Move.{Move}
use Rattle.bz_model.specs.declared.channel.Move.TheVariants.{Ask, Take, Reply, Got}
use Rattle.bz_model.specs.Terms.{Store, holds, is_met, Term, Terms, ask, take, reply, got, seq, par, choice, forever, while, when, done, no_terms, term, with_term}
use Rattle.bz_model.specs.Heads.{Head, IsHead, IsHeadAt, before, opens, sequence, is_done, are_done, together, tidy, tidy_all}

-- Where the port is: open or not, or none that the term may use.
abbrev pub Port : Type 0
Port = Option Bool

-- what holds of the port where a term ends
abbrev pub Ends : Type 1
Ends = Port → Type 0

abbrev pub Is : Port → Port → Type 0
Is a b = b ≡ a

-- a move that finds the port open or not, and leaves it so, where it is made there
abbrev pub Passes : Bool → Bool → Bool → Ends → Port → Type 0
Passes true from to K a = (a ≡ Some from) × K (Some to)
Passes false from to K a = K a

-- where a move leaves the port, made there or not
abbrev pub after : Bool → Move → Port → Port
after true mv a = Some (opens mv)
after false mv a = a

-- the port of the take that a term begins with
abbrev pub taken_at : Term → Option ℕ
taken_at (take q x) = Some q
taken_at t = None

abbrev pub lead : Term → Option ℕ
lead (seq t u) = taken_at t
lead t = None

abbrev pub lead_at : Terms → ℕ → Option ℕ
lead_at no_terms i = None
lead_at (term t ts) zero = lead t
lead_at (term t ts) (suc i) = lead_at ts i

-- no two of some terms begin with a take at one port
abbrev pub Apart : Terms → Type 0
Apart ts = (i j q : ℕ) → lead_at ts i ≡ Some q → lead_at ts j ≡ Some q → i ≡ j

module _ (p : ℕ) where
  -- Runs t K a: from where the port is, t makes its moves at it in turn, and K holds of the port where t ends. Side by side, one
  -- term at most uses the port; of a choice each begins with a take, no two at one port.
  abbrev mutual
    pub Runs : Term → Ends → Port → Type 0
    Runs (ask q e) K a = Passes (q == p) false true K a
    Runs (take q x) K a = Passes (q == p) false true K a
    Runs (reply q e) K a = Passes (q == p) true false K a
    Runs (got q x) K a = Passes (q == p) true false K a
    Runs (seq t u) K a = Runs t (Runs u K) a
    Runs (par ts) K a = Beside ts K a
    Runs (choice ts) K a = Each ts K a × Apart ts
    Runs (forever t) K a = Runs t (Is a) a
    Runs (while q x t) K a = Passes (q == p) false true (Passes (q == p) true false (λ b. (b ≡ a) × Runs t (Is a) a × K a)) a
    Runs (when c t) K a = Runs t K a × K a
    Runs done K a = K a

    pub Beside : Terms → Ends → Port → Type 0
    Beside no_terms K a = K a
    Beside (term t ts) K a = (Runs t (Is None) None × Beside ts K a) ⊎ (Idle ts × Runs t K a)

    -- none of them uses the port
    pub Idle : Terms → Type 0
    Idle no_terms = ⊤
    Idle (term t ts) = Runs t (Is None) None × Idle ts

    pub Each : Terms → Ends → Port → Type 0
    Each no_terms K a = ⊤
    Each (term t ts) K a = Runs t K a × ((q : ℕ) × (lead t ≡ Some q)) × Each ts K a

  -- a move is made in turn
  abbrev pub InTurn : ℕ → Move → Port → Type 0
  InTurn q mv a = q ≡ p → a ≡ Some (not (opens mv))

  pub leaf : (q : ℕ) (mv : Move) (K : Ends) (a : Port) → Passes (q == p) (not (opens mv)) (opens mv) K a → InTurn q mv a × K (after (q == p) mv a)
  leaf q mv K a x = elim (cases_eq q p) [
    | inl e ↦
        let y : Passes true (not (opens mv)) (opens mv) K a = subst (λ b. Passes b (not (opens mv)) (opens mv) K a) (eq-eqb q p e) x in
        (λ _. y.0, subst (λ b. K (after b mv a)) (sym (eq-eqb q p e)) y.1)
    | inr ne ↦
        let y : Passes false (not (opens mv)) (opens mv) K a = subst (λ b. Passes b (not (opens mv)) (opens mv) K a) (ne_eqb q p ne) x in
        (λ e. absurd (ne e), subst (λ b. K (after b mv a)) (sym (ne_eqb q p ne)) y)
  ]

  pub elsewhere : (q : ℕ) (mv : Move) (a : Port) → q ≢ p → after (q == p) mv a ≡ a
  elsewhere q mv a ne = ap (λ b. after b mv a) (ne_eqb q p ne)

  pub here : (q : ℕ) (mv : Move) (a : Port) → q ≡ p → after (q == p) mv a ≡ Some (opens mv)
  here q mv a e = ap (λ b. after b mv a) (eq-eqb q p e)

  passes-mono : (b from to : Bool) (K L : Ends) → ((a : Port) → K a → L a) → (a : Port) → Passes b from to K a → Passes b from to L a
  passes-mono true from to K L f a x = (x.0, f (Some to) x.1)
  passes-mono false from to K L f a x = f a x

  -- more may be asked of the end where what was asked leads to it
  mutual
    pub mono : (t : Term) (K L : Ends) → ((a : Port) → K a → L a) → (a : Port) → Runs t K a → Runs t L a
    mono (ask q e) K L f a x = passes-mono (q == p) false true K L f a x
    mono (take q e) K L f a x = passes-mono (q == p) false true K L f a x
    mono (reply q e) K L f a x = passes-mono (q == p) true false K L f a x
    mono (got q e) K L f a x = passes-mono (q == p) true false K L f a x
    mono (seq t u) K L f a x = mono t (Runs u K) (Runs u L) (λ b y. mono u K L f b y) a x
    mono (par ts) K L f a x = mono-beside ts K L f a x
    mono (choice ts) K L f a x = (mono-each ts K L f a x.0, x.1)
    mono (forever t) K L f a x = x
    mono (while q e t) K L f a x =
        passes-mono (q == p) false true (Passes (q == p) true false (λ b. (b ≡ a) × Runs t (Is a) a × K a)) (Passes (q == p) true false (λ b. (b ≡ a) × Runs t (Is a) a × L a))
        (λ b y. passes-mono (q == p) true false (λ c. (c ≡ a) × Runs t (Is a) a × K a) (λ c. (c ≡ a) × Runs t (Is a) a × L a) (λ c z. (z.0, z.1, f a z.2)) b y) a x
    mono (when c t) K L f a x = (mono t K L f a x.0, f a x.1)
    mono done K L f a x = f a x

    mono-beside : (ts : Terms) (K L : Ends) → ((a : Port) → K a → L a) → (a : Port) → Beside ts K a → Beside ts L a
    mono-beside no_terms K L f a x = f a x
    mono-beside (term t ts) K L f a (inl x) = inl (x.0, mono-beside ts K L f a x.1)
    mono-beside (term t ts) K L f a (inr x) = inr (x.0, mono t K L f a x.1)

    mono-each : (ts : Terms) (K L : Ends) → ((a : Port) → K a → L a) → (a : Port) → Each ts K a → Each ts L a
    mono-each no_terms K L f a x = tt
    mono-each (term t ts) K L f a x = (mono t K L f a x.0, x.1, mono-each ts K L f a x.2)

  -- what begins with a take begins at its port, and is tidy
  lead-port : (t : Term) (h : Head) (q : ℕ) → lead t ≡ Some q → IsHead t h → Some h.port ≡ Some q
  lead-port (seq (take r x) u) h q e (s, at, is) = ap (λ (k : Head). Some k.port) is ∙ ap (λ (k : Head). Some k.port) at ∙ e
  lead-port (seq (ask r x) u) h q e at = absurd (cc)
  lead-port (seq (reply r x) u) h q e at = absurd (cc)
  lead-port (seq (got r x) u) h q e at = absurd (cc)
  lead-port (seq (seq t v) u) h q e at = absurd (cc)
  lead-port (seq (par ts) u) h q e at = absurd (cc)
  lead-port (seq (choice ts) u) h q e at = absurd (cc)
  lead-port (seq (forever t) u) h q e at = absurd (cc)
  lead-port (seq (while r x t) u) h q e at = absurd (cc)
  lead-port (seq (when c t) u) h q e at = absurd (cc)
  lead-port (seq done u) h q e at = absurd (cc)
  lead-port (ask r x) h q e at = absurd (cc)
  lead-port (take r x) h q e at = absurd (cc)
  lead-port (reply r x) h q e at = absurd (cc)
  lead-port (got r x) h q e at = absurd (cc)
  lead-port (par ts) h q e at = absurd (cc)
  lead-port (choice ts) h q e at = absurd (cc)
  lead-port (forever t) h q e at = absurd (cc)
  lead-port (while r x t) h q e at = absurd (cc)
  lead-port (when c t) h q e at = absurd (cc)
  lead-port done h q e at = absurd (cc)

  lead-tidy : (s : Store) (t : Term) (q : ℕ) → lead t ≡ Some q → tidy s t ≡ t
  lead-tidy s (seq (take r x) u) q e = refl
  lead-tidy s (seq (ask r x) u) q e = refl
  lead-tidy s (seq (reply r x) u) q e = refl
  lead-tidy s (seq (got r x) u) q e = refl
  lead-tidy s (seq (seq t v) u) q e = absurd (cc)
  lead-tidy s (seq (par ts) u) q e = absurd (cc)
  lead-tidy s (seq (choice ts) u) q e = absurd (cc)
  lead-tidy s (seq (forever t) u) q e = refl
  lead-tidy s (seq (while r x t) u) q e = absurd (cc)
  lead-tidy s (seq (when c t) u) q e = absurd (cc)
  lead-tidy s (seq done u) q e = absurd (cc)
  lead-tidy s (ask r x) q e = refl
  lead-tidy s (take r x) q e = refl
  lead-tidy s (reply r x) q e = refl
  lead-tidy s (got r x) q e = refl
  lead-tidy s (par ts) q e = absurd (cc)
  lead-tidy s (choice ts) q e = absurd (cc)
  lead-tidy s (forever t) q e = refl
  lead-tidy s (while r x t) q e = absurd (cc)
  lead-tidy s (when c t) q e = absurd (cc)
  lead-tidy s done q e = refl

  each-tidy : (s : Store) (ts : Terms) (K : Ends) (a : Port) → Each ts K a → tidy_all s ts ≡ ts
  each-tidy s no_terms K a x = refl
  each-tidy s (term t ts) K a x =
      let first = lead-tidy s t x.1.0 x.1.1 in
      let rest = each-tidy s ts K a x.2 in
      λ i. term (first i) (rest i)

  each-port : (ts : Terms) (i : ℕ) (h : Head) (K : Ends) (a : Port) → IsHeadAt ts i h → Each ts K a → lead_at ts i ≡ Some h.port
  each-port no_terms i h K a at x = absurd at
  each-port (term t ts) zero h K a at x = x.1.1 ∙ sym (lead-port t h x.1.0 x.1.1 at)
  each-port (term t ts) (suc i) h K a at x = each-port ts i h K a at x.2

  none-open : (mv : Move) → None ≡ Some (not (opens mv)) → ⊥
  none-open mv e = cc

  -- what may not use the port makes no move there
  unused : (r : Head) → InTurn r.port r.move None × Runs r.rest (Is None) (after (r.port == p) r.move None) → (r.port ≢ p) × Runs r.rest (Is None) None
  unused r (m, l) =
      let apart : r.port ≢ p = λ e. none-open r.move (m e) in
      (apart, subst (Runs r.rest (Is None)) (elsewhere r.port r.move None apart) l)

  -- a next move is made in turn, and so are those behind it
  mutual
    pub heads : (t : Term) (h : Head) → IsHead t h → (K : Ends) (a : Port) → Runs t K a → InTurn h.port h.move a × Runs h.rest K (after (h.port == p) h.move a)
    heads (ask q e) h is K a x = rw is (leaf q Ask K a x)
    heads (take q e) h is K a x = rw is (leaf q Take K a x)
    heads (reply q e) h is K a x = rw is (leaf q Reply K a x)
    heads (got q e) h is K a x = rw is (leaf q Got K a x)
    heads (seq t u) h (r, at, is) K a x = rw is (heads t r at (Runs u K) a x)
    heads (par ts) h (i, r, at, is) K a x = rw is (heads-beside ts i r at K a x)
    heads (choice ts) h (i, at) K a x = heads-each ts i h at K a x.0
    heads (forever t) h (r, at, is) K a x =
        let (m, l) = heads t r at (Is a) a x in
        rw is (m, mono r.rest (Is a) (Runs (forever t) K) (λ b e. subst (λ c. Runs t (Is c) c) (sym e) x) (after (r.port == p) r.move a) l)
    heads (while q e t) h at K a x = absurd at
    heads (when c t) h at K a x = absurd at
    heads done h at K a x = absurd at

    heads-beside : (ts : Terms) (i : ℕ) (r : Head) → IsHeadAt ts i r → (K : Ends) (a : Port) → Beside ts K a → InTurn r.port r.move a × Beside (with_term ts i r.rest) K (after (r.port == p) r.move a)
    heads-beside no_terms i r at K a x = absurd at
    heads-beside (term t ts) zero r at K a (inl x) =
        let (apart, l) = unused r (heads t r at (Is None) None x.0) in
        (λ e. absurd (apart e), inl (l, subst (Beside ts K) (sym (elsewhere r.port r.move a apart)) x.1))
    heads-beside (term t ts) zero r at K a (inr x) = let (m, l) = heads t r at K a x.1 in (m, inr (x.0, l))
    heads-beside (term t ts) (suc i) r at K a (inl x) = let (m, l) = heads-beside ts i r at K a x.1 in (m, inl (x.0, l))
    heads-beside (term t ts) (suc i) r at K a (inr x) =
        let (apart, l) = heads-idle ts i r at K x.0 in
        (λ e. absurd (apart e), inr (l, subst (Runs t K) (sym (elsewhere r.port r.move a apart)) x.1))

    heads-each : (ts : Terms) (i : ℕ) (h : Head) → IsHeadAt ts i h → (K : Ends) (a : Port) → Each ts K a → InTurn h.port h.move a × Runs h.rest K (after (h.port == p) h.move a)
    heads-each no_terms i h at K a x = absurd at
    heads-each (term t ts) zero h at K a x = heads t h at K a x.0
    heads-each (term t ts) (suc i) h at K a x = heads-each ts i h at K a x.2

    heads-idle : (ts : Terms) (i : ℕ) (r : Head) → IsHeadAt ts i r → (K : Ends) → Idle ts → (r.port ≢ p) × Idle (with_term ts i r.rest)
    heads-idle no_terms i r at K x = absurd at
    heads-idle (term t ts) zero r at K x = let (apart, l) = unused r (heads t r at (Is None) None x.0) in (apart, (l, x.1))
    heads-idle (term t ts) (suc i) r at K x = let (apart, l) = heads-idle ts i r at K x.1 in (apart, (x.0, l))

  -- tidying changes nothing of it
  sequences : (t u r : Term) (K : Ends) (a : Port) → Runs t (Runs u K) a → ((b : Port) → Runs u K b → Runs r K b) → Runs (sequence t u r) K a
  sequences (ask q e) u r K a x f = x
  sequences (take q e) u r K a x f = x
  sequences (reply q e) u r K a x f = x
  sequences (got q e) u r K a x f = x
  sequences (seq t v) u r K a x f = x
  sequences (par ts) u r K a x f = x
  sequences (choice ts) u r K a x f = x
  sequences (forever t) u r K a x f = x
  sequences (while q e t) u r K a x f = x
  sequences (when c t) u r K a x f = x
  sequences done u r K a x f = f a x

  ended : (t : Term) (K : Ends) (a : Port) → is_done t ≡ true → Runs t K a → K a
  ended (ask q x) K a e y = absurd (cc)
  ended (take q x) K a e y = absurd (cc)
  ended (reply q x) K a e y = absurd (cc)
  ended (got q x) K a e y = absurd (cc)
  ended (seq t u) K a e y = absurd (cc)
  ended (par ts) K a e y = absurd (cc)
  ended (choice ts) K a e y = absurd (cc)
  ended (forever t) K a e y = absurd (cc)
  ended (while q x t) K a e y = absurd (cc)
  ended (when c t) K a e y = absurd (cc)
  ended done K a e y = y

  both-true : (a b : Bool) → (a && b) ≡ true → (a ≡ true) × (b ≡ true)
  both-true true b e = (refl, e)
  both-true false b e = absurd (cc)

  all-ended : (ts : Terms) (K : Ends) (a : Port) → are_done ts ≡ true → Beside ts K a → K a
  all-ended no_terms K a e x = x
  all-ended (term t ts) K a e (inl x) = all-ended ts K a (both-true (is_done t) (are_done ts) e).1 x.1
  all-ended (term t ts) K a e (inr x) = ended t K a (both-true (is_done t) (are_done ts) e).0 x.1

  gathers : (ts : Terms) (K : Ends) (a : Port) → Beside ts K a → Runs (together ts) K a
  gathers ts K a x = cases (are_done ts) refl
    where
      cases : (b : Bool) → are_done ts ≡ b → Runs (cond b done (par ts)) K a
      cases true e = all-ended ts K a e x
      cases false e = x

  either : (b : Bool) (t : Term) (K : Ends) (a : Port) → Runs t K a → K a → Runs (cond b t done) K a
  either true t K a x y = x
  either false t K a x y = y

  again : (q e : ℕ) (t : Term) (K : Ends) (a : Port) → Runs (while q e t) K a → (c : Port) → (c ≡ a) × Runs t (Is a) a × K a → Runs (when (holds e 1) (seq t (while q e t))) K c
  again q e t K a x c z =
      subst (λ c. Runs (when (holds e 1) (seq t (while q e t))) K c) (sym z.0)
      (mono t (Is a) (Runs (while q e t) K) (λ b is. subst (Runs (while q e t) K) (sym is) x) a z.1, z.2)

  mutual
    pub tidies : (s : Store) (t : Term) (K : Ends) (a : Port) → Runs t K a → Runs (tidy s t) K a
    tidies s (ask q e) K a x = x
    tidies s (take q e) K a x = x
    tidies s (reply q e) K a x = x
    tidies s (got q e) K a x = x
    tidies s (seq t u) K a x = sequences (tidy s t) u (tidy s u) K a (tidies s t (Runs u K) a x) (λ b y. tidies s u K b y)
    tidies s (par ts) K a x = gathers (tidy_all s ts) K a (tidies-beside s ts K a x)
    tidies s (choice ts) K a x = subst (λ us. Each us K a × Apart us) (sym (each-tidy s ts K a x.0)) x
    tidies s (forever t) K a x = x
    tidies s (while q e t) K a x =
        passes-mono (q == p) false true (Passes (q == p) true false (λ b. (b ≡ a) × Runs t (Is a) a × K a)) (Runs (got q e) (Runs (when (holds e 1) (seq t (while q e t))) K))
        (λ b y. passes-mono (q == p) true false (λ c. (c ≡ a) × Runs t (Is a) a × K a) (Runs (when (holds e 1) (seq t (while q e t))) K) (λ c z. again q e t K a x c z) b y) a x
    tidies s (when c t) K a x = either (is_met c s) (tidy s t) K a (tidies s t K a x.0) x.1
    tidies s done K a x = x

    tidies-beside : (s : Store) (ts : Terms) (K : Ends) (a : Port) → Beside ts K a → Beside (tidy_all s ts) K a
    tidies-beside s no_terms K a x = x
    tidies-beside s (term t ts) K a (inl x) = inl (tidies s t (Is None) None x.0, tidies-beside s ts K a x.1)
    tidies-beside s (term t ts) K a (inr x) = inr (tidies-idle s ts K x.0, tidies s t K a x.1)

    tidies-idle : (s : Store) (ts : Terms) (K : Ends) → Idle ts → Idle (tidy_all s ts)
    tidies-idle s no_terms K x = tt
    tidies-idle s (term t ts) K x = (tidies s t (Is None) None x.0, tidies-idle s ts K x.1)

  -- of next moves at the port there is one at most
  next-port : (h r : Head) (t : Term) → h ≡ before r t → h.port ≡ p → r.port ≡ p
  next-port h r t is e = sym (ap (λ (k : Head). k.port) is) ∙ e

  next-beside : (h r : Head) (t : Term) → h ≡ record r { rest = t } → h.port ≡ p → r.port ≡ p
  next-beside h r t is e = sym (ap (λ (k : Head). k.port) is) ∙ e

  no-idle : (ts : Terms) (i : ℕ) (r : Head) → IsHeadAt ts i r → Idle ts → r.port ≡ p → ⊥
  no-idle ts i r at x e = (heads-idle ts i r at (Is None) x).0 e

  no-use : (t : Term) (r : Head) → IsHead t r → Runs t (Is None) None → r.port ≡ p → ⊥
  no-use t r at x e = none-open r.move ((heads t r at (Is None) None x).0 e)

  mutual
    pub one : (t : Term) (h k : Head) → IsHead t h → IsHead t k → (K : Ends) (a : Port) → Runs t K a → h.port ≡ p → k.port ≡ p → h ≡ k
    one (ask q e) h k is js K a x m n = is ∙ sym js
    one (take q e) h k is js K a x m n = is ∙ sym js
    one (reply q e) h k is js K a x m n = is ∙ sym js
    one (got q e) h k is js K a x m n = is ∙ sym js
    one (seq t u) h k (r, at, is) (l, on, js) K a x m n =
        is ∙ ap (λ (b : Head). before b u) (one t r l at on (Runs u K) a x (next-port h r u is m) (next-port k l u js n)) ∙ sym js
    one (par ts) h k (i, r, at, is) (j, l, on, js) K a x m n =
        let (same, moves) = one-beside ts i j r l at on K a x (next-beside h r (par (with_term ts i r.rest)) is m) (next-beside k l (par (with_term ts j l.rest)) js n) in
        is ∙ ap (λ (b : ℕ). record r { rest = par (with_term ts b r.rest) }) same ∙ ap (λ (b : Head). record b { rest = par (with_term ts j b.rest) }) moves ∙ sym js
    one (choice ts) h k (i, at) (j, on) K a x m n =
        let same : i ≡ j = x.1 i j p (each-port ts i h K a at x.0 ∙ ap Some m) (each-port ts j k K a on x.0 ∙ ap Some n) in
        one-each ts i h k at (subst (λ b. IsHeadAt ts b k) (sym same) on) K a x.0 m n
    one (forever t) h k (r, at, is) (l, on, js) K a x m n =
        is ∙ ap (λ (b : Head). before b (forever t)) (one t r l at on (Is a) a x (next-port h r (forever t) is m) (next-port k l (forever t) js n)) ∙ sym js
    one (while q e t) h k at on K a x m n = absurd at
    one (when c t) h k at on K a x m n = absurd at
    one done h k at on K a x m n = absurd at

    one-beside : (ts : Terms) (i j : ℕ) (r l : Head) → IsHeadAt ts i r → IsHeadAt ts j l → (K : Ends) (a : Port) → Beside ts K a → r.port ≡ p → l.port ≡ p → (i ≡ j) × (r ≡ l)
    one-beside no_terms i j r l at on K a x m n = absurd at
    one-beside (term t ts) zero j r l at on K a (inl x) m n = absurd (no-use t r at x.0 m)
    one-beside (term t ts) zero zero r l at on K a (inr x) m n = (refl, one t r l at on K a x.1 m n)
    one-beside (term t ts) zero (suc j) r l at on K a (inr x) m n = absurd (no-idle ts j l on x.0 n)
    one-beside (term t ts) (suc i) zero r l at on K a (inl x) m n = absurd (no-use t l on x.0 n)
    one-beside (term t ts) (suc i) (suc j) r l at on K a (inl x) m n = let (same, moves) = one-beside ts i j r l at on K a x.1 m n in (ap (λ b. suc b) same, moves)
    one-beside (term t ts) (suc i) j r l at on K a (inr x) m n = absurd (no-idle ts i r at x.0 m)

    one-each : (ts : Terms) (i : ℕ) (h k : Head) → IsHeadAt ts i h → IsHeadAt ts i k → (K : Ends) (a : Port) → Each ts K a → h.port ≡ p → k.port ≡ p → h ≡ k
    one-each no_terms i h k at on K a x m n = absurd at
    one-each (term t ts) zero h k at on K a x m n = one t h k at on K a x.0 m n
    one-each (term t ts) (suc i) h k at on K a x m n = one-each ts i h k at on K a x.2 m n

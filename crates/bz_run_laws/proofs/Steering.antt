-- The same of a term that makes one move at a time, where what is kept decides which it makes.
use Rattle.std.proofs.Common.{◌≡◌, ℕ, Bool, true, false, Option, Some, None, refl, sym, ap, subst, ◌∙◌, cond}
use Rattle.std.specs.Prelude.{◌==◌, ⊤}
use Rattle.bz_model.specs.declared.channel.Move.{Move}
use Rattle.bz_model.specs.declared.channel.Move.TheVariants.{Ask, Take, Reply, Got}
use Rattle.bz_model.specs.declared.channel.Phase.{Phase}
use Rattle.bz_model.specs.declared.channel.Phase.TheVariants.{Idle, Asked, Taken, Replied, Broken}
use Rattle.bz_model.specs.Phases.{incoming}
use Rattle.bz_model.specs.Terms.{Store, stored, is_met, Term, ask, take, reply, got, seq, par, choice, forever, while, when, done}
use Rattle.bz_model.specs.Heads.{Head, IsHead, before, sequence, tidy}
use Rattle.bz_run_laws.proofs.Alternating.{Port, Passes, after, InTurn, leaf}

abbrev pub Ends : Type 1
Ends = Store → Port → Type 0

-- nothing comes in with a request that is made, nor with a reply
abbrev pub Comes : Move → Option ℕ → Type 0
Comes Ask v = v ≡ None
Comes Take v = ⊤
Comes Reply v = v ≡ None
Comes Got v = ⊤

pub comes : (phase : Phase) (mv : Move) → Comes mv (incoming phase mv)
comes Idle Ask = refl
comes (Asked v) Ask = refl
comes Taken Ask = refl
comes (Replied v) Ask = refl
comes Broken Ask = refl
comes phase Take = tt
comes Idle Reply = refl
comes (Asked v) Reply = refl
comes Taken Reply = refl
comes (Replied v) Reply = refl
comes Broken Reply = refl
comes phase Got = tt

abbrev pub If : Bool → Type 0 → Type 0 → Type 0
If true A B = A
If false A B = B

module _ (p : ℕ) where
  -- Steers t K s a: from this store, and where the port is, t makes its moves at the port in turn, and K holds where it ends
  abbrev pub Steers : Term → Ends → Store → Port → Type 0
  Steers (ask q e) K s a = Passes (q == p) false true (K s) a
  Steers (take q x) K s a = (v : Option ℕ) → Passes (q == p) false true (K (stored x v s)) a
  Steers (reply q e) K s a = Passes (q == p) true false (K s) a
  Steers (got q x) K s a = (v : Option ℕ) → Passes (q == p) true false (K (stored x v s)) a
  Steers (seq t u) K s a = Steers t (Steers u K) s a
  Steers (par ts) K s a = ⊥
  Steers (choice ts) K s a = ⊥
  Steers (forever t) K s a = (r : Store) → Steers t (λ _ b. b ≡ a) r a
  Steers (while q x t) K s a = ⊥
  Steers (when c t) K s a = If (is_met c s) (Steers t K s a) (K s a)
  Steers done K s a = K s a

  passes-mono : (b from to : Bool) (K L : Port → Type 0) → ((a : Port) → K a → L a) → (a : Port) → Passes b from to K a → Passes b from to L a
  passes-mono true from to K L f a x = (x.0, f (Some to) x.1)
  passes-mono false from to K L f a x = f a x

  if-mono : (b : Bool) (A B C D : Type 0) → (A → C) → (B → D) → If b A B → If b C D
  if-mono true A B C D f g x = f x
  if-mono false A B C D f g x = g x

  pub mono : (t : Term) (K L : Ends) → ((s : Store) (a : Port) → K s a → L s a) → (s : Store) (a : Port) → Steers t K s a → Steers t L s a
  mono (ask q e) K L f s a x = passes-mono (q == p) false true (K s) (L s) (f s) a x
  mono (take q e) K L f s a x = λ v. passes-mono (q == p) false true (K (stored e v s)) (L (stored e v s)) (f (stored e v s)) a (x v)
  mono (reply q e) K L f s a x = passes-mono (q == p) true false (K s) (L s) (f s) a x
  mono (got q e) K L f s a x = λ v. passes-mono (q == p) true false (K (stored e v s)) (L (stored e v s)) (f (stored e v s)) a (x v)
  mono (seq t u) K L f s a x = mono t (Steers u K) (Steers u L) (λ r b y. mono u K L f r b y) s a x
  mono (par ts) K L f s a x = absurd x
  mono (choice ts) K L f s a x = absurd x
  mono (forever t) K L f s a x = x
  mono (while q e t) K L f s a x = absurd x
  mono (when c t) K L f s a x = if-mono (is_met c s) (Steers t K s a) (K s a) (Steers t L s a) (L s a) (λ y. mono t K L f s a y) (f s a) x
  mono done K L f s a x = f s a x

  -- a next move is made in turn, and so are those behind it, whatever comes in
  abbrev Goes : Ends → Store → Port → Head → Type 0
  Goes K s a h = InTurn p h.port h.move a × ((v : Option ℕ) → Comes h.move v → Steers h.rest K (stored h.into v s) (after (h.port == p) h.move a))

  pub heads : (t : Term) (h : Head) → IsHead t h → (K : Ends) (s : Store) (a : Port) → Steers t K s a → Goes K s a h
  heads (ask q e) h is K s a x = let (m, l) = leaf p q Ask (K s) a x in rw is (m, λ v none. rw none l)
  heads (take q e) h is K s a x = rw is ((leaf p q Take (K (stored e None s)) a (x None)).0, λ v _. (leaf p q Take (K (stored e v s)) a (x v)).1)
  heads (reply q e) h is K s a x = let (m, l) = leaf p q Reply (K s) a x in rw is (m, λ v none. rw none l)
  heads (got q e) h is K s a x = rw is ((leaf p q Got (K (stored e None s)) a (x None)).0, λ v _. (leaf p q Got (K (stored e v s)) a (x v)).1)
  heads (seq t u) h (r, at, is) K s a x = rw is (heads t r at (Steers u K) s a x)
  heads (par ts) h at K s a x = absurd x
  heads (choice ts) h at K s a x = absurd x
  heads (forever t) h (r, at, is) K s a x =
      let (m, l) = heads t r at (λ _ b. b ≡ a) s a (x s) in
      rw is (m, λ v c. mono r.rest (λ _ b. b ≡ a) (Steers (forever t) K) (λ _ b e. subst (λ d. (r : Store) → Steers t (λ _ b. b ≡ d) r d) (sym e) x) (stored r.into v s) (after (r.port == p) r.move a) (l v c))
  heads (while q e t) h at K s a x = absurd at
  heads (when c t) h at K s a x = absurd at
  heads done h at K s a x = absurd at

  -- tidying changes nothing of it
  sequences : (t u r : Term) (K : Ends) (s : Store) (a : Port) → Steers t (Steers u K) s a → (Steers u K s a → Steers r K s a) → Steers (sequence t u r) K s a
  sequences (ask q e) u r K s a x f = x
  sequences (take q e) u r K s a x f = x
  sequences (reply q e) u r K s a x f = x
  sequences (got q e) u r K s a x f = x
  sequences (seq t v) u r K s a x f = x
  sequences (par ts) u r K s a x f = x
  sequences (choice ts) u r K s a x f = x
  sequences (forever t) u r K s a x f = x
  sequences (while q e t) u r K s a x f = x
  sequences (when c t) u r K s a x f = x
  sequences done u r K s a x f = f x

  either : (b : Bool) (t u : Term) (K : Ends) (s : Store) (a : Port) → (Steers t K s a → Steers u K s a) → If b (Steers t K s a) (K s a) → Steers (cond b u done) K s a
  either true t u K s a f x = f x
  either false t u K s a f x = x

  pub tidies : (s : Store) (t : Term) (K : Ends) (a : Port) → Steers t K s a → Steers (tidy s t) K s a
  tidies s (ask q e) K a x = x
  tidies s (take q e) K a x = x
  tidies s (reply q e) K a x = x
  tidies s (got q e) K a x = x
  tidies s (seq t u) K a x = sequences (tidy s t) u (tidy s u) K s a (tidies s t (Steers u K) a x) (λ y. tidies s u K a y)
  tidies s (par ts) K a x = absurd x
  tidies s (choice ts) K a x = absurd x
  tidies s (forever t) K a x = x
  tidies s (while q e t) K a x = absurd x
  tidies s (when c t) K a x = either (is_met c s) t (tidy s t) K s a (λ y. tidies s t K a y) x
  tidies s done K a x = x

  -- it has one next move
  pub one : (t : Term) (h k : Head) → IsHead t h → IsHead t k → (K : Ends) (s : Store) (a : Port) → Steers t K s a → h ≡ k
  one (ask q e) h k is js K s a x = is ∙ sym js
  one (take q e) h k is js K s a x = is ∙ sym js
  one (reply q e) h k is js K s a x = is ∙ sym js
  one (got q e) h k is js K s a x = is ∙ sym js
  one (seq t u) h k (r, at, is) (l, on, js) K s a x = is ∙ ap (λ (b : Head). before b u) (one t r l at on (Steers u K) s a x) ∙ sym js
  one (par ts) h k at on K s a x = absurd x
  one (choice ts) h k at on K s a x = absurd x
  one (forever t) h k (r, at, is) (l, on, js) K s a x = is ∙ ap (λ (b : Head). before b (forever t)) (one t r l at on (λ _ b. b ≡ a) s a (x s)) ∙ sym js
  one (while q e t) h k at on K s a x = absurd at
  one (when c t) h k at on K s a x = absurd at
  one done h k at on K s a x = absurd at

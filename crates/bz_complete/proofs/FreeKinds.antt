-- The kinds, by the ports at which a value comes in, and by those at which requests are rivals.
use Rattle.std.proofs.Common.{◌≡◌, ◌≢◌, ◌⊎◌, inl, inr, ℕ, zero, suc, ◌+◌, ◌<◌, Bool, true, false, List, [], ◌∷◌, ◌++◌, replicate, slice_index_or, refl, sym, ap, subst, ◌∙◌, arith}
use Rattle.std.specs.Prelude.{if◌then◌else◌}
use Rattle.std.proofs.lemmas.Bool.{false≢true}
use Rattle.bz_model.specs.declared.channel.Chan.{Chan}
use Rattle.bz_model.specs.declared.channel.ChanKind.TheVariants.{Sync, Push, Pull}
use Rattle.bz_model.specs.declared.channel.Move.TheVariants.{Take, Got}
use Rattle.bz_model.specs.declared.expr.Expr.{Expr}
use Rattle.bz_model.specs.declared.expr.Expr.TheVariants.{Nothing, Slot, Bits}
use Rattle.bz_model.specs.declared.kind.Kind.{Kind}
use Rattle.bz_model.specs.declared.kind.Kind.TheVariants.{Loop, Sequence, SequenceOptimised, Concur, Fork, WireFork, ForkPush, While, Case, CaseFetch, Fetch, Variable, Constant, UnaryFunc, BinaryFunc, BinaryFuncConstR, Slice, Combine, CombineEqual, Adapt, Split, Halt, HaltPush, Continue, ContinuePush, Call, CallMux, CallDemux, Passivator, PassivatorPush, Synch, SynchPull, DecisionWait, Arbiter, FalseVariable, Bar}
use Rattle.bz_model.specs.Phases.{carries}
use Rattle.bz_model.specs.Processes.{after, behind, both, call, enclosed, first, from_last, into_last, member, one_of, process, pull, push, size}
use Rattle.bz_model.specs.Rows.{PortRow, active_array, active_port, first_size, is_passive, other_sizes, passive_array, passive_port, port_at, ports_of, width}
use Rattle.bz_model.specs.Terms.{Term, forever, take, reply, seq, when, done, no_terms, term, all, in_turn, picks}
use Rattle.bz_complete.specs.Choosing.{Rivals}
use Rattle.bz_complete.proofs.Free.{AllBegin, AllFree, AreRivals, Begins, IsFree}
use Rattle.bz_complete.proofs.Rows.{Apart, AreRows, Gives, HasPort, IsRow, Keeps, apart_turned, rows_all, rows_led, term_at}

-- whether a value comes in at a port of this row
abbrev pub brings_in : PortRow → Bool
brings_in r = carries r.kind (if r.passive then Take else Got)

abbrev pub brings : Kind → List ℕ → ℕ → Bool
brings kind sizes p = brings_in (port_at kind sizes p)

-- rival passive ports
pub record Rival (kind : Kind) (sizes : List ℕ) (p q : ℕ) : Type 0 where
  pub apart : p ≢ q
  pub one : is_passive kind sizes p ≡ true
  pub other : is_passive kind sizes q ≡ true
  pub rivals : Rivals kind p q

-- ---- ports of an array

array_mute : (n i : ℕ) (r d : PortRow) → brings_in r ≡ false → brings_in d ≡ false → brings_in (slice_index_or (replicate n r ++ []) i d) ≡ false
array_mute zero i r d a b = b
array_mute (suc n) zero r d a b = a
array_mute (suc n) (suc i) r d a b = array_mute n i r d a b

-- the port that follows an array is the only one that may bring something
last_brings : (n i : ℕ) (r x d : PortRow) → brings_in r ≡ false → brings_in d ≡ false → brings_in (slice_index_or (replicate n r ++ x ∷ []) i d) ≡ true → i ≡ n
last_brings zero zero r x d a b is = refl
last_brings zero (suc i) r x d a b is = absurd (false≢true (sym b ∙ is))
last_brings (suc n) zero r x d a b is = absurd (false≢true (sym a ∙ is))
last_brings (suc n) (suc i) r x d a b is = ap suc (last_brings n i r x d a b is)

-- a member of an array, and what it is
member_at : (n i : ℕ) (r d : PortRow) (rs : List PortRow) → i < n → slice_index_or (replicate n r ++ rs) i d ≡ r
member_at zero i r d rs lt = absurd (omega arith)
member_at (suc n) zero r d rs lt = refl
member_at (suc n) (suc i) r d rs lt = member_at n i r d rs (omega arith)

first_array : (sizes : List ℕ) (i : ℕ) (r d : PortRow) (rs : List PortRow) → i < size sizes → r.passive ≡ true → (slice_index_or (replicate (first_size sizes) r ++ rs) i d).passive ≡ true
first_array sizes i r d rs lt is = ap (λ (x : PortRow). x.passive) (member_at (first_size sizes) i r d rs (within sizes lt)) ∙ is
  where
    within : (sizes : List ℕ) → i < size sizes → i < first_size sizes
    within [] lt = lt
    within (n ∷ ns) lt = lt

-- ---- rows of one or two moves

-- reads at port q of what is kept in slot 0
abbrev read : ℕ → Term
read q = forever (enclosed q 1 done (Slot 0))

once : {A : Type 0} → A ⊎ A → A
once (inl x) = x
once (inr x) = x

module _ (f : ℕ → Bool) (R : ℕ → ℕ → Type 0) where
  -- neither keeps anything
  apart_mute : (a b : Term) → ((p : ℕ) → HasPort a p → HasPort b p → ⊥) → ((x : ℕ) → Keeps f a x → ⊥) → ((x : ℕ) → Keeps f b x → ⊥) → Apart f R a b
  apart_mute a b ports one other = record { ports = ports; slots = λ x i j. one x i; there = λ x p q keeps gives at is on. absurd (one x keeps); here = λ x p q keeps gives at is on. absurd (other x keeps) }

  -- neither sends anything that it keeps
  apart_dumb : (a b : Term) → ((p : ℕ) → HasPort a p → HasPort b p → ⊥) → ((x : ℕ) → Keeps f a x → Keeps f b x → ⊥) → (Gives a → ⊥) → (Gives b → ⊥) → Apart f R a b
  apart_dumb a b ports slots one other = record { ports = ports; slots = slots; there = λ x p q keeps gives at is on. absurd (other gives); here = λ x p q keeps gives at is on. absurd (one gives) }

  rows_two : (a b : Term) → IsRow a → IsRow b → Apart f R a b → AreRows f R (term a (term b no_terms))
  rows_two a b x y apart = record { rows = rows; apart = pairs }
    where
      rows : (i : ℕ) → IsRow (term_at (term a (term b no_terms)) i)
      rows zero = x
      rows (suc zero) = y
      rows (suc (suc i)) = tt

      behind_them : (c : Term) → Apart f R c done
      behind_them c = record { ports = λ p i j. j; slots = λ p i j. j; there = λ x p q keeps gives at is on. absurd on; here = λ x p q keeps gives at is on. absurd at }

      pairs : (i j : ℕ) → i ≢ j → Apart f R (term_at (term a (term b no_terms)) i) (term_at (term a (term b no_terms)) j)
      pairs zero zero ne = absurd (ne refl)
      pairs zero (suc zero) ne = apart
      pairs zero (suc (suc j)) ne = behind_them a
      pairs (suc zero) zero ne = apart_turned f R a b apart
      pairs (suc zero) (suc zero) ne = absurd (ne refl)
      pairs (suc zero) (suc (suc j)) ne = behind_them b
      pairs (suc (suc i)) zero ne = apart_turned f R a done (behind_them a)
      pairs (suc (suc i)) (suc zero) ne = apart_turned f R b done (behind_them b)
      pairs (suc (suc i)) (suc (suc j)) ne = behind_them done

  -- calls and pushes of an array that brings nothing
  sends_all : (n : ℕ) (e : Expr) → ((i : ℕ) → f (member i) ≡ false) → AreRows f R (all n (λ i. push (member i) e))
  sends_all n e mute = rows_all f R n (λ i. push (member i) e) (λ i. (tt, tt))
      (λ i j ne. apart_mute (push (member i) e) (push (member j) e) (λ p a b. ports i j p ne (once a) (once b)) (λ x. keeps i x) (λ x. keeps j x))
    where
      ports : (i j p : ℕ) → i ≢ j → member i ≡ p → member j ≡ p → ⊥
      ports i j p ne a b = ne (omega (arith, a, b))

      keeps : (i x : ℕ) → Keeps f (push (member i) e) x → ⊥
      keeps i x (inl a) = a
      keeps i x (inr (brings, is)) = false≢true (sym (mute i) ∙ brings)

  -- pulls of an array, each into a slot of its own
  pulls_all : (n : ℕ) → AreRows f R (all n (λ i. pull (member i) i))
  pulls_all n = rows_all f R n (λ i. pull (member i) i) (λ i. (tt, tt))
      (λ i j ne. apart_dumb (pull (member i) i) (pull (member j) j) (λ p a b. ports i j p ne (once a) (once b)) (λ x a b. slots i j x ne a b) (dumb i) (dumb j))
    where
      ports : (i j p : ℕ) → i ≢ j → member i ≡ p → member j ≡ p → ⊥
      ports i j p ne a b = ne (omega (arith, a, b))

      slots : (i j x : ℕ) → i ≢ j → Keeps f (pull (member i) i) x → Keeps f (pull (member j) j) x → ⊥
      slots i j x ne (inl a) b = a
      slots i j x ne (inr a) (inl b) = b
      slots i j x ne (inr (_, a)) (inr (_, b)) = ne (a ∙ sym b)

      dumb : (i : ℕ) → Gives (pull (member i) i) → ⊥
      dumb i (inl other) = other refl
      dumb i (inr none) = none

  -- takes of an array, of which one at most brings something
  takes_all : (n : ℕ) (into : ℕ → ℕ) → ((i j : ℕ) → i ≢ j → f (first i) ≡ true → f (first j) ≡ true → ⊥) → AreRows f R (all n (λ i. take (first i) (into i)))
  takes_all n into one = rows_all f R n (λ i. take (first i) (into i)) (λ i. tt)
      (λ i j ne. apart_dumb (take (first i) (into i)) (take (first j) (into j)) (λ p a b. ne (omega (arith, a, b))) (λ x a b. one i j ne a.0 b.0) (λ x. x) (λ x. x))

  replies_all : (n : ℕ) (e : ℕ → Expr) → AreRows f R (all n (λ i. reply (first i) (e i)))
  replies_all n e = rows_all f R n (λ i. reply (first i) (e i)) (λ i. tt)
      (λ i j ne. apart_mute (reply (first i) (e i)) (reply (first j) (e j)) (λ p a b. ne (omega (arith, a, b))) (λ x a. a) (λ x a. a))

  -- two pulls, two pushes
  two_pulls : AreRows f R (term (pull 2 0) (term (pull 3 1) no_terms))
  two_pulls = rows_two (pull 2 0) (pull 3 1) (tt, tt) (tt, tt)
      (apart_dumb (pull 2 0) (pull 3 1) (λ p a b. ports p (once a) (once b)) slots (λ g. dumb 2 0 g) (λ g. dumb 3 1 g))
    where
      ports : (p : ℕ) → 2 ≡ p → 3 ≡ p → ⊥
      ports p a b = omega (arith, a, b)

      slots : (x : ℕ) → Keeps f (pull 2 0) x → Keeps f (pull 3 1) x → ⊥
      slots x (inl a) b = a
      slots x (inr a) (inl b) = b
      slots x (inr (_, a)) (inr (_, b)) = omega (arith, a, b)

      dumb : (p x : ℕ) → Gives (pull p x) → ⊥
      dumb p x (inl other) = other refl
      dumb p x (inr none) = none

  two_pushes : (d e : Expr) → f 2 ≡ false → f 3 ≡ false → AreRows f R (term (push 2 d) (term (push 3 e) no_terms))
  two_pushes d e one other = rows_two (push 2 d) (push 3 e) (tt, tt) (tt, tt)
      (apart_mute (push 2 d) (push 3 e) (λ p a b. ports p (once a) (once b)) (λ x. keeps 2 d x one) (λ x. keeps 3 e x other))
    where
      ports : (p : ℕ) → 2 ≡ p → 3 ≡ p → ⊥
      ports p a b = omega (arith, a, b)

      keeps : (p : ℕ) (d : Expr) (x : ℕ) → f p ≡ false → Keeps f (push p d) x → ⊥
      keeps p d x mute (inl a) = a
      keeps p d x mute (inr (brings, is)) = false≢true (sym mute ∙ brings)

  in_turn_free : (i n : ℕ) (g : ℕ → Term) → ((j : ℕ) → IsFree f R (g j)) → IsFree f R (in_turn i n g)
  in_turn_free i zero g each = tt
  in_turn_free i (suc n) g each = (each i, in_turn_free (suc i) n g each)

  -- two replies, and one for each member of a list
  two_replies : (p q : ℕ) → p ≢ q → AreRows f R (term (reply p Nothing) (term (reply q Nothing) no_terms))
  two_replies p q ne = rows_two (reply p Nothing) (reply q Nothing) tt tt (apart_mute (reply p Nothing) (reply q Nothing) (λ r a b. ne (a ∙ sym b)) (λ x a. a) (λ x a. a))

  -- What one keeps, and reads of it at an array of ports that bring nothing: none at a port of its own.
  reads : (a : Term) (n : ℕ) (q : ℕ → ℕ) → IsRow a → ((i : ℕ) → f (q i) ≡ false) → ((i j : ℕ) → q i ≡ q j → i ≡ j) → ((i : ℕ) → HasPort a (q i) → ⊥) → ((i p : ℕ) → i < n → HasPort a p → f p ≡ true → R p (q i))
      → AreRows f R (term a (all n (λ i. read (q i))))
  reads a n q row mute one off rivals = rows_led f R a n (λ i. read (q i)) row (λ i. (tt, (tt, tt)))
      (λ i lt. record {
        ports = λ p x y. off i (subst (HasPort a) (sym (at i p y)) x);
        slots = λ x i' y. silent i x y;
        there = λ x p r keeps gives here is there. subst (R p) (at i r there) (rivals i p lt here is);
        here = λ x p r keeps gives here is there. absurd (silent i x keeps);
      })
      (λ i j ne. apart_mute (read (q i)) (read (q j)) (λ p x y. ne (one i j (at i p x ∙ sym (at j p y)))) (silent i) (silent j))
    where
      at : (i p : ℕ) → HasPort (read (q i)) p → q i ≡ p
      at i p (inl x) = x
      at i p (inr (inl x)) = absurd x
      at i p (inr (inr x)) = x

      silent : (i x : ℕ) → Keeps f (read (q i)) x → ⊥
      silent i x (inl (is, same)) = false≢true (sym (mute i) ∙ is)
      silent i x (inr (inl y)) = y
      silent i x (inr (inr y)) = y

  -- one of an array of branches, which begin at ports of which any two are rivals
  chosen : (n : ℕ) (g : ℕ → Term) (q : ℕ → ℕ) → ((i : ℕ) → IsFree f R (g i)) → ((i : ℕ) → Begins (g i) (q i)) → ((i p : ℕ) → Begins (g i) p → q i ≡ p) → ((i j : ℕ) → q i ≡ q j → i ≡ j)
      → ((i j : ℕ) → i < n → j < n → i ≢ j → R (q i) (q j)) → IsFree f R (one_of n g)
  chosen n g q free begins sole one rivals = (frees n g free, begin n g (λ i. (q i, begins i)), apart)
    where
      frees : (n : ℕ) (g : ℕ → Term) → ((i : ℕ) → IsFree f R (g i)) → AllFree f R (all n g)
      frees zero g free = tt
      frees (suc n) g free = (free 0, frees n (λ i. g (suc i)) (λ i. free (suc i)))

      begin : (n : ℕ) (g : ℕ → Term) → ((i : ℕ) → (p : ℕ) × Begins (g i) p) → AllBegin (all n g)
      begin zero g begins = tt
      begin (suc n) g begins = (begins 0, begin n (λ i. g (suc i)) (λ i. begins (suc i)))

      there : (n i p : ℕ) (g : ℕ → Term) → Begins (term_at (all n g) i) p → (i < n) × Begins (g i) p
      there zero i p g x = absurd x
      there (suc n) zero p g x = (omega arith, x)
      there (suc n) (suc i) p g x = let (lt, at) = there n i p (λ j. g (suc j)) x in (omega (arith, lt), at)

      apart : AreRivals f R (all n g)
      apart i j p r ne x y =
          let (lt, at) = there n i p g x in
          let (less, on) = there n j r g y in
          let here = sole i p at in
          let too = sole j r on in
          (λ e. ne (one i j (here ∙ e ∙ sym too)), subst (λ z. R z r) here (subst (R (q i)) too (rivals i j lt less ne)))

-- ---- kinds

-- members of an array that stands first, and of one that follows port 1
firsts : (i j : ℕ) → first i ≡ first j → i ≡ j
firsts i j e = omega (arith, e)

members : (i j : ℕ) → member i ≡ member j → i ≡ j
members i j e = omega (arith, e)

afters : (i j : ℕ) → after i ≡ after j → i ≡ j
afters i j e = omega (arith, e)

pub free-kind : (kind : Kind) (sizes : List ℕ) (chans : List Chan) → kind ≢ Bar → IsFree (brings kind sizes) (Rival kind sizes) (process kind sizes chans)
unfolding is_passive
free-kind Loop sizes chans is = (tt, (tt, tt))
free-kind Sequence sizes chans is = (tt, (in_turn_free (brings Sequence sizes) (Rival Sequence sizes) 0 (size sizes) (λ i. call (member i)) (λ j. (tt, tt)), tt))
free-kind SequenceOptimised sizes chans is = (tt, (in_turn_free (brings SequenceOptimised sizes) (Rival SequenceOptimised sizes) 0 (size sizes) (λ i. call (member i)) (λ j. (tt, tt)), tt))
free-kind Concur sizes chans is = (tt, (sends_all (brings Concur sizes) (Rival Concur sizes) (size sizes) Nothing (λ i. array_mute (first_size sizes) i (active_array _ Sync) (active_port [] Sync) refl refl), tt))
free-kind Fork sizes chans is = (tt, (sends_all (brings Fork sizes) (Rival Fork sizes) (size sizes) Nothing (λ i. array_mute (first_size sizes) i (active_array _ Sync) (active_port [] Sync) refl refl), tt))
free-kind WireFork sizes chans is = (tt, sends_all (brings WireFork sizes) (Rival WireFork sizes) (size sizes) Nothing (λ i. array_mute (first_size sizes) i (active_array _ Sync) (active_port [] Sync) refl refl))
free-kind ForkPush sizes chans is = (tt, (sends_all (brings ForkPush sizes) (Rival ForkPush sizes) (size sizes) (Slot 0) (λ i. array_mute (first_size sizes) i (active_array _ Push) (active_port [] Sync) refl refl), tt))
free-kind While sizes chans is = (tt, ((tt, tt), tt))
free-kind (Case spans) sizes chans is = (tt, (in_turn_free (brings (Case spans) sizes) (Rival (Case spans) sizes) 0 (size sizes) (λ i. when (picks spans (size sizes) 0 i) (call (member i))) (λ j. (tt, tt)), tt))
free-kind (CaseFetch spans) sizes chans is = (
  tt,
  (
    (tt, tt),
    (
      in_turn_free (brings (CaseFetch spans) sizes) (Rival (CaseFetch spans) sizes) 0 (size sizes) (λ i. when (picks spans (size sizes) 1 i) (seq (pull (after i) 0) (reply 1 (Slot 0)))) (λ j. ((tt, tt), tt)),
      tt,
    ),
  ),
)
free-kind Fetch sizes chans is = (tt, (((tt, tt), ((tt, tt), tt)), tt))
free-kind Variable sizes chans is = reads (brings Variable sizes) (Rival Variable sizes) (forever (enclosed 1 0 done Nothing)) (size sizes) member (tt, (tt, tt))
    (λ i. array_mute (first_size sizes) i (passive_array _ Pull) (active_port [] Sync) refl refl) members (λ i x. off i (at_one (member i) x))
    (λ i p lt x brings. subst (λ n. Rival Variable sizes n (member i)) (at_one p x) (record {
      apart = λ e. off i e;
      one = refl;
      other = first_array sizes i (passive_array _ Pull) (active_port [] Sync) [] lt refl;
      rivals = refl;
    }))
  where
    at_one : (p : ℕ) → HasPort (forever (enclosed 1 0 done Nothing)) p → 1 ≡ p
    at_one p (inl x) = x
    at_one p (inr (inl x)) = absurd x
    at_one p (inr (inr x)) = x

    off : (i : ℕ) → 1 ≡ member i → ⊥
    off i e = omega (arith, e)
free-kind (Constant value) sizes chans is = (tt, (tt, tt))
free-kind (UnaryFunc op signed) sizes chans is = (tt, (((tt, tt), tt), tt))
free-kind (BinaryFunc op left right) sizes chans is = (tt, (two_pulls (brings (BinaryFunc op left right) sizes) (Rival (BinaryFunc op left right) sizes), tt))
free-kind (BinaryFuncConstR op left signed bits value) sizes chans is = (tt, (((tt, tt), tt), tt))
free-kind (Slice low) sizes chans is = (tt, (((tt, tt), tt), tt))
free-kind Combine sizes chans is = (tt, (two_pulls (brings Combine sizes) (Rival Combine sizes), tt))
free-kind CombineEqual sizes chans is = (tt, (pulls_all (brings CombineEqual sizes) (Rival CombineEqual sizes) (size sizes), tt))
free-kind (Adapt signed) sizes chans is = (tt, (((tt, tt), tt), tt))
free-kind Split sizes chans is = (tt, (two_pushes (brings Split sizes) (Rival Split sizes) (Bits 0 0 (width chans 2)) (Bits 0 (width chans 2) (width chans 3)) refl refl, tt))
free-kind Halt sizes chans is = (tt, tt)
free-kind HaltPush sizes chans is = (tt, tt)
free-kind Continue sizes chans is = (tt, (tt, tt))
free-kind ContinuePush sizes chans is = (tt, (tt, tt))
free-kind Call sizes chans is = chosen (brings Call sizes) (Rival Call sizes) (size sizes) (λ i. enclosed (first i) 1 (call (behind (size sizes))) Nothing) first (λ i. (tt, ((tt, tt), tt))) (λ i. refl) (λ i p x. x) firsts
    (λ i j lt less ne. record {
      apart = λ e. ne (firsts i j e);
      one = first_array sizes i (passive_array _ Sync) (active_port [] Sync) (active_port _ Sync ∷ []) lt refl;
      other = first_array sizes j (passive_array _ Sync) (active_port [] Sync) (active_port _ Sync ∷ []) less refl;
      rivals = tt;
    })
free-kind CallMux sizes chans is = chosen (brings CallMux sizes) (Rival CallMux sizes) (size sizes) (λ i. enclosed (first i) 0 (push (behind (size sizes)) (Slot 0)) Nothing) first (λ i. (tt, ((tt, tt), tt))) (λ i. refl) (λ i p x. x) firsts
    (λ i j lt less ne. record {
      apart = λ e. ne (firsts i j e);
      one = first_array sizes i (passive_array _ Push) (active_port [] Sync) (active_port _ Push ∷ []) lt refl;
      other = first_array sizes j (passive_array _ Push) (active_port [] Sync) (active_port _ Push ∷ []) less refl;
      rivals = tt;
    })
free-kind CallDemux sizes chans is = chosen (brings CallDemux sizes) (Rival CallDemux sizes) (size sizes) (λ i. enclosed (first i) 1 (pull (behind (size sizes)) 0) (Slot 0)) first (λ i. (tt, ((tt, tt), tt))) (λ i. refl) (λ i p x. x) firsts
    (λ i j lt less ne. record {
      apart = λ e. ne (firsts i j e);
      one = first_array sizes i (passive_array _ Pull) (active_port [] Sync) (active_port _ Pull ∷ []) lt refl;
      other = first_array sizes j (passive_array _ Pull) (active_port [] Sync) (active_port _ Pull ∷ []) less refl;
      rivals = tt;
    })
free-kind Passivator sizes chans is = (
  takes_all (brings Passivator sizes) (Rival Passivator sizes) (size sizes) (λ i. 1) (λ i j ne a b. false≢true (sym (array_mute (first_size sizes) i (passive_array _ Sync) (active_port [] Sync) refl refl) ∙ a)),
  replies_all (brings Passivator sizes) (Rival Passivator sizes) (size sizes) (λ i. Nothing),
)
free-kind PassivatorPush sizes chans is = (
  takes_all (brings PassivatorPush sizes) (Rival PassivatorPush sizes) (suc (size sizes)) (into_last (size sizes)) (λ i j ne a b. ne (last_one i a ∙ sym (last_one j b))),
  replies_all (brings PassivatorPush sizes) (Rival PassivatorPush sizes) (suc (size sizes)) (from_last (size sizes)),
)
  where
    last_one : (i : ℕ) → brings PassivatorPush sizes (first i) ≡ true → i ≡ first_size sizes
    last_one i a = last_brings (first_size sizes) i (passive_array _ Pull) (passive_port _ Push) (active_port [] Sync) refl refl a
free-kind Synch sizes chans is = (
  takes_all (brings Synch sizes) (Rival Synch sizes) (size sizes) (λ i. 1) (λ i j ne a b. ne (last_one i a ∙ sym (last_one j b))),
  ((tt, tt), replies_all (brings Synch sizes) (Rival Synch sizes) (size sizes) (λ i. Nothing)),
)
  where
    last_one : (i : ℕ) → brings Synch sizes (first i) ≡ true → i ≡ first_size sizes
    last_one i a = last_brings (first_size sizes) i (passive_array _ Sync) (active_port _ Sync) (active_port [] Sync) refl refl a
free-kind SynchPull sizes chans is = (
  takes_all (brings SynchPull sizes) (Rival SynchPull sizes) (size sizes) (λ i. 1) (λ i j ne a b. ne (last_one i a ∙ sym (last_one j b))),
  ((tt, tt), replies_all (brings SynchPull sizes) (Rival SynchPull sizes) (size sizes) (λ i. Slot 0)),
)
  where
    last_one : (i : ℕ) → brings SynchPull sizes (first i) ≡ true → i ≡ first_size sizes
    last_one i a = last_brings (first_size sizes) i (passive_array _ Pull) (active_port _ Pull) (active_port [] Sync) refl refl a
free-kind DecisionWait sizes chans is = (
  tt,
  chosen (brings DecisionWait sizes) (Rival DecisionWait sizes) (size sizes)
      (λ i. seq (take (member i) 1) (seq (call (member (size sizes + i))) (both (reply (member i) Nothing) (reply 1 Nothing)))) member
      (λ i. (tt, ((tt, tt), two_replies (brings DecisionWait sizes) (Rival DecisionWait sizes) (member i) 1 (λ e. off i e)))) (λ i. refl) (λ i p x. x) members
      (λ i j lt less ne. record {
        apart = λ e. ne (members i j e);
        one = input i lt;
        other = input j less;
        rivals = (off i, off j);
      }),
)
  where
    off : (i : ℕ) → member i ≡ 1 → ⊥
    off i e = omega (arith, e)

    input : (i : ℕ) → i < size sizes → (port_at DecisionWait sizes (member i)).passive ≡ true
    input i lt = first_array sizes i (passive_array _ Sync) (active_port [] Sync) (ports_of (active_array _ Sync ∷ []) (other_sizes sizes)) lt refl
free-kind Arbiter sizes chans is = chosen (brings Arbiter sizes) (Rival Arbiter sizes) 2 (λ i. enclosed (first i) 1 (call (behind (2 + i))) Nothing) first (λ i. (tt, ((tt, tt), tt))) (λ i. refl) (λ i p x. x) firsts
    (λ i j lt less ne. record { apart = λ e. ne (firsts i j e); one = input i lt; other = input j less; rivals = tt })
  where
    input : (i : ℕ) → i < 2 → (port_at Arbiter sizes (first i)).passive ≡ true
    input zero lt = refl
    input (suc zero) lt = refl
    input (suc (suc i)) lt = absurd (omega (arith, lt))
free-kind FalseVariable sizes chans is = reads (brings FalseVariable sizes) (Rival FalseVariable sizes) (forever (enclosed 1 0 (call 2) Nothing)) (size sizes) after (tt, ((tt, tt), tt))
    (λ i. array_mute (first_size sizes) i (passive_array _ Pull) (active_port [] Sync) refl refl) afters (λ i x. off i (at_two (after i) x))
    (λ i p lt x brings. elim (at_two p x) [
      | inl e ↦ subst (λ n. Rival FalseVariable sizes n (after i)) e (record {
        apart = λ e. off i (inl e);
        one = refl;
        other = first_array sizes i (passive_array _ Pull) (active_port [] Sync) [] lt refl;
        rivals = refl;
      })
      | inr e ↦ absurd (false≢true (ap (λ n. brings_in (port_at FalseVariable sizes n)) e ∙ brings))
    ])
  where
    at_two : (p : ℕ) → HasPort (forever (enclosed 1 0 (call 2) Nothing)) p → (1 ≡ p) ⊎ (2 ≡ p)
    at_two p (inl x) = inl x
    at_two p (inr (inl (inl x))) = inr x
    at_two p (inr (inl (inr x))) = inr x
    at_two p (inr (inr x)) = inl x

    off : (i : ℕ) → (1 ≡ after i) ⊎ (2 ≡ after i) → ⊥
    off i (inl e) = omega (arith, e)
    off i (inr e) = omega (arith, e)
free-kind Bar sizes chans is = absurd (is refl)

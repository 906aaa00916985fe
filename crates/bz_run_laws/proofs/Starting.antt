-- Each kind makes its moves at each port in turn, from a port that is closed.
use Rattle.std.proofs.Common.{◌≡◌, ◌≢◌, inl, inr, ℕ, zero, suc, ◌+◌, ◌<◌, true, false, Some, None, List, refl, sym, subst, ◌∙◌, arith}
use Rattle.std.specs.Prelude.{⊤}
use Rattle.std.proofs.lemmas.Bool.{cases_eq, cases_lt, eq-eqb, ne_eqb}
use Rattle.bz_model.specs.declared.channel.Chan.{Chan}
use Rattle.bz_model.specs.declared.expr.Expr.{Expr}
use Rattle.bz_model.specs.declared.expr.Expr.TheVariants.{Nothing, Slot, Fixed, SomeOne}
use Rattle.bz_model.specs.declared.spans.Span.{Span}
use Rattle.bz_model.specs.declared.kind.Kind.{Kind}
use Rattle.bz_model.specs.declared.kind.Kind.TheVariants.{Loop, Sequence, SequenceOptimised, Concur, Fork, WireFork, ForkPush, While, Case, CaseFetch, Fetch, Variable, Constant, UnaryFunc, BinaryFunc, BinaryFuncConstR, Slice, Combine, CombineEqual, Adapt, Split, Halt, HaltPush, Continue, ContinuePush, Call, CallMux, CallDemux, Passivator, PassivatorPush, Synch, SynchPull, DecisionWait, Arbiter, FalseVariable, Bar}
use Rattle.bz_model.specs.Terms.{picks, leads, Term, ask, take, reply, got, seq, par, choice, forever, while, when, done, no_terms, term, all, in_turn}
use Rattle.bz_model.specs.Processes.{process, size, call, pull, enclosed, member, after, first, behind, into_last, from_last}
use Rattle.bz_run_laws.proofs.Alternating.{Port, Ends, Is, Passes, Runs, Beside, Idle, Each, Apart, lead, lead_at, mono}

abbrev pub Any : Ends
Any a = ⊤

-- the term that begins a list of terms is that of its place
lead-all : (n : ℕ) (f : ℕ → Term) (i q : ℕ) → lead_at (all n f) i ≡ Some q → lead (f i) ≡ Some q
lead-all zero f i q e = absurd (cc)
lead-all (suc n) f zero q e = e
lead-all (suc n) f (suc i) q e = lead-all n (λ j. f (suc j)) i q e

-- of a list of terms of which each begins with a take at a port of its own
apart-all : (n : ℕ) (f : ℕ → Term) (g : ℕ → ℕ) → ((i : ℕ) → lead (f i) ≡ Some (g i)) → ((i j : ℕ) → g i ≡ g j → i ≡ j) → Apart (all n f)
apart-all n f g led differ i j q a b =
    let x : Some (g i) ≡ Some q = sym (led i) ∙ lead-all n f i q a in
    let y : Some (g j) ≡ Some q = sym (led j) ∙ lead-all n f j q b in
    differ i j (let same : Some (g i) ≡ Some (g j) = x ∙ sym y in cc)

module _ (p : ℕ) where
  -- ---- a handshake

  -- an active port's, at a port that is closed
  calls : (q x : ℕ) (e : Expr) (K : Ends) → K (Some false) → Runs p (seq (ask q e) (got q x)) K (Some false)
  calls q x e K k = elim (cases_eq q p) [
    | inl is ↦ subst (λ b. Passes b false true (Passes b true false K) (Some false)) (sym (eq-eqb q p is)) (refl, (refl, k))
    | inr ne ↦ subst (λ b. Passes b false true (Passes b true false K) (Some false)) (sym (ne_eqb q p ne)) k
  ]

  -- at another port
  skips : (q x : ℕ) (e : Expr) (K : Ends) (a : Port) → q ≢ p → K a → Runs p (seq (ask q e) (got q x)) K a
  skips q x e K a ne k = subst (λ b. Passes b false true (Passes b true false K) a) (sym (ne_eqb q p ne)) k

  -- a passive port's, round a body that leaves the port as it was
  encloses : (q x : ℕ) (body : Term) (e : Expr) → (q ≡ p → Runs p body (Is (Some true)) (Some true)) → (q ≢ p → Runs p body (Is (Some false)) (Some false))
      → Runs p (enclosed q x body e) (Is (Some false)) (Some false)
  encloses q x body e mine other = elim (cases_eq q p) [
    | inl is ↦
        subst (λ b. Passes b false true (Runs p body (Passes b true false (Is (Some false)))) (Some false)) (sym (eq-eqb q p is))
        (refl, mono p body (Is (Some true)) (Passes true true false (Is (Some false))) (λ a e. (e, refl)) (Some true) (mine is))
    | inr ne ↦ subst (λ b. Passes b false true (Runs p body (Passes b true false (Is (Some false)))) (Some false)) (sym (ne_eqb q p ne)) (other ne)
  ]

  surrounds : (q x : ℕ) (body : Term) (e : Expr) (K : Ends) (a : Port) → q ≢ p → Runs p body K a → Runs p (enclosed q x body e) K a
  surrounds q x body e K a ne k = subst (λ b. Passes b false true (Runs p body (Passes b true false K)) a) (sym (ne_eqb q p ne)) k

  -- one move
  opens-take : (q x : ℕ) (K : Ends) → q ≡ p → K (Some true) → Runs p (take q x) K (Some false)
  opens-take q x K is k = subst (λ b. Passes b false true K (Some false)) (sym (eq-eqb q p is)) (refl, k)

  past-take : (q x : ℕ) (K : Ends) (a : Port) → q ≢ p → K a → Runs p (take q x) K a
  past-take q x K a ne k = subst (λ b. Passes b false true K a) (sym (ne_eqb q p ne)) k

  closes-reply : (q : ℕ) (e : Expr) (K : Ends) → q ≡ p → K (Some false) → Runs p (reply q e) K (Some true)
  closes-reply q e K is k = subst (λ b. Passes b true false K (Some true)) (sym (eq-eqb q p is)) (refl, k)

  past-reply : (q : ℕ) (e : Expr) (K : Ends) (a : Port) → q ≢ p → K a → Runs p (reply q e) K a
  past-reply q e K a ne k = subst (λ b. Passes b true false K a) (sym (ne_eqb q p ne)) k

  -- a guard that is pulled again and again
  whiles : (q x : ℕ) (t : Term) (K : Ends) (a : Port) → (q ≡ p → a ≡ Some false) → Runs p t (Is a) a → K a → Runs p (while q x t) K a
  whiles q x t K a shut body k = elim (cases_eq q p) [
    | inl is ↦
        subst (λ b. Passes b false true (Passes b true false (λ c. (c ≡ a) × Runs p t (Is a) a × K a)) a) (sym (eq-eqb q p is))
        (shut is, (refl, (sym (shut is), body, k)))
    | inr ne ↦ subst (λ b. Passes b false true (Passes b true false (λ c. (c ≡ a) × Runs p t (Is a) a × K a)) a) (sym (ne_eqb q p ne)) (refl, body, k)
  ]

  -- ---- arrays

  idle-all : (n : ℕ) (f : ℕ → Term) → ((i : ℕ) → i < n → Runs p (f i) (Is None) None) → Idle p (all n f)
  idle-all zero f free = tt
  idle-all (suc n) f free = (free 0 (omega arith), idle-all n (λ i. f (suc i)) (λ i lt. free (suc i) (omega arith)))

  -- Side by side, of which each has a port of its own, and uses this one where that is it.
  beside-all : (n : ℕ) (f : ℕ → Term) (g : ℕ → ℕ) (K : Ends) (a : Port) → ((i j : ℕ) → g i ≡ g j → i ≡ j) → ((i : ℕ) → i < n → g i ≢ p → Runs p (f i) (Is None) None)
      → ((i : ℕ) → i < n → g i ≡ p → Runs p (f i) K a) → (((i : ℕ) → i < n → g i ≢ p) → K a) → Beside p (all n f) K a
  beside-all zero f g K a differ free uses none = none (λ i lt. absurd (omega arith))
  beside-all (suc n) f g K a differ free uses none = elim (cases_eq (g 0) p) [
    | inl is ↦ inr (idle-all n (λ i. f (suc i)) (λ i lt. free (suc i) (omega arith) (λ e. let x = differ (suc i) 0 (e ∙ sym is) in omega arith)), uses 0 (omega arith) is)
    | inr ne ↦ inl (
      free 0 (omega arith) ne,
      beside-all n (λ i. f (suc i)) (λ i. g (suc i)) K a (λ i j e. let x = differ (suc i) (suc j) e in omega arith) (λ i lt. free (suc i) (omega arith))
          (λ i lt. uses (suc i) (omega arith)) (λ others. none (λ i lt. rest others i lt ne)),
    )
  ]
    where
      rest : ((i : ℕ) → i < n → g (suc i) ≢ p) → (i : ℕ) → i < suc n → g 0 ≢ p → g i ≢ p
      rest others zero lt ne = ne
      rest others (suc i) lt ne = others i (omega arith)

  -- one after another, of which each leaves the port as it was
  in-turn : (i n : ℕ) (f : ℕ → Term) (K : Ends) (a : Port) → ((j : ℕ) → Runs p (f j) (Is a) a) → K a → Runs p (in_turn i n f) K a
  in-turn i zero f K a each k = k
  in-turn i (suc n) f K a each k = mono p (f i) (Is a) (Runs p (in_turn (suc i) n f) K) (λ b e. subst (Runs p (in_turn (suc i) n f) K) (sym e) (in-turn (suc i) n f K a each k)) a (each i)

  each-all : (n : ℕ) (f : ℕ → Term) (g : ℕ → ℕ) (K : Ends) (a : Port) → ((i : ℕ) → lead (f i) ≡ Some (g i)) → ((i : ℕ) → i < n → Runs p (f i) K a) → Each p (all n f) K a
  each-all zero f g K a led runs = tt
  each-all (suc n) f g K a led runs = (runs 0 (omega arith), (g 0, led 0), each-all n (λ i. f (suc i)) (λ i. g (suc i)) K a (λ i. led (suc i)) (λ i lt. runs (suc i) (omega arith)))

  -- handshakes of an array of active ports, which send and store what they may
  module _ (n : ℕ) (g : ℕ → ℕ) (e : ℕ → Expr) (x : ℕ → ℕ) (differ : (i j : ℕ) → g i ≡ g j → i ≡ j) where
    abbrev leg : ℕ → Term
    leg i = seq (ask (g i) (e i)) (got (g i) (x i))

    legs-shut : (K : Ends) → K (Some false) → Beside p (all n leg) K (Some false)
    legs-shut K k =
        beside-all n leg g K (Some false) differ (λ i lt ne. skips (g i) (x i) (e i) (Is None) None ne refl) (λ i lt is. calls (g i) (x i) (e i) K k) (λ none. k)

    legs-past : (K : Ends) (a : Port) → ((i : ℕ) → i < n → g i ≢ p) → K a → Beside p (all n leg) K a
    legs-past K a apart k =
        beside-all n leg g K a differ (λ i lt ne. skips (g i) (x i) (e i) (Is None) None ne refl) (λ i lt is. absurd (apart i lt is)) (λ none. k)

    -- a passive port round them
    rounds : (q y : ℕ) (answer : Expr) → ((i : ℕ) → g i ≢ q) → Runs p (enclosed q y (par (all n leg)) answer) (Is (Some false)) (Some false)
    rounds q y answer apart =
        encloses q y (par (all n leg)) answer (λ is. legs-past (Is (Some true)) (Some true) (λ i lt f. apart i (f ∙ sym is)) refl) (λ ne. legs-shut (Is (Some false)) refl)

    rounds-past : (q y : ℕ) (answer : Expr) (K : Ends) (a : Port) → q ≢ p → ((i : ℕ) → i < n → g i ≢ p) → K a → Runs p (enclosed q y (par (all n leg)) answer) K a
    rounds-past q y answer K a ne apart k = surrounds q y (par (all n leg)) answer K a ne (legs-past K a apart k)

  -- two of them
  two : (q r x y : ℕ) (e f : Expr) (K : Ends) (a : Port) → q ≢ r → (q ≡ p → a ≡ Some false) → (r ≡ p → a ≡ Some false) → K a
      → Beside p (term (seq (ask q e) (got q x)) (term (seq (ask r f) (got r y)) no_terms)) K a
  two q r x y e f K a ne one other k = elim (cases_eq q p) [
    | inl is ↦ inr (
      (skips r y f (Is None) None (λ c. ne (is ∙ sym c)) refl, tt),
      subst (Runs p (seq (ask q e) (got q x)) K) (sym (one is)) (calls q x e K (subst K (one is) k)),
    )
    | inr off ↦ inl (
      skips q x e (Is None) None off refl,
      elim (cases_eq r p) [
        | inl is ↦ inr (tt, subst (Runs p (seq (ask r f) (got r y)) K) (sym (other is)) (calls r y f K (subst K (other is) k)))
        | inr off ↦ inl (skips r y f (Is None) None off refl, k)
      ],
    )
  ]

  -- a passive port round two
  pairs : (q z r x l y : ℕ) (e f answer : Expr) → r ≢ l → q ≢ r → q ≢ l
      → Runs p (enclosed q z (par (term (seq (ask r e) (got r x)) (term (seq (ask l f) (got l y)) no_terms))) answer) (Is (Some false)) (Some false)
  pairs q z r x l y e f answer ne one other =
      let body = par (term (seq (ask r e) (got r x)) (term (seq (ask l f) (got l y)) no_terms)) in
      encloses q z body answer
      (λ is. two r l x y e f (Is (Some true)) (Some true) ne (λ c. absurd (one (is ∙ sym c))) (λ c. absurd (other (is ∙ sym c))) refl)
      (λ no. two r l x y e f (Is (Some false)) (Some false) ne (λ c. refl) (λ c. refl) refl)

  -- a passive port round one, and round nothing
  wraps : (q z r x : ℕ) (e answer : Expr) → q ≢ r → Runs p (enclosed q z (seq (seq (ask r e) (got r x)) done) answer) (Is (Some false)) (Some false)
  wraps q z r x e answer ne =
      encloses q z (seq (seq (ask r e) (got r x)) done) answer (λ is. skips r x e (Is (Some true)) (Some true) (λ c. ne (is ∙ sym c)) refl) (λ no. calls r x e (Is (Some false)) refl)

  wraps-call : (q z r x : ℕ) (e answer : Expr) → q ≢ r → Runs p (enclosed q z (seq (ask r e) (got r x)) answer) (Is (Some false)) (Some false)
  wraps-call q z r x e answer ne =
      encloses q z (seq (ask r e) (got r x)) answer (λ is. skips r x e (Is (Some true)) (Some true) (λ c. ne (is ∙ sym c)) refl) (λ no. calls r x e (Is (Some false)) refl)

  answers : (q z : ℕ) (answer : Expr) → Runs p (enclosed q z done answer) (Is (Some false)) (Some false)
  answers q z answer = encloses q z done answer (λ is. refl) (λ no. refl)

  -- one taken, and nothing else, for ever
  once : (q x : ℕ) (u : Term) → (q ≡ p → Runs p u Any (Some true)) → (q ≢ p → Runs p u Any (Some false)) → Runs p (seq (take q x) u) Any (Some false)
  once q x u mine other = elim (cases_eq q p) [
    | inl is ↦ opens-take q x (Runs p u Any) is (mine is)
    | inr ne ↦ past-take q x (Runs p u Any) (Some false) ne (other ne)
  ]

  -- an array of passive ports, one of which is chosen
  chooses : (n : ℕ) (f : ℕ → Term) (g : ℕ → ℕ) (K : Ends) (a : Port) → ((i : ℕ) → lead (f i) ≡ Some (g i)) → ((i j : ℕ) → g i ≡ g j → i ≡ j) → ((i : ℕ) → i < n → Runs p (f i) K a)
      → Runs p (choice (all n f)) K a
  chooses n f g K a led differ runs = (each-all n f g K a led runs, apart-all n f g led differ)

  -- of which each encloses a handshake
  callers : (n z x : ℕ) (out : ℕ → ℕ) (e answer : Expr) → ((i : ℕ) → i < n → first i ≢ out i)
      → Runs p (choice (all n (λ i. enclosed (first i) z (seq (ask (out i) e) (got (out i) x)) answer))) (Is (Some false)) (Some false)
  callers n z x out e answer apart =
      chooses n (λ i. enclosed (first i) z (seq (ask (out i) e) (got (out i) x)) answer) first (Is (Some false)) (Some false) (λ i. refl) (λ i j same. omega (arith, same))
      (λ i lt. wraps-call (first i) z (out i) x e answer (apart i lt))

  -- an array of passive ports that are taken at once, and what follows
  meets : (n : ℕ) (x : ℕ → ℕ) (u : Term) (K : Ends) → ((i : ℕ) → i < n → first i ≡ p → Runs p u K (Some true)) → (((i : ℕ) → i < n → first i ≢ p) → Runs p u K (Some false))
      → Runs p (seq (par (all n (λ i. take (first i) (x i)))) u) K (Some false)
  meets n x u K mine other =
      beside-all n (λ i. take (first i) (x i)) first (Runs p u K) (Some false) (λ i j same. omega (arith, same))
      (λ i lt ne. past-take (first i) (x i) (Is None) None ne refl) (λ i lt is. opens-take (first i) (x i) (Runs p u K) is (mine i lt is)) other

  -- and replied at once
  replied : (n : ℕ) (e : ℕ → Expr) (K : Ends) (i : ℕ) → i < n → first i ≡ p → K (Some false) → Runs p (par (all n (λ i. reply (first i) (e i)))) K (Some true)
  replied n e K i lt is k =
      beside-all n (λ j. reply (first j) (e j)) first K (Some true) (λ i j same. omega (arith, same))
      (λ j below ne. past-reply (first j) (e j) (Is None) None ne refl) (λ j below js. closes-reply (first j) (e j) K js k) (λ none. absurd (none i lt is))

  unreplied : (n : ℕ) (e : ℕ → Expr) (K : Ends) (a : Port) → ((i : ℕ) → i < n → first i ≢ p) → K a → Runs p (par (all n (λ i. reply (first i) (e i)))) K a
  unreplied n e K a none k =
      beside-all n (λ j. reply (first j) (e j)) first K a (λ i j same. omega (arith, same))
      (λ j below ne. past-reply (first j) (e j) (Is None) None ne refl) (λ j below js. absurd (none j below js)) (λ _. k)

  gathers : (n : ℕ) (x : ℕ → ℕ) (e : ℕ → Expr) → Runs p (seq (par (all n (λ i. take (first i) (x i)))) (par (all n (λ i. reply (first i) (e i))))) (Is (Some false)) (Some false)
  gathers n x e =
      meets n x (par (all n (λ i. reply (first i) (e i)))) (Is (Some false)) (λ i lt is. replied n e (Is (Some false)) i lt is refl) (λ none. unreplied n e (Is (Some false)) (Some false) none refl)

  -- with a handshake in between
  gathers-round : (n y : ℕ) (x : ℕ → ℕ) (e : ℕ → Expr)
      → Runs p (seq (par (all n (λ i. take (first i) (x i)))) (seq (seq (ask (behind n) Nothing) (got (behind n) y)) (par (all n (λ i. reply (first i) (e i)))))) (Is (Some false)) (Some false)
  gathers-round n y x e =
      let back = par (all n (λ i. reply (first i) (e i))) in
      meets n x (seq (seq (ask (behind n) Nothing) (got (behind n) y)) back) (Is (Some false))
      (λ i lt is. skips (behind n) y Nothing (Runs p back (Is (Some false))) (Some true) (λ c. let z = c ∙ sym is in omega arith) (replied n e (Is (Some false)) i lt is refl))
      (λ none. calls (behind n) y Nothing (Runs p back (Is (Some false))) (unreplied n e (Is (Some false)) (Some false) none refl))

  -- ---- readers and the writer of a store

  readers : (n : ℕ) (g : ℕ → ℕ) (a : Port) → ((i j : ℕ) → g i ≡ g j → i ≡ j) → ((i : ℕ) → i < n → g i ≡ p → a ≡ Some false)
      → Beside p (all n (λ i. forever (enclosed (g i) 1 done (Slot 0)))) Any a
  readers n g a differ shut =
      beside-all n (λ i. forever (enclosed (g i) 1 done (Slot 0))) g Any a differ (λ i lt ne. surrounds (g i) 1 done (Slot 0) (Is None) None ne refl)
      (λ i lt is. subst (λ b. Runs p (enclosed (g i) 1 done (Slot 0)) (Is b) b) (sym (shut i lt is)) (answers (g i) 1 (Slot 0))) (λ none. tt)

  no-readers : (n : ℕ) (g : ℕ → ℕ) → ((i : ℕ) → g i ≢ p) → Idle p (all n (λ i. forever (enclosed (g i) 1 done (Slot 0))))
  no-readers n g apart = idle-all n (λ i. forever (enclosed (g i) 1 done (Slot 0))) (λ i lt. surrounds (g i) 1 done (Slot 0) (Is None) None (apart i) refl)

  variable : (n : ℕ) → Runs p (par (term (forever (enclosed 1 0 done Nothing)) (all n (λ i. forever (enclosed (member i) 1 done (Slot 0)))))) Any (Some false)
  variable n = elim (cases_eq 1 p) [
    | inl is ↦ inr (no-readers n member (λ i e. let x = e ∙ sym is in omega arith), answers 1 0 Nothing)
    | inr ne ↦ inl (surrounds 1 0 done Nothing (Is None) None ne refl, readers n member (Some false) (λ i j same. omega (arith, same)) (λ i lt is. refl))
  ]

  signalled : (n : ℕ) → Runs p (par (term (forever (enclosed 1 0 (call 2) Nothing)) (all n (λ i. forever (enclosed (after i) 1 done (Slot 0)))))) Any (Some false)
  signalled n =
      let write = wraps-call 1 0 2 1 Nothing Nothing (omega arith) in
      elim (cases_eq 1 p) [
        | inl is ↦ inr (no-readers n after (λ i e. let x = e ∙ sym is in omega arith), write)
        | inr ne ↦ elim (cases_eq 2 p) [
          | inl is ↦ inr (no-readers n after (λ i e. let x = e ∙ sym is in omega arith), write)
          | inr off ↦ inl (
            surrounds 1 0 (call 2) Nothing (Is None) None ne (skips 2 1 Nothing (Is None) None off refl),
            readers n after (Some false) (λ i j same. omega (arith, same)) (λ i lt is. refl),
          )
        ]
      ]

  -- ---- kinds of their own

  decides : (n : ℕ) → Runs p (seq (take 1 1) (choice (all n (λ i. seq (take (member i) 1) (seq (call (member (n + i))) (par (term (reply (member i) Nothing) (term (reply 1 Nothing) no_terms)))))))) (Is (Some false)) (Some false)
  decides n =
      let back = λ (i : ℕ). par (term (reply (member i) Nothing) (term (reply 1 Nothing) no_terms)) in
      let branch = λ (i : ℕ). seq (take (member i) 1) (seq (call (member (n + i))) (back i)) in
      let K : Ends = Is (Some false) in
      let chosen : (a : Port) → ((i : ℕ) → i < n → Runs p (branch i) K a) → Runs p (choice (all n branch)) K a =
      λ a runs. chooses n branch member K a (λ i. refl) (λ i j same. omega (arith, same)) runs in
      elim (cases_eq 1 p) [
        | inl is ↦ opens-take 1 1 (Runs p (choice (all n branch)) K) is (chosen (Some true) (λ i lt.
            let apart : (m : ℕ) → suc (suc m) ≢ p = λ m e. (let x = e ∙ sym is in omega arith) in
            past-take (member i) 1 (Runs p (seq (call (member (n + i))) (back i)) K) (Some true) (apart i)
            (skips (member (n + i)) 1 Nothing (Runs p (back i) K) (Some true) (apart (n + i))
            (inl (past-reply (member i) Nothing (Is None) None (apart i) refl, inr (tt, closes-reply 1 Nothing K is refl))))))
        | inr ne ↦ past-take 1 1 (Runs p (choice (all n branch)) K) (Some false) ne (chosen (Some false) (λ i lt. elim (cases_eq (member i) p) [
          | inl is ↦ opens-take (member i) 1 (Runs p (seq (call (member (n + i))) (back i)) K) is
              (skips (member (n + i)) 1 Nothing (Runs p (back i) K) (Some true) (λ e. let x = e ∙ sym is in omega arith)
              (inr ((past-reply 1 Nothing (Is None) None ne refl, tt), closes-reply (member i) Nothing K is refl)))
          | inr off ↦ past-take (member i) 1 (Runs p (seq (call (member (n + i))) (back i)) K) (Some false) off
              (calls (member (n + i)) 1 Nothing (Runs p (back i) K)
              (inl (past-reply (member i) Nothing (Is None) None off refl, inl (past-reply 1 Nothing (Is None) None ne refl, refl))))
        ]))
      ]

  bar : (sizes : List ℕ) (chans : List Chan) → Runs p (process Bar sizes chans) Any (Some false)
  bar sizes chans =
      let n = size sizes in
      let out = λ (i : ℕ). after (n + i) in
      let pulls = all n (λ i. pull (after i) i) in
      let calling = all n (λ i. when (leads i) (pull (out i) n)) in
      let guarding : Runs p (forever (enclosed 1 n (par pulls) SomeOne)) Any (Some false) = rounds n after (λ i. Nothing) (λ i. i) (λ i j same. omega (arith, same)) 1 n SomeOne (λ i. omega arith) in
      let no-guard : 1 ≢ p → ((i : ℕ) → i < n → after i ≢ p) → Runs p (forever (enclosed 1 n (par pulls) SomeOne)) (Is None) None =
      λ ne apart. rounds-past n after (λ i. Nothing) (λ i. i) (λ i j same. omega (arith, same)) 1 n SomeOne (Is None) None ne apart refl in
      let each-past : (a : Port) → ((i : ℕ) → i < n → out i ≢ p) → Beside p calling (Is a) a =
      λ a apart. beside-all n (λ i. when (leads i) (pull (out i) n)) out (Is a) a (λ i j same. omega (arith, same)) (λ i lt ne. (skips (out i) n Nothing (Is None) None ne refl, refl)) (λ i lt is. absurd (apart i lt is)) (λ none. refl) in
      let activating : Runs p (forever (enclosed 2 n (par calling) Nothing)) Any (Some false) =
      encloses 2 n (par calling) Nothing (λ is. each-past (Some true) (λ i lt e. let x = e ∙ sym is in omega arith))
      (λ no. beside-all n (λ i. when (leads i) (pull (out i) n)) out (Is (Some false)) (Some false) (λ i j same. omega (arith, same))
      (λ i lt ne. (skips (out i) n Nothing (Is None) None ne refl, refl)) (λ i lt is. (calls (out i) n Nothing (Is (Some false)) refl, refl)) (λ none. refl)) in
      let no-active : 2 ≢ p → ((i : ℕ) → i < n → out i ≢ p) → Runs p (forever (enclosed 2 n (par calling) Nothing)) (Is None) None =
      λ ne apart. surrounds 2 n (par calling) Nothing (Is None) None ne (each-past None apart) in
      elim (cases_eq 1 p) [
        | inl is ↦ inr ((no-active (λ e. let x = e ∙ sym is in omega arith) (λ i lt e. let x = e ∙ sym is in omega arith), tt), guarding)
        | inr ne ↦ elim (cases_eq 2 p) [
          | inl is ↦ inl (no-guard ne (λ i lt e. let x = e ∙ sym is in omega arith), inr (tt, activating))
          | inr off ↦ elim (cases_lt p (after n)) [
            | inl below ↦ inr ((no-active off (λ i lt e. omega arith), tt), guarding)
            | inr above ↦ inl (no-guard ne (λ i lt e. omega arith), inr (tt, activating))
          ]
        ]
      ]

  -- a port of a CaseFetch that is not its first
  case-fetch : (spans : List Span) (n : ℕ) → 1 ≢ p
      → Runs p (seq (take 1 1) (seq (pull 2 1) (seq (in_turn 0 n (λ i. when (picks spans n 1 i) (seq (pull (after i) 0) (reply 1 (Slot 0))))) (when (picks spans n 1 n) (reply 1 (Fixed 0)))))) (Is (Some false)) (Some false)
  case-fetch spans n ne =
      let case = λ (i : ℕ). when (picks spans n 1 i) (seq (pull (after i) 0) (reply 1 (Slot 0))) in
      let last = when (picks spans n 1 n) (reply 1 (Fixed 0)) in
      let K : Ends = Is (Some false) in
      past-take 1 1 (Runs p (seq (pull 2 1) (seq (in_turn 0 n case) last)) K) (Some false) ne
      (calls 2 1 Nothing (Runs p (seq (in_turn 0 n case) last) K)
      (in-turn 0 n case (Runs p last K) (Some false) (λ j. (calls (after j) 0 Nothing (Runs p (reply 1 (Slot 0)) K) (past-reply 1 (Slot 0) K (Some false) ne refl), refl))
      (past-reply 1 (Fixed 0) K (Some false) ne refl, refl)))

  -- An array of calls one after another, and of each that is made where a condition is met.
  turns : (n : ℕ) → Runs p (enclosed 1 1 (in_turn 0 n (λ i. call (member i))) Nothing) (Is (Some false)) (Some false)
  turns n =
      encloses 1 1 (in_turn 0 n (λ i. call (member i))) Nothing
      (λ is. in-turn 0 n (λ i. call (member i)) (Is (Some true)) (Some true) (λ j. skips (member j) 1 Nothing (Is (Some true)) (Some true) (λ e. let x = e ∙ sym is in omega arith) refl) refl)
      (λ ne. in-turn 0 n (λ i. call (member i)) (Is (Some false)) (Some false) (λ j. calls (member j) 1 Nothing (Is (Some false)) refl) refl)

  selects : (spans : List Span) (n : ℕ) → Runs p (enclosed 1 0 (in_turn 0 n (λ i. when (picks spans n 0 i) (call (member i)))) Nothing) (Is (Some false)) (Some false)
  selects spans n =
      let case = λ (i : ℕ). when (picks spans n 0 i) (call (member i)) in
      encloses 1 0 (in_turn 0 n case) Nothing
      (λ is. in-turn 0 n case (Is (Some true)) (Some true) (λ j. (skips (member j) 1 Nothing (Is (Some true)) (Some true) (λ e. let x = e ∙ sym is in omega arith) refl, refl)) refl)
      (λ ne. in-turn 0 n case (Is (Some false)) (Some false) (λ j. (calls (member j) 1 Nothing (Is (Some false)) refl, refl)) refl)

  fetches : Runs p (enclosed 1 1 (seq (pull 2 0) (seq (seq (ask 3 (Slot 0)) (got 3 1)) done)) Nothing) (Is (Some false)) (Some false)
  fetches =
      let push = seq (ask 3 (Slot 0)) (got 3 1) in
      encloses 1 1 (seq (pull 2 0) (seq push done)) Nothing
      (λ is. skips 2 0 Nothing (Runs p push (Is (Some true))) (Some true) (λ e. let x = e ∙ sym is in omega arith) (skips 3 1 (Slot 0) (Is (Some true)) (Some true) (λ e. let x = e ∙ sym is in omega arith) refl))
      (λ ne. calls 2 0 Nothing (Runs p push (Is (Some false))) (calls 3 1 (Slot 0) (Is (Some false)) refl))

  -- calls of all at once, after which nothing comes
  forks : (n : ℕ) → Runs p (seq (take 1 1) (par (all n (λ i. call (member i))))) Any (Some false)
  forks n =
      once 1 1 (par (all n (λ i. call (member i))))
      (λ is. legs-past n member (λ i. Nothing) (λ i. 1) (λ i j same. omega (arith, same)) Any (Some true) (λ i lt e. let x = e ∙ sym is in omega arith) tt)
      (λ ne. legs-shut n member (λ i. Nothing) (λ i. 1) (λ i j same. omega (arith, same)) Any tt)

  loops : Runs p (seq (take 1 1) (forever (call 2))) Any (Some false)
  loops =
      once 1 1 (forever (call 2)) (λ is. skips 2 1 Nothing (Is (Some true)) (Some true) (λ e. let x = e ∙ sym is in omega arith) refl) (λ ne. calls 2 1 Nothing (Is (Some false)) refl)

  repeats : Runs p (enclosed 1 1 (while 2 0 (call 3)) Nothing) (Is (Some false)) (Some false)
  repeats =
      encloses 1 1 (while 2 0 (call 3)) Nothing
      (λ is. whiles 2 0 (call 3) (Is (Some true)) (Some true) (λ e. let x = e ∙ sym is in absurd (omega arith)) (skips 3 1 Nothing (Is (Some true)) (Some true) (λ e. let x = e ∙ sym is in omega arith) refl) refl)
      (λ ne. whiles 2 0 (call 3) (Is (Some false)) (Some false) (λ e. refl) (calls 3 1 Nothing (Is (Some false)) refl) refl)

-- ---- all kinds

same-member : (i j : ℕ) → member i ≡ member j → i ≡ j
same-member i j e = omega (arith, e)

module _ (p : ℕ) where
  pub starts : (kind : Kind) (sizes : List ℕ) (chans : List Chan) → ((spans : List Span) → kind ≡ CaseFetch spans → 1 ≢ p) → Runs p (process kind sizes chans) Any (Some false)
  starts Loop sizes chans other = loops p
  starts Sequence sizes chans other = turns p (size sizes)
  starts SequenceOptimised sizes chans other = turns p (size sizes)
  starts Concur sizes chans other = rounds p (size sizes) member (λ i. Nothing) (λ i. 1) same-member 1 1 Nothing (λ i. omega arith)
  starts Fork sizes chans other = rounds p (size sizes) member (λ i. Nothing) (λ i. 1) same-member 1 1 Nothing (λ i. omega arith)
  starts WireFork sizes chans other = forks p (size sizes)
  starts ForkPush sizes chans other = rounds p (size sizes) member (λ i. Slot 0) (λ i. 1) same-member 1 0 Nothing (λ i. omega arith)
  starts While sizes chans other = repeats p
  starts (Case spans) sizes chans other = selects p spans (size sizes)
  starts (CaseFetch spans) sizes chans other = case-fetch p spans (size sizes) (other spans refl)
  starts Fetch sizes chans other = fetches p
  starts Variable sizes chans other = variable p (size sizes)
  starts (Constant value) sizes chans other = answers p 1 1 Nothing
  starts (UnaryFunc op signed) sizes chans other = wraps p 1 1 2 0 Nothing Nothing (omega arith)
  starts (BinaryFunc op left right) sizes chans other = pairs p 1 1 2 0 3 1 Nothing Nothing Nothing (omega arith) (omega arith) (omega arith)
  starts (BinaryFuncConstR op left signed bits value) sizes chans other = wraps p 1 1 2 0 Nothing Nothing (omega arith)
  starts (Slice low) sizes chans other = wraps p 1 1 2 0 Nothing Nothing (omega arith)
  starts Combine sizes chans other = pairs p 1 1 2 0 3 1 Nothing Nothing Nothing (omega arith) (omega arith) (omega arith)
  starts CombineEqual sizes chans other = rounds p (size sizes) member (λ i. Nothing) (λ i. i) same-member 1 1 Nothing (λ i. omega arith)
  starts (Adapt signed) sizes chans other = wraps p 1 1 2 0 Nothing Nothing (omega arith)
  starts Split sizes chans other = pairs p 1 0 2 1 3 1 Nothing Nothing Nothing (omega arith) (omega arith) (omega arith)
  starts Halt sizes chans other = once p 1 1 done (λ is. tt) (λ ne. tt)
  starts HaltPush sizes chans other = once p 1 0 done (λ is. tt) (λ ne. tt)
  starts Continue sizes chans other = answers p 1 1 Nothing
  starts ContinuePush sizes chans other = answers p 1 0 Nothing
  starts Call sizes chans other = callers p (size sizes) 1 1 (λ i. behind (size sizes)) Nothing Nothing (λ i lt. omega arith)
  starts CallMux sizes chans other = callers p (size sizes) 0 1 (λ i. behind (size sizes)) (Slot 0) Nothing (λ i lt. omega arith)
  starts CallDemux sizes chans other = callers p (size sizes) 1 0 (λ i. behind (size sizes)) Nothing (Slot 0) (λ i lt. omega arith)
  starts Passivator sizes chans other = gathers p (size sizes) (λ i. 1) (λ i. Nothing)
  starts PassivatorPush sizes chans other = gathers p (suc (size sizes)) (into_last (size sizes)) (from_last (size sizes))
  starts Synch sizes chans other = gathers-round p (size sizes) 1 (λ i. 1) (λ i. Nothing)
  starts SynchPull sizes chans other = gathers-round p (size sizes) 0 (λ i. 1) (λ i. Slot 0)
  starts DecisionWait sizes chans other = decides p (size sizes)
  starts Arbiter sizes chans other = callers p 2 1 1 (λ i. behind (2 + i)) Nothing Nothing (λ i lt. omega arith)
  starts FalseVariable sizes chans other = signalled p (size sizes)
  starts Bar sizes chans other = bar p sizes chans

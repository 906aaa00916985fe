-- Processes in which what goes on side by side is apart, and what is chosen is one of rivals: of two moves that can be made, but
-- for those of rivals, each can be made first.
use Rattle.std.proofs.Common.{◌≡◌, ◌≢◌, ◌⊎◌, inl, inr, ℕ, zero, suc, Bool, true, false, Option, Some, None, [], ◌∷◌, refl, sym, ap, ap₂, subst, ◌∙◌, cond, set}
use Rattle.std.specs.Prelude.{◌&&◌}
use Rattle.std.proofs.lemmas.Bool.{cases_eq}
use Rattle.bz_model.specs.declared.expr.Expr.TheVariants.{Nothing}
use Rattle.bz_model.specs.Heads.{Head, IsHead, Proc, after_head, are_done, before, is_done, sequence, tidy, tidy_all, together}
use Rattle.bz_model.specs.Terms.{Store, Term, Terms, ask, take, reply, got, seq, par, choice, forever, while, when, done, no_terms, term, with_term, is_met, stored, value_of}
use Rattle.bz_net.specs.Sides.{sends}
use Rattle.bz_complete.proofs.Alone.{Comes, Cross, Flows}
use Rattle.bz_complete.proofs.Rows.{Again, Apart, AreRows, HasPort, IsRow, Keeps, at_head, at_other, at_tidy, head_at, head_gives, head_keeps, head_port, rest_within, row_again, row_head, row_rest, row_sole, rows_tidy, rows_with, sequence_head, term_at}

-- ---- a list of terms of which two go on

-- a term of a list that has a head keeps the list from being done
not_done : (t : Term) (h : Head) → IsHead t h → is_done t ≡ false
not_done (ask p e) h at = refl
not_done (take p e) h at = refl
not_done (reply p e) h at = refl
not_done (got p e) h at = refl
not_done (seq t u) h at = refl
not_done (par ts) h at = refl
not_done (choice ts) h at = refl
not_done (forever t) h at = refl
not_done (while p e t) h at = refl
not_done (when c t) h at = refl
not_done done h at = absurd at

none_done : (a b : Bool) → b ≡ false → (a && b) ≡ false
none_done true b is = is
none_done false b is = refl

all_not_done : (ts : Terms) (i : ℕ) (h : Head) → IsHead (term_at ts i) h → are_done ts ≡ false
all_not_done no_terms i h at = absurd at
all_not_done (term t ts) zero h at = rw (not_done t h at) refl
all_not_done (term t ts) (suc i) h at = none_done (is_done t) (are_done ts) (all_not_done ts i h at)

together_head : (ts : Terms) (i : ℕ) (h : Head) → IsHead (term_at ts i) h → together ts ≡ par ts
together_head ts i h at = rw (all_not_done ts i h at) refl

module _ (u s r : Store) where
  -- nothing of a list of rows goes by how often it is tidied
  all_again : (ts : Terms) → ((i : ℕ) → IsRow (term_at ts i)) → tidy_all u (tidy_all s ts) ≡ tidy_all u (tidy_all r ts)
  all_again no_terms rows = refl
  all_again (term t ts) rows = ap₂ (λ x xs. term x xs) (row_again u s t (rows 0) ∙ sym (row_again u r t (rows 0))) (all_again ts (λ i. rows (suc i)))

  -- one goes on before or behind a tidying
  one_again : (ts : Terms) (j : ℕ) (a b : Term) → ((i : ℕ) → IsRow (term_at ts i)) → tidy u a ≡ tidy u (tidy r b) → tidy_all u (with_term (tidy_all s ts) j a) ≡ tidy_all u (tidy_all r (with_term ts j b))
  one_again no_terms j a b rows is = refl
  one_again (term t ts) zero a b rows is = ap₂ (λ x xs. term x xs) is (all_again ts (λ i. rows (suc i)))
  one_again (term t ts) (suc j) a b rows is =
      ap₂ (λ x xs. term x xs) (row_again u s t (rows 0) ∙ sym (row_again u r t (rows 0))) (one_again ts j a b (λ i. rows (suc i)) is)

module _ (u s r : Store) where
  -- two go on in either order
  both_again : (ts : Terms) (i j : ℕ) (a b c d : Term) → i ≢ j → ((k : ℕ) → IsRow (term_at ts k)) → tidy u (tidy s a) ≡ tidy u c → tidy u b ≡ tidy u (tidy r d)
      → tidy_all u (with_term (tidy_all s (with_term ts i a)) j b) ≡ tidy_all u (with_term (tidy_all r (with_term ts j d)) i c)
  both_again no_terms i j a b c d ne rows one other = refl
  both_again (term t ts) zero zero a b c d ne rows one other = absurd (ne refl)
  both_again (term t ts) zero (suc j) a b c d ne rows one other = ap₂ (λ x xs. term x xs) one (one_again u s r ts j b d (λ k. rows (suc k)) other)
  both_again (term t ts) (suc i) zero a b c d ne rows one other = ap₂ (λ x xs. term x xs) other (sym (one_again u r s ts i c a (λ k. rows (suc k)) (sym one)))
  both_again (term t ts) (suc i) (suc j) a b c d ne rows one other =
      ap₂ (λ x xs. term x xs) (row_again u s t (rows 0) ∙ sym (row_again u r t (rows 0))) (both_again ts i j a b c d (λ e. ne (ap suc e)) (λ k. rows (suc k)) one other)

-- ---- stores

set_apart : (s : Store) (i j x y : ℕ) → i ≢ j → set (set s i x) j y ≡ set (set s j y) i x
set_apart [] i j x y ne = refl
set_apart (z ∷ s) zero zero x y ne = absurd (ne refl)
set_apart (z ∷ s) zero (suc j) x y ne = refl
set_apart (z ∷ s) (suc i) zero x y ne = refl
set_apart (z ∷ s) (suc i) (suc j) x y ne = ap (λ xs. z ∷ xs) (set_apart s i j x y (λ e. ne (ap suc e)))

-- ---- terms

-- it begins with a take at port p
abbrev pub Begins : Term → ℕ → Type 0
Begins (ask q e) p = ⊥
Begins (take q x) p = q ≡ p
Begins (reply q e) p = ⊥
Begins (got q x) p = ⊥
Begins (seq a b) p = Begins a p
Begins (par ts) p = ⊥
Begins (choice ts) p = ⊥
Begins (forever t) p = ⊥
Begins (while q x t) p = ⊥
Begins (when c t) p = ⊥
Begins done p = ⊥

begins_port : (t : Term) (p : ℕ) (h : Head) → Begins t p → IsHead t h → h.port ≡ p
begins_port (ask q e) p h b a = absurd b
begins_port (take q x) p h b a = ap (λ (y : Head). y.port) a ∙ b
begins_port (reply q e) p h b a = absurd b
begins_port (got q x) p h b a = absurd b
begins_port (seq t u) p h b (r, a, is) = ap (λ (y : Head). y.port) is ∙ begins_port t p r b a
begins_port (par ts) p h b a = absurd b
begins_port (choice ts) p h b a = absurd b
begins_port (forever t) p h b a = absurd b
begins_port (while q x t) p h b a = absurd b
begins_port (when c t) p h b a = absurd b
begins_port done p h b a = absurd b

begins_sole : (t : Term) (p : ℕ) (h k : Head) → Begins t p → IsHead t h → IsHead t k → h ≡ k
begins_sole (ask q e) p h k b x y = absurd b
begins_sole (take q x) p h k b y z = y ∙ sym z
begins_sole (reply q e) p h k b x y = absurd b
begins_sole (got q x) p h k b y z = absurd b
begins_sole (seq t u) p h k b (r, x, is) (s, y, same) = is ∙ ap (λ z. before z u) (begins_sole t p r s b x y) ∙ sym same
begins_sole (par ts) p h k b x y = absurd b
begins_sole (choice ts) p h k b x y = absurd b
begins_sole (forever t) p h k b x y = absurd b
begins_sole (while q e t) p h k b x y = absurd b
begins_sole (when c t) p h k b x y = absurd b
begins_sole done p h k b x y = absurd b

begins_sequence : (a b r : Term) (p : ℕ) → Begins a p → sequence a b r ≡ seq a b
begins_sequence (ask q e) b r p x = refl
begins_sequence (take q e) b r p x = refl
begins_sequence (reply q e) b r p x = refl
begins_sequence (got q e) b r p x = refl
begins_sequence (seq t u) b r p x = refl
begins_sequence (par ts) b r p x = refl
begins_sequence (choice ts) b r p x = refl
begins_sequence (forever t) b r p x = refl
begins_sequence (while q e t) b r p x = refl
begins_sequence (when c t) b r p x = refl
begins_sequence done b r p x = absurd x

begins_tidy : (s : Store) (t : Term) (p : ℕ) → Begins t p → tidy s t ≡ t
begins_tidy s (ask q e) p x = refl
begins_tidy s (take q e) p x = refl
begins_tidy s (reply q e) p x = refl
begins_tidy s (got q e) p x = refl
begins_tidy s (seq t u) p x = ap (λ a. sequence a u (tidy s u)) (begins_tidy s t p x) ∙ begins_sequence t u (tidy s u) p x
begins_tidy s (par ts) p x = absurd x
begins_tidy s (choice ts) p x = absurd x
begins_tidy s (forever t) p x = refl
begins_tidy s (while q e t) p x = absurd x
begins_tidy s (when c t) p x = absurd x
begins_tidy s done p x = refl

-- each begins with a take
abbrev pub AllBegin : Terms → Type 0
AllBegin no_terms = Unit {0}
AllBegin (term t ts) = ((p : ℕ) × Begins t p) × AllBegin ts

begins_at : (ts : Terms) (i : ℕ) (h : Head) → AllBegin ts → IsHead (term_at ts i) h → (p : ℕ) × Begins (term_at ts i) p
begins_at no_terms i h x at = absurd at
begins_at (term t ts) zero h x at = x.0
begins_at (term t ts) (suc i) h x at = begins_at ts i h x.1 at

all_tidy : (s : Store) (ts : Terms) → AllBegin ts → tidy_all s ts ≡ ts
all_tidy s no_terms x = refl
all_tidy s (term t ts) x = ap₂ (λ a us. term a us) (begins_tidy s t x.0.0 x.0.1) (all_tidy s ts x.1)

module _ (brings : ℕ → Bool) (Rival : ℕ → ℕ → Type 0) where
  -- no two begin at one port, and any two at rival ones
  abbrev pub AreRivals : Terms → Type 0
  AreRivals ts = (i j p q : ℕ) → i ≢ j → Begins (term_at ts i) p → Begins (term_at ts j) q → (p ≢ q) × Rival p q

  abbrev mutual
    pub IsFree : Term → Type 0
    IsFree (ask p e) = Unit {0}
    IsFree (take p x) = Unit {0}
    IsFree (reply p e) = Unit {0}
    IsFree (got p x) = Unit {0}
    IsFree (seq a b) = IsFree a × IsFree b
    IsFree (par ts) = AreRows brings Rival ts
    IsFree (choice ts) = AllFree ts × AllBegin ts × AreRivals ts
    IsFree (forever t) = IsFree t
    IsFree (while p x t) = IsFree t
    IsFree (when c t) = IsFree t
    IsFree done = Unit {0}

    pub AllFree : Terms → Type 0
    AllFree no_terms = Unit {0}
    AllFree (term t ts) = IsFree t × AllFree ts

  free_at : (ts : Terms) (i : ℕ) → AllFree ts → IsFree (term_at ts i)
  free_at no_terms i x = tt
  free_at (term t ts) zero x = x.0
  free_at (term t ts) (suc i) x = free_at ts i x.1

  begins_rest : (t : Term) (p : ℕ) (h : Head) → IsFree t → Begins t p → IsHead t h → IsFree h.rest
  begins_rest (ask q e) p h s b a = absurd b
  begins_rest (take q x) p h s b a = rw a tt
  begins_rest (reply q e) p h s b a = absurd b
  begins_rest (got q x) p h s b a = absurd b
  begins_rest (seq t u) p h s b (r, a, is) = rw is (begins_rest t p r s.0 b a, s.1)
  begins_rest (par ts) p h s b a = absurd b
  begins_rest (choice ts) p h s b a = absurd b
  begins_rest (forever t) p h s b a = absurd b
  begins_rest (while q x t) p h s b a = absurd b
  begins_rest (when c t) p h s b a = absurd b
  begins_rest done p h s b a = absurd b

  free_rest : (t : Term) (h : Head) → IsFree t → IsHead t h → IsFree h.rest
  free_rest (ask p e) h s a = rw a tt
  free_rest (take p x) h s a = rw a tt
  free_rest (reply p e) h s a = rw a tt
  free_rest (got p x) h s a = rw a tt
  free_rest (seq t u) h s (r, a, is) = rw is (free_rest t r s.0 a, s.1)
  free_rest (par ts) h s (i, r, a, is) =
      let at = head_at ts i r a in
      rw is (rows_with brings Rival ts i r.rest s (row_rest (term_at ts i) r (s.rows i) at) (rest_within brings (term_at ts i) r (s.rows i) at))
  free_rest (choice ts) h s (i, a) =
      let at = head_at ts i h a in
      let (p, begins) = begins_at ts i h s.1 at in
      begins_rest (term_at ts i) p h (free_at ts i s.0) begins at
  free_rest (forever t) h s (r, a, is) = rw is (free_rest t r s a, s)
  free_rest (while p x t) h s a = absurd a
  free_rest (when c t) h s a = absurd a
  free_rest done h s a = absurd a

  free_sequence : (a b r : Term) → IsFree a → IsFree b → IsFree r → IsFree (sequence a b r)
  free_sequence (ask p e) b r x y z = (x, y)
  free_sequence (take p e) b r x y z = (x, y)
  free_sequence (reply p e) b r x y z = (x, y)
  free_sequence (got p e) b r x y z = (x, y)
  free_sequence (seq t u) b r x y z = (x, y)
  free_sequence (par ts) b r x y z = (x, y)
  free_sequence (choice ts) b r x y z = (x, y)
  free_sequence (forever t) b r x y z = (x, y)
  free_sequence (while p e t) b r x y z = (x, y)
  free_sequence (when c t) b r x y z = (x, y)
  free_sequence done b r x y z = z

  free_cond : (b : Bool) (t u : Term) → IsFree t → IsFree u → IsFree (cond b t u)
  free_cond true t u x y = x
  free_cond false t u x y = y

  pub free_tidy : (s : Store) (t : Term) → IsFree t → IsFree (tidy s t)
  free_tidy s (ask p e) x = x
  free_tidy s (take p e) x = x
  free_tidy s (reply p e) x = x
  free_tidy s (got p e) x = x
  free_tidy s (seq a b) x = free_sequence (tidy s a) b (tidy s b) (free_tidy s a x.0) x.1 (free_tidy s b x.1)
  free_tidy s (par ts) x = free_cond (are_done (tidy_all s ts)) done (par (tidy_all s ts)) tt (rows_tidy brings Rival s ts x)
  free_tidy s (choice ts) x = subst (λ us. IsFree (choice us)) (sym (all_tidy s ts x.1)) x
  free_tidy s (forever t) x = x
  free_tidy s (while p e t) x = (tt, (tt, (x, x)))
  free_tidy s (when c t) x = free_cond (is_met c s) (tidy s t) done (free_tidy s t x) tt
  free_tidy s done x = tt

  pub free_after : (q : Proc) (h : Head) (v : Option ℕ) → IsFree q.todo → IsHead q.todo h → IsFree (after_head q h v).todo
  free_after q h v s at = free_tidy (stored h.into v q.store) h.rest (free_rest q.todo h s at)

  -- of a choice: one head, or rivals
  record Chosen (h k : Head) : Type 0 where
    pub apart : h.port ≢ k.port
    pub rivals : Rival h.port k.port

  chosen : (ts : Terms) (h k : Head) → IsFree (choice ts) → IsHead (choice ts) h → IsHead (choice ts) k → (h ≡ k) ⊎ Chosen h k
  chosen ts h k s (i, a) (j, b) =
      let at = head_at ts i h a in
      let on = head_at ts j k b in
      let (p, begins) = begins_at ts i h s.1 at in
      elim (cases_eq i j) [
        | inl e ↦ inl (begins_sole (term_at ts i) p h k begins at (subst (λ n. IsHead (term_at ts n) k) (sym e) on))
        | inr ne ↦
            let (q, too) = begins_at ts j k s.1 on in
            let (differ, rivals) = s.2 i j p q ne begins too in
            let here : h.port ≡ p = begins_port (term_at ts i) p h begins at in
            let there : k.port ≡ q = begins_port (term_at ts j) q k too on in
            inr (record { apart = λ e. differ (sym here ∙ e ∙ there); rivals = subst (λ n. Rival n k.port) (sym here) (subst (Rival p) (sym there) rivals) })
      ]

  -- at a port there is one head
  pub free_one : (t : Term) (h k : Head) → IsFree t → IsHead t h → IsHead t k → h.port ≡ k.port → h ≡ k
  free_one (ask p e) h k s a b port = a ∙ sym b
  free_one (take p x) h k s a b port = a ∙ sym b
  free_one (reply p e) h k s a b port = a ∙ sym b
  free_one (got p x) h k s a b port = a ∙ sym b
  free_one (seq t u) h k s (r, a, is) (q, b, same) port =
      is ∙ ap (λ x. before x u) (free_one t r q s.0 a b (ap (λ (x : Head). x.port) (sym is) ∙ port ∙ ap (λ (x : Head). x.port) same)) ∙ sym same
  free_one (par ts) h k s (i, r, a, is) (j, q, b, same) port =
      let port' : r.port ≡ q.port = ap (λ (x : Head). x.port) (sym is) ∙ port ∙ ap (λ (x : Head). x.port) same in
      elim (cases_eq i j) [
        | inl e ↦
            let at : IsHead (term_at ts j) r = subst (λ x. IsHead (term_at ts x) r) e (head_at ts i r a) in
            let heads : r ≡ q = row_sole (term_at ts j) r q (s.rows j) at (head_at ts j q b) in
            is ∙ (λ x. record (heads x) { rest = par (with_term ts (e x) (heads x).rest) }) ∙ sym same
        | inr ne ↦ absurd ((s.apart i j ne).ports q.port (subst (HasPort (term_at ts i)) port' (head_port brings (term_at ts i) r (s.rows i) (head_at ts i r a))) (head_port brings (term_at ts j) q (s.rows j) (head_at ts j q b)))
      ]
  free_one (choice ts) h k s a b port = elim (chosen ts h k s a b) [ inl same ↦ same | inr other ↦ absurd (other.apart port) ]
  free_one (forever t) h k s (r, a, is) (q, b, same) port =
      is ∙ ap (λ x. before x (forever t)) (free_one t r q s a b (ap (λ (x : Head). x.port) (sym is) ∙ port ∙ ap (λ (x : Head). x.port) same)) ∙ sym same
  free_one (while p x t) h k s a b port = absurd a
  free_one (when c t) h k s a b port = absurd a
  free_one done h k s a b port = absurd a

  -- the same head of another term
  pub record Alike (t : Term) (h : Head) : Type 0 where
    pub head : Head
    pub is : IsHead t head
    pub port : head.port ≡ h.port
    pub move : head.move ≡ h.move
    pub gives : head.gives ≡ h.gives
    pub into : head.into ≡ h.into

  -- their ports are no rivals
  abbrev pub Calm : Head → Head → Type 0
  Calm h k = Rival h.port k.port → ⊥

  -- two heads at two ports: each stays where the other is made, and both ways lead to the same
  pub record Both (u s r : Store) (h k : Head) : Type 0 where
    pub later : Alike (tidy s h.rest) k
    pub sooner : Alike (tidy r k.rest) h
    pub meets : tidy u later.head.rest ≡ tidy u sooner.head.rest

  alike_before : (s : Store) (t v : Term) (h : Head) → Alike (tidy s t) h → Alike (tidy s (seq t v)) (before h v)
  alike_before s t v h x = record {
    head = before x.head v;
    is = subst (λ a. IsHead a (before x.head v)) (sym (sequence_head (tidy s t) v (tidy s v) x.head x.is)) (x.head, x.is, refl);
    port = x.port;
    move = x.move;
    gives = x.gives;
    into = x.into;
  }

  both_before : (u s r : Store) (h k : Head) (v : Term) → Both u s r h k → Both u s r (before h v) (before k v)
  unfolding alike_before
  both_before u s r h k v both = record {
    later = alike_before s h.rest v k both.later;
    sooner = alike_before r k.rest v h both.sooner;
    meets = ap (λ t. sequence t v (tidy u v)) both.meets;
  }

  -- of a list of rows
  module _ (u s r : Store) (ts : Terms) (are : AreRows brings Rival ts) (i j : ℕ) (ne : i ≢ j) (p q : Head) (at : IsHead (term_at ts i) p) (on : IsHead (term_at ts j) q) where
    -- the head of one row, once another went on
    module _ (v : Store) (a b : ℕ) (off : a ≢ b) (t : Term) (k : Head) (has : IsHead (term_at ts b) k) where
      again : Again u (tidy v (term_at ts b)) k
      again = row_head u v (term_at ts b) k (are.rows b) has

      abbrev left : Terms
      left = tidy_all v (with_term ts a t)

      there : IsHead (term_at left b) again.head
      there = subst (λ x. IsHead x again.head) (sym (at_tidy v (with_term ts a t) b ∙ ap (tidy v) (at_other ts a b t off))) again.is

      alike : Alike (tidy v (par (with_term ts a t))) (record k { rest = par (with_term ts b k.rest) })
      alike = record {
        head = record again.head { rest = par (with_term left b again.head.rest) };
        is = subst (λ x. IsHead x (record again.head { rest = par (with_term left b again.head.rest) })) (sym (together_head left b again.head there)) (b, again.head, at_head left b again.head there, refl);
        port = again.port;
        move = again.move;
        gives = again.gives;
        into = again.into;
      }

    both_rows : Both u s r (record p { rest = par (with_term ts i p.rest) }) (record q { rest = par (with_term ts j q.rest) })
    unfolding alike
    both_rows = record {
      later = alike s i j ne p.rest q on;
      sooner = alike r j i (λ e. ne (sym e)) q.rest p at;
      meets = ap together (both_again u s r ts i j p.rest (again s i j ne p.rest q on).head.rest (again r j i (λ e. ne (sym e)) q.rest p at).head.rest q.rest ne are.rows
          (row_again u s p.rest (row_rest (term_at ts i) p (are.rows i) at) ∙ sym (again r j i (λ e. ne (sym e)) q.rest p at).rest)
          ((again s i j ne p.rest q on).rest ∙ sym (row_again u r q.rest (row_rest (term_at ts j) q (are.rows j) on))));
    }

  both : (u s r : Store) (t : Term) (h k : Head) → IsFree t → IsHead t h → IsHead t k → h.port ≢ k.port → Calm h k → Both u s r h k
  both u s r (ask p e) h k free a b ne calm = absurd (ne (ap (λ (x : Head). x.port) (a ∙ sym b)))
  both u s r (take p x) h k free a b ne calm = absurd (ne (ap (λ (x : Head). x.port) (a ∙ sym b)))
  both u s r (reply p e) h k free a b ne calm = absurd (ne (ap (λ (x : Head). x.port) (a ∙ sym b)))
  both u s r (got p x) h k free a b ne calm = absurd (ne (ap (λ (x : Head). x.port) (a ∙ sym b)))
  both u s r (seq t v) h k free (p, a, is) (q, b, same) ne calm =
      subst (Both u s r h) (sym same) (subst (λ x. Both u s r x (before q v)) (sym is)
      (both_before u s r p q v (both u s r t p q free.0 a b (λ e. ne (ap (λ (x : Head). x.port) is ∙ e ∙ ap (λ (x : Head). x.port) (sym same)))
      (subst (λ x. Calm x (before q v)) is (subst (Calm h) same calm)))))
  both u s r (par ts) h k free (i, p, a, is) (j, q, b, same) ne calm =
      let at = head_at ts i p a in
      let on = head_at ts j q b in
      let ports : p.port ≢ q.port = λ e. ne (ap (λ (x : Head). x.port) is ∙ e ∙ ap (λ (x : Head). x.port) (sym same)) in
      let apart : i ≢ j = λ e. ports (ap (λ (x : Head). x.port) (row_sole (term_at ts j) p q (free.rows j) (subst (λ n. IsHead (term_at ts n) p) e at) on)) in
      subst (Both u s r h) (sym same) (subst (λ x. Both u s r x (record q { rest = par (with_term ts j q.rest) })) (sym is) (both_rows u s r ts free i j apart p q at on))
  both u s r (choice ts) h k free a b ne calm =
      elim (chosen ts h k free a b) [ inl same ↦ absurd (ne (ap (λ (x : Head). x.port) same)) | inr other ↦ absurd (calm other.rivals) ]
  both u s r (forever t) h k free (p, a, is) (q, b, same) ne calm =
      subst (Both u s r h) (sym same) (subst (λ x. Both u s r x (before q (forever t))) (sym is)
      (both_before u s r p q (forever t) (both u s r t p q free a b (λ e. ne (ap (λ (x : Head). x.port) is ∙ e ∙ ap (λ (x : Head). x.port) (sym same)))
      (subst (λ x. Calm x (before q (forever t))) is (subst (Calm h) same calm)))))
  both u s r (while p x t) h k free a b ne calm = absurd a
  both u s r (when c t) h k free a b ne calm = absurd a
  both u s r done h k free a b ne calm = absurd a

  -- they are of two rows that are apart
  record OfRows (h k : Head) : Type 0 where
    pub one : Term
    pub other : Term
    pub one_row : IsRow one
    pub other_row : IsRow other
    pub apart : Apart brings Rival one other
    pub mine : Alike one h
    pub yours : Alike other k

  of_before : (h k : Head) (v : Term) → OfRows h k → OfRows (before h v) (before k v)
  of_before h k v x = record {
    one = x.one;
    other = x.other;
    one_row = x.one_row;
    other_row = x.other_row;
    apart = x.apart;
    mine = record { head = x.mine.head; is = x.mine.is; port = x.mine.port; move = x.mine.move; gives = x.mine.gives; into = x.mine.into };
    yours = record { head = x.yours.head; is = x.yours.is; port = x.yours.port; move = x.yours.move; gives = x.yours.gives; into = x.yours.into };
  }

  of_rows : (t : Term) (h k : Head) → IsFree t → IsHead t h → IsHead t k → h.port ≢ k.port → Calm h k → OfRows h k
  of_rows (ask p e) h k free a b ne calm = absurd (ne (ap (λ (x : Head). x.port) (a ∙ sym b)))
  of_rows (take p x) h k free a b ne calm = absurd (ne (ap (λ (x : Head). x.port) (a ∙ sym b)))
  of_rows (reply p e) h k free a b ne calm = absurd (ne (ap (λ (x : Head). x.port) (a ∙ sym b)))
  of_rows (got p x) h k free a b ne calm = absurd (ne (ap (λ (x : Head). x.port) (a ∙ sym b)))
  of_rows (seq t v) h k free (p, a, is) (q, b, same) ne calm =
      subst (OfRows h) (sym same) (subst (λ x. OfRows x (before q v)) (sym is)
      (of_before p q v (of_rows t p q free.0 a b (λ e. ne (ap (λ (x : Head). x.port) is ∙ e ∙ ap (λ (x : Head). x.port) (sym same)))
      (subst (λ x. Calm x (before q v)) is (subst (Calm h) same calm)))))
  of_rows (par ts) h k free (i, p, a, is) (j, q, b, same) ne calm =
      let at = head_at ts i p a in
      let on = head_at ts j q b in
      let ports : p.port ≢ q.port = λ e. ne (ap (λ (x : Head). x.port) is ∙ e ∙ ap (λ (x : Head). x.port) (sym same)) in
      let apart : i ≢ j = λ e. ports (ap (λ (x : Head). x.port) (row_sole (term_at ts j) p q (free.rows j) (subst (λ n. IsHead (term_at ts n) p) e at) on)) in
      record {
        one = term_at ts i;
        other = term_at ts j;
        one_row = free.rows i;
        other_row = free.rows j;
        apart = free.apart i j apart;
        mine = record { head = p; is = at; port = ap (λ (x : Head). x.port) (sym is); move = ap (λ (x : Head). x.move) (sym is); gives = ap (λ (x : Head). x.gives) (sym is); into = ap (λ (x : Head). x.into) (sym is) };
        yours = record { head = q; is = on; port = ap (λ (x : Head). x.port) (sym same); move = ap (λ (x : Head). x.move) (sym same); gives = ap (λ (x : Head). x.gives) (sym same); into = ap (λ (x : Head). x.into) (sym same) };
      }
  of_rows (choice ts) h k free a b ne calm =
      elim (chosen ts h k free a b) [ inl same ↦ absurd (ne (ap (λ (x : Head). x.port) same)) | inr other ↦ absurd (calm other.rivals) ]
  of_rows (forever t) h k free (p, a, is) (q, b, same) ne calm =
      subst (OfRows h) (sym same) (subst (λ x. OfRows x (before q (forever t))) (sym is)
      (of_before p q (forever t) (of_rows t p q free a b (λ e. ne (ap (λ (x : Head). x.port) is ∙ e ∙ ap (λ (x : Head). x.port) (sym same)))
      (subst (λ x. Calm x (before q (forever t))) is (subst (Calm h) same calm)))))
  of_rows (while p x t) h k free a b ne calm = absurd a
  of_rows (when c t) h k free a b ne calm = absurd a
  of_rows done h k free a b ne calm = absurd a

  -- ---- what is kept

  -- a value comes in only where the port brings one
  abbrev pub Fits : ℕ → Option ℕ → Type 0
  Fits p v = (x : ℕ) → v ≡ Some x → brings p ≡ true

  -- what comes in with a head is kept by its row
  kept_by : (t : Term) (h : Head) (v : Option ℕ) (x : ℕ) → IsRow t → (a : Alike t h) → Comes Fits h v → v ≡ Some x → Keeps brings t h.into
  kept_by t h v x row a (inl (is, fits)) e =
      subst (Keeps brings t) a.into (head_keeps brings t a.head row a.is (ap sends a.move ∙ is) (ap brings a.port ∙ fits x e))
  kept_by t h v x row a (inr (is, none)) e = absurd (let both : None ≡ Some x = sym none ∙ e in cc)

  stored_apart : (s : Store) (h k : Head) (v w : Option ℕ) → OfRows h k → Comes Fits h v → Comes Fits k w → stored k.into w (stored h.into v s) ≡ stored h.into v (stored k.into w s)
  stored_apart s h k None w rows a b = refl
  stored_apart s h k (Some x) None rows a b = refl
  stored_apart s h k (Some x) (Some y) rows a b =
      let one = kept_by rows.one h (Some x) x rows.one_row rows.mine a refl in
      let other = kept_by rows.other k (Some y) y rows.other_row rows.yours b refl in
      set_apart s h.into k.into x y (λ e. rows.apart.slots h.into one (subst (Keeps brings rows.other) (sym e) other))

  -- a value comes in at its port
  brought_at : (h : Head) (v : Option ℕ) (x : ℕ) → Comes Fits h v → v ≡ Some x → brings h.port ≡ true
  brought_at h v x (inl (is, fits)) e = fits x e
  brought_at h v x (inr (is, none)) e = absurd (let both : None ≡ Some x = sym none ∙ e in cc)

  -- a head is at a port of its row
  at_port : (t : Term) (h : Head) → IsRow t → (a : Alike t h) → HasPort t h.port
  at_port t h row a = subst (HasPort t) a.port (head_port brings t a.head row a.is)

  value_apart : (s : Store) (h k : Head) (v : Option ℕ) → OfRows h k → Calm h k → Comes Fits h v → value_of k.gives (stored h.into v s) ≡ value_of k.gives s
  value_apart s h k None rows calm a = refl
  value_apart s h k (Some x) rows calm a = elim (head_gives brings rows.other rows.yours.head rows.other_row rows.yours.is) [
    | inl none ↦
        let gives : k.gives ≡ Nothing = sym rows.yours.gives ∙ none in
        ap (λ e. value_of e (stored h.into (Some x) s)) gives ∙ ap (λ e. value_of e s) (sym gives)
    | inr some ↦ absurd (calm (rows.apart.there h.into h.port k.port (kept_by rows.one h (Some x) x rows.one_row rows.mine a refl) some
        (at_port rows.one h rows.one_row rows.mine) (brought_at h (Some x) x a refl) (at_port rows.other k rows.other_row rows.yours)))
  ]

  crosses : (q : Proc) (h k : Head) (v w : Option ℕ) → IsFree q.todo → IsHead q.todo h → IsHead q.todo k → h.port ≢ k.port → Calm h k → Comes Fits h v → Comes Fits k w → Cross q h k v w
  crosses q h k v w free a b ne calm x y =
      let s : Store = stored h.into v q.store in
      let r : Store = stored k.into w q.store in
      let u : Store = stored k.into w s in
      let rows = of_rows q.todo h k free a b ne calm in
      let pair = both u s r q.todo h k free a b ne calm in
      let one : stored pair.later.head.into w s ≡ u = ap (λ n. stored n w s) pair.later.into in
      let other : stored pair.sooner.head.into v r ≡ u = ap (λ n. stored n v r) pair.sooner.into ∙ sym (stored_apart q.store h k v w rows x y) in
      record {
        later = pair.later.head;
        later_is = pair.later.is;
        later_port = pair.later.port;
        later_move = pair.later.move;
        later_value = ap (λ e. value_of e s) pair.later.gives ∙ value_apart q.store h k v rows calm x;
        sooner = pair.sooner.head;
        sooner_is = pair.sooner.is;
        sooner_port = pair.sooner.port;
        sooner_move = pair.sooner.move;
        meets = at_store pair.later.head.rest (stored pair.later.head.into w s) u one ∙ ap (λ t. proc_of t u) pair.meets ∙ sym (at_store pair.sooner.head.rest (stored pair.sooner.head.into v r) u other);
      }
    where
      proc_of : Term → Store → Proc
      proc_of t s = record { todo = t; store = s }

      at_store : (t : Term) (s u : Store) → s ≡ u → proc_of (tidy s t) s ≡ proc_of (tidy u t) u
      at_store t s u e = ap (λ x. proc_of (tidy x t) x) e

  pub free_flows : Flows (λ q. IsFree q.todo) Fits Rival
  free_flows = record {
    one = λ q h k free a b e. free_one q.todo h k free a b e;
    after = λ q h v free a comes. free_after q h v free a;
    cross = λ q h k v w free a b ne calm is x y. crosses q h k v w free a b ne calm x y;
  }

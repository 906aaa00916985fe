-- Rows of moves, one after another, and rows side by side that are apart: what one does leaves the others as they were.
use Rattle.std.proofs.Common.{◌≡◌, ◌≢◌, ◌⊎◌, inl, inr, ℕ, zero, suc, ◌<◌, Bool, true, false, refl, sym, ap, subst, ◌∙◌, arith}
use Rattle.std.proofs.lemmas.Bool.{false≢true}
use Rattle.bz_model.specs.declared.expr.Expr.{Expr}
use Rattle.bz_model.specs.declared.expr.Expr.TheVariants.{Nothing}
use Rattle.bz_model.specs.Heads.{Head, IsHead, IsHeadAt, before, sequence, tidy, tidy_all}
use Rattle.bz_model.specs.Terms.{Store, Term, Terms, ask, take, reply, got, seq, par, choice, forever, while, when, done, no_terms, term, with_term, all}
use Rattle.bz_net.specs.Sides.{sends}

-- nothing side by side, chosen, or done on a condition
abbrev pub IsRow : Term → Type 0
IsRow (ask p e) = Unit {0}
IsRow (take p x) = Unit {0}
IsRow (reply p e) = Unit {0}
IsRow (got p x) = Unit {0}
IsRow (seq a b) = IsRow a × IsRow b
IsRow (par ts) = ⊥
IsRow (choice ts) = ⊥
IsRow (forever t) = IsRow t
IsRow (while p x t) = ⊥
IsRow (when c t) = ⊥
IsRow done = Unit {0}

-- it has a move at port p
abbrev pub HasPort : Term → ℕ → Type 0
HasPort (ask q e) p = q ≡ p
HasPort (take q x) p = q ≡ p
HasPort (reply q e) p = q ≡ p
HasPort (got q x) p = q ≡ p
HasPort (seq a b) p = HasPort a p ⊎ HasPort b p
HasPort (par ts) p = ⊥
HasPort (choice ts) p = ⊥
HasPort (forever t) p = HasPort t p
HasPort (while q x t) p = ⊥
HasPort (when c t) p = ⊥
HasPort done p = ⊥

-- it sends something that it keeps
abbrev pub Gives : Term → Type 0
Gives (ask p e) = e ≢ Nothing
Gives (take p x) = ⊥
Gives (reply p e) = e ≢ Nothing
Gives (got p x) = ⊥
Gives (seq a b) = Gives a ⊎ Gives b
Gives (par ts) = ⊥
Gives (choice ts) = ⊥
Gives (forever t) = Gives t
Gives (while p x t) = ⊥
Gives (when c t) = ⊥
Gives done = ⊥

-- a term of a list, done past its end
abbrev pub term_at : Terms → ℕ → Term
term_at no_terms i = done
term_at (term t ts) zero = t
term_at (term t ts) (suc i) = term_at ts i

pub head_at : (ts : Terms) (i : ℕ) (h : Head) → IsHeadAt ts i h → IsHead (term_at ts i) h
head_at no_terms i h at = absurd at
head_at (term t ts) zero h at = at
head_at (term t ts) (suc i) h at = head_at ts i h at

pub at_head : (ts : Terms) (i : ℕ) (h : Head) → IsHead (term_at ts i) h → IsHeadAt ts i h
at_head no_terms i h at = absurd at
at_head (term t ts) zero h at = at
at_head (term t ts) (suc i) h at = at_head ts i h at

pub at_same : (ts : Terms) (i : ℕ) (t : Term) (h : Head) → IsHead (term_at ts i) h → term_at (with_term ts i t) i ≡ t
at_same no_terms i t h at = absurd at
at_same (term u ts) zero t h at = refl
at_same (term u ts) (suc i) t h at = at_same ts i t h at

pub at_other : (ts : Terms) (i j : ℕ) (t : Term) → i ≢ j → term_at (with_term ts i t) j ≡ term_at ts j
at_other no_terms i j t ne = refl
at_other (term u ts) zero zero t ne = absurd (ne refl)
at_other (term u ts) zero (suc j) t ne = refl
at_other (term u ts) (suc i) zero t ne = refl
at_other (term u ts) (suc i) (suc j) t ne = at_other ts i j t (λ e. ne (ap suc e))

pub at_tidy : (s : Store) (ts : Terms) (i : ℕ) → term_at (tidy_all s ts) i ≡ tidy s (term_at ts i)
at_tidy s no_terms i = refl
at_tidy s (term t ts) zero = refl
at_tidy s (term t ts) (suc i) = at_tidy s ts i

-- ---- one row

pub row_sole : (t : Term) (h k : Head) → IsRow t → IsHead t h → IsHead t k → h ≡ k
row_sole (ask p e) h k s a b = a ∙ sym b
row_sole (take p x) h k s a b = a ∙ sym b
row_sole (reply p e) h k s a b = a ∙ sym b
row_sole (got p x) h k s a b = a ∙ sym b
row_sole (seq t u) h k s (r, a, is) (q, b, same) = is ∙ ap (λ x. before x u) (row_sole t r q s.0 a b) ∙ sym same
row_sole (par ts) h k s a b = absurd s
row_sole (choice ts) h k s a b = absurd s
row_sole (forever t) h k s (r, a, is) (q, b, same) = is ∙ ap (λ x. before x (forever t)) (row_sole t r q s a b) ∙ sym same
row_sole (while p x t) h k s a b = absurd s
row_sole (when c t) h k s a b = absurd s
row_sole done h k s a b = absurd a

pub row_rest : (t : Term) (h : Head) → IsRow t → IsHead t h → IsRow h.rest
row_rest (ask p e) h s a = rw a tt
row_rest (take p x) h s a = rw a tt
row_rest (reply p e) h s a = rw a tt
row_rest (got p x) h s a = rw a tt
row_rest (seq t u) h s (r, a, is) = rw is (row_rest t r s.0 a, s.1)
row_rest (par ts) h s a = absurd s
row_rest (choice ts) h s a = absurd s
row_rest (forever t) h s (r, a, is) = rw is (row_rest t r s a, s)
row_rest (while p x t) h s a = absurd s
row_rest (when c t) h s a = absurd s
row_rest done h s a = absurd a

-- a property that a seq has where both have it, of a sequence
row_sequence : (a b r : Term) → IsRow a → IsRow b → IsRow r → IsRow (sequence a b r)
row_sequence (ask p e) b r x y z = (x, y)
row_sequence (take p e) b r x y z = (x, y)
row_sequence (reply p e) b r x y z = (x, y)
row_sequence (got p e) b r x y z = (x, y)
row_sequence (seq t u) b r x y z = (x, y)
row_sequence (par ts) b r x y z = absurd x
row_sequence (choice ts) b r x y z = absurd x
row_sequence (forever t) b r x y z = (x, y)
row_sequence (while p e t) b r x y z = absurd x
row_sequence (when c t) b r x y z = absurd x
row_sequence done b r x y z = z

pub row_tidy : (s : Store) (t : Term) → IsRow t → IsRow (tidy s t)
row_tidy s (ask p e) x = x
row_tidy s (take p e) x = x
row_tidy s (reply p e) x = x
row_tidy s (got p e) x = x
row_tidy s (seq a b) x = row_sequence (tidy s a) b (tidy s b) (row_tidy s a x.0) x.1 (row_tidy s b x.1)
row_tidy s (par ts) x = absurd x
row_tidy s (choice ts) x = absurd x
row_tidy s (forever t) x = x
row_tidy s (while p e t) x = absurd x
row_tidy s (when c t) x = absurd x
row_tidy s done x = tt

-- a term with a head isn't done
pub sequence_head : (a b r : Term) (h : Head) → IsHead a h → sequence a b r ≡ seq a b
sequence_head (ask p e) b r h at = refl
sequence_head (take p e) b r h at = refl
sequence_head (reply p e) b r h at = refl
sequence_head (got p e) b r h at = refl
sequence_head (seq t u) b r h at = refl
sequence_head (par ts) b r h at = refl
sequence_head (choice ts) b r h at = refl
sequence_head (forever t) b r h at = refl
sequence_head (while p e t) b r h at = refl
sequence_head (when c t) b r h at = refl
sequence_head done b r h at = absurd at

-- a sequence that is tidied again
tidy_sequence : (u : Store) (a b r : Term) → tidy u r ≡ tidy u b → tidy u (sequence a b r) ≡ sequence (tidy u a) b (tidy u b)
tidy_sequence u (ask p e) b r is = refl
tidy_sequence u (take p e) b r is = refl
tidy_sequence u (reply p e) b r is = refl
tidy_sequence u (got p e) b r is = refl
tidy_sequence u (seq t v) b r is = refl
tidy_sequence u (par ts) b r is = refl
tidy_sequence u (choice ts) b r is = refl
tidy_sequence u (forever t) b r is = refl
tidy_sequence u (while p e t) b r is = refl
tidy_sequence u (when c t) b r is = refl
tidy_sequence u done b r is = is

pub row_again : (u s : Store) (t : Term) → IsRow t → tidy u (tidy s t) ≡ tidy u t
row_again u s (ask p e) x = refl
row_again u s (take p e) x = refl
row_again u s (reply p e) x = refl
row_again u s (got p e) x = refl
row_again u s (seq a b) x =
    tidy_sequence u (tidy s a) b (tidy s b) (row_again u s b x.1)
    ∙ ap (λ t. sequence t b (tidy u b)) (row_again u s a x.0)
row_again u s (par ts) x = absurd x
row_again u s (choice ts) x = absurd x
row_again u s (forever t) x = refl
row_again u s (while p e t) x = absurd x
row_again u s (when c t) x = absurd x
row_again u s done x = refl

-- the same head, with a rest that is tidied to the same
pub record Again (u : Store) (t : Term) (h : Head) : Type 0 where
  pub head : Head
  pub is : IsHead t head
  pub port : head.port ≡ h.port
  pub move : head.move ≡ h.move
  pub gives : head.gives ≡ h.gives
  pub into : head.into ≡ h.into
  pub rest : tidy u head.rest ≡ tidy u h.rest

-- a head that is there stays there
abbrev pub same_again : (u : Store) (t : Term) (h : Head) → IsHead t h → Again u t h
same_again u t h at = record { head = h; is = at; port = refl; move = refl; gives = refl; into = refl; rest = refl }

again_before : (u : Store) (a b : Term) (r : Head) → Again u a r → Again u (seq a b) (before r b)
again_before u a b r again = record {
  head = before again.head b;
  is = (again.head, again.is, refl);
  port = again.port;
  move = again.move;
  gives = again.gives;
  into = again.into;
  rest = ap (λ t. sequence t b (tidy u b)) again.rest;
}

pub row_head : (u s : Store) (t : Term) (h : Head) → IsRow t → IsHead t h → Again u (tidy s t) h
row_head u s (ask p e) h x at = same_again u (ask p e) h at
row_head u s (take p e) h x at = same_again u (take p e) h at
row_head u s (reply p e) h x at = same_again u (reply p e) h at
row_head u s (got p e) h x at = same_again u (got p e) h at
row_head u s (seq a b) h x (r, at, is) =
    let again = row_head u s a r x.0 at in
    subst (λ t. Again u t h) (sym (sequence_head (tidy s a) b (tidy s b) again.head again.is)) (subst (Again u (seq (tidy s a) b)) (sym is) (again_before u (tidy s a) b r again))
row_head u s (par ts) h x at = absurd x
row_head u s (choice ts) h x at = absurd x
row_head u s (forever t) h x at = same_again u (forever t) h at
row_head u s (while p e t) h x at = absurd x
row_head u s (when c t) h x at = absurd x
row_head u s done h x at = absurd at

-- ---- what a row has, and what is left of it

module _ (brings : ℕ → Bool) where
  -- it keeps in slot x what comes in at a port that brings a value
  abbrev pub Keeps : Term → ℕ → Type 0
  Keeps (ask p e) x = ⊥
  Keeps (take p y) x = (brings p ≡ true) × (y ≡ x)
  Keeps (reply p e) x = ⊥
  Keeps (got p y) x = (brings p ≡ true) × (y ≡ x)
  Keeps (seq a b) x = Keeps a x ⊎ Keeps b x
  Keeps (par ts) x = ⊥
  Keeps (choice ts) x = ⊥
  Keeps (forever t) x = Keeps t x
  Keeps (while p y t) x = ⊥
  Keeps (when c t) x = ⊥
  Keeps done x = ⊥

  -- nothing is in one that isn't in the other
  pub record Within (a b : Term) : Type 0 where
    pub ports : (p : ℕ) → HasPort a p → HasPort b p
    pub slots : (x : ℕ) → Keeps a x → Keeps b x
    pub gives : Gives a → Gives b

  within_self : (a : Term) → Within a a
  within_self a = record { ports = λ p x. x; slots = λ x y. y; gives = λ x. x }

  within_done : (a : Term) → Within done a
  within_done a = record { ports = λ p x. absurd x; slots = λ x y. absurd y; gives = λ x. absurd x }

  within_seq : (a b c : Term) → Within a c → Within (seq a b) (seq c b)
  within_seq a b c x = record {
    ports = λ p i. elim i [ inl l ↦ inl (x.ports p l) | inr r ↦ inr r ];
    slots = λ p i. elim i [ inl l ↦ inl (x.slots p l) | inr r ↦ inr r ];
    gives = λ i. elim i [ inl l ↦ inl (x.gives l) | inr r ↦ inr r ];
  }

  within_behind : (a b c : Term) → Within a b → Within a (seq c b)
  within_behind a b c x = record { ports = λ p i. inr (x.ports p i); slots = λ p i. inr (x.slots p i); gives = λ i. inr (x.gives i) }

  within_round : (a t : Term) → Within a t → Within (seq a (forever t)) (forever t)
  within_round a t x = record {
    ports = λ p i. elim i [ inl l ↦ x.ports p l | inr r ↦ r ];
    slots = λ p i. elim i [ inl l ↦ x.slots p l | inr r ↦ r ];
    gives = λ i. elim i [ inl l ↦ x.gives l | inr r ↦ r ];
  }

  pub rest_within : (t : Term) (h : Head) → IsRow t → IsHead t h → Within h.rest t
  rest_within (ask p e) h s a = rw a (within_done (ask p e))
  rest_within (take p x) h s a = rw a (within_done (take p x))
  rest_within (reply p e) h s a = rw a (within_done (reply p e))
  rest_within (got p x) h s a = rw a (within_done (got p x))
  rest_within (seq t u) h s (r, a, is) = rw is (within_seq r.rest u t (rest_within t r s.0 a))
  rest_within (par ts) h s a = absurd s
  rest_within (choice ts) h s a = absurd s
  rest_within (forever t) h s (r, a, is) = rw is (within_round r.rest t (rest_within t r s a))
  rest_within (while p x t) h s a = absurd s
  rest_within (when c t) h s a = absurd s
  rest_within done h s a = absurd a

  sequence_within : (a b r c : Term) → Within a c → Within r b → Within (sequence a b r) (seq c b)
  sequence_within (ask p e) b r c x y = within_seq (ask p e) b c x
  sequence_within (take p e) b r c x y = within_seq (take p e) b c x
  sequence_within (reply p e) b r c x y = within_seq (reply p e) b c x
  sequence_within (got p e) b r c x y = within_seq (got p e) b c x
  sequence_within (seq t u) b r c x y = within_seq (seq t u) b c x
  sequence_within (par ts) b r c x y = within_seq (par ts) b c x
  sequence_within (choice ts) b r c x y = within_seq (choice ts) b c x
  sequence_within (forever t) b r c x y = within_seq (forever t) b c x
  sequence_within (while p e t) b r c x y = within_seq (while p e t) b c x
  sequence_within (when d t) b r c x y = within_seq (when d t) b c x
  sequence_within done b r c x y = within_behind r b c y

  pub tidy_within : (s : Store) (t : Term) → IsRow t → Within (tidy s t) t
  tidy_within s (ask p e) x = within_self (ask p e)
  tidy_within s (take p e) x = within_self (take p e)
  tidy_within s (reply p e) x = within_self (reply p e)
  tidy_within s (got p e) x = within_self (got p e)
  tidy_within s (seq a b) x = sequence_within (tidy s a) b (tidy s b) a (tidy_within s a x.0) (tidy_within s b x.1)
  tidy_within s (par ts) x = absurd x
  tidy_within s (choice ts) x = absurd x
  tidy_within s (forever t) x = within_self (forever t)
  tidy_within s (while p e t) x = absurd x
  tidy_within s (when c t) x = absurd x
  tidy_within s done x = within_self done

  -- what a head is of a row
  pub head_port : (t : Term) (h : Head) → IsRow t → IsHead t h → HasPort t h.port
  head_port (ask p e) h s a = rw a refl
  head_port (take p x) h s a = rw a refl
  head_port (reply p e) h s a = rw a refl
  head_port (got p x) h s a = rw a refl
  head_port (seq t u) h s (r, a, is) = rw is (inl (head_port t r s.0 a))
  head_port (par ts) h s a = absurd s
  head_port (choice ts) h s a = absurd s
  head_port (forever t) h s (r, a, is) = rw is (head_port t r s a)
  head_port (while p x t) h s a = absurd s
  head_port (when c t) h s a = absurd s
  head_port done h s a = absurd a

  pub head_keeps : (t : Term) (h : Head) → IsRow t → IsHead t h → sends h.move ≡ false → brings h.port ≡ true → Keeps t h.into
  head_keeps (ask p e) h s a is b = absurd (false≢true (sym is ∙ ap (λ (x : Head). sends x.move) a))
  head_keeps (take p x) h s a is b = (ap (λ (y : Head). brings y.port) (sym a) ∙ b, ap (λ (y : Head). y.into) (sym a))
  head_keeps (reply p e) h s a is b = absurd (false≢true (sym is ∙ ap (λ (x : Head). sends x.move) a))
  head_keeps (got p x) h s a is b = (ap (λ (y : Head). brings y.port) (sym a) ∙ b, ap (λ (y : Head). y.into) (sym a))
  head_keeps (seq t u) h s (r, a, at) is b =
      inl (subst (Keeps t) (ap (λ (y : Head). y.into) (sym at)) (head_keeps t r s.0 a (ap (λ (y : Head). sends y.move) (sym at) ∙ is) (ap (λ (y : Head). brings y.port) (sym at) ∙ b)))
  head_keeps (par ts) h s a is b = absurd s
  head_keeps (choice ts) h s a is b = absurd s
  head_keeps (forever t) h s (r, a, at) is b =
      subst (Keeps t) (ap (λ (y : Head). y.into) (sym at)) (head_keeps t r s a (ap (λ (y : Head). sends y.move) (sym at) ∙ is) (ap (λ (y : Head). brings y.port) (sym at) ∙ b))
  head_keeps (while p x t) h s a is b = absurd s
  head_keeps (when c t) h s a is b = absurd s
  head_keeps done h s a is b = absurd a

  nothing_or : (e : Expr) → (e ≡ Nothing) ⊎ (e ≢ Nothing)
  nothing_or Nothing = inl refl
  nothing_or e = inr (λ is. cc)

  pub head_gives : (t : Term) (h : Head) → IsRow t → IsHead t h → (h.gives ≡ Nothing) ⊎ Gives t
  head_gives (ask p e) h s a = elim (nothing_or e) [ inl is ↦ inl (ap (λ (x : Head). x.gives) a ∙ is) | inr ne ↦ inr ne ]
  head_gives (take p x) h s a = inl (ap (λ (x : Head). x.gives) a)
  head_gives (reply p e) h s a = elim (nothing_or e) [ inl is ↦ inl (ap (λ (x : Head). x.gives) a ∙ is) | inr ne ↦ inr ne ]
  head_gives (got p x) h s a = inl (ap (λ (x : Head). x.gives) a)
  head_gives (seq t u) h s (r, a, is) = elim (head_gives t r s.0 a) [ inl none ↦ inl (ap (λ (x : Head). x.gives) is ∙ none) | inr some ↦ inr (inl some) ]
  head_gives (par ts) h s a = absurd s
  head_gives (choice ts) h s a = absurd s
  head_gives (forever t) h s (r, a, is) = elim (head_gives t r s a) [ inl none ↦ inl (ap (λ (x : Head). x.gives) is ∙ none) | inr some ↦ inr some ]
  head_gives (while p x t) h s a = absurd s
  head_gives (when c t) h s a = absurd s
  head_gives done h s a = absurd a

  -- ---- rows side by side

  -- of two ports, whether it matters which is noticed first
  module _ (Rival : ℕ → ℕ → Type 0) where
    -- At other ports, and by other slots; what one keeps the other doesn't send, but at rival ports.
    pub record Apart (a b : Term) : Type 0 where
      pub ports : (p : ℕ) → HasPort a p → HasPort b p → ⊥
      pub slots : (x : ℕ) → Keeps a x → Keeps b x → ⊥
      pub there : (x p q : ℕ) → Keeps a x → Gives b → HasPort a p → brings p ≡ true → HasPort b q → Rival p q
      pub here : (x p q : ℕ) → Keeps b x → Gives a → HasPort b p → brings p ≡ true → HasPort a q → Rival p q

    pub apart_within : (a b c d : Term) → Apart a b → Within c a → Within d b → Apart c d
    apart_within a b c d apart x y = record {
      ports = λ p i j. apart.ports p (x.ports p i) (y.ports p j);
      slots = λ p i j. apart.slots p (x.slots p i) (y.slots p j);
      there = λ u p q keeps gives at is on. apart.there u p q (x.slots u keeps) (y.gives gives) (x.ports p at) is (y.ports q on);
      here = λ u p q keeps gives at is on. apart.here u p q (y.slots u keeps) (x.gives gives) (y.ports p at) is (x.ports q on);
    }

    pub apart_turned : (a b : Term) → Apart a b → Apart b a
    apart_turned a b x = record { ports = λ p i j. x.ports p j i; slots = λ p i j. x.slots p j i; there = x.here; here = x.there }

    pub record AreRows (ts : Terms) : Type 0 where
      pub rows : (i : ℕ) → IsRow (term_at ts i)
      pub apart : (i j : ℕ) → i ≢ j → Apart (term_at ts i) (term_at ts j)

    -- one goes on, and all are tidied
    pub rows_with : (ts : Terms) (i : ℕ) (t : Term) → AreRows ts → IsRow t → Within t (term_at ts i) → AreRows (with_term ts i t)
    rows_with ts i t are row within = record {
      rows = λ j. subst_at ts i j t (λ u. IsRow u) row (are.rows j);
      apart = λ j k ne. apart_within (term_at ts j) (term_at ts k) (term_at (with_term ts i t) j) (term_at (with_term ts i t) k) (are.apart j k ne) (part ts i j t within) (part ts i k t within);
    }
      where
        subst_at : (ts : Terms) (i j : ℕ) (t : Term) (P : Term → Type 0) → P t → P (term_at ts j) → P (term_at (with_term ts i t) j)
        subst_at no_terms i j t P x y = y
        subst_at (term u ts) zero zero t P x y = x
        subst_at (term u ts) zero (suc j) t P x y = y
        subst_at (term u ts) (suc i) zero t P x y = y
        subst_at (term u ts) (suc i) (suc j) t P x y = subst_at ts i j t P x y

        part : (ts : Terms) (i j : ℕ) (t : Term) → Within t (term_at ts i) → Within (term_at (with_term ts i t) j) (term_at ts j)
        part no_terms i j t within = within_done done
        part (term u ts) zero zero t within = within
        part (term u ts) zero (suc j) t within = within_self (term_at ts j)
        part (term u ts) (suc i) zero t within = within_self u
        part (term u ts) (suc i) (suc j) t within = part ts i j t within

    pub rows_tidy : (s : Store) (ts : Terms) → AreRows ts → AreRows (tidy_all s ts)
    rows_tidy s ts are = record {
      rows = λ i. subst IsRow (sym (at_tidy s ts i)) (row_tidy s (term_at ts i) (are.rows i));
      apart = λ i j ne. subst (λ t. Apart t (term_at (tidy_all s ts) j)) (sym (at_tidy s ts i)) (subst (Apart (tidy s (term_at ts i))) (sym (at_tidy s ts j))
          (apart_within (term_at ts i) (term_at ts j) (tidy s (term_at ts i)) (tidy s (term_at ts j)) (are.apart i j ne) (tidy_within s (term_at ts i) (are.rows i)) (tidy_within s (term_at ts j) (are.rows j))));
    }

    pub rows_all : (n : ℕ) (f : ℕ → Term) → ((i : ℕ) → IsRow (f i)) → ((i j : ℕ) → i ≢ j → Apart (f i) (f j)) → AreRows (all n f)
    rows_all n f rows apart = record {
      rows = λ i. by_rows n i f rows;
      apart = λ i j ne. apart_within (f i) (f j) (term_at (all n f) i) (term_at (all n f) j) (apart i j ne) (of_all n i f) (of_all n j f);
    }
      where
        by_rows : (n i : ℕ) (f : ℕ → Term) → ((i : ℕ) → IsRow (f i)) → IsRow (term_at (all n f) i)
        by_rows zero i f rows = tt
        by_rows (suc n) zero f rows = rows 0
        by_rows (suc n) (suc i) f rows = by_rows n i (λ j. f (suc j)) (λ j. rows (suc j))

        of_all : (n i : ℕ) (f : ℕ → Term) → Within (term_at (all n f) i) (f i)
        of_all zero i f = within_done (f i)
        of_all (suc n) zero f = within_self (f 0)
        of_all (suc n) (suc i) f = of_all n i (λ j. f (suc j))

    -- one, and an array of others
    pub rows_led : (a : Term) (n : ℕ) (f : ℕ → Term) → IsRow a → ((i : ℕ) → IsRow (f i)) → ((i : ℕ) → i < n → Apart a (f i)) → ((i j : ℕ) → i ≢ j → Apart (f i) (f j)) → AreRows (term a (all n f))
    rows_led a n f row rows led apart = record { rows = each; apart = pairs }
      where
        others : AreRows (all n f)
        others = rows_all n f rows apart

        each : (i : ℕ) → IsRow (term_at (term a (all n f)) i)
        each zero = row
        each (suc i) = others.rows i

        to_each : (n i : ℕ) (f : ℕ → Term) → ((i : ℕ) → i < n → Apart a (f i)) → Apart a (term_at (all n f) i)
        to_each zero i f led = record {
          ports = λ p i j. j;
          slots = λ x i j. j;
          there = λ x p q keeps gives at is on. absurd on;
          here = λ x p q keeps gives at is on. absurd at;
        }
        to_each (suc n) zero f led = led 0 (omega arith)
        to_each (suc n) (suc i) f led = to_each n i (λ j. f (suc j)) (λ j lt. led (suc j) (omega (arith, lt)))

        pairs : (i j : ℕ) → i ≢ j → Apart (term_at (term a (all n f)) i) (term_at (term a (all n f)) j)
        pairs zero zero ne = absurd (ne refl)
        pairs zero (suc j) ne = to_each n j f led
        pairs (suc i) zero ne = apart_turned a (term_at (all n f) i) (to_each n i f led)
        pairs (suc i) (suc j) ne = others.apart i j (λ e. ne (ap suc e))

-- A row that serves port 1 for ever: it takes a request there, has other moves, and replies. Between take and reply it owes the reply.
use Rattle.std.proofs.Common.{◌≡◌, ◌≢◌, ◌⊎◌, inl, inr, ℕ, Bool, false, [], refl, sym, ap, subst, ◌∙◌}
use Rattle.std.proofs.lemmas.Bool.{cases_eq}
use Rattle.bz_model.specs.declared.channel.Move.TheVariants.{Take, Reply}
use Rattle.bz_model.specs.Heads.{Head, IsHead, is_done, sequence, tidy, tidy_all, together}
use Rattle.bz_model.specs.Terms.{Store, Term, Terms, ask, take, reply, got, seq, par, choice, forever, while, when, done, no_terms, term, with_term}
use Rattle.bz_complete.proofs.Rows.{AreRows, HasPort, IsRow, at_other, at_same, at_tidy, head_at, head_port, rest_within, row_rest, row_tidy, term_at, tidy_within}

-- its last move is the reply at port 1, and it has no other move there
abbrev pub Owes : Term → Type 0
Owes (ask p e) = ⊥
Owes (take p x) = ⊥
Owes (reply p e) = p ≡ 1
Owes (got p x) = ⊥
Owes (seq a b) = (HasPort a 1 → ⊥) × Owes b
Owes (par ts) = ⊥
Owes (choice ts) = ⊥
Owes (forever t) = ⊥
Owes (while p x t) = ⊥
Owes (when c t) = ⊥
Owes done = ⊥

owes_sequence : (a b r : Term) → (HasPort a 1 → ⊥) → Owes b → Owes r → Owes (sequence a b r)
owes_sequence (ask p e) b r x y z = (x, y)
owes_sequence (take p e) b r x y z = (x, y)
owes_sequence (reply p e) b r x y z = (x, y)
owes_sequence (got p e) b r x y z = (x, y)
owes_sequence (seq t u) b r x y z = (x, y)
owes_sequence (par ts) b r x y z = (x, y)
owes_sequence (choice ts) b r x y z = (x, y)
owes_sequence (forever t) b r x y z = (x, y)
owes_sequence (while p e t) b r x y z = (x, y)
owes_sequence (when c t) b r x y z = (x, y)
owes_sequence done b r x y z = z

owes_more : (a b r : Term) → Owes a → sequence a b r ≡ seq a b
owes_more (ask p e) b r x = refl
owes_more (take p e) b r x = refl
owes_more (reply p e) b r x = refl
owes_more (got p e) b r x = refl
owes_more (seq t u) b r x = refl
owes_more (par ts) b r x = refl
owes_more (choice ts) b r x = refl
owes_more (forever t) b r x = refl
owes_more (while p e t) b r x = refl
owes_more (when c t) b r x = refl
owes_more done b r x = absurd x

module _ (brings : ℕ → Bool) where
  owes_tidy : (s : Store) (u : Term) → IsRow u → Owes u → Owes (tidy s u)
  owes_tidy s (ask p e) row x = x
  owes_tidy s (take p e) row x = x
  owes_tidy s (reply p e) row x = x
  owes_tidy s (got p e) row x = x
  owes_tidy s (seq a b) row x = owes_sequence (tidy s a) b (tidy s b) (λ at. x.0 ((tidy_within brings s a row.0).ports 1 at)) x.1 (owes_tidy s b row.1 x.1)
  owes_tidy s (par ts) row x = absurd x
  owes_tidy s (choice ts) row x = absurd x
  owes_tidy s (forever t) row x = absurd x
  owes_tidy s (while p e t) row x = absurd x
  owes_tidy s (when c t) row x = absurd x
  owes_tidy s done row x = absurd x

  -- it makes another move, or replies and is done
  record Goes (h : Head) : Type 0 where
    pub port : h.port ≢ 1
    pub owes : Owes h.rest

  record Ends (h : Head) : Type 0 where
    pub port : h.port ≡ 1
    pub move : h.move ≡ Reply
    pub rest : h.rest ≡ done

  owes_head : (u : Term) (h : Head) → IsRow u → Owes u → IsHead u h → Goes h ⊎ Ends h
  owes_head (ask p e) h row x at = absurd x
  owes_head (take p e) h row x at = absurd x
  owes_head (reply p e) h row x at =
      inr (record { port = ap (λ (y : Head). y.port) at ∙ x; move = ap (λ (y : Head). y.move) at; rest = ap (λ (y : Head). y.rest) at })
  owes_head (got p e) h row x at = absurd x
  owes_head (seq a b) h row x (r, at, is) = inl (record {
    port = λ e. x.0 (subst (HasPort a) (ap (λ (y : Head). y.port) (sym is) ∙ e) (head_port brings a r row.0 at));
    owes = subst Owes (ap (λ (y : Head). y.rest) (sym is)) ((λ on. x.0 ((rest_within brings a r row.0 at).ports 1 on)), x.1);
  })
  owes_head (par ts) h row x at = absurd x
  owes_head (choice ts) h row x at = absurd x
  owes_head (forever t) h row x at = absurd x
  owes_head (while p e t) h row x at = absurd x
  owes_head (when c t) h row x at = absurd x
  owes_head done h row x at = absurd x

  -- ---- it serves port 1

  module _ (x : ℕ) (b : Term) (row : IsRow b) (last : Owes b) where
    abbrev pub server : Term
    server = forever (seq (take 1 x) b)

    -- it is at rest, or owes the reply
    pub record Owing (t : Term) : Type 0 where
      pub left : Term
      pub is_row : IsRow left
      pub owes : Owes left
      pub is : t ≡ seq left server

    abbrev pub Serves : Term → Type 0
    Serves t = (t ≡ server) ⊎ Owing t

    -- a move of it is a take at rest, or one of what it owes
    pub record Served (s : Store) (t : Term) (h : Head) : Type 0 where
      pub then : Serves (tidy s h.rest)
      pub takes : t ≡ server → (h.port ≡ 1) × (h.move ≡ Take)
      pub replies : h.port ≡ 1 → h.move ≡ Reply → tidy s h.rest ≡ server

    again : (s : Store) (u : Term) → IsRow u → Owes u → Owing (tidy s (seq u server))
    again s u is owes = record {
      left = tidy s u;
      is_row = row_tidy s u is;
      owes = owes_tidy s u is owes;
      is = owes_more (tidy s u) server server (owes_tidy s u is owes);
    }

    served : (s : Store) (t : Term) (h : Head) → Serves t → IsHead t h → Served s t h
    served s t h (inl rest) at = by (subst (λ u. IsHead u h) rest at)
      where
        by : IsHead server h → Served s t h
        by (r, (k, on, same), is) =
            let front : h.port ≡ 1 = ap (λ (y : Head). y.port) is ∙ ap (λ (y : Head). y.port) same ∙ ap (λ (y : Head). y.port) on in
            let move : h.move ≡ Take = ap (λ (y : Head). y.move) is ∙ ap (λ (y : Head). y.move) same ∙ ap (λ (y : Head). y.move) on in
            let left : h.rest ≡ seq (seq done b) server = ap (λ (y : Head). y.rest) is ∙ ap (λ (y : Head). seq y.rest server) same ∙ ap (λ (y : Head). seq (seq y.rest b) server) on in
            let owing : Owing (tidy s (seq b server)) = again s b row last in
            record {
              then = inr (subst (λ u. Owing (tidy s u)) (sym left) owing);
              takes = λ _. (front, move);
              replies = λ _ no. absurd (let both : Take ≡ Reply = sym move ∙ no in cc);
            }
    served s t h (inr owing) at = by (subst (λ u. IsHead u h) owing.is at)
      where
        at_rest : t ≡ server → ⊥
        at_rest e = let both : seq owing.left server ≡ server = sym owing.is ∙ e in cc

        by : IsHead (seq owing.left server) h → Served s t h
        by (r, on, is) = elim (owes_head owing.left r owing.is_row owing.owes on) [
          | inl goes ↦
              let here : h.port ≡ r.port = ap (λ (y : Head). y.port) is in
              let left : h.rest ≡ seq r.rest server = ap (λ (y : Head). y.rest) is in
              record {
                then = inr (subst (λ u. Owing (tidy s u)) (sym left) (again s r.rest (row_rest owing.left r owing.is_row on) goes.owes));
                takes = λ e. absurd (at_rest e);
                replies = λ e _. absurd (goes.port (sym here ∙ e));
              }
          | inr ends ↦
              let left : h.rest ≡ seq done server = ap (λ (y : Head). y.rest) is ∙ ap (λ u. seq u server) ends.rest in
              let over : tidy s h.rest ≡ server = ap (tidy s) left in
              record { then = inl over; takes = λ e. absurd (at_rest e); replies = λ _ _. over }
        ]

    still : (s : Store) (t : Term) → Serves t → Serves (tidy s t)
    still s t (inl rest) = inl (ap (tidy s) rest)
    still s t (inr owing) = inr (subst (λ u. Owing (tidy s u)) (sym owing.is) (again s owing.left owing.is_row owing.owes))

    still_rests : (s : Store) (t : Term) → t ≡ server → tidy s t ≡ server
    still_rests s t e = ap (tidy s) e

    serves_port : (t : Term) → Serves t → HasPort t 1
    serves_port t (inl rest) = subst (λ u. HasPort u 1) (sym rest) (inl refl)
    serves_port t (inr owing) = subst (λ u. HasPort u 1) (sym owing.is) (inr (inl refl))

    serves_on : (t : Term) → Serves t → is_done t ≡ false
    serves_on t (inl rest) = ap is_done rest
    serves_on t (inr owing) = ap is_done owing.is

    first_on : (ts : Terms) → is_done (term_at ts 0) ≡ false → together ts ≡ par ts
    first_on no_terms on = absurd (cc)
    first_on (term t ts) on = rw on refl

    -- ---- the first of some side by side

    pub record First (t : Term) : Type 0 where
      pub terms : Terms
      pub is : t ≡ par terms
      pub serves : Serves (term_at terms 0)

    abbrev pub AtRest : (t : Term) → First t → Type 0
    AtRest t f = term_at f.terms 0 ≡ server

    pub record Moved (s : Store) (t : Term) (f : First t) (h : Head) : Type 0 where
      pub then : First (tidy s h.rest)
      pub takes : h.port ≡ 1 → AtRest t f → h.move ≡ Take
      pub replies : h.port ≡ 1 → h.move ≡ Reply → AtRest (tidy s h.rest) then
      pub others : h.port ≢ 1 → AtRest t f → AtRest (tidy s h.rest) then

    module _ (Rival : ℕ → ℕ → Type 0) where
      -- at rest it moves at no port but 1, and no other does at its ports
      pub resting : (t : Term) (f : First t) (h : Head) → AreRows brings Rival f.terms → AtRest t f → IsHead t h → HasPort server h.port → h.port ≡ 1
      resting t f h rows rest at has = by (subst (λ u. IsHead u h) f.is at)
        where
          by : IsHead (par f.terms) h → h.port ≡ 1
          by (i, r, on, is) = elim (cases_eq i 0) [
            | inl e ↦ ap (λ (y : Head). y.port) is ∙ ((served [] (term_at f.terms 0) r f.serves (subst (λ n. IsHead (term_at f.terms n) r) e (head_at f.terms i r on))).takes rest).0
            | inr ne ↦
                let port : h.port ≡ r.port = ap (λ (y : Head). y.port) is in
                absurd ((rows.apart i 0 ne).ports h.port (subst (HasPort (term_at f.terms i)) (sym port) (head_port brings (term_at f.terms i) r (rows.rows i) (head_at f.terms i r on)))
                (subst (λ u. HasPort u h.port) (sym rest) has))
          ]

      pub moved : (s : Store) (t : Term) (f : First t) (h : Head) → AreRows brings Rival f.terms → IsHead t h → Moved s t f h
      moved s t f h rows at = by (subst (λ u. IsHead u h) f.is at)
        where
          ts : Terms
          ts = f.terms

          by : IsHead (par f.terms) h → Moved s t f h
          by (i, r, on, is) = elim (cases_eq i 0) [
            | inl e ↦ mine r (subst (λ n. IsHead (term_at f.terms n) r) e (head_at f.terms i r on)) (is ∙ ap (λ n. record r { rest = par (with_term f.terms n r.rest) }) e)
            | inr ne ↦ other i r ne (head_at f.terms i r on) is
          ]
            where
              mine : (r : Head) → IsHead (term_at f.terms 0) r → h ≡ record r { rest = par (with_term f.terms 0 r.rest) } → Moved s t f h
              mine r there same =
                  let it = served s (term_at f.terms 0) r f.serves there in
                  let us = tidy_all s (with_term f.terms 0 r.rest) in
                  let here : term_at us 0 ≡ tidy s r.rest = at_tidy s (with_term f.terms 0 r.rest) 0 ∙ ap (tidy s) (at_same f.terms 0 r.rest r there) in
                  let is_par : tidy s h.rest ≡ par us = ap (λ (y : Head). tidy s y.rest) same ∙ first_on us (ap is_done here ∙ serves_on (tidy s r.rest) it.then) in
                  record {
                    then = record { terms = us; is = is_par; serves = subst Serves (sym here) it.then };
                    takes = λ e rest. ap (λ (y : Head). y.move) same ∙ (it.takes rest).1;
                    replies = λ e no. here ∙ it.replies (ap (λ (y : Head). y.port) (sym same) ∙ e) (ap (λ (y : Head). y.move) (sym same) ∙ no);
                    others = λ ne rest. absurd (ne (ap (λ (y : Head). y.port) same ∙ (it.takes rest).0));
                  }

              other : (i : ℕ) (r : Head) → i ≢ 0 → IsHead (term_at f.terms i) r → h ≡ record r { rest = par (with_term f.terms i r.rest) } → Moved s t f h
              other i r ne there same =
                  let us = tidy_all s (with_term f.terms i r.rest) in
                  let here : term_at us 0 ≡ tidy s (term_at f.terms 0) = at_tidy s (with_term f.terms i r.rest) 0 ∙ ap (tidy s) (at_other f.terms i 0 r.rest ne) in
                  let serves : Serves (tidy s (term_at f.terms 0)) = still s (term_at f.terms 0) f.serves in
                  let is_par : tidy s h.rest ≡ par us = ap (λ (y : Head). tidy s y.rest) same ∙ first_on us (ap is_done here ∙ serves_on (tidy s (term_at f.terms 0)) serves) in
                  let off : h.port ≢ 1 = λ e. (rows.apart i 0 ne).ports 1 (subst (HasPort (term_at f.terms i)) (ap (λ (y : Head). y.port) (sym same) ∙ e) (head_port brings (term_at f.terms i) r (rows.rows i) there)) (serves_port (term_at f.terms 0) f.serves) in
                  record {
                    then = record { terms = us; is = is_par; serves = subst Serves (sym here) serves };
                    takes = λ e rest. absurd (off e);
                    replies = λ e no. absurd (off e);
                    others = λ _ rest. here ∙ still_rests s (term_at f.terms 0) rest;
                  }

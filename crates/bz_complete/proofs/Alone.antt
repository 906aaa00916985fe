-- A component by itself: what it notices and what it sends go by without each other, whatever else is in the net.
use Rattle.std.proofs.Common.{◌≡◌, ◌≢◌, ◌⊎◌, inl, inr, ℕ, zero, suc, true, false, not, Option, Some, None, List, [], ◌∷◌, refl, sym, ap, subst, ◌∙◌}
use Rattle.std.specs.Prelude.{◌==◌, if◌then◌else◌}
use Rattle.std.proofs.lemmas.Bool.{cases_eq, eq-eqb, false≢true, ne_eqb}
use Rattle.bz_model.specs.Heads.{Head, IsHead, IsHeadOn, Proc, after_head}
use Rattle.bz_model.specs.Nets.{Site, IsPort, chan_at, passive_at}
use Rattle.bz_model.specs.Terms.{value_of}
use Rattle.bz_flat.specs.Wires.{IsEnd}
use Rattle.bz_net.specs.Sides.{sends}
use Rattle.bz_net.proofs.Ties.{either_of, not_same}
use Rattle.bz_complete.specs.Shown.{shown_move}
use Rattle.bz_complete.specs.Stopping.{HasSent, replies}
use Rattle.bz_complete.specs.declared.short.ShortMove.{ShortMove}
use Rattle.bz_complete.proofs.Noticing.{told}

-- its process, and what waits at each of its ports to be taken or got
pub record Local : Type 0 where
  pub proc : Proc
  pub waits : ℕ → Option (Option ℕ)

-- what comes in with a head: something that fits its port where it takes or gets, and nothing where it sends
abbrev pub Comes : (ℕ → Option ℕ → Type 0) → Head → Option ℕ → Type 0
Comes Fits h v = ((sends h.move ≡ false) × Fits h.port v) ⊎ ((sends h.move ≡ true) × (v ≡ None))

-- two heads of a process that can be made in either order
pub record Cross (q : Proc) (h k : Head) (v u : Option ℕ) : Type 0 where
  pub later : Head
  pub later_is : IsHead (after_head q h v).todo later
  pub later_port : later.port ≡ k.port
  pub later_move : later.move ≡ k.move
  pub later_value : value_of later.gives (after_head q h v).store ≡ value_of k.gives q.store
  pub sooner : Head
  pub sooner_is : IsHead (after_head q k u).todo sooner
  pub sooner_port : sooner.port ≡ h.port
  pub sooner_move : sooner.move ≡ h.move
  pub meets : after_head (after_head q h v) later u ≡ after_head (after_head q k u) sooner v

-- processes of which what is noticed stands in the way of nothing, but at a rival port
pub record Flows (Good : Proc → Type 0) (Fits : ℕ → Option ℕ → Type 0) (Rival : ℕ → ℕ → Type 0) : Type 0 where
  pub one : (q : Proc) (h k : Head) → Good q → IsHead q.todo h → IsHead q.todo k → h.port ≡ k.port → h ≡ k
  pub after : (q : Proc) (h : Head) (v : Option ℕ) → Good q → IsHead q.todo h → Comes Fits h v → Good (after_head q h v)
  pub cross : (q : Proc) (h k : Head) (v u : Option ℕ) → Good q → IsHead q.todo h → IsHead q.todo k → h.port ≢ k.port → (Rival h.port k.port → ⊥) → sends h.move ≡ false
      → Comes Fits h v → Comes Fits k u → Cross q h k v u

some_same : (v u : Option ℕ) → Some v ≡ Some u → v ≡ u
some_same v u e = cc

module _ (sites : List Site) (c : ℕ) where
  -- the same, as far as its ports go
  pub record Same (l n : Local) : Type 0 where
    pub proc : n.proc ≡ l.proc
    pub waits : (p : ℕ) → IsPort sites c p → n.waits p ≡ l.waits p

  -- it takes or gets what waits at port p
  pub record Hears (l : Local) (p : ℕ) (n : Local) : Type 0 where
    pub port : IsPort sites c p
    pub head : Head
    pub on : IsHeadOn l.proc p head
    pub is : sends head.move ≡ false
    pub value : Option ℕ
    pub came : l.waits p ≡ Some value
    pub leaves : n.proc ≡ after_head l.proc head value
    pub gone : n.waits p ≡ None
    pub others : (q : ℕ) → IsPort sites c q → q ≢ p → n.waits q ≡ l.waits q

  -- so many times
  abbrev pub Reach : ℕ → Local → Local → Type 0
  Reach zero l n = Same l n
  Reach (suc i) l n = (x : Local) × (p : ℕ) × Hears l p x × Reach i x n

  -- it sends this
  pub record Own (m : ShortMove) (l n : Local) : Type 0 where
    pub port : ℕ
    pub end : IsEnd sites m.chan (replies m.sent) c port
    pub head : Head
    pub on : IsHeadOn l.proc port head
    pub shows : shown_move m.chan head.move (value_of head.gives l.proc.store) ≡ m ∷ []
    pub leaves : n.proc ≡ after_head l.proc head None

  -- something else does
  pub record Foreign (m : ShortMove) (l n : Local) : Type 0 where
    pub none : (p : ℕ) → IsEnd sites m.chan (replies m.sent) c p → ⊥
    pub proc : n.proc ≡ l.proc

  -- this is sent, by it or not, and comes to it where it has the other end
  pub record Makes (m : ShortMove) (l n : Local) : Type 0 where
    pub by : Own m l n ⊎ Foreign m l n
    pub comes : (p : ℕ) → IsEnd sites m.chan (not (replies m.sent)) c p → (l.waits p ≡ None) × (n.waits p ≡ Some m.value)
    pub others : (p : ℕ) → IsPort sites c p → (IsEnd sites m.chan (not (replies m.sent)) c p → ⊥) → n.waits p ≡ l.waits p

  -- ---- what is the same

  pub same_self : (l : Local) → Same l l
  same_self l = record { proc = refl; waits = λ p at. refl }

  same_turned : (l n : Local) → Same l n → Same n l
  same_turned l n s = record { proc = sym s.proc; waits = λ p at. sym (s.waits p at) }

  same_on : (l x n : Local) → Same l x → Same x n → Same l n
  same_on l x n s t = record { proc = t.proc ∙ s.proc; waits = λ p at. t.waits p at ∙ s.waits p at }

  hears_same : (l k n : Local) (p : ℕ) → Same l k → Hears l p n → Hears k p n
  hears_same l k n p s h = record {
    port = h.port;
    head = h.head;
    on = subst (λ q. IsHeadOn q p h.head) (sym s.proc) h.on;
    is = h.is;
    value = h.value;
    came = s.waits p h.port ∙ h.came;
    leaves = h.leaves ∙ ap (λ q. after_head q h.head h.value) (sym s.proc);
    gone = h.gone;
    others = λ q at ne. h.others q at ne ∙ sym (s.waits q at);
  }

  hears_to : (l n k : Local) (p : ℕ) → Hears l p n → Same n k → Hears l p k
  hears_to l n k p h s = record {
    port = h.port;
    head = h.head;
    on = h.on;
    is = h.is;
    value = h.value;
    came = h.came;
    leaves = s.proc ∙ h.leaves;
    gone = s.waits p h.port ∙ h.gone;
    others = λ q at ne. s.waits q at ∙ h.others q at ne;
  }

  own_same : (m : ShortMove) (l k n : Local) → Same l k → Own m l n → Own m k n
  own_same m l k n s o = record {
    port = o.port;
    end = o.end;
    head = o.head;
    on = subst (λ q. IsHeadOn q o.port o.head) (sym s.proc) o.on;
    shows = subst (λ (q : Proc). shown_move m.chan o.head.move (value_of o.head.gives q.store) ≡ m ∷ []) (sym s.proc) o.shows;
    leaves = o.leaves ∙ ap (λ q. after_head q o.head None) (sym s.proc);
  }

  makes_same : (m : ShortMove) (l k n : Local) → Same l k → Makes m l n → Makes m k n
  makes_same m l k n s made = record {
    by = elim made.by [
      | inl own ↦ inl (own_same m l k n s own)
      | inr other ↦ inr (record { none = other.none; proc = other.proc ∙ sym s.proc })
    ];
    comes = λ p end. (s.waits p end.is_port ∙ (made.comes p end).0, (made.comes p end).1);
    others = λ p at off. made.others p at off ∙ sym (s.waits p at);
  }

  pub reach_same : (i : ℕ) (l k n : Local) → Same l k → Reach i l n → Reach i k n
  reach_same zero l k n s r = same_on k l n (same_turned l k s) r
  reach_same (suc i) l k n s (x, p, h, r) = (x, p, hears_same l k x p s h, r)

  pub reach_to : (i : ℕ) (l n k : Local) → Reach i l n → Same n k → Reach i l k
  reach_to zero l n k r s = same_on l n k r s
  reach_to (suc i) l n k (x, p, h, r) s = (x, p, h, reach_to i x n k r s)

  reach_on : (i j : ℕ) (l x n : Local) → Reach i l x → Reach j x n → (k : ℕ) × Reach k l n
  reach_on zero j l x n r t = (j, reach_same j x l n (same_turned l x r) t)
  reach_on (suc i) j l x n (y, p, h, r) t = let (k, on) = reach_on i j y x n r t in (suc k, (y, p, h, on))

  -- whether a port is where a move comes in
  comes_at : (m : ShortMove) (p : ℕ) → IsPort sites c p → IsEnd sites m.chan (not (replies m.sent)) c p ⊎ (IsEnd sites m.chan (not (replies m.sent)) c p → ⊥)
  comes_at m p at = elim (cases_eq (chan_at sites c p) m.chan) [
    | inl on ↦ elim (either_of (passive_at sites c p) (replies m.sent)) [
      | inl same ↦ inr (λ end. not_same (replies m.sent) (sym same ∙ end.sense))
      | inr other ↦ inl (record { is_port = at; on = on; sense = other })
    ]
    | inr off ↦ inr (λ end. off end.on)
  ]

  -- a local where nothing waits any more at port p
  abbrev without : Local → ℕ → Proc → Local
  without l p q = record { proc = q; waits = λ r. if r == p then None else l.waits r }

  without_here : (l : Local) (p : ℕ) (q : Proc) → (without l p q).waits p ≡ None
  without_here l p q = rw (eq-eqb p p refl) refl

  without_other : (l : Local) (p : ℕ) (q : Proc) (r : ℕ) → r ≢ p → (without l p q).waits r ≡ l.waits r
  without_other l p q r ne = rw (ne_eqb r p ne) refl

  -- what waits where something was noticed waited there before
  still_waits : (l n : Local) (p : ℕ) → Hears l p n → (q : ℕ) (v : Option ℕ) → IsPort sites c q → n.waits q ≡ Some v → l.waits q ≡ Some v
  still_waits l n p h q v at is = elim (cases_eq q p) [
    | inl e ↦ absurd (let none : None ≡ Some v = sym h.gone ∙ ap n.waits (sym e) ∙ is in cc)
    | inr ne ↦ sym (h.others q at ne) ∙ is
  ]

  -- ---- what is noticed

  module _ (Good : Proc → Type 0) (Fits : ℕ → Option ℕ → Type 0) (Rival : ℕ → ℕ → Type 0) (flows : Flows Good Fits Rival)
      (one_port : (m : ShortMove) (p q : ℕ) → IsEnd sites m.chan (replies m.sent) c p → IsEnd sites m.chan (replies m.sent) c q → p ≡ q) where
    pub record Sound (l : Local) : Type 0 where
      pub good : Good l.proc
      pub fits : (p : ℕ) (v : Option ℕ) → IsPort sites c p → l.waits p ≡ Some v → Fits p v
      pub calm : (p q : ℕ) (v u : Option ℕ) → IsPort sites c p → IsPort sites c q → Rival p q → l.waits p ≡ Some v → l.waits q ≡ Some u → ⊥

    comes_in : (l n : Local) (p : ℕ) → Sound l → (h : Hears l p n) → Comes Fits h.head h.value
    comes_in l n p sound h = inl (h.is, subst (λ r. Fits r h.value) (sym h.on.1) (sound.fits p h.value h.port h.came))

    pub sound_hears : (l n : Local) (p : ℕ) → Sound l → Hears l p n → Sound n
    sound_hears l n p sound h = record {
      good = subst Good (sym h.leaves) (flows.after l.proc h.head h.value sound.good h.on.0 (comes_in l n p sound h));
      fits = λ q v at is. sound.fits q v at (still_waits l n p h q v at is);
      calm = λ q r v u at on rival x y. sound.calm q r v u at on rival (still_waits l n p h q v at x) (still_waits l n p h r u on y);
    }

    pub sound_same : (l n : Local) → Sound l → Same l n → Sound n
    sound_same l n sound s = record {
      good = subst Good (sym s.proc) sound.good;
      fits = λ p v at is. sound.fits p v at (sym (s.waits p at) ∙ is);
      calm = λ p q v u at on rival x y. sound.calm p q v u at on rival (sym (s.waits p at) ∙ x) (sym (s.waits q on) ∙ y);
    }

    sound_reach : (i : ℕ) (l n : Local) → Sound l → Reach i l n → Sound n
    sound_reach zero l n sound r = sound_same l n sound r
    sound_reach (suc i) l n sound (x, p, h, r) = sound_reach i x n (sound_hears l x p sound h) r

    -- at one port there is one thing to notice
    same_heard : (l a b : Local) (p q : ℕ) → Sound l → p ≡ q → Hears l p a → Hears l q b → Same a b
    same_heard l a b p q sound e h k =
        let heads : h.head ≡ k.head = flows.one l.proc h.head k.head sound.good h.on.0 k.on.0 (h.on.1 ∙ e ∙ sym k.on.1) in
        let values : h.value ≡ k.value = some_same h.value k.value (sym h.came ∙ ap l.waits e ∙ k.came) in
        record {
          proc = k.leaves ∙ (λ i. after_head l.proc (sym heads i) (sym values i)) ∙ sym h.leaves;
          waits = λ r at. elim (cases_eq r p) [
            | inl is ↦ ap b.waits (is ∙ e) ∙ k.gone ∙ sym h.gone ∙ ap a.waits (sym is)
            | inr ne ↦ k.others r at (λ is. ne (is ∙ sym e)) ∙ sym (h.others r at ne)
          ];
        }

    -- rival ports of heads
    rival_ports : (h k : Head) (p q : ℕ) → h.port ≡ p → k.port ≡ q → Rival h.port k.port → Rival p q
    rival_ports h k p q at on rival = subst (λ x. Rival x q) at (subst (Rival h.port) on rival)

    -- at two ports the order is free
    crossed : (l a b : Local) (p q : ℕ) → Sound l → p ≢ q → Hears l p a → Hears l q b → (x : Local) × Hears a q x × Hears b p x
    crossed l a b p q sound ne h k =
        let x = flows.cross l.proc h.head k.head h.value k.value sound.good h.on.0 k.on.0 (λ e. ne (sym h.on.1 ∙ e ∙ k.on.1))
        (λ rival. sound.calm p q h.value k.value h.port k.port (rival_ports h.head k.head p q h.on.1 k.on.1 rival) h.came k.came) h.is (comes_in l a p sound h) (comes_in l b q sound k) in
        let end = without a q (after_head a.proc x.later k.value) in (
          end,
          record {
            port = k.port;
            head = x.later;
            on = (subst (λ (r : Proc). IsHead r.todo x.later) (sym h.leaves) x.later_is, x.later_port ∙ k.on.1);
            is = ap sends x.later_move ∙ k.is;
            value = k.value;
            came = h.others q k.port (λ e. ne (sym e)) ∙ k.came;
            leaves = refl;
            gone = without_here a q (after_head a.proc x.later k.value);
            others = λ r at off. without_other a q (after_head a.proc x.later k.value) r off;
          },
          record {
            port = h.port;
            head = x.sooner;
            on = (subst (λ (r : Proc). IsHead r.todo x.sooner) (sym k.leaves) x.sooner_is, x.sooner_port ∙ h.on.1);
            is = ap sends x.sooner_move ∙ h.is;
            value = h.value;
            came = k.others p h.port ne ∙ h.came;
            leaves = ap (λ r. after_head r x.later k.value) h.leaves ∙ x.meets ∙ ap (λ r. after_head r x.sooner h.value) (sym k.leaves);
            gone = without_other a q (after_head a.proc x.later k.value) p ne ∙ h.gone;
            others = λ r at off. elim (cases_eq r q) [
              | inl is ↦ ap end.waits is ∙ without_here a q (after_head a.proc x.later k.value) ∙ sym k.gone ∙ ap b.waits (sym is)
              | inr away ↦ without_other a q (after_head a.proc x.later k.value) r away ∙ h.others r at off ∙ sym (k.others r at away)
            ];
          },
        )

    -- two ways from one local meet again
    abbrev pub Meets : Local → Local → Type 0
    Meets l n = (x : Local) × (i j : ℕ) × Reach i l x × Reach j n x

    strip : (i : ℕ) (l a n : Local) (p : ℕ) → Sound l → Hears l p a → Reach i l n → Meets a n
    strip zero l a n p sound h r = (a, 0, 1, same_self a, (a, p, hears_same l n a p r h, same_self a))
    strip (suc i) l a n p sound h (b, q, k, r) = elim (cases_eq p q) [
      | inl e ↦ (n, i, 0, reach_same i b a n (same_turned a b (same_heard l a b p q sound e h k)) r, same_self n)
      | inr ne ↦
          let (x, on_a, on_b) = crossed l a b p q sound ne h k in
          let (y, j, m, one, other) = strip i b x n p (sound_hears l b q sound k) on_b r in
          (y, suc j, m, (x, q, on_a, one), other)
    ]

    -- ---- a move that is sent

    -- no rival of it waits
    abbrev pub Clear : ShortMove → Local → Type 0
    Clear m l = (p q : ℕ) (v : Option ℕ) → IsEnd sites m.chan (replies m.sent) c p → IsPort sites c q → Rival q p → l.waits q ≡ Some v → ⊥

    clear_hears : (m : ShortMove) (l n : Local) (p : ℕ) → Hears l p n → Clear m l → Clear m n
    clear_hears m l n p h clear r q v end at rival is = clear r q v end at rival (still_waits l n p h q v at is)

    -- it waits for nothing that is noticed
    passes : (m : ShortMove) (l a b : Local) (q : ℕ) → Sound l → Clear m l → Hears l q a → Makes m l b → (x : Local) × Makes m a x × Hears b q x
    passes m l a b q sound clear h made = by made.by
      where
        -- what comes in does so at another port
        off : IsEnd sites m.chan (not (replies m.sent)) c q → ⊥
        off end = let none : None ≡ Some h.value = sym (made.comes q end).0 ∙ h.came in cc

        comes : (r : ℕ) → IsEnd sites m.chan (not (replies m.sent)) c r → r ≢ q
        comes r end e = off (subst (λ o. IsEnd sites m.chan (not (replies m.sent)) c o) e end)

        end : Proc → Local
        end proc = without b q proc

        comes_there : (proc : Proc) (r : ℕ) → IsEnd sites m.chan (not (replies m.sent)) c r → (a.waits r ≡ None) × ((end proc).waits r ≡ Some m.value)
        comes_there proc r at = (h.others r at.is_port (comes r at) ∙ (made.comes r at).0, without_other b q proc r (comes r at) ∙ (made.comes r at).1)

        others_there : (proc : Proc) (r : ℕ) → IsPort sites c r → (IsEnd sites m.chan (not (replies m.sent)) c r → ⊥) → (end proc).waits r ≡ a.waits r
        others_there proc r at not_in = elim (cases_eq r q) [
          | inl is ↦ ap (end proc).waits is ∙ without_here b q proc ∙ sym h.gone ∙ ap a.waits (sym is)
          | inr ne ↦ without_other b q proc r ne ∙ made.others r at not_in ∙ sym (h.others r at ne)
        ]

        by : Own m l b ⊎ Foreign m l b → (x : Local) × Makes m a x × Hears b q x
        by (inr other) = (
          end a.proc,
          record { by = inr (record { none = other.none; proc = refl }); comes = comes_there a.proc; others = others_there a.proc },
          record {
            port = h.port;
            head = h.head;
            on = subst (λ r. IsHeadOn r q h.head) (sym other.proc) h.on;
            is = h.is;
            value = h.value;
            came = made.others q h.port off ∙ h.came;
            leaves = h.leaves ∙ ap (λ r. after_head r h.head h.value) (sym other.proc);
            gone = without_here b q a.proc;
            others = λ r at ne. without_other b q a.proc r ne;
          },
        )
        by (inl own) =
            let is_sent : sends own.head.move ≡ true = (told m.chan own.head.move (value_of own.head.gives l.proc.store) m own.shows).sent_is in
            let apart : h.head.port ≢ own.head.port = λ e. false≢true (sym h.is ∙ ap (λ (k : Head). sends k.move) (flows.one l.proc h.head own.head sound.good h.on.0 own.on.0 e) ∙ is_sent) in
            let x = flows.cross l.proc h.head own.head h.value None sound.good h.on.0 own.on.0 apart
            (λ rival. clear own.port q h.value own.end h.port (rival_ports h.head own.head q own.port h.on.1 own.on.1 rival) h.came) h.is (comes_in l a q sound h) (inr (is_sent, refl)) in
            let left = after_head a.proc x.later None in
            let value : value_of x.later.gives a.proc.store ≡ value_of own.head.gives l.proc.store = ap (λ (r : Proc). value_of x.later.gives r.store) h.leaves ∙ x.later_value in (
              end left,
              record {
                by = inl (record {
                  port = own.port;
                  end = own.end;
                  head = x.later;
                  on = (subst (λ (r : Proc). IsHead r.todo x.later) (sym h.leaves) x.later_is, x.later_port ∙ own.on.1);
                  shows = (λ i. shown_move m.chan (x.later_move i) (value i)) ∙ own.shows;
                  leaves = refl;
                });
                comes = comes_there left;
                others = others_there left;
              },
              record {
                port = h.port;
                head = x.sooner;
                on = (subst (λ (r : Proc). IsHead r.todo x.sooner) (sym own.leaves) x.sooner_is, x.sooner_port ∙ h.on.1);
                is = ap sends x.sooner_move ∙ h.is;
                value = h.value;
                came = made.others q h.port off ∙ h.came;
                leaves = ap (λ r. after_head r x.later None) h.leaves ∙ x.meets ∙ ap (λ r. after_head r x.sooner h.value) (sym own.leaves);
                gone = without_here b q left;
                others = λ r at ne. without_other b q left r ne;
              },
            )

    -- and leads to one local
    sole_made : (m : ShortMove) (l a b : Local) → Sound l → Makes m l a → Makes m l b → Same a b
    sole_made m l a b sound one other = record {
      proc = procs one.by other.by;
      waits = λ p at. elim (comes_at m p at) [
        | inl end ↦ (other.comes p end).1 ∙ sym (one.comes p end).1
        | inr off ↦ other.others p at off ∙ sym (one.others p at off)
      ];
    }
      where
        procs : Own m l a ⊎ Foreign m l a → Own m l b ⊎ Foreign m l b → b.proc ≡ a.proc
        procs (inl x) (inl y) =
            let heads : x.head ≡ y.head = flows.one l.proc x.head y.head sound.good x.on.0 y.on.0 (x.on.1 ∙ one_port m x.port y.port x.end y.end ∙ sym y.on.1) in
            y.leaves ∙ ap (λ k. after_head l.proc k None) (sym heads) ∙ sym x.leaves
        procs (inl x) (inr y) = absurd (y.none x.port x.end)
        procs (inr x) (inl y) = absurd (x.none y.port y.end)
        procs (inr x) (inr y) = y.proc ∙ sym x.proc

    made_along : (i : ℕ) (m : ShortMove) (l n a : Local) → Sound l → Clear m l → Reach i l n → Makes m l a → (x : Local) × Makes m n x × Reach i a x
    made_along zero m l n a sound clear r made = (a, makes_same m l n a r made, same_self a)
    made_along (suc i) m l n a sound clear (b, q, h, r) made =
        let (x, there, heard) = passes m l b a q sound clear h made in
        let (y, at_end, on) = made_along i m b n x (sound_hears l b q sound h) (clear_hears m l b q h clear) r there in
        (y, at_end, (x, q, heard, on))

    -- ---- two locals that meet

    pub meets_turned : (l n : Local) → Meets l n → Meets n l
    meets_turned l n (x, i, j, a, b) = (x, j, i, b, a)

    pub meets_self : (l : Local) → Meets l l
    meets_self l = (l, 0, 0, same_self l, same_self l)

    pub meets_same : (l k n : Local) → Same l k → Meets l n → Meets k n
    meets_same l k n s (x, i, j, a, b) = (x, i, j, reach_same i l k x s a, b)

    pub meets_hears : (l k n : Local) (p : ℕ) → Sound l → Hears l p k → Meets l n → Meets k n
    meets_hears l k n p sound h (x, i, j, a, b) =
        let (y, u, v, one, other) = strip i l k x p sound h a in
        let (on, all) = reach_on j v n x y b other in
        (y, u, on, one, all)

    pub meets_makes : (m : ShortMove) (l n a b : Local) → Sound l → Sound n → Clear m l → Clear m n → Makes m l a → Makes m n b → Meets l n → Meets a b
    meets_makes m l n a b sound other clear too one made (x, i, j, there, here) =
        let (y, first, on_a) = made_along i m l x a sound clear there one in
        let (z, second, on_b) = made_along j m n x b other too here made in
        (y, i, j, on_a, reach_to j b z y on_b (sole_made m x z y (sound_reach i l x sound there) second first))

    -- ---- what can be sent can be sent

    sent_hears : (m : ShortMove) (p q : ℕ) (l n : Local) → IsEnd sites m.chan (replies m.sent) c p → Sound l → Clear m l → Hears l q n → HasSent l.proc p m → HasSent n.proc p m
    sent_hears m p q l n end sound clear h (k, on, shows) =
        let is_sent : sends k.move ≡ true = (told m.chan k.move (value_of k.gives l.proc.store) m shows).sent_is in
        let apart : h.head.port ≢ k.port = λ e. false≢true (sym h.is ∙ ap (λ (x : Head). sends x.move) (flows.one l.proc h.head k sound.good h.on.0 on.0 e) ∙ is_sent) in
        let x = flows.cross l.proc h.head k h.value None sound.good h.on.0 on.0 apart
        (λ rival. clear p q h.value end h.port (rival_ports h.head k q p h.on.1 on.1 rival) h.came) h.is (comes_in l n q sound h) (inr (is_sent, refl)) in
        let value : value_of x.later.gives n.proc.store ≡ value_of k.gives l.proc.store = ap (λ (r : Proc). value_of x.later.gives r.store) h.leaves ∙ x.later_value in
        (x.later, (subst (λ (r : Proc). IsHead r.todo x.later) (sym h.leaves) x.later_is, x.later_port ∙ on.1), (λ i. shown_move m.chan (x.later_move i) (value i)) ∙ shows)

    pub sent_reach : (i : ℕ) (m : ShortMove) (p : ℕ) (l n : Local) → IsEnd sites m.chan (replies m.sent) c p → Sound l → Clear m l → Reach i l n → HasSent l.proc p m → HasSent n.proc p m
    sent_reach zero m p l n end sound clear r has = subst (λ q. HasSent q p m) (sym r.proc) has
    sent_reach (suc i) m p l n end sound clear (x, q, h, r) has =
        sent_reach i m p x n end (sound_hears l x q sound h) (clear_hears m l x q h clear) r (sent_hears m p q l x end sound clear h has)

    -- a local that has nothing to notice sends whatever one that it meets can send
    pub quiet_sends : (m : ShortMove) (p : ℕ) (l n : Local) → IsEnd sites m.chan (replies m.sent) c p → Sound n → Clear m n → ((q : ℕ) (x : Local) → Hears l q x → ⊥) → Meets l n → HasSent n.proc p m
        → HasSent l.proc p m
    quiet_sends m p l n end sound clear quiet (x, zero, j, a, b) has = subst (λ q. HasSent q p m) a.proc (sent_reach j m p n x end sound clear b has)
    quiet_sends m p l n end sound clear quiet (x, suc i, j, (y, q, h, r), b) has = absurd (quiet q y h)

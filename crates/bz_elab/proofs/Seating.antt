-- The table of ends, as far as a pass over the components has come.
use Rattle.std.proofs.Common.{◌≡◌, ◌≢◌, ℕ, zero, suc, min, ◌+◌, ◌-◌, ◌<◌, ◌≤◌, ◌^◌, Bool, true, false, not, Option, None, Some, List, length, ◌⊎◌, inl, inr, refl, sym, ◌∙◌, ap, subst, arith, get_or, replicate, add-one, is_some, if◌then◌else◌}
use Rattle.std.proofs.lemmas.Bool.Decides.{eqb_tells, leb_tells}
use Rattle.bz_flat.specs.declared.flat.Ends.{Ends}
use Rattle.bz_model.specs.Names.{External}
use Rattle.bz_model.specs.Hosts.{port_is_passive}
use Rattle.bz_model.specs.Nets.{Site, IsPort, site_at, chan_at, passive_at}
use Rattle.bz_flat.specs.Wires.{IsEnd, HasTwo, at_side, no_ends, end_at, end_port_at}
use Rattle.bz_elab.specs.Seats.{Seated, Seats, Passed, IsHere, CompsFit, WellEnded}
use Rattle.bz_model.specs.Rows.{is_passive}

abbrev pub OrThis : (ℕ → ℕ → Type 0) → ℕ → ℕ → ℕ → ℕ → Type 0
OrThis P c p d q = P d q ⊎ ((d ≡ c) × (q ≡ p))

same_seat : (j k : ℕ) (s t : Bool) → ((j ≡ k) × (s ≡ t)) ⊎ (j ≡ k → s ≡ t → ⊥)
same_seat j k true true = elim (eqb_tells j k) [ inl h ↦ inl (h.1, refl) | inr h ↦ inr (λ e f. h.1 e) ]
same_seat j k false false = elim (eqb_tells j k) [ inl h ↦ inl (h.1, refl) | inr h ↦ inr (λ e f. h.1 e) ]
same_seat j k true false = inr (λ e f. cc)
same_seat j k false true = inr (λ e f. cc)

pub found : (o : Option ℕ) → o ≢ None → (d : ℕ) × (o ≡ Some d)
found None h = absurd (h refl)
found (Some d) h = (d, refl)

pub other_one : (s t : Bool) → (s ≡ t → ⊥) → s ≡ not t
other_one true true h = absurd (h refl)
other_one false false h = absurd (h refl)
other_one true false h = refl
other_one false true h = refl

others : (old new : List Ends) (k : ℕ) (side : Bool) (c p : ℕ) → Seats old new k side c p false → (j : ℕ) (s : Bool) → 0 < j → (j ≡ k → s ≡ side → ⊥) → end_at new j s ≡ end_at old j s
others old new k side c p seats j s h not_it = elim (eqb_tells j k) [
  | inl e ↦ let t : s ≡ not side = other_one s side (not_it e.1) in rw (e.1, t) (seats.other_side refl)
  | inr e ↦ seats.other_chans refl j s h e.1
]

other_ports : (old new : List Ends) (k : ℕ) (side : Bool) (c p : ℕ) → Seats old new k side c p false → (j : ℕ) (s : Bool) → 0 < j → (j ≡ k → s ≡ side → ⊥) → end_port_at new j s ≡ end_port_at old j s
other_ports old new k side c p seats j s h not_it = elim (eqb_tells j k) [
  | inl e ↦ let t : s ≡ not side = other_one s side (not_it e.1) in rw (e.1, t) (seats.other_port refl)
  | inr e ↦ seats.other_ports refl j s h e.1
]

pub seated_same : (sites : List Site) (P Q : ℕ → ℕ → Type 0) (ends : List Ends) (clash : ℕ)
    → ((c p : ℕ) → IsPort sites c p → P c p → Q c p) → ((c p : ℕ) → IsPort sites c p → Q c p → P c p)
    → Seated sites P ends clash → Seated sites Q ends clash
seated_same sites P Q ends clash to from s = record {
  stands = λ k c side h e. let (p, port, seen, is_end) = s.stands k c side h e in (p, port, to c p is_end.is_port seen, is_end);
  seen = λ k c p side h q is_end. s.seen k c p side h (from c p is_end.is_port q) is_end;
  single = λ k c p d q side h below qc ec qd ed. s.single k c p d q side h below (from c p ec.is_port qc) ec (from d q ed.is_port qd) ed;
  clashes = s.clashes;
}

pub some_is : {o : Option ℕ} {b c : ℕ} → o ≡ Some c → o ≡ Some b → b ≡ c
some_is e f = cc

some_not_none : {o : Option ℕ} {c : ℕ} → o ≡ Some c → o ≢ None
some_not_none e f = cc

least_clash : (sites : List Site) (clash k : ℕ) → (clash < 2 ^ 32 - 1 → HasTwo sites clash) → HasTwo sites k → min clash k < 2 ^ 32 - 1 → HasTwo sites (min clash k)
least_clash sites clash k old two below = elim (leb_tells clash k) [
  | inl h ↦ let e : min clash k ≡ clash = omega (arith, h.1) in rw e (old (omega (arith, h.1, below)))
  | inr h ↦ let e : min clash k ≡ k = omega (arith, h.1) in rw e two
]

passed_more : {sites : List Site} (c p d q : ℕ) → IsPort sites d q → OrThis (Passed c p) c (suc p) d q → Passed c (suc p) d q
passed_more c p d q is (inl (inl h)) = inl h
passed_more c p d q is (inl (inr h)) = inr (h.0, omega arith)
passed_more c p d q is (inr h) = inr (h.0, omega arith)

pub passed_less : {sites : List Site} (c p d q : ℕ) → IsPort sites d q → Passed c (suc p) d q → OrThis (Passed c p) c (suc p) d q
passed_less c p d q is (inl h) = inl (inl h)
passed_less c p d q is (inr h) = elim (eqb_tells q (suc p)) [ inl e ↦ inr (h.0, e.1) | inr e ↦ inl (inr (h.0, omega arith)) ]

not_passed : (c p : ℕ) → Passed c p c (suc p) → ⊥
not_passed c p (inl h) = omega arith
not_passed c p (inr h) = omega arith

-- an end that stands where another one stood already
pub seated_taken : (sites : List Site) (P : ℕ → ℕ → Type 0) (old new : List Ends) (clash k : ℕ) (side : Bool) (c p : ℕ)
    → Seated sites P old clash → Seats old new k side c p true → 0 < k → IsEnd sites k side c p → (P c p → ⊥)
    → Seated sites (OrThis P c p) new (min clash k)
seated_taken sites P old new clash k side c p s seats from this fresh =
    let (d, at) = found (end_at old k side) (seats.stood refl) in
    let (q, port, seen, is_end) = s.stands k d side from at in
    let two : HasTwo sites k = (side, c, p, d, q, this, is_end, λ (e, f). fresh (subst (λ (x : ℕ). P x p) (sym e) (subst (λ (y : ℕ). P d y) (sym f) seen))) in
    record {
      stands = λ j b t h e. let (r, port', w, is) = s.stands j b t h (rw (seats.same refl) at e) in (r, rw (seats.same refl) port', inl w, is);
      seen = λ j b r t h w is. rw (seats.same refl) (elim w [
        | inl v ↦ s.seen j b r t h v is
        | inr v ↦ let kj : k ≡ j = cc (this.on, is.on, v.0, v.1) in let st : side ≡ t = cc (this.sense, is.sense, v.0) in rw (← kj, ← st) (seats.stood refl)
      ]);
      single = λ j b r x y t h below w is v js.
          let apart : (a z : ℕ) → IsEnd sites j t a z → (a ≡ c) × (z ≡ p) → ⊥ = λ a z e (f, g). (let kj : j ≡ k = cc (this.on, e.on, f, g) in omega arith) in
          let old : (a z : ℕ) → IsEnd sites j t a z → OrThis P c p a z → P a z = λ a z e o. elim o [ inl u ↦ u | inr u ↦ absurd (apart a z e u) ] in
          s.single j b r x y t h (omega arith) (old b r is w) is (old x y js v) js;
      clashes = λ below. least_clash sites clash k s.clashes two below;
    }

-- an end that stands alone of its sense so far
pub seated_free : (sites : List Site) (P : ℕ → ℕ → Type 0) (old new : List Ends) (clash k : ℕ) (side : Bool) (c p : ℕ)
    → Seated sites P old clash → Seats old new k side c p false → 0 < k → IsEnd sites k side c p
    → Seated sites (OrThis P c p) new clash
seated_free sites P old new clash k side c p s seats from this =
    let at_this : (j b r : ℕ) (t : Bool) → IsEnd sites j t b r → (b ≡ c) × (r ≡ p) → (j ≡ k) × (t ≡ side) =
    λ j b r t is (f, g). (cc (this.on, is.on, f, g), cc (this.sense, is.sense, f)) in
    let kept : (j : ℕ) (t : Bool) → 0 < j → (j ≡ k → t ≡ side → ⊥) → end_at new j t ≡ end_at old j t = others old new k side c p seats in
    let kept_port : (j : ℕ) (t : Bool) → 0 < j → (j ≡ k → t ≡ side → ⊥) → end_port_at new j t ≡ end_port_at old j t = other_ports old new k side c p seats in
    let none_seen : (b r : ℕ) → P b r → IsEnd sites k side b r → ⊥ = λ b r w is. s.seen k b r side from w is (seats.free refl) in
    record {
      stands = λ j b t h e. elim (same_seat j k t side) [
        | inl u ↦ let bc : b ≡ c = some_is (seats.put refl) (rw (u.0, u.1) at e) in (p, rw (u.0, u.1) (seats.put_port refl), inr (bc, refl), rw (u.0, u.1, bc) this)
        | inr u ↦ let (r, port, w, is) = s.stands j b t h (sym (kept j t h u) ∙ e) in (r, kept_port j t h u ∙ port, inl w, is)
      ];
      seen = λ j b r t h w is. elim w [
        | inl v ↦ elim (same_seat j k t side) [
          | inl u ↦ absurd (none_seen b r v (rw (u.0, u.1) at is))
          | inr u ↦ rw (kept j t h u) (s.seen j b r t h v is)
        ]
        | inr v ↦ let (kj, st) = at_this j b r t is v in rw (kj, st) (some_not_none (seats.put refl))
      ];
      single = λ j b r x y t h below w is v js. elim w [
        | inl w1 ↦ elim v [
          | inl v1 ↦ s.single j b r x y t h below w1 is v1 js
          | inr v1 ↦ let (kj, st) = at_this j x y t js v1 in absurd (none_seen b r w1 (rw (kj, st) at is))
        ]
        | inr w1 ↦ elim v [
          | inl v1 ↦ let (kj, st) = at_this j b r t is w1 in absurd (none_seen x y v1 (rw (kj, st) at js))
          | inr v1 ↦ (w1.0 ∙ sym v1.0, w1.1 ∙ sym v1.1)
        ]
      ];
      clashes = s.clashes;
    }

pub seated_port : (sites : List Site) (old new : List Ends) (clash k : ℕ) (c p : ℕ) (side taken : Bool)
    → Seated sites (Passed c p) old clash → Seats old new k side c (suc p) taken → 0 < k → IsEnd sites k side c (suc p)
    → Seated sites (Passed c (suc p)) new (if taken then min clash k else clash)
seated_port sites old new clash k c p side true s seats from this =
    seated_same sites (OrThis (Passed c p) c (suc p)) (Passed c (suc p)) new (min clash k) (passed_more c p) (passed_less c p)
    (seated_taken sites (Passed c p) old new clash k side c (suc p) s seats from this (not_passed c p))
seated_port sites old new clash k c p side false s seats from this =
    seated_same sites (OrThis (Passed c p) c (suc p)) (Passed c (suc p)) new clash (passed_more c p) (passed_less c p)
    (seated_free sites (Passed c p) old new clash k side c (suc p) s seats from this)

pub end_here : (sites : List Site) (c : ℕ) (site : Site) (i : ℕ) → IsHere sites c site → 0 < c → i < length site.chans
    → IsEnd sites (get_or site.chans i 0) (is_passive site.kind site.sizes (i + 1)) c (suc i)
end_here sites c site i here from below = record {
  is_port = record { comp_from = from; comp_to = here.within; port_from = omega arith; port_to = rw here.is (omega arith) };
  on = let e : suc i - 1 ≡ i = omega arith in rw (e, here.is) refl;
  sense = rw (here.is, add-one) refl;
}

-- what was passed when a component's ports are behind
pub passed_back : (sites : List Site) (c n : ℕ) (site : Site) → IsHere sites c site → n ≡ length site.chans → (d q : ℕ) → IsPort sites d q → Passed (suc c) 0 d q → Passed c n d q
passed_back sites c n site here all d q is (inl h) = elim (eqb_tells d c) [
  | inl e ↦ inr (e.1, let few : q ≤ length (site_at sites d).chans = is.port_to in let few' : q ≤ length site.chans = rw (e.1, here.is) at few in omega arith)
  | inr e ↦ inl (omega (arith, e.1, h))
]
passed_back sites c n site here all d q is (inr h) = let from = is.port_from in absurd (omega (arith, h.1))

passed_suc : (sites : List Site) (c n : ℕ) (site : Site) (ends : List Ends) (clash : ℕ) → IsHere sites c site → n ≡ length site.chans
    → Seated sites (Passed c n) ends clash → Seated sites (Passed (suc c) 0) ends clash
passed_suc sites c n site ends clash here all = seated_same sites (Passed c n) (Passed (suc c) 0) ends clash
    (λ d q is w. elim w [ inl h ↦ inl (omega arith) | inr h ↦ inl (omega arith) ])
    (passed_back sites c n site here all)

pub seated_next : (sites : List Site) (old new : List Ends) (clash least k : ℕ) (c p : ℕ) (side taken : Bool)
    → Seated sites (Passed c p) old clash → Seats old new k side c (p + 1) taken → 0 < k → IsEnd sites k side c (suc p)
    → ((taken ≡ true) × (least ≡ min clash k)) ⊎ ((taken ≡ false) × (least ≡ clash)) → Seated sites (Passed c (p + 1)) new least
seated_next sites old new clash least k c p side true s seats from this (inl h) = rw (h.1, add-one) (seated_port sites old new clash k c p side true s (rw add-one at seats) from this)
seated_next sites old new clash least k c p side false s seats from this (inr h) = rw (h.1, add-one) (seated_port sites old new clash k c p side false s (rw add-one at seats) from this)
seated_next sites old new clash least k c p side true s seats from this (inr h) = cc
seated_next sites old new clash least k c p side false s seats from this (inl h) = cc

pub passed_all : (sites : List Site) (c n : ℕ) (site : Site) (ends : List Ends) (clash : ℕ) → IsHere sites c site → n ≡ length site.chans
    → Seated sites (Passed c n) ends clash → Seated sites (Passed (c + 1) 0) ends clash
passed_all sites c n site ends clash here all s = rw add-one (passed_suc sites c n site ends clash here all s)

same_unless : (s t : Bool) → (s ≡ not t → ⊥) → s ≡ t
same_unless true true h = refl
same_unless false false h = refl
same_unless true false h = absurd (h refl)
same_unless false true h = absurd (h refl)

some_too : (o q : Option ℕ) → is_some o ≡ is_some q → o ≢ None → q ≢ None
some_too None q e h = absurd (h refl)
some_too (Some x) None e h = cc
some_too (Some x) (Some y) e h = λ f. cc

pub both : (ends : List Ends) (k : ℕ) (side : Bool) → is_some (end_at ends k false) ≡ is_some (end_at ends k true) → end_at ends k side ≢ None → end_at ends k (not side) ≢ None
both ends k true e h = some_too (end_at ends k true) (end_at ends k false) (sym e) h
both ends k false e h = some_too (end_at ends k false) (end_at ends k true) e h

-- what the whole table says, where no channel has two ends of one sense
pub table_ends : (sites : List Site) (ports : List External) (n : ℕ) (ends : List Ends) → CompsFit n sites → length ports ≤ n
    → Seated sites (Passed (length sites + 1) 0) ends (2 ^ 32 - 1)
    → ((k : ℕ) → length ports < k → k ≤ n → is_some (end_at ends k false) ≡ is_some (end_at ends k true))
    → ((k : ℕ) → 0 < k → k ≤ length ports → end_at ends k (not (port_is_passive ports k)) ≡ None)
    → WellEnded sites ports ends
table_ends sites ports n ends fit few s even free =
    let passed : (c p : ℕ) → IsPort sites c p → Passed (length sites + 1) 0 c p = λ c p is. inl (let to = is.comp_to in omega arith) in
    let from : (c p : ℕ) → IsPort sites c p → (0 < chan_at sites c p) × (chan_at sites c p ≤ n) = λ c p is. (fit.each c is.comp_from is.comp_to).1 (p - 1) (let a = is.port_from in let b = is.port_to in omega arith) in
    let this : (c p : ℕ) → IsPort sites c p → IsEnd sites (chan_at sites c p) (passive_at sites c p) c p = λ c p is. record { is_port = is; on = refl; sense = refl } in
    let below : (c p : ℕ) → IsPort sites c p → chan_at sites c p < 2 ^ 32 - 1 = λ c p is. let r = (from c p is).1 in let w = fit.few in omega (arith, r, w) in
    let seen : (c p : ℕ) → IsPort sites c p → end_at ends (chan_at sites c p) (passive_at sites c p) ≢ None = λ c p is. s.seen _ c p _ (from c p is).0 (passed c p is) (this c p is) in
    record {
      one_end = λ c p d q ic id e f. s.single (chan_at sites c p) c p d q (passive_at sites c p) (from c p ic).0 (below c p ic) (passed c p ic) (this c p ic) (passed d q id)
          (record { is_port = id; on = sym e; sense = sym f });
      host_end = λ c p is in_ports. same_unless _ _ (λ e. seen c p is (ap (end_at ends (chan_at sites c p)) e ∙ free _ (from c p is).0 in_ports));
      other_end = λ c p is beyond.
          let (d, at) = found _ (both ends (chan_at sites c p) (passive_at sites c p) (even _ beyond (from c p is).1) (seen c p is)) in
          let (q, port, w, end) = s.stands _ d _ (from c p is).0 at in (d, q, end);
      finds = λ c p is.
          let (d, at) = found _ (seen c p is) in
          let (q, port, w, end) = s.stands _ d _ (from c p is).0 at in
          let same = s.single _ c p d q _ (from c p is).0 (below c p is) (passed c p is) (this c p is) w end in
          (at ∙ ap Some (sym same.0), port ∙ sym same.1);
      holds = λ k c side h e. let (p, port, w, end) = s.stands k c side h e in subst (λ (q : ℕ). IsEnd sites k side c q) (sym port) end;
    }

none_in : (n i : ℕ) → get_or (replicate n no_ends) i no_ends ≡ no_ends
none_in zero i = refl
none_in (suc n) zero = refl
none_in (suc n) (suc i) = none_in n i

none_at : (side : Bool) → at_side no_ends side ≡ None
none_at true = refl
none_at false = refl

pub none_some : (o : Option ℕ) (c : ℕ) → o ≡ None → o ≡ Some c → ⊥
none_some o c e f = cc

pub none_passed : (sites : List Site) (d q : ℕ) → IsPort sites d q → Passed 1 0 d q → ⊥
none_passed sites d q is (inl h) = let from = is.comp_from in omega (arith, from, h)
none_passed sites d q is (inr h) = let from = is.port_from in omega (arith, from, h.1)

-- before any component is looked at the table is empty
pub seated_none : (sites : List Site) (n : ℕ) → Seated sites (Passed 1 0) (replicate n no_ends) (2 ^ 32 - 1)
seated_none sites n =
    let empty : (k : ℕ) (side : Bool) → end_at (replicate n no_ends) k side ≡ None = λ k side. ap (λ (e : Ends). at_side e side) (none_in n (k - 1)) ∙ none_at side in
    let never = none_passed sites in
    record {
      stands = λ k c side h e. absurd (none_some (end_at (replicate n no_ends) k side) c (empty k side) e);
      seen = λ k c p side h w is. absurd (never c p is.is_port w);
      single = λ k c p d q side h below w is v js. absurd (never c p is.is_port w);
      clashes = λ below. absurd (omega (arith, below));
    }

-- The least fault, as the components are gone through.
use Rattle.std.proofs.Common.{◌≡◌, ℕ, suc, ◌+◌, ◌<◌, ◌≤◌, Bool, true, false, Option, None, Some, List, length, ◌⊎◌, inl, inr, refl, sym, subst, arith, slice_get}
use Rattle.std.proofs.lemmas.Bool.Decides.{eqb_tells, leb_tells}
use Rattle.std.proofs.lemmas.Option.{slice_get_within}
use Rattle.bz_breeze_records.specs.declared.part.Part.{Part}
use Rattle.bz_breeze_records.specs.declared.part.Component.{Component}
use Rattle.bz_elab.specs.declared.error.Fault.{Fault}
use Rattle.bz_elab.specs.declared.error.Fault.TheVariants as fault
use Rattle.bz_flat.specs.declared.error.ElabError.{ElabError}
use Rattle.bz_elab.specs.declared.faults.Found.{Found}
use Rattle.bz_elab.specs.Faults.{error_at}
use Rattle.bz_elab.specs.Paths.{Stop, Role, instance, of_kind, misfit, unknown, component, role}
use Rattle.bz_elab.specs.Refusals.{HasFault}
use Rattle.bz_model.specs.declared.channel.Chan.{Chan}
use Rattle.bz_elab.specs.declared.walk.Draft.{Draft}
use Rattle.bz_elab.specs.Growth.{IsSound, Refused}
use Rattle.bz_elab.specs.Order.{rank, part_of, number_of, order, NoLater, NoneBefore}
use Rattle.bz_elab.specs.Numbers.{is_marked}
use Rattle.bz_elab.specs.Least.{FaultHere, Upto, InMarked, IsLeastFault, lesser}
use Rattle.bz_elab.proofs.Roles.{sound_has_none}
use Rattle.bz_elab.proofs.Soundness.{component_within}

-- The refusal of a fault.

pub rank_is : (f : Fault) (n i : ℕ) → rank (error_at f n i) ≡ order f
rank_is fault.UnknownComponent n i = refl
rank_is fault.BadParameter n i = refl
rank_is fault.PortCount n i = refl
rank_is fault.BadChannel n i = refl
rank_is fault.KindMismatch n i = refl
rank_is fault.WidthMismatch n i = refl
rank_is fault.Memory n i = refl

pub part_is : (f : Fault) (n i : ℕ) → (f ≡ fault.Memory → ⊥) → part_of (error_at f n i) ≡ n
part_is fault.UnknownComponent n i h = refl
part_is fault.BadParameter n i h = refl
part_is fault.PortCount n i h = refl
part_is fault.BadChannel n i h = refl
part_is fault.KindMismatch n i h = refl
part_is fault.WidthMismatch n i h = refl
part_is fault.Memory n i h = absurd (h refl)

pub number_is_at : (f : Fault) (n i : ℕ) → (f ≡ fault.Memory → ⊥) → number_of (error_at f n i) ≡ i
number_is_at fault.UnknownComponent n i h = refl
number_is_at fault.BadParameter n i h = refl
number_is_at fault.PortCount n i h = refl
number_is_at fault.BadChannel n i h = refl
number_is_at fault.KindMismatch n i h = refl
number_is_at fault.WidthMismatch n i h = refl
number_is_at fault.Memory n i h = absurd (h refl)

-- by the order of the faults, then part and position
pub no_later : (f g : Fault) (n i m j : ℕ) → (f ≡ fault.Memory → ⊥) → (g ≡ fault.Memory → ⊥) → (order f < order g) ⊎ ((order f ≡ order g) × ((n < m) ⊎ ((n ≡ m) × (i ≤ j))))
    → NoLater (error_at f n i) (error_at g m j)
no_later f g n i m j real real' (inl h) = inl (omega (arith, h, rank_is f n i, rank_is g m j))
no_later f g n i m j real real' (inr (e, inl h)) = inr (omega (arith, e, rank_is f n i, rank_is g m j), inl (omega (arith, h, part_is f n i real, part_is g m j real')))
no_later f g n i m j real real' (inr (e, inr (s, le))) =
    inr (
      omega (arith, e, rank_is f n i, rank_is g m j),
      inr (omega (arith, s, part_is f n i real, part_is g m j real'), omega (arith, le, number_is_at f n i real, number_is_at g m j real')),
    )

pub no_later_order : (f g : Fault) (n i m j : ℕ) → (f ≡ fault.Memory → ⊥) → (g ≡ fault.Memory → ⊥) → NoLater (error_at f n i) (error_at g m j)
    → (order f < order g) ⊎ ((order f ≡ order g) × ((n < m) ⊎ ((n ≡ m) × (i ≤ j))))
no_later_order f g n i m j real real' (inl h) = inl (omega (arith, h, rank_is f n i, rank_is g m j))
no_later_order f g n i m j real real' (inr (e, inl h)) = inr (omega (arith, e, rank_is f n i, rank_is g m j), inl (omega (arith, h, part_is f n i real, part_is g m j real')))
no_later_order f g n i m j real real' (inr (e, inr (s, le))) =
    inr (
      omega (arith, e, rank_is f n i, rank_is g m j),
      inr (omega (arith, s, part_is f n i real, part_is g m j real'), omega (arith, le, number_is_at f n i real, number_is_at g m j real')),
    )

pub real_fault : (parts : List Part) (n i : ℕ) (f : Fault) → FaultHere parts n i f → f ≡ fault.Memory → ⊥
real_fault parts n i f h e = none (role parts h.comp) (rw e at h.fault)
  where
    none : (r : Role) → HasFault h.part.channels.items h.comp r fault.Memory → ⊥
    none (instance p) x = x
    none (of_kind k) x = x
    none misfit x = x
    none unknown x = x

-- Places.

-- a component stands there
record StandsAt (parts : List Part) (n i : ℕ) : Type 0 where
  part : Part
  comp : Component
  number : slice_get parts n ≡ Some part
  here : component part i ≡ Some comp

stands_at : (parts : List Part) (n i : ℕ) (f : Fault) → FaultHere parts n i f → StandsAt parts n i
stands_at parts n i f h = record { part = h.part; comp = h.comp; number = h.number; here = h.here }

least_same : (parts : List Part) (P Q : ℕ → ℕ → Type 0) (b : Option Found) → ((n i : ℕ) → StandsAt parts n i → P n i → Q n i) → ((n i : ℕ) → StandsAt parts n i → Q n i → P n i)
    → IsLeastFault parts P b → IsLeastFault parts Q b
least_same parts P Q None to from h = λ n i part c q at has. h n i part c (from n i (record { part = part; comp = c; number = at; here = has }) q) at has
least_same parts P Q (Some b) to from h =
    (to b.spot.part b.spot.position (stands_at parts _ _ _ h.1) h.0, h.1, λ n i f q here. h.2 n i f (from n i (stands_at parts n i f here) q) here)

both : {X : Type 0} {o : Option X} {x y : X} → o ≡ Some x → o ≡ Some y → y ≡ x
both e f = cc

no_zero : (parts : List Part) (n : ℕ) → StandsAt parts n 0 → ⊥
no_zero parts n h = let e = h.here in cc

-- a fault at a place is one of the component there
fault_at : (parts : List Part) (n m i j : ℕ) (part : Part) (c : Component) (f : Fault) → FaultHere parts m j f → m ≡ n → j ≡ i → slice_get parts n ≡ Some part → component part i ≡ Some c
    → HasFault part.channels.items c (role parts c) f
fault_at parts n m i j part c f here same there at has =
    let p : here.part ≡ part = both at (subst (λ (k : ℕ). slice_get parts k ≡ Some here.part) same here.number) in
    let x : here.comp ≡ c = both has (subst (λ (q : Part). component q i ≡ Some here.comp) p (subst (λ (k : ℕ). component here.part k ≡ Some here.comp) there here.here)) in
    subst (λ (q : Part). HasFault q.channels.items c (role parts c) f) p (subst (λ (y : Component). HasFault here.part.channels.items y (role parts y) f) x here.fault)

-- a place up to the next component is one up to this one, or that of the next
next_place : (marks : List Bool) (n i m j : ℕ) → Upto marks n (suc i) m j → Upto marks n i m j ⊎ ((m ≡ n) × (j ≡ suc i))
next_place marks n i m j (marked, inl lt) = inl (marked, inl lt)
next_place marks n i m j (marked, inr (same, le)) = elim (eqb_tells j (suc i)) [
  | inl e ↦ inr (same, e.1)
  | inr d ↦ inl (marked, inr (same, omega (arith, le, d.1)))
]

place_next : (marks : List Bool) (n i m j : ℕ) → Upto marks n i m j → Upto marks n (suc i) m j
place_next marks n i m j (marked, inl lt) = (marked, inl lt)
place_next marks n i m j (marked, inr (same, le)) = (marked, inr (same, omega (arith, le)))

-- a component without a fault
pub upto_sound : (parts : List Part) (marks : List Bool) (n i : ℕ) (part : Part) (c : Component) (b : Option Found) → slice_get parts n ≡ Some part → component part (suc i) ≡ Some c
    → IsSound part.channels.items c (role parts c) → IsLeastFault parts (Upto marks n i) b → IsLeastFault parts (Upto marks n (suc i)) b
upto_sound parts marks n i part c None at has sound h = λ m j q x seen there is. elim (next_place marks n i m j seen) [
  | inl old ↦ h m j q x old there is
  | inr (same, place) ↦
      let p : q ≡ part = both at (subst (λ (k : ℕ). slice_get parts k ≡ Some q) same there) in
      let e : x ≡ c = both has (subst (λ (r : Part). component r (suc i) ≡ Some x) p (subst (λ (k : ℕ). component q k ≡ Some x) place is)) in
      subst (λ (r : Part). IsSound r.channels.items x (role parts x)) (sym p) (subst (λ (y : Component). IsSound part.channels.items y (role parts y)) (sym e) sound)
]
upto_sound parts marks n i part c (Some b) at has sound (stood, stands, least) = (
  place_next marks n i b.spot.part b.spot.position stood,
  stands,
  λ m j f seen here. elim (next_place marks n i m j seen) [
    | inl old ↦ least m j f old here
    | inr (same, there) ↦ absurd (sound_has_none part.channels.items c (role parts c) f sound (fault_at parts n m (suc i) j part c f here same there at has))
  ],
)

-- a component with one
pub upto_fault : (parts : List Part) (marks : List Bool) (n i : ℕ) (part : Part) (c : Component) (b : Option Found) (new : Found) → slice_get parts n ≡ Some part → component part (suc i) ≡ Some c
    → is_marked marks n ≡ true → new.spot.part ≡ n → new.spot.position ≡ suc i → HasFault part.channels.items c (role parts c) new.fault → NoneBefore part.channels.items c (role parts c) new.fault
    → IsLeastFault parts (Upto marks n i) b → IsLeastFault parts (Upto marks n (suc i)) (Some (lesser b new))
upto_fault parts marks n i part c b new at has marked place position wrong first h = go b h
  where
    here : FaultHere parts n (suc i) new.fault
    here = record { part = part; comp = c; number = at; here = has; fault = wrong }

    stands : FaultHere parts new.spot.part new.spot.position new.fault
    stands = rw (place, position) here

    seen : Upto marks n (suc i) new.spot.part new.spot.position
    seen = rw (place, position) (marked, inr (refl, omega arith))

    real : new.fault ≡ fault.Memory → ⊥
    real = real_fault parts n (suc i) new.fault here

    -- against the faults of the same component
    own : (m j : ℕ) (f : Fault) → FaultHere parts m j f → m ≡ n → j ≡ suc i → NoLater (error_at new.fault new.spot.part new.spot.position) (error_at f m j)
    own m j f other same there =
        let le = first f (fault_at parts n m (suc i) j part c f other same there at has) in
        no_later new.fault f new.spot.part new.spot.position m j real (real_fault parts m j f other) (elim (leb_tells (order f) (order new.fault)) [
          | inl ge ↦ inr (omega (arith, le, ge.1), inr (omega (arith, place, same), omega (arith, position, there)))
          | inr lt ↦ inl lt.1
        ])

    go : (b : Option Found) → IsLeastFault parts (Upto marks n i) b → IsLeastFault parts (Upto marks n (suc i)) (Some (lesser b new))
    go None h = (
      seen,
      stands,
      λ m j f there other. elim (next_place marks n i m j there) [
        | inl old ↦ absurd (sound_has_none other.part.channels.items other.comp (role parts other.comp) f (h m j other.part other.comp old other.number other.here) other.fault)
        | inr (same, at_it) ↦ own m j f other same at_it
      ],
    )
    go (Some least) h =
        let stood = h.0 in
        let real_least = real_fault parts least.spot.part least.spot.position least.fault h.1 in
        elim (leb_tells (order least.fault) (order new.fault)) [
          | inl le ↦ rw le.0 (
            place_next marks n i least.spot.part least.spot.position stood,
            h.1,
            λ m j f there other. elim (next_place marks n i m j there) [
              | inl old ↦ h.2 m j f old other
              | inr (same, at_it) ↦
                  let ge = first f (fault_at parts n m (suc i) j part c f other same at_it at has) in
                  no_later least.fault f least.spot.part least.spot.position m j real_least (real_fault parts m j f other) (elim (leb_tells (order f) (order least.fault)) [
                    | inr lt ↦ inl lt.1
                    | inl eq ↦ inr (
                      omega (arith, eq.1, ge, le.1),
                      elim stood.1 [
                        | inl before ↦ inl (omega (arith, before, same))
                        | inr (same', to) ↦ inr (omega (arith, same', same), omega (arith, to, at_it))
                      ],
                    )
                  ])
            ],
          )
          | inr gt ↦ rw gt.0 (
            seen,
            stands,
            λ m j f there other. elim (next_place marks n i m j there) [
              | inl old ↦
                  let o = no_later_order least.fault f least.spot.part least.spot.position m j real_least (real_fault parts m j f other) (h.2 m j f old other) in
                  no_later new.fault f new.spot.part new.spot.position m j real (real_fault parts m j f other) (inl (elim o [ inl lt ↦ omega (arith, lt, gt.1) | inr (e, more) ↦ omega (arith, e, gt.1) ]))
              | inr (same, at_it) ↦ own m j f other same at_it
            ],
          )
        ]

pub upto_fault_at : (parts : List Part) (marks : List Bool) (n i k : ℕ) (part : Part) (c : Component) (b : Option Found) (new : Found) → k ≡ suc i → slice_get parts n ≡ Some part → component part (suc i) ≡ Some c
    → is_marked marks n ≡ true → new.spot.part ≡ n → new.spot.position ≡ suc i → HasFault part.channels.items c (role parts c) new.fault → NoneBefore part.channels.items c (role parts c) new.fault
    → IsLeastFault parts (Upto marks n i) b → IsLeastFault parts (Upto marks n k) (Some (lesser b new))
upto_fault_at parts marks n i k part c b new e at has marked place position wrong first h =
    subst (λ (j : ℕ). IsLeastFault parts (Upto marks n j) (Some (lesser b new))) (sym e) (upto_fault parts marks n i part c b new at has marked place position wrong first h)

-- all components of a part
pub upto_part : (parts : List Part) (marks : List Bool) (n i : ℕ) (part : Part) (b : Option Found) → slice_get parts n ≡ Some part → length part.components.items ≤ i
    → IsLeastFault parts (Upto marks n i) b → IsLeastFault parts (Upto marks (n + 1) 0) b
upto_part parts marks n i part b at all h = least_same parts (Upto marks n i) (Upto marks (n + 1) 0) b
    (λ m j here (marked, seen). (marked, inl (elim seen [ inl lt ↦ omega (arith, lt) | inr (same, le) ↦ omega (arith, same) ])))
    (λ m j here (marked, seen). (
      marked,
      elim (eqb_tells m n) [
        | inl same ↦
            let p : here.part ≡ part = both at (subst (λ (k : ℕ). slice_get parts k ≡ Some here.part) same.1 here.number) in
            let w = component_within part j here.comp (subst (λ (q : Part). component q j ≡ Some here.comp) p here.here) in
            inr (same.1, omega (arith, w, all))
        | inr d ↦ elim seen [
          | inl lt ↦ inl (omega (arith, lt, d.1))
          | inr (same, le) ↦ let z : j ≡ 0 = omega (arith, le) in absurd (no_zero parts m (rw z at here))
        ]
      ],
    ))
    h

-- a part that is not marked
pub upto_skip : (parts : List Part) (marks : List Bool) (n : ℕ) (b : Option Found) → is_marked marks n ≡ false → IsLeastFault parts (Upto marks n 0) b → IsLeastFault parts (Upto marks (n + 1) 0) b
upto_skip parts marks n b clear h = least_same parts (Upto marks n 0) (Upto marks (n + 1) 0) b
    (λ m j here (marked, seen). (marked, inl (elim seen [ inl lt ↦ omega (arith, lt) | inr (same, le) ↦ omega (arith, same) ])))
    (λ m j here (marked, seen). (
      marked,
      elim (eqb_tells m n) [
        | inl same ↦ let clash = rw (same.1, clear) at marked in cc
        | inr d ↦ elim seen [
          | inl lt ↦ inl (omega (arith, lt, d.1))
          | inr (same, le) ↦ let z : j ≡ 0 = omega (arith, le) in absurd (no_zero parts m (rw z at here))
        ]
      ],
    ))
    h

-- all parts
pub upto_all : (parts : List Part) (marks : List Bool) (n : ℕ) (b : Option Found) → length parts ≤ n → IsLeastFault parts (Upto marks n 0) b → IsLeastFault parts (InMarked marks) b
upto_all parts marks n b all h = least_same parts (Upto marks n 0) (InMarked marks) b
    (λ m j here seen. seen.0)
    (λ m j here marked. (marked, inl (let w = slice_get_within parts m here.part here.number in omega (arith, w, all))))
    h

pub upto_start : (parts : List Part) (marks : List Bool) → IsLeastFault parts (Upto marks 0 0) None
upto_start parts marks n i part c (marked, inl lt) at has = absurd (omega (arith, lt))
upto_start parts marks n i part c (marked, inr (same, le)) at has =
    let z : i ≡ 0 = omega (arith, le) in
    let stands : StandsAt parts n i = record { part = part; comp = c; number = at; here = has } in
    absurd (no_zero parts n (rw z at stands))

-- a refusal of a component comes before those of the ends
pub order_most : (f : Fault) → order f ≤ 10
order_most fault.UnknownComponent = omega arith
order_most fault.BadParameter = omega arith
order_most fault.PortCount = omega arith
order_most fault.BadChannel = omega arith
order_most fault.KindMismatch = omega arith
order_most fault.WidthMismatch = omega arith
order_most fault.Memory = omega arith

pub refused_early : (own : List Chan) (c : Component) (r : Role) (old : Draft) (stop : Stop) (n i : ℕ) (e : ElabError) → Refused own c r old stop n i e → rank e ≤ 10
refused_early own c r old stop n i e (inl memory) = rw memory (omega arith)
refused_early own c r old stop n i e (inr (inl (f, is, wrong))) = rw is (let k = rank_is f n i in let m = order_most f in omega (arith, k, m))
refused_early own c r old stop n i e (inr (inr (big, many))) = rw big (omega arith)

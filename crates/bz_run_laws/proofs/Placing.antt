-- Where the channels of a net are, and their numbers.
use Rattle.std.proofs.Common.{◌≡◌, ℕ, zero, suc, ◌+◌, ◌-◌, ◌<◌, ◌≤◌, inl, inr, Bool, true, false, Some, List, [], ◌∷◌, ◌++◌, length, get_or, refl, sym, ◌∙◌, ap, subst, arith, slice_get}
use Rattle.std.specs.Prelude.{nat_le, if◌then◌else◌}
use Rattle.std.specs.List.{All, flat_map}
use Rattle.std.proofs.lemmas.Bool.Decides.{leb_tells}
use Rattle.bz_model.specs.declared.channel.Chan.{Chan}
use Rattle.bz_model.specs.declared.kind.Kind.{Kind}
use Rattle.bz_breeze_records.specs.declared.part.Part.{Part}
use Rattle.bz_breeze_records.specs.declared.part.Component.{Component}
use Rattle.bz_elab.specs.Entries.{arranged, flattened}
use Rattle.bz_elab.specs.Paths.{Path, Place, Role, instance, of_kind, misfit, unknown, Stop, copy, leaf, actual, all_places, copied, joined, most_instances, number_in, own_places, places_from, port_count, ports_at, role, role_by, stops, walk}
use Rattle.bz_elab.specs.Refusals.{IsChannel}
use Rattle.bz_elab.specs.Growth.{IsNumber, IsSound, IsSoundBelow, IsSoundInstance, below_copy}
use Rattle.bz_elab.specs.Walks.{Has, StandAt, StandsAt}
use Rattle.bz_elab.proofs.Distinct.{Extends, has_cases, number_is, places_are_different}
use Rattle.bz_elab.proofs.Growing.{slice_get-left}
use Rattle.bz_elab.proofs.Meeting.{inner_comp, outer_copy}
use Rattle.bz_elab.proofs.Rising.{stops_rise}
use Rattle.bz_elab.proofs.Slots.{all_arranged}
use Rattle.bz_run_laws.proofs.Cutting.{cut-walk}

-- ---- lists

has-get : {X : Type 0} (xs : List X) (x : X) → Has xs x → (i : ℕ) × (slice_get xs i ≡ Some x)
has-get [] x h = absurd h
has-get (y ∷ ys) x (inl e) = (0, ap (λ z. Some z) e)
has-get (y ∷ ys) x (inr h) = let (i, e) = has-get ys x h in (suc i, e)

pub has-left : {X : Type 0} (xs ys : List X) (x : X) → Has xs x → Has (xs ++ ys) x
has-left [] ys x h = absurd h
has-left (z ∷ zs) ys x (inl e) = inl e
has-left (z ∷ zs) ys x (inr h) = inr (has-left zs ys x h)

pub has-right : {X : Type 0} (xs ys : List X) (x : X) → Has ys x → Has (xs ++ ys) x
has-right [] ys x h = h
has-right (z ∷ zs) ys x h = inr (has-right zs ys x h)

has-flat : {X Y : Type 0} (f : X → List Y) (xs : List X) (y : Y) → Has (flat_map f xs) y → (x : X) × Has xs x × Has (f x) y
has-flat f [] y h = absurd h
has-flat f (x ∷ xs) y h = elim (has_cases (f x) (flat_map f xs) y h) [
  | inl a ↦ (x, inl refl, a)
  | inr b ↦ let (z, at, has) = has-flat f xs y b in (z, inr at, has)
]

flat-has : {X Y : Type 0} (f : X → List Y) (xs : List X) (x : X) (y : Y) → Has xs x → Has (f x) y → Has (flat_map f xs) y
flat-has f [] x y at h = absurd at
flat-has f (z ∷ zs) x y (inl e) h = has-left (f z) (flat_map f zs) y (subst (λ w. Has (f w) y) (sym e) h)
flat-has f (z ∷ zs) x y (inr at) h = has-right (f z) (flat_map f zs) y (flat-has f zs x y at h)

both : {X : Type 0} (x y : X) → Some x ≡ Some y → x ≡ y
both x y e = cc

-- ---- numbers

module _ (parts : List Part) (top : Part) where
  pub numbered : (p : Place) → Has (all_places parts top) p → IsNumber (all_places parts top) p (number_in (all_places parts top) p)
  numbered p h =
      let (i, at) = has-get (all_places parts top) p h in
      let less : suc i - 1 ≡ i = omega arith in
      let is : IsNumber (all_places parts top) p (suc i) = (omega arith, ap (slice_get (all_places parts top)) less ∙ at) in
      subst (IsNumber (all_places parts top) p) (sym (number_is (all_places parts top) p (suc i) (places_are_different parts top) is)) is

  pub one-place : (p q : Place) → Has (all_places parts top) p → Has (all_places parts top) q → number_in (all_places parts top) p ≡ number_in (all_places parts top) q → p ≡ q
  one-place p q a b same = both p q (sym (numbered p a).1 ∙ ap (λ k. slice_get (all_places parts top) (k - 1)) same ∙ (numbered q b).1)

  pub number-of : (p : Place) (k : ℕ) → IsNumber (all_places parts top) p k → number_in (all_places parts top) p ≡ k
  number-of p k is = number_is (all_places parts top) p k (places_are_different parts top) is

  -- ---- what is met

  met-in : (ss : List Stop) (ps : List Path) (s : Stop) → StandAt parts top ss ps → Has ss s → (at : Path) × StandsAt parts top s at
  met-in [] [] s stand h = absurd h
  met-in [] (p ∷ ps) s stand h = absurd stand
  met-in (t ∷ ts) [] s stand h = absurd stand
  met-in (t ∷ ts) (p ∷ ps) s stand (inl e) = (p, subst (λ u. StandsAt parts top u p) e stand.0)
  met-in (t ∷ ts) (p ∷ ps) s stand (inr h) = met-in ts ps s stand.1 h

  pub met : (s : Stop) → Has (stops parts top) s → (at : Path) × StandsAt parts top s at
  met s h = let (paths, stand, rises) = stops_rise parts top in met-in (stops parts top) paths s stand h

  -- ---- places of a copy's own

  pub record OwnPlace (p : Place) : Type 0 where
    pub part : Part
    pub at : copied parts top p.path ≡ Some part
    pub beyond : ports_at p.path part < p.number
    pub to : p.number ≤ length part.channels.items

  places-has : (path : Path) (c n : ℕ) (p : Place) → Has (places_from path c n) p → (p.path ≡ path) × (c ≤ p.number) × (p.number < c + n)
  places-has path c zero p h = absurd h
  places-has path c (suc n) p (inl e) =
      let at : c ≡ p.number = ap (λ (q : Place). q.number) e in
      (ap (λ (q : Place). q.path) (sym e), omega (arith, at), omega (arith, at))
  places-has path c (suc n) p (inr h) = let (at, from, to) = places-has path (suc c) n p h in (at, omega (arith, from), omega (arith, to))

  has-places : (path : Path) (c n k : ℕ) → c ≤ k → k < c + n → Has (places_from path c n) (record { path = path; number = k })
  has-places path c zero k from to = absurd (omega (arith, from, to))
  has-places path c (suc n) k from to = elim (leb_tells k c) [
    | inl h ↦ (let le = h.1 in let same : c ≡ k = omega (arith, le, from) in inl (ap (λ (m : ℕ). record { path = path; number = m }) same))
    | inr h ↦ (let lt = h.1 in inr (has-places path (suc c) n k (omega (arith, lt)) (omega (arith, to))))
  ]

  pub own-of : (p : Place) → Has (all_places parts top) p → OwnPlace p
  own-of p h = let (s, there, own) = has-flat own_places (stops parts top) p h in of s there own
    where
      of : (s : Stop) → Has (stops parts top) s → Has (own_places s) p → OwnPlace p
      of (leaf path c) there own = absurd own
      of (copy path part) there own =
          let (at, stands) = met (copy path part) there in
          let (same, from, to) = places-has path (suc (ports_at path part)) (length part.channels.items - ports_at path part) p own in
          let ports = ap (λ q. ports_at q part) same in
          record {
            part = part;
            at = ap (copied parts top) same ∙ stands.1;
            beyond = omega (arith, ports, from);
            to = omega (arith, from, to);
          }

  -- the channels of the net's own part come first
  places-get : (path : Path) (c n i : ℕ) → i < n → slice_get (places_from path c n) i ≡ Some (record { path = path; number = c + i })
  places-get path c zero i lt = absurd (omega (arith, lt))
  places-get path c (suc n) zero lt = let same : c ≡ c + 0 = omega arith in ap (λ (k : ℕ). Some (record { path = path; number = k })) same
  places-get path c (suc n) (suc i) lt =
      let same : suc c + i ≡ c + suc i = omega arith in
      places-get path (suc c) n i (omega (arith, lt)) ∙ ap (λ (k : ℕ). Some (record { path = path; number = k })) same

  pub first-places : (c : ℕ) → 0 < c → c ≤ length top.channels.items → IsNumber (all_places parts top) (record { path = []; number = c }) c
  unfolding stops
  first-places c from to =
      let n = length top.channels.items in
      let less : n - 0 ≡ n = omega arith in
      let same : 1 + (c - 1) ≡ c = omega (arith, from) in
      let own = places_from [] 1 (n - 0) in
      let rest = flat_map own_places (below_copy parts [] most_instances top) in
      (from, slice_get-left own rest (c - 1) (record { path = []; number = c }) (places-get [] 1 (n - 0) (c - 1) (omega (arith, from, to, less)) ∙ ap (λ (k : ℕ). Some (record { path = []; number = k })) same))

  -- ---- where a channel of a copy is

  joined-if : (b : Bool) (i : ℕ) (up : Path) (a c : ℕ) → Extends (joined parts top up a).path up → Extends (if b then joined parts top up a else record { path = i ∷ up; number = c }).path (i ∷ up)
  joined-if true i up a c (xs, e) = (i ∷ xs, ap (λ ys. i ∷ ys) e)
  joined-if false i up a c ext = ([], refl)

  -- it is in the copy, or in one above
  pub joined-above : (path : Path) (c : ℕ) → Extends (joined parts top path c).path path
  joined-above [] c = ([], refl)
  joined-above (i ∷ up) c =
      joined-if (nat_le c (port_count (copied parts top (i ∷ up)))) i up (actual parts top up i c) c (joined-above up (actual parts top up i c))

  module _ (sound : IsSoundBelow parts top most_instances) where
    pub own-there : (path : Path) (part : Part) (c : ℕ) → copied parts top path ≡ Some part → ports_at path part < c → c ≤ length part.channels.items
        → Has (all_places parts top) (record { path = path; number = c })
    own-there path part c at from to =
        let len = sound.short path part at in
        let m : ℕ = most_instances - length path in
        let cut = cut-walk parts top path part (suc m) at (omega (arith, len)) in
        let inside : List Stop = walk parts (suc m) path part in
        let has : Has (stops parts top) (copy path part) =
        subst (λ ss. Has ss (copy path part)) (sym cut.is) (has-right cut.before (inside ++ cut.after) (copy path part) (has-left inside cut.after (copy path part) (inl refl))) in
        flat-has own_places (stops parts top) (copy path part) (record { path = path; number = c }) has
        (has-places path (suc (ports_at path part)) (length part.channels.items - ports_at path part) c (omega (arith, from)) (omega (arith, from, to)))

    -- a channel of an instance's port
    module _ (i : ℕ) (up : Path) (part : Part) (at : copied parts top (i ∷ up) ≡ Some part) where
      pub port-joined : (c : ℕ) → c ≤ length part.ports.items → joined parts top (i ∷ up) c ≡ joined parts top up (actual parts top up i c)
      port-joined c to = elim (leb_tells c (length part.ports.items)) [
        | inl h ↦
            ap (λ o. if nat_le c (port_count o) then joined parts top up (actual parts top up i c) else record { path = i ∷ up; number = c }) at
            ∙ ap (λ b. if b then joined parts top up (actual parts top up i c) else record { path = i ∷ up; number = c }) h.0
        | inr h ↦ (let lt = h.1 in absurd (omega (arith, lt, to)))
      ]

      pub own-joined : (c : ℕ) → length part.ports.items < c → joined parts top (i ∷ up) c ≡ record { path = i ∷ up; number = c }
      own-joined c from = elim (leb_tells c (length part.ports.items)) [
        | inl h ↦ (let le = h.1 in absurd (omega (arith, le, from)))
        | inr h ↦
            ap (λ o. if nat_le c (port_count o) then joined parts top up (actual parts top up i c) else record { path = i ∷ up; number = c }) at
            ∙ ap (λ b. if b then joined parts top up (actual parts top up i c) else record { path = i ∷ up; number = c }) h.0
      ]

    pub joined-there : (path : Path) (part : Part) (c : ℕ) → copied parts top path ≡ Some part → 0 < c → c ≤ length part.channels.items → Has (all_places parts top) (joined parts top path c)
    joined-there [] part c at from to = own-there [] part c at from to
    joined-there (i ∷ up) part c at from to =
        let (q, outer, inside) = outer_copy parts top i up part at in
        let (x, has, name) = inner_comp parts q i part inside in
        let own : IsSoundInstance q.channels.items x part = subst (λ (r : Role). IsSound q.channels.items x r) (ap (λ o. role_by o x) name) (sound.sound up q outer i x has) in
        elim (leb_tells c (length part.ports.items)) [
          | inl h ↦
              let le = h.1 in
              let count = own.count in
              let (k-from, k-to) = own.within (c - 1) 0 (omega (arith, from, le, count)) in
              rw (at, h.0, outer, has) (joined-there up q (get_or (flattened x.entries.items) (c - 1) 0) outer k-from k-to)
          | inr h ↦ subst (Has (all_places parts top)) (sym (own-joined i up part at c h.1)) (own-there (i ∷ up) part c at h.1 to)
        ]

    -- ---- the channels of a component

    named-in : (chans : List Chan) (x : Component) (r : Role) → IsSound chans x r → All (IsChannel chans) (flattened x.entries.items)
    named-in chans x (instance part) s = s.within
    named-in chans x (of_kind kind) s = s.within
    named-in chans x misfit s = absurd s
    named-in chans x unknown s = absurd s

    pub leaf-chans : (r : Path) (x : Component) → Has (stops parts top) (leaf r x) → (part : Part) × (copied parts top r ≡ Some part) × ((kind : Kind) (chans : List Chan) → All (IsChannel part.channels.items) (arranged kind chans x.entries.items))
    leaf-chans r x h =
        let (at, (i, part, here, is, has)) = met (leaf r x) h in
        (part, is, λ kind chans. all_arranged (IsChannel part.channels.items) kind chans x.entries.items (named-in part.channels.items x (role parts x) (sound.sound r part is i x has)))

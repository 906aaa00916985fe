-- Where nothing refuses a net, each component of each of its copies is what it has to be.
use Rattle.std.proofs.Common.{◌≡◌, ℕ, ◌<◌, ◌≤◌, inl, inr, Bool, true, false, Option, None, Some, List, [], ◌∷◌, length, get_or, refl, sym, ◌∙◌, ap, subst, arith, slice_get, option_and_then, IsTrue}
use Rattle.std.specs.List.{All}
use Rattle.std.proofs.lemmas.Bool.{cases_eq, cases_lt}
use Rattle.std.proofs.lemmas.List.{ext_get_or}
use Rattle.std.proofs.lemmas.Option.{get_or_from_slice_get, slice_get_within}
use Rattle.bz_model.specs.declared.channel.Chan.{Chan}
use Rattle.bz_model.specs.declared.channel.ChanKind.{ChanKind}
use Rattle.bz_model.specs.declared.channel.ChanKind.TheVariants.{Sync, Push, Pull}
use Rattle.bz_model.specs.Rows.{max_members}
use Rattle.bz_breeze_records.specs.declared.part.Part.{Part}
use Rattle.bz_breeze_records.specs.declared.part.Component.{Component}
use Rattle.bz_flat.specs.declared.error.ElabError.{ElabError}
use Rattle.bz_flat.specs.declared.error.ElabError.TheVariants.{TooDeep, UnknownComponent, BadParameter, PortCount, BadChannel, KindMismatch, WidthMismatch}
use Rattle.bz_elab.specs.declared.error.Fault.{Fault}
use Rattle.bz_elab.specs.declared.error.Fault.TheVariants as fault
use Rattle.bz_elab.specs.Paths.{Path, Role, instance, of_kind, misfit, unknown, component, copied, most_instances, named, role}
use Rattle.bz_elab.specs.Refusals.{Applies, At, HasFault, HasPortChannels, IsChannel}
use Rattle.bz_elab.specs.Growth.{IsSound, IsSoundBelow}
use Rattle.bz_elab.specs.Numbers.{number_named}
use Rattle.bz_elab.proofs.Meeting.{inner_comp, outer_copy}
use Rattle.bz_elab.proofs.Numbering.{named_number}

-- ---- what can't fail to hold does hold

abbrev Stable : Type 0 → Type 0
Stable A = ((A → ⊥) → ⊥) → A

stable-eq : (m n : ℕ) → Stable (m ≡ n)
stable-eq m n not-not = elim (cases_eq m n) [ inl is ↦ is | inr ne ↦ absurd (not-not ne) ]

stable-le : (m n : ℕ) → Stable (m ≤ n)
stable-le m n not-not = elim (cases_lt n m) [ inl lt ↦ absurd (not-not (λ le. omega (arith, lt, le))) | inr le ↦ le ]

stable-true : (b : Bool) → Stable (IsTrue b)
stable-true true not-not = cc
stable-true false not-not = absurd (not-not (λ yes. cc))

stable-all : {X : Type 0} (P : X → Type 0) (xs : List X) → ((x : X) → Stable (P x)) → Stable (All P xs)
stable-all P xs each not-not = λ i d lt. each (get_or xs i d) (λ fails. not-not (λ all. fails (all i d lt)))

stable-channel : (chans : List Chan) (k : ℕ) → Stable (IsChannel chans k)
stable-channel chans k not-not = (stable-le 1 k (λ fails. not-not (λ is. fails is.0)), stable-le k (length chans) (λ fails. not-not (λ is. fails is.1)))

stable-kind : (a b : ChanKind) → Stable (a ≡ b)
stable-kind Sync Sync not-not = refl
stable-kind Sync Push not-not = absurd (not-not (λ e. cc))
stable-kind Sync Pull not-not = absurd (not-not (λ e. cc))
stable-kind Push Sync not-not = absurd (not-not (λ e. cc))
stable-kind Push Push not-not = refl
stable-kind Push Pull not-not = absurd (not-not (λ e. cc))
stable-kind Pull Sync not-not = absurd (not-not (λ e. cc))
stable-kind Pull Push not-not = absurd (not-not (λ e. cc))
stable-kind Pull Pull not-not = refl

stable-list : {X : Type 0} (d : X) (xs ys : List X) → ((x y : X) → Stable (x ≡ y)) → Stable (xs ≡ ys)
stable-list d xs ys each not-not =
    ext_get_or d xs ys (stable-eq (length xs) (length ys) (λ ne. not-not (λ e. ne (ap length e))))
    (λ i lt. each (get_or xs i d) (get_or ys i d) (λ ne. not-not (λ e. ne (ap (λ zs. get_or zs i d) e))))

module _ (chans : List Chan) (c : Component) where
  sound-role : (r : Role) → ((f : Fault) → HasFault chans c r f → ⊥) → IsSound chans c r
  sound-role unknown none = none fault.UnknownComponent tt
  sound-role misfit none = none fault.BadParameter tt
  sound-role (instance part) none = record {
    count = stable-eq _ _ (none fault.PortCount);
    within = stable-all (IsChannel chans) _ (stable-channel chans) (none fault.BadChannel);
    kinds = stable-list Sync _ _ stable-kind (none fault.KindMismatch);
    widths = stable-list 0 _ _ stable-eq (none fault.WidthMismatch);
  }
  sound-role (of_kind kind) none = record {
    fits = record {
      singles_are = stable-eq _ _ (λ fails. none fault.PortCount (λ fits. fails fits.singles_are));
      lists_are = stable-eq _ _ (λ fails. none fault.PortCount (λ fits. fails fits.lists_are));
      members = stable-all _ _ (λ l. stable-le (length l) max_members) (λ fails. none fault.PortCount (λ fits. fails fits.members));
      sizes = stable-true _ (λ fails. none fault.PortCount (λ fits. fails fits.sizes));
    };
    within = stable-all (IsChannel chans) _ (stable-channel chans) (none fault.BadChannel);
    kinds = stable-list Sync _ _ stable-kind (none fault.KindMismatch);
    widths = stable-true _ (none fault.WidthMismatch);
  }

-- ---- each part that is reached stands in the list

numbered-by : (parts : List Part) (o : Option ℕ) (p : Part) → option_and_then (slice_get parts) o ≡ Some p → (n : ℕ) × (slice_get parts n ≡ Some p)
numbered-by parts None p e = absurd (cc)
numbered-by parts (Some n) p e = (n, e)

pub named-at : (parts : List Part) (name : List ℕ) (p : Part) → named parts name ≡ Some p → (n : ℕ) × (slice_get parts n ≡ Some p)
named-at parts name p e = numbered-by parts (number_named parts name) p (sym (named_number parts name) ∙ e)

module _ (parts : List Part) (name : List ℕ) (top : Part) (is : named parts name ≡ Some top) where
  pub reached-at : (path : Path) (p : Part) → copied parts top path ≡ Some p → (n : ℕ) × (slice_get parts n ≡ Some p)
  reached-at [] p e = named-at parts name p (is ∙ e)
  reached-at (i ∷ up) p e =
      let (q, outer, inside) = outer_copy parts top i up p e in
      let (x, has, some) = inner_comp parts q i p inside in
      named-at parts x.name.items p some

  pub has-ports : All HasPortChannels parts → (path : Path) (p : Part) → copied parts top path ≡ Some p → HasPortChannels p
  has-ports all path p e =
      let (n, at) = reached-at path p e in
      subst HasPortChannels (get_or_from_slice_get parts n p p at) (all n p (slice_get_within parts n p at))

  module _ (accepted : (e : ElabError) → Applies parts name e → ⊥) where
    no-memory : (chans : List Chan) (c : Component) (r : Role) → HasFault chans c r fault.Memory → ⊥
    no-memory chans c unknown g = g
    no-memory chans c misfit g = g
    no-memory chans c (instance q) g = g
    no-memory chans c (of_kind k) g = g

    no-fault-at : (n i : ℕ) (at : At parts top n i) (f : Fault) → HasFault at.part.channels.items at.comp (role parts at.comp) f → ⊥
    no-fault-at n i at fault.UnknownComponent g = accepted (UnknownComponent n i) (top, is, (at, g))
    no-fault-at n i at fault.BadParameter g = accepted (BadParameter n i) (top, is, (at, g))
    no-fault-at n i at fault.PortCount g = accepted (PortCount n i) (top, is, (at, g))
    no-fault-at n i at fault.BadChannel g = accepted (BadChannel n i) (top, is, (at, g))
    no-fault-at n i at fault.KindMismatch g = accepted (KindMismatch n i) (top, is, (at, g))
    no-fault-at n i at fault.WidthMismatch g = accepted (WidthMismatch n i) (top, is, (at, g))
    no-fault-at n i at fault.Memory g = no-memory at.part.channels.items at.comp (role parts at.comp) g

    no-fault : (path : Path) (p : Part) (i : ℕ) (c : Component) → copied parts top path ≡ Some p → component p i ≡ Some c → (f : Fault) → HasFault p.channels.items c (role parts c) f → ⊥
    no-fault path p i c e has f fails =
        let (n, number) = reached-at path p e in
        no-fault-at n i (record { path = path; part = p; comp = c; reached = e; number = number; here = has }) f fails

    pub sound-below : IsSoundBelow parts top most_instances
    sound-below = record {
      short = λ path p e. stable-le (length path) most_instances (λ fails. accepted TooDeep (top, is, record { path = path; part = p; reached = e; long = beyond (length path) fails }));
      sound = λ path p e i c has. sound-role p.channels.items c (role parts c) (no-fault path p i c e has);
    }
      where
        beyond : (n : ℕ) → (n ≤ most_instances → ⊥) → most_instances < n
        beyond n fails = elim (cases_lt most_instances n) [ inl lt ↦ lt | inr le ↦ absurd (fails le) ]

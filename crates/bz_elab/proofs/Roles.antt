-- What a component is, and the faults that it can have.
use Rattle.std.proofs.Common.{◌≡◌, ◌⊎◌, inl, inr, Ok, Err, List, refl, sym, ap, subst, true, false, Bool}
use Rattle.bz_model.specs.declared.channel.Chan.{Chan}
use Rattle.bz_model.specs.declared.kind.Kind.{Kind}
use Rattle.bz_breeze_records.specs.declared.part.Component.{Component}
use Rattle.bz_model.specs.declared.error.KindError.{KindError}
use Rattle.bz_model.specs.declared.error.KindError.TheVariants as kind
use Rattle.bz_kind_rows.specs.Naming.{kind_with}
use Rattle.bz_elab.specs.declared.error.Fault.{Fault}
use Rattle.bz_elab.specs.declared.error.Fault.TheVariants as fault
use Rattle.bz_elab.specs.Faults.{fault_of}
use Rattle.bz_elab.specs.Paths.{Role, instance, of_kind, misfit, unknown, kind_role, leaf_role}
use Rattle.bz_elab.specs.Refusals.{HasFault}
use Rattle.bz_elab.specs.Growth.{IsSound}

pub not_both : (b : Bool) → b ≡ true → b ≡ false → ⊥
not_both b e f = cc

pub role_kind : (c : Component) (k : Kind) → kind_with c.name.items c.params.items ≡ Ok k → leaf_role c ≡ of_kind k
unfolding leaf_role
role_kind c k e = ap kind_role e

pub role_fault : (chans : List Chan) (c : Component) (e : KindError) → kind_with c.name.items c.params.items ≡ Err e
    → (fault_of e ≡ fault.Memory) ⊎ HasFault chans c (leaf_role c) (fault_of e)
unfolding leaf_role
role_fault chans c kind.UnknownComponent e = inr (let r : leaf_role c ≡ unknown = ap kind_role e in subst (λ (r : Role). HasFault chans c r fault.UnknownComponent) (sym r) tt)
role_fault chans c kind.BadParameter e = inr (let r : leaf_role c ≡ misfit = ap kind_role e in subst (λ (r : Role). HasFault chans c r fault.BadParameter) (sym r) tt)
role_fault chans c kind.Memory e = inl refl

pub role_fault_or : (chans : List Chan) (c : Component) (e : KindError) → (e ≡ kind.Memory) ⊎ (kind_with c.name.items c.params.items ≡ Err e)
    → (fault_of e ≡ fault.Memory) ⊎ HasFault chans c (leaf_role c) (fault_of e)
role_fault_or chans c e (inl m) = inl (ap fault_of m)
role_fault_or chans c e (inr is) = role_fault chans c e is

pub leaf_fault : (chans : List Chan) (c : Component) (k : Kind) (f : Fault) → leaf_role c ≡ of_kind k → HasFault chans c (of_kind k) f
    → (f ≡ fault.Memory) ⊎ HasFault chans c (leaf_role c) f
leaf_fault chans c k f e h = inr (subst (λ (r : Role). HasFault chans c r f) (sym e) h)

-- a sound component has no fault
pub sound_has_none : (chans : List Chan) (c : Component) (r : Role) (f : Fault) → IsSound chans c r → HasFault chans c r f → ⊥
sound_has_none chans c (of_kind k) fault.PortCount s h = h s.fits
sound_has_none chans c (of_kind k) fault.BadChannel s h = h s.within
sound_has_none chans c (of_kind k) fault.KindMismatch s h = h s.kinds
sound_has_none chans c (of_kind k) fault.WidthMismatch s h = h s.widths
sound_has_none chans c (instance p) fault.PortCount s h = h s.count
sound_has_none chans c (instance p) fault.BadChannel s h = h s.within
sound_has_none chans c (instance p) fault.KindMismatch s h = h s.kinds
sound_has_none chans c (instance p) fault.WidthMismatch s h = h s.widths
sound_has_none chans c misfit f s h = s
sound_has_none chans c unknown f s h = s
sound_has_none chans c r f s h = h

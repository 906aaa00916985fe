-- Of the faults of a component, the first one.
use Rattle.std.proofs.Common.{◌≡◌, ◌⊎◌, inl, inr, List, map, refl, sym, subst, arith, Err, ap}
use Rattle.std.specs.List.{All}
use Rattle.bz_model.specs.declared.channel.Chan.{Chan}
use Rattle.bz_model.specs.declared.kind.Kind.{Kind}
use Rattle.bz_model.specs.Rows.{row_of, ports_of}
use Rattle.bz_breeze_records.specs.declared.part.Component.{Component}
use Rattle.bz_model.specs.declared.error.KindError.{KindError}
use Rattle.bz_model.specs.declared.error.KindError.TheVariants as kind
use Rattle.bz_kind_rows.specs.Naming.{kind_with}
use Rattle.bz_elab.specs.declared.error.Fault.{Fault}
use Rattle.bz_elab.specs.declared.error.Fault.TheVariants as fault
use Rattle.bz_elab.specs.Entries.{flattened, sizes_of, FitsPorts}
use Rattle.bz_elab.specs.Faults.{fault_of}
use Rattle.bz_elab.specs.Paths.{Role, of_kind, misfit, unknown, kind_role, leaf_role}
use Rattle.bz_elab.specs.Refusals.{IsChannel, kinds_of, chans_of}
use Rattle.bz_elab.specs.Order.{NoneBefore}

pub memory_first : (chans : List Chan) (c : Component) (r : Role) (f : Fault) → f ≡ fault.Memory → NoneBefore chans c r f
memory_first chans c r f e g h = rw e (omega arith)

none_unknown : (chans : List Chan) (c : Component) → NoneBefore chans c unknown fault.UnknownComponent
none_unknown chans c fault.UnknownComponent h = omega arith
none_unknown chans c g h = absurd h

none_misfit : (chans : List Chan) (c : Component) → NoneBefore chans c misfit fault.BadParameter
none_misfit chans c fault.BadParameter h = omega arith
none_misfit chans c g h = absurd h

pub role_first : (chans : List Chan) (c : Component) (e : KindError) → kind_with c.name.items c.params.items ≡ Err e → NoneBefore chans c (leaf_role c) (fault_of e)
unfolding leaf_role
role_first chans c kind.UnknownComponent e = let r : leaf_role c ≡ unknown = ap kind_role e in subst (λ (r : Role). NoneBefore chans c r fault.UnknownComponent) (sym r) (none_unknown chans c)
role_first chans c kind.BadParameter e = let r : leaf_role c ≡ misfit = ap kind_role e in subst (λ (r : Role). NoneBefore chans c r fault.BadParameter) (sym r) (none_misfit chans c)
role_first chans c kind.Memory e = memory_first chans c (leaf_role c) fault.Memory refl

pub role_first_or : (chans : List Chan) (c : Component) (e : KindError) → (e ≡ kind.Memory) ⊎ (kind_with c.name.items c.params.items ≡ Err e) → NoneBefore chans c (leaf_role c) (fault_of e)
role_first_or chans c e (inl m) = memory_first chans c (leaf_role c) (fault_of e) (ap fault_of m)
role_first_or chans c e (inr is) = role_first chans c e is

pub count_first : (chans : List Chan) (c : Component) (k : Kind) → NoneBefore chans c (of_kind k) fault.PortCount
count_first chans c k fault.UnknownComponent h = absurd h
count_first chans c k fault.BadParameter h = absurd h
count_first chans c k fault.Memory h = absurd h
count_first chans c k g h = omega arith

pub channel_first : (chans : List Chan) (c : Component) (k : Kind) → FitsPorts k c.entries.items → NoneBefore chans c (of_kind k) fault.BadChannel
channel_first chans c k fits fault.UnknownComponent h = absurd h
channel_first chans c k fits fault.BadParameter h = absurd h
channel_first chans c k fits fault.PortCount h = absurd (h fits)
channel_first chans c k fits fault.Memory h = absurd h
channel_first chans c k fits g h = omega arith

pub kinds_first : (chans : List Chan) (c : Component) (k : Kind) → FitsPorts k c.entries.items → All (IsChannel chans) (flattened c.entries.items) → NoneBefore chans c (of_kind k) fault.KindMismatch
kinds_first chans c k fits within fault.UnknownComponent h = absurd h
kinds_first chans c k fits within fault.BadParameter h = absurd h
kinds_first chans c k fits within fault.PortCount h = absurd (h fits)
kinds_first chans c k fits within fault.BadChannel h = absurd (h within)
kinds_first chans c k fits within fault.Memory h = absurd h
kinds_first chans c k fits within g h = omega arith

pub widths_first : (chans : List Chan) (c : Component) (k : Kind) → FitsPorts k c.entries.items → All (IsChannel chans) (flattened c.entries.items)
    → kinds_of (chans_of chans k c.entries.items) ≡ map (λ r. r.kind) (ports_of (row_of k) (sizes_of c.entries.items)) → NoneBefore chans c (of_kind k) fault.WidthMismatch
widths_first chans c k fits within kinds fault.UnknownComponent h = absurd h
widths_first chans c k fits within kinds fault.BadParameter h = absurd h
widths_first chans c k fits within kinds fault.PortCount h = absurd (h fits)
widths_first chans c k fits within kinds fault.BadChannel h = absurd (h within)
widths_first chans c k fits within kinds fault.KindMismatch h = absurd (h kinds)
widths_first chans c k fits within kinds fault.Memory h = absurd h
widths_first chans c k fits within kinds fault.WidthMismatch h = omega arith

pub by_kind : (chans : List Chan) (c : Component) (k : Kind) (f : Fault) → leaf_role c ≡ of_kind k → NoneBefore chans c (of_kind k) f → NoneBefore chans c (leaf_role c) f
by_kind chans c k f e h = subst (λ (r : Role). NoneBefore chans c r f) (sym e) h

use Rattle.std.proofs.lemmas.Result.{err_from_is_err_and}
use Rattle.bz_elab.specs.declared.error.Fault.TheVariants as fault
use Rattle.bz_elab.specs.Refusals.{IsChannel}
use Rattle.bz_elab.proofs.Slots.{all_arranged, tells_named}
use Rattle.bz_elab.proofs.Roles.{role_kind, role_fault_or, leaf_fault, not_both}
use Rattle.bz_elab.proofs.Firsts.{role_first_or, by_kind, count_first, channel_first, kinds_first, widths_first}
use Rattle.bz_elab.proofs.component.leaf_of.Goals as goal

pub returns-in_err-kind-clause-err : goal.returns-in_err-kind-clause-err
returns-in_err-kind-clause-err c =
    let p = err_from_is_err_and c.from_residual.result c.from_residual.ensures.1 in
    let why = rw (c.as_slice.ensures.value, c.as_slice-2.ensures.value) at c.in_err-kind.ensures.err in
    rw (p.1, p.2) (role_fault_or c.args.channels.now c.args.component.now c.in_err-kind.field-0.0 why)

pub returns-in_default-clause-err : goal.returns-in_default-clause-err
returns-in_default-clause-err c =
    let role = role_kind c.args.component.now c.in_ok-kind.kind (rw (c.as_slice.ensures.value, c.as_slice-2.ensures.value) at c.in_ok-kind.ensures.ok) in
    let none = rw c.as_slice-entries.ensures.value at c.in_default.ensures.none in
    leaf_fault c.args.channels.now c.args.component.now _ fault.PortCount role (λ fits. let e = none fits in cc)

pub returns-then-not-name_channels-clause-err : goal.returns-then-not-name_channels-clause-err
returns-then-not-name_channels-clause-err c =
    let role = role_kind c.args.component.now c.in_ok-kind.kind (rw (c.as_slice.ensures.value, c.as_slice-2.ensures.value) at c.in_ok-kind.ensures.ok) in
    let tells = tells_named (IsChannel c.args.channels.now) _ _ (rw c.as_slice-entries.ensures.value at c.name_channels.ensures) in
    leaf_fault c.args.channels.now c.args.component.now _ fault.BadChannel role (λ within. not_both _ (tells.1 within) c.if-not-name_channels.true)

pub gather-requires : goal.gather-requires
gather-requires c =
    let entries = c.args.component.now.entries.items in
    let tells = tells_named (IsChannel c.args.channels.now) _ _ (rw c.as_slice-entries.ensures.value at c.name_channels.ensures) in
    let chans = rw c.as_slice-entries.ensures.value at c.in_ok-chans.ensures in
    rw (c.as_slice-3.ensures.value, chans) (all_arranged (IsChannel c.args.channels.now) c.in_ok-kind.kind c.args.channels.now entries (tells.0 c.if-not-name_channels.false))

pub returns-then-not-kinds_are-clause-err : goal.returns-then-not-kinds_are-clause-err
returns-then-not-kinds_are-clause-err c =
    let role = role_kind c.args.component.now c.in_ok-kind.kind (rw (c.as_slice.ensures.value, c.as_slice-2.ensures.value) at c.in_ok-kind.ensures.ok) in
    let chans = rw c.as_slice-entries.ensures.value at c.in_ok-chans.ensures in
    let carried = rw (c.as_slice-3.ensures.value, chans) at c.in_ok-gather.ensures in
    let sizes = (rw c.as_slice-entries.ensures.value at c.in-Some.ensures.fits).1 in
    let tells = rw (c.as_slice-4.ensures.value, carried, sizes) at c.kinds_are.ensures in
    leaf_fault c.args.channels.now c.args.component.now _ fault.KindMismatch role (λ kinds. not_both _ (tells.1 kinds) c.if-not-kinds_are.true)

pub returns-then-not-widths_fit-clause-err : goal.returns-then-not-widths_fit-clause-err
returns-then-not-widths_fit-clause-err c =
    let role = role_kind c.args.component.now c.in_ok-kind.kind (rw (c.as_slice.ensures.value, c.as_slice-2.ensures.value) at c.in_ok-kind.ensures.ok) in
    let chans = rw c.as_slice-entries.ensures.value at c.in_ok-chans.ensures in
    let carried = rw (c.as_slice-3.ensures.value, chans) at c.in_ok-gather.ensures in
    let sizes = (rw c.as_slice-entries.ensures.value at c.in-Some.ensures.fits).1 in
    let tells = rw (c.as_slice-5.ensures.value, carried, sizes) at c.widths_fit.ensures in
    leaf_fault c.args.channels.now c.args.component.now _ fault.WidthMismatch role (λ widths. not_both _ (tells.1 widths) c.if-not-widths_fit.true)

pub returns-clause-ok : goal.returns-clause-ok
returns-clause-ok c =
    let role = role_kind c.args.component.now c.in_ok-kind.kind (rw (c.as_slice.ensures.value, c.as_slice-2.ensures.value) at c.in_ok-kind.ensures.ok) in
    let fits = rw c.as_slice-entries.ensures.value at c.in-Some.ensures.fits in
    let within = tells_named (IsChannel c.args.channels.now) _ _ (rw c.as_slice-entries.ensures.value at c.name_channels.ensures) in
    let chans = rw c.as_slice-entries.ensures.value at c.in_ok-chans.ensures in
    let carried = rw (c.as_slice-3.ensures.value, chans) at c.in_ok-gather.ensures in
    let sizes = (rw c.as_slice-entries.ensures.value at c.in-Some.ensures.fits).1 in
    let kinds = rw (c.as_slice-4.ensures.value, carried, sizes) at c.kinds_are.ensures in
    let widths = rw (c.as_slice-5.ensures.value, carried, sizes) at c.widths_fit.ensures in
    record {
      role_is = role;
      sizes_are = sizes;
      chans_are = chans;
      sound = record {
        fits = fits.0;
        within = within.0 c.if-not-name_channels.false;
        kinds = kinds.0 c.if-not-kinds_are.false;
        widths = widths.0 c.if-not-widths_fit.false;
      };
    }

-- the fault is the first one

pub returns-in_err-kind-clause-first : goal.returns-in_err-kind-clause-first
returns-in_err-kind-clause-first c =
    let p = err_from_is_err_and c.from_residual.result c.from_residual.ensures.1 in
    let why = rw (c.as_slice.ensures.value, c.as_slice-2.ensures.value) at c.in_err-kind.ensures.err in
    rw (p.1, p.2) (role_first_or c.args.channels.now c.args.component.now c.in_err-kind.field-0.0 why)

pub returns-in_default-clause-first : goal.returns-in_default-clause-first
returns-in_default-clause-first c =
    let role = role_kind c.args.component.now c.in_ok-kind.kind (rw (c.as_slice.ensures.value, c.as_slice-2.ensures.value) at c.in_ok-kind.ensures.ok) in
    by_kind c.args.channels.now c.args.component.now _ fault.PortCount role (count_first c.args.channels.now c.args.component.now _)

pub returns-then-not-name_channels-clause-first : goal.returns-then-not-name_channels-clause-first
returns-then-not-name_channels-clause-first c =
    let role = role_kind c.args.component.now c.in_ok-kind.kind (rw (c.as_slice.ensures.value, c.as_slice-2.ensures.value) at c.in_ok-kind.ensures.ok) in
    let fits = rw c.as_slice-entries.ensures.value at c.in-Some.ensures.fits in
    by_kind c.args.channels.now c.args.component.now _ fault.BadChannel role (channel_first c.args.channels.now c.args.component.now _ fits.0)

pub returns-then-not-kinds_are-clause-first : goal.returns-then-not-kinds_are-clause-first
returns-then-not-kinds_are-clause-first c =
    let role = role_kind c.args.component.now c.in_ok-kind.kind (rw (c.as_slice.ensures.value, c.as_slice-2.ensures.value) at c.in_ok-kind.ensures.ok) in
    let fits = rw c.as_slice-entries.ensures.value at c.in-Some.ensures.fits in
    let within = tells_named (IsChannel c.args.channels.now) _ _ (rw c.as_slice-entries.ensures.value at c.name_channels.ensures) in
    by_kind c.args.channels.now c.args.component.now _ fault.KindMismatch role
    (kinds_first c.args.channels.now c.args.component.now _ fits.0 (within.0 c.if-not-name_channels.false))

pub returns-then-not-widths_fit-clause-first : goal.returns-then-not-widths_fit-clause-first
returns-then-not-widths_fit-clause-first c =
    let role = role_kind c.args.component.now c.in_ok-kind.kind (rw (c.as_slice.ensures.value, c.as_slice-2.ensures.value) at c.in_ok-kind.ensures.ok) in
    let fits = rw c.as_slice-entries.ensures.value at c.in-Some.ensures.fits in
    let within = tells_named (IsChannel c.args.channels.now) _ _ (rw c.as_slice-entries.ensures.value at c.name_channels.ensures) in
    let chans = rw c.as_slice-entries.ensures.value at c.in_ok-chans.ensures in
    let carried = rw (c.as_slice-3.ensures.value, chans) at c.in_ok-gather.ensures in
    let sizes = (rw c.as_slice-entries.ensures.value at c.in-Some.ensures.fits).1 in
    let kinds = rw (c.as_slice-4.ensures.value, carried, sizes) at c.kinds_are.ensures in
    by_kind c.args.channels.now c.args.component.now _ fault.WidthMismatch role
    (widths_first c.args.channels.now c.args.component.now _ fits.0 (within.0 c.if-not-name_channels.false) (kinds.0 c.if-not-kinds_are.false))

use Rattle.std.proofs.Common.{arith, ap, inr, ◌≡◌, sym, ◌∙◌, length, subst, List}
use Rattle.std.proofs.lemmas.Result.{err_from_is_err_and}
use Rattle.std.specs.List.{All}
use Rattle.bz_breeze_records.specs.declared.part.Part.{Part}
use Rattle.bz_breeze_records.specs.Parts.{IsFit}
use Rattle.bz_model.specs.Nets.{Wiring}
use Rattle.bz_elab.specs.Refusals.{HasPortChannels}
use Rattle.bz_flat.specs.Wires.{WellWired, EndsOf}
use Rattle.bz_elab.proofs.Numbering.{named_first}
use Rattle.bz_elab.proofs.Checking.{refuses_no_part, refuses_named, wire_refuses, walk_refuses}
use Rattle.bz_elab.proofs.Refusing.{none_applies}
use Rattle.bz_elab.proofs.Soundness.{part_read}
use Rattle.bz_elab.proofs.Wiring.{net_is, comps_fit, well_wired, ends_of, ports_within, same_ports, not_too_deep}
use Rattle.bz_elab.proofs.elaboration.elaborate.Goals as goal

pub returns-in_default-clause-err : goal.returns-in_default-clause-err
returns-in_default-clause-err c = inr (refuses_no_part c.args.parts.now c.args.top.now (sym c.in_default.ensures.part))

pub check-requires-clause-whole : goal.check-requires-clause-whole
check-requires-clause-whole c = subst (λ (ps : List Part). All HasPortChannels ps) c.list.ensures.value c.list.ensures.fits

pub net_of-requires-clause-whole : goal.net_of-requires-clause-whole
net_of-requires-clause-whole c = subst (λ (ps : List Part). All HasPortChannels ps) c.list.ensures.value c.list.ensures.fits

pub check-requires-clause-part_is : goal.check-requires-clause-part_is
check-requires-clause-part_is c =
    part_read c.args.parts.now _ c.in-Some.number c.index-list-number.result c.list.ensures.value c.in-Some.ensures.within c.index-list-number.is

pub check-requires-clause-first : goal.check-requires-clause-first
check-requires-clause-first c k e =
    let read = part_read c.args.parts.now _ c.in-Some.number c.index-list-number.result c.list.ensures.value c.in-Some.ensures.within c.index-list-number.is in
    named_first c.args.parts.now c.args.top.now c.in-Some.number k c.index-list-number.result (sym c.in-Some.ensures.number) read e

pub returns-in_err-read-clause-err : goal.returns-in_err-read-clause-err
returns-in_err-read-clause-err c =
    let part = c.index-list-number.result in
    let read = part_read c.args.parts.now _ c.in-Some.number part c.list.ensures.value c.in-Some.ensures.within c.index-list-number.is in
    let p = err_from_is_err_and c.from_residual.result c.from_residual.ensures.1 in
    rw (p.1, p.2) (refuses_named c.args.parts.now c.args.top.now part _ (sym c.in-Some.ensures.part ∙ read) c.in_err-read.ensures.err)

pub net_of-requires-clause-part_is : goal.net_of-requires-clause-part_is
net_of-requires-clause-part_is c =
    part_read c.args.parts.now _ c.in-Some.number c.index-list-number.result c.list.ensures.value c.in-Some.ensures.within c.index-list-number.is

pub returns-in_err-draft-clause-err : goal.returns-in_err-draft-clause-err
returns-in_err-draft-clause-err c =
    let part = c.index-list-number.result in
    let read = part_read c.args.parts.now _ c.in-Some.number part c.list.ensures.value c.in-Some.ensures.within c.index-list-number.is in
    let p = err_from_is_err_and c.from_residual-in_err-draft.result c.from_residual-in_err-draft.ensures.1 in
    rw (p.1, p.2) (refuses_named c.args.parts.now c.args.top.now part _ (sym c.in-Some.ensures.part ∙ read)
    (walk_refuses c.args.parts.now part _ c.in_ok-read.ensures.ok c.in_err-draft.ensures.early c.in_err-draft.ensures.err))

pub wire-requires-clause-fit : goal.wire-requires-clause-fit
wire-requires-clause-fit c =
    let draft = c.in_ok-draft.draft in
    let n : c.len.result ≡ length draft.chans = omega arith in
    rw n (comps_fit c.args.parts.now c.index-list-number.result draft c.in_ok-draft.ensures.ok c.in_ok-read.ensures.sound c.in_ok-draft.ensures.within)

pub wire-requires-clause-ports_to : goal.wire-requires-clause-ports_to
wire-requires-clause-ports_to c =
    let part = c.index-list-number.result in
    let draft = c.in_ok-draft.draft in
    let whole = subst (λ (p : Part). HasPortChannels p) (sym c.index-list-number.is) (c.list.ensures.fits c.in-Some.number part (let w = c.in-Some.ensures.within in omega (arith, w, ap length c.list.ensures.value))) in
    let n : c.len.result ≡ length draft.chans = omega arith in
    rw (n, c.as_slice.ensures.value) (ports_within c.args.parts.now part draft c.in_ok-draft.ensures.ok whole)

pub returns-in_err-ends-clause-err : goal.returns-in_err-ends-clause-err
returns-in_err-ends-clause-err c =
    let part = c.index-list-number.result in
    let draft = c.in_ok-draft.draft in
    let read = part_read c.args.parts.now _ c.in-Some.number part c.list.ensures.value c.in-Some.ensures.within c.index-list-number.is in
    let p = err_from_is_err_and c.from_residual-in_err-ends.result c.from_residual-in_err-ends.ensures.1 in
    let why = rw c.as_slice.ensures.value at c.in_err-ends.ensures.err in
    rw (p.1, p.2) (refuses_named c.args.parts.now c.args.top.now part _ (sym c.in-Some.ensures.part ∙ read)
    (wire_refuses c.args.parts.now part draft _ c.in_ok-draft.ensures.ok c.in_ok-read.ensures.ok why))

pub of-requires-clause-wired : goal.of-requires-clause-wired
of-requires-clause-wired c =
    let part = c.index-list-number.result in
    let draft = c.in_ok-draft.draft in
    let whole = subst (λ (p : Part). HasPortChannels p) (sym c.index-list-number.is) (c.list.ensures.fits c.in-Some.number part (let w = c.in-Some.ensures.within in omega (arith, w, ap length c.list.ensures.value))) in
    let fit = subst (λ (p : Part). IsFit p) (sym c.index-list-number.is) (c.list.ensures.fit c.in-Some.number part (let w = c.in-Some.ensures.within in omega (arith, w, ap length c.list.ensures.value))) in
    let ended = rw c.as_slice.ensures.value at c.in_ok-ends.ensures.ok.1 in
    let ports = rw c.as_slice-2.ensures.value at c.in_ok-ports.ensures in
    subst (λ (w : Wiring). WellWired w) (sym (same_ports draft.chans draft.comps c.in_ok-ports.ports.items part.ports.items ports))
    (well_wired c.args.parts.now part draft c.in_ok-ends.ends.items c.in_ok-draft.ensures.ok c.in_ok-read.ensures.sound c.in_ok-draft.ensures.within whole fit ended)

pub of-requires-clause-ends_of : goal.of-requires-clause-ends_of
of-requires-clause-ends_of c =
    let part = c.index-list-number.result in
    let draft = c.in_ok-draft.draft in
    let ended = rw c.as_slice.ensures.value at c.in_ok-ends.ensures.ok.1 in
    let ports = rw c.as_slice-2.ensures.value at c.in_ok-ports.ensures in
    let n : length c.in_ok-ends.ends.items ≡ length draft.chans = omega (arith, c.in_ok-ends.ensures.ok.0) in
    subst (λ (w : Wiring). EndsOf w c.in_ok-ends.ends.items) (sym (same_ports draft.chans draft.comps c.in_ok-ports.ports.items part.ports.items ports))
    (ends_of draft.chans draft.comps part.ports.items c.in_ok-ends.ends.items n ended)

pub returns-clause-ok : goal.returns-clause-ok
returns-clause-ok c =
    let part = c.index-list-number.result in
    let draft = c.in_ok-draft.draft in
    let read = part_read c.args.parts.now _ c.in-Some.number part c.list.ensures.value c.in-Some.ensures.within c.index-list-number.is in
    let ports = rw c.as_slice-2.ensures.value at c.in_ok-ports.ensures in
    record {
      top = part;
      is_named = sym c.in-Some.ensures.part ∙ read;
      wiring_is = c.of.ensures.wiring ∙ (same_ports draft.chans draft.comps c.in_ok-ports.ports.items part.ports.items ports ∙ net_is c.args.parts.now part draft c.in_ok-draft.ensures.ok);
      within = not_too_deep c.args.parts.now part c.in_ok-read.ensures.sound;
    }

pub returns-clause-fit : goal.returns-clause-fit
returns-clause-fit c =
    let part = c.index-list-number.result in
    let draft = c.in_ok-draft.draft in
    let read = part_read c.args.parts.now _ c.in-Some.number part c.list.ensures.value c.in-Some.ensures.within c.index-list-number.is in
    let ended = rw c.as_slice.ensures.value at c.in_ok-ends.ensures.ok.1 in
    none_applies c.args.parts.now c.args.top.now part draft c.in_ok-ends.ends.items (sym c.in-Some.ensures.part ∙ read) c.in_ok-draft.ensures.ok c.in_ok-read.ensures.sound
    c.in_ok-draft.ensures.within ended

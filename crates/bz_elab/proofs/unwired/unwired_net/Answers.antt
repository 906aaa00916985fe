use Rattle.std.proofs.Common.{arith, ap, inl, inr, ◌≡◌, sym, ◌∙◌, length, subst, List}
use Rattle.std.proofs.lemmas.Result.{err_from_is_err_and}
use Rattle.std.specs.List.{All}
use Rattle.bz_breeze_records.specs.declared.part.Part.{Part}
use Rattle.bz_elab.specs.Refusals.{HasPortChannels}
use Rattle.bz_elab.proofs.Numbering.{named_first}
use Rattle.bz_elab.proofs.Checking.{refuses_no_part, refuses_named, walk_refuses}
use Rattle.bz_elab.proofs.Soundness.{part_read}
use Rattle.bz_elab.proofs.Wiring.{comps_fit, ports_within}
use Rattle.bz_elab.proofs.Ending.{all_apply, those_apply}
use Rattle.bz_elab.proofs.unwired.unwired_net.Goals as goal

pub returns-in_default-clause-err : goal.returns-in_default-clause-err
returns-in_default-clause-err c = inr (refuses_no_part c.args.parts.now c.args.top.now (sym c.in_default.ensures.part))

pub check-requires-clause-whole : goal.check-requires-clause-whole
check-requires-clause-whole c = subst (λ (ps : List Part). All HasPortChannels ps) c.list.ensures.value c.list.ensures.fits

pub net_of-requires-clause-whole : goal.net_of-requires-clause-whole
net_of-requires-clause-whole c = subst (λ (ps : List Part). All HasPortChannels ps) c.list.ensures.value c.list.ensures.fits

pub check-requires-clause-part_is : goal.check-requires-clause-part_is
check-requires-clause-part_is c =
    part_read c.args.parts.now _ c.in-Some.number c.index-list-number.result c.list.ensures.value c.in-Some.ensures.within c.index-list-number.is

pub check-requires-clause-first : goal.check-requires-clause-first
check-requires-clause-first c k e =
    let read = part_read c.args.parts.now _ c.in-Some.number c.index-list-number.result c.list.ensures.value c.in-Some.ensures.within c.index-list-number.is in
    named_first c.args.parts.now c.args.top.now c.in-Some.number k c.index-list-number.result (sym c.in-Some.ensures.number) read e

pub returns-in_err-read-clause-err : goal.returns-in_err-read-clause-err
returns-in_err-read-clause-err c =
    let part = c.index-list-number.result in
    let read = part_read c.args.parts.now _ c.in-Some.number part c.list.ensures.value c.in-Some.ensures.within c.index-list-number.is in
    let p = err_from_is_err_and c.from_residual.result c.from_residual.ensures.1 in
    rw (p.1, p.2) (refuses_named c.args.parts.now c.args.top.now part _ (sym c.in-Some.ensures.part ∙ read) c.in_err-read.ensures.err)

pub net_of-requires-clause-part_is : goal.net_of-requires-clause-part_is
net_of-requires-clause-part_is c =
    part_read c.args.parts.now _ c.in-Some.number c.index-list-number.result c.list.ensures.value c.in-Some.ensures.within c.index-list-number.is

pub returns-in_err-draft-clause-err : goal.returns-in_err-draft-clause-err
returns-in_err-draft-clause-err c =
    let part = c.index-list-number.result in
    let read = part_read c.args.parts.now _ c.in-Some.number part c.list.ensures.value c.in-Some.ensures.within c.index-list-number.is in
    let p = err_from_is_err_and c.from_residual-in_err-draft.result c.from_residual-in_err-draft.ensures.1 in
    rw (p.1, p.2) (refuses_named c.args.parts.now c.args.top.now part _ (sym c.in-Some.ensures.part ∙ read)
    (walk_refuses c.args.parts.now part _ c.in_ok-read.ensures.ok c.in_err-draft.ensures.early c.in_err-draft.ensures.err))

pub returns-clause-comps : goal.returns-clause-comps
returns-clause-comps c =
    let part = c.index-list-number.result in
    let read = part_read c.args.parts.now _ c.in-Some.number part c.list.ensures.value c.in-Some.ensures.within c.index-list-number.is in
    record {
      top = part;
      is_named = sym c.in-Some.ensures.part ∙ read;
      leaves = c.in_ok-draft.ensures.ok.leaves;
    }

pub end_faults-requires-clause-fit : goal.end_faults-requires-clause-fit
end_faults-requires-clause-fit c =
    let draft = c.in_ok-draft.draft in
    let n : c.len.result ≡ length draft.chans = omega arith in
    rw n (comps_fit c.args.parts.now c.index-list-number.result draft c.in_ok-draft.ensures.ok c.in_ok-read.ensures.sound c.in_ok-draft.ensures.within)

pub end_faults-requires-clause-ports_to : goal.end_faults-requires-clause-ports_to
end_faults-requires-clause-ports_to c =
    let part = c.index-list-number.result in
    let draft = c.in_ok-draft.draft in
    let whole = subst (λ (p : Part). HasPortChannels p) (sym c.index-list-number.is) (c.list.ensures.fits c.in-Some.number part (let w = c.in-Some.ensures.within in omega (arith, w, ap length c.list.ensures.value))) in
    let n : c.len.result ≡ length draft.chans = omega arith in
    rw (n, c.as_slice.ensures.value) (ports_within c.args.parts.now part draft c.in_ok-draft.ensures.ok whole)

pub returns-in_err-faults-clause-err : goal.returns-in_err-faults-clause-err
returns-in_err-faults-clause-err c =
    let p = err_from_is_err_and c.from_residual-in_err-faults.result c.from_residual-in_err-faults.ensures.1 in
    rw (p.1, p.2) (inl c.in_err-faults.ensures.err)

pub returns-clause-faults : goal.returns-clause-faults
returns-clause-faults c =
    let part = c.index-list-number.result in
    let read = part_read c.args.parts.now _ c.in-Some.number part c.list.ensures.value c.in-Some.ensures.within c.index-list-number.is in
    let all = all_apply c.args.parts.now c.args.top.now part c.in_ok-draft.draft _ (sym c.in-Some.ensures.part ∙ read) c.in_ok-draft.ensures.ok (rw c.as_slice.ensures.value at c.in_ok-faults.ensures.ok) in
    those_apply c.args.parts.now c.args.top.now _ all

pub returns-clause-all : goal.returns-clause-all
returns-clause-all c e of applies =
    let part = c.index-list-number.result in
    let read = part_read c.args.parts.now _ c.in-Some.number part c.list.ensures.value c.in-Some.ensures.within c.index-list-number.is in
    let all = all_apply c.args.parts.now c.args.top.now part c.in_ok-draft.draft _ (sym c.in-Some.ensures.part ∙ read) c.in_ok-draft.ensures.ok (rw c.as_slice.ensures.value at c.in_ok-faults.ensures.ok) in
    all.whole e (of, applies)

pub returns-clause-order : goal.returns-clause-order
returns-clause-order c = c.in_ok-faults.ensures.ok.order

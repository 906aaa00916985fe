use Rattle.std.proofs.Common.{Bool, not, refl, sym, subst, set, get_or, ◌∙◌, ◌+◌, ◌<◌, arith, length}
use Rattle.std.proofs.lemmas.List.{length-set}
use Rattle.std.proofs.lemmas.Option.{slice_get-get_or, slice_get_within}
use Rattle.bz_past.specs.declared.standing.Standing.TheVariants.{Running}
use Rattle.bz_locked.specs.Audiences.{is_left}
use Rattle.bz_locked.proofs.Marked.{MarksFirst, one_more}
use Rattle.bz_locked.proofs.audience.answered_among.Goals as goal

pub loop-place-init : goal.loop-place-init
loop-place-init c = (refl, λ place standing below is. absurd (omega (arith, below)))

pub loop-place-preserved : goal.loop-place-preserved
loop-place-preserved c =
    let left = is_left c.args.net.now.state c.args.chan in
    let marks = c.loop-place.answered in
    let standings = c.args.sessions.now in
    let n = c.loop-place.place in
    let inv = c.loop-place.invariant in
    let at = slice_get-get_or standings n Running c.loop-place-test.true in
    let room : n < length marks = omega (arith, c.loop-place-test.true, c.requires.few, inv.0) in (
      length-set marks n _ ∙ inv.0,
      subst (λ (b : Bool). MarksFirst left standings (set marks n (not b)) (n + 1)) (sym c.is_left.ensures) (one_more left standings marks n (get_or standings n Running) room at inv.1),
    )

pub returns : goal.returns
returns c place standing is =
    let there = slice_get_within c.args.sessions.now place standing is in
    c.loop-place.invariant.1 place standing (omega (arith, there, c.loop-place-test.false)) is

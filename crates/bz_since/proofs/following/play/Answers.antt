use Rattle.std.proofs.Common.{◌≡◌, arith, subst, ℕ}
use Rattle.bz_since.specs.Halving.{LeadsOn}
use Rattle.bz_since.proofs.Playing.{leads_more, leads_start}
use Rattle.bz_since.proofs.following.play.Goals as goal

pub loop-place-init : goal.loop-place-init
loop-place-init c = (c.requires.ordered, leads_start c.args.entries.now c.args.from c.args.net.now)

pub loop-place-preserved : goal.loop-place-preserved
loop-place-preserved c =
    let l = c.loop-place in
    let less = c.loop-place-test.true in
    let within = c.requires.within in
    (omega (arith, less), leads_more c.args.entries.now c.args.from l.place _ c.args.net.now l.net c.follow.new.net (omega (arith, less, within)) l.invariant.1 c.in_ok-follow.ensures)

pub returns : goal.returns
returns c =
    let l = c.loop-place in
    let upto = l.invariant.0 in
    let end = c.loop-place-test.false in
    let met : l.place ≡ c.args.to = omega (arith, upto, end) in
    subst (λ (n : ℕ). LeadsOn c.args.entries.now c.args.from n c.args.net.now l.net) met l.invariant.1

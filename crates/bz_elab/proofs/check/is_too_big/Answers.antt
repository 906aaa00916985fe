use Rattle.std.proofs.Common.{arith, ◌≡◌, length, inl, inr}
use Rattle.bz_elab.proofs.Checking.{too_many_from, too_many_to}
use Rattle.bz_elab.proofs.check.is_too_big.Goals as goal

pub returns-then-total-gt-MOST_COMPONENTS-clause-big : goal.returns-then-total-gt-MOST_COMPONENTS-clause-big
returns-then-total-gt-MOST_COMPONENTS-clause-big c e parts is le =
    let n : c.len.result ≡ length c.args.part.now.channels.items = omega arith in
    too_many_to parts c.args.part.now c.args.total c.capped-chans.result is le (rw n at c.capped-chans.ensures.is) (inl (omega (arith, c.if-total-gt-MOST_COMPONENTS.true)))

pub returns-then-chans-gt-MOST_CHANNELS-clause-big : goal.returns-then-chans-gt-MOST_CHANNELS-clause-big
returns-then-chans-gt-MOST_CHANNELS-clause-big c e parts is le =
    let n : c.len.result ≡ length c.args.part.now.channels.items = omega arith in
    too_many_to parts c.args.part.now c.args.total c.capped-chans.result is le (rw n at c.capped-chans.ensures.is) (inr (inl (omega (arith, c.if-chans-gt-MOST_CHANNELS.true))))

pub returns-then-total-gt-MOST_ENDS-clause-big : goal.returns-then-total-gt-MOST_ENDS-clause-big
returns-then-total-gt-MOST_ENDS-clause-big c e parts is le =
    let n : c.len.result ≡ length c.args.part.now.channels.items = omega arith in
    too_many_to parts c.args.part.now c.args.total c.capped-chans.result is le (rw n at c.capped-chans.ensures.is) (inr (inr (omega (arith, c.if-total-gt-MOST_ENDS.true))))

pub returns-clause-fits : goal.returns-clause-fits
returns-clause-fits c e parts is le many =
    let n : c.len.result ≡ length c.args.part.now.channels.items = omega arith in
    elim (too_many_from parts c.args.part.now c.args.total c.capped-chans.result is le (rw n at c.capped-chans.ensures.is) many) [
      | inl a ↦ omega (arith, a, c.if-total-gt-MOST_COMPONENTS.false)
      | inr (inl b) ↦ omega (arith, b, c.if-chans-gt-MOST_CHANNELS.false)
      | inr (inr d) ↦ omega (arith, d, c.if-total-gt-MOST_ENDS.false)
    ]

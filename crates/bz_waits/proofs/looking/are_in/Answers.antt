use Rattle.bz_waits.proofs.Holding.{active_in, all_in, passive_in}
use Rattle.bz_waits.proofs.looking.are_in.Goals as goal

pub returns-then-is_in : goal.returns-then-is_in
returns-then-is_in c =
    let w = c.args.core.now.wiring in (
      λ yes. all_in w c.args.members.now c.args.chan c.ends.result c.names.ensures.wired c.ends.ensures (c.is_in.ensures.0 (cc)) (c.is_in-then-is_in.ensures.0 yes),
      λ all. c.is_in-then-is_in.ensures.1 (passive_in w c.args.members.now c.args.chan c.ends.result c.ends.ensures all),
    )

pub returns-else-is_in : goal.returns-else-is_in
returns-else-is_in c =
    let w = c.args.core.now.wiring in
    (λ yes. cc, λ all. let yes = c.is_in.ensures.1 (active_in w c.args.members.now c.args.chan c.ends.result c.ends.ensures all) in cc)

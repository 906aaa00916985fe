use Rattle.bz_kinds.proofs.PortLaws.{not_to_open}
use Rattle.bz_kinds.proofs.ports.Ports.next_to_open.Goals as goal

pub returns-clause-passed : goal.returns-clause-passed
returns-clause-passed c p le lt = not_to_open _ _ c.self.view_is p (c.next_with_one.ensures.passed p le lt)

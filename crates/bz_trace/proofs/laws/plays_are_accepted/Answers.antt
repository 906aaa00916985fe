use Rattle.bz_net.proofs.Played.{all_by, stopped_by}
use Rattle.bz_trace.proofs.Accepted.{accepted, accepted_1}
use Rattle.bz_trace.proofs.laws.plays_are_accepted.Goals as goal

pub returns-clause-all : goal.returns-clause-all
returns-clause-all c = λ w cmds es text p few is. let (last, by) = all_by w cmds es p in accepted w es last text by few is

pub returns-clause-stops : goal.returns-clause-stops
returns-clause-stops c = λ w limit cmds at e es text p few is. let (last, by) = stopped_by w limit cmds at e es p in accepted w es last text by few is

pub returns-clause-first_version : goal.returns-clause-first_version
returns-clause-first_version c = λ w cmds es p few. let (last, by) = all_by w cmds es p in accepted_1 w es last by few

use Rattle.bz_run_laws.proofs.Handshakes.{in_turn, on_side}
use Rattle.bz_run_laws.proofs.ports.ports_make_handshakes.Goals as goal

pub returns-clause-turns : goal.returns-clause-turns
returns-clause-turns c = λ kind sizes chans d past here meets made. in_turn kind sizes chans d past here meets made

pub returns-clause-sides : goal.returns-clause-sides
returns-clause-sides c = λ kind sizes chans d past here made. on_side kind sizes chans d past here made

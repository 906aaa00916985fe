use Rattle.bz_net.proofs.Played.{plays_have_lines, stops_have_lines}
use Rattle.bz_net.proofs.laws.plays_have_lines.Goals as goal

pub returns-clause-all : goal.returns-clause-all
returns-clause-all c = plays_have_lines

pub returns-clause-stops : goal.returns-clause-stops
returns-clause-stops c = stops_have_lines

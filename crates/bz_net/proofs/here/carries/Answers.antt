use Rattle.std.proofs.Common.{rules, Some, map}
use Rattle.bz_flat.specs.Flats.{site_of}
use Rattle.bz_net.specs.Keeping.{state_of}
use Rattle.bz_net.specs.Nodes.{comps_of}
use Rattle.bz_net.proofs.Stepping.{carries_seen}
use Rattle.bz_net.proofs.here.carries.Goals as goal

pub returns-in-Some : goal.returns-in-Some
returns-in-Some c =
    carries_seen (map site_of c.args.sites.now) (state_of c.args.phases.now (comps_of c.args.nodes.now)) c.args.comp c.args.port
    (Some (c.in-Some.field-0-0, c.in-Some.field-0-1, c.in-Some.found)) c.args.value c.eq.result c.in-Some.ensures.seen c.in-Some.ensures.one
    (λ t. search rules, λ e. search rules)

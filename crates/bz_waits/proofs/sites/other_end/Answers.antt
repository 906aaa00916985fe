use Rattle.std.proofs.Common.{sym, ◌∙◌}
use Rattle.bz_model.specs.Nets.{chan_at, passive_at}
use Rattle.bz_waits.proofs.Ends.{other_active, other_passive}
use Rattle.bz_waits.proofs.sites.other_end.Goals as goal

pub returns-then-is_passive_at : goal.returns-then-is_passive_at
returns-then-is_passive_at c =
    let sites = c.args.core.now.wiring.sites in
    other_active sites c.chan_at.result (chan_at sites c.args.comp c.args.port) (passive_at sites c.args.comp c.args.port) c.ends.result _ c.ends.ensures c.chan_at.ensures
    (sym c.is_passive_at.ensures ∙ c.if-is_passive_at.true) c.unwrap_or.ensures

pub returns-else-is_passive_at : goal.returns-else-is_passive_at
returns-else-is_passive_at c =
    let sites = c.args.core.now.wiring.sites in
    other_passive sites c.chan_at.result (chan_at sites c.args.comp c.args.port) (passive_at sites c.args.comp c.args.port) c.ends.result _ c.ends.ensures c.chan_at.ensures
    (sym c.is_passive_at.ensures ∙ c.if-is_passive_at.false) c.unwrap_or-else-is_passive_at.ensures

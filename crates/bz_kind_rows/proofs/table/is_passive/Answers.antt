use Rattle.std.proofs.Common.{sym}
use Rattle.bz_kind_rows.proofs.Tables.{is_passive-port, is_passive-none}
use Rattle.bz_kind_rows.proofs.table.is_passive.Goals as goal

pub returns-then-port-eq0 : goal.returns-then-port-eq0
returns-then-port-eq0 c = rw c.if-port-eq0.true (sym (is_passive-none c.args.kind.now c.args.sizes))

pub returns : goal.returns
returns c = rw (c.passive_at.ensures, c.port_table.ensures) (sym (is_passive-port c.args.kind.now c.args.sizes c.args.port c.if-port-eq0.false))

use Rattle.std.proofs.Common.{◌-◌, ap, ◌∙◌}
use Rattle.bz_model.specs.Rows.{row_of}
use Rattle.bz_kind_rows.specs.Table.{port_in}
use Rattle.bz_kind_rows.proofs.Tables.{numbered-behind}
use Rattle.bz_kind_rows.proofs.table.port_at.Goals as goal

pub returns : goal.returns
returns c =
    let port = c.args.port in
    c.port_in.ensures ∙ ap (λ rows. port_in rows c.args.sizes (port - 1)) c.port_table.ensures ∙ numbered-behind (row_of c.args.kind.now) c.args.sizes port c.if-port-eq0.false

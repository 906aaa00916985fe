use Rattle.bz_text.proofs.Grown.{grows_then}
use Rattle.bz_cli_kinds.proofs.items.put_kind.Goals as goal

pub returns : goal.returns
returns c =
    grows_then _ _ _ _ _ c.put_field.ensures (grows_then _ _ _ _ _ c.put_mark.ensures (grows_then _ _ _ _ _ c.put_ports.ensures (grows_then _ _ _ _ _ c.put_mark-2.ensures (grows_then _ _ _ _ _ c.put_lengths.ensures (grows_then _ _ _ _ _ c.put_mark-3.ensures (grows_then _ _ _ _ _ c.put_widths.ensures (grows_then _ _ _ _ _ c.put_mark-4.ensures (grows_then _ _ _ _ _ c.put_parameters.ensures c.put_mark-5.ensures))))))))

use Rattle.bz_text.proofs.Grown.{grows_then}
use Rattle.bz_cli_kinds.proofs.items.put_parameter.Goals as goal

pub returns : goal.returns
returns c =
    grows_then _ _ _ _ _ c.put_mark.ensures (grows_then _ _ _ _ _ c.put_place.ensures (grows_then _ _ _ _ _ (rw c.meaning_word.ensures at c.put_field.ensures)
    (grows_then _ _ _ _ _ c.put_mark-2.ensures (grows_then _ _ _ _ _ c.put_operands.ensures c.put_optional.ensures))))

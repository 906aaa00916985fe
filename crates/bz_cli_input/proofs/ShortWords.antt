-- The words of kinds are short.
use Rattle.std.proofs.Common.{◌≤◌, length, arith}
use Rattle.std.proofs.lemmas.List.{length-drop}
use Rattle.bz_model.specs.declared.kind.Kind.{Kind}
use Rattle.bz_model.specs.Rows.{kind_name, kind_word, name_of}
use Rattle.bz_kind_rows.proofs.Names.{short_name}

pub short_word : (kind : Kind) → length (kind_word kind) ≤ 17
short_word kind = omega (arith, short_name (kind_name kind), length-drop 4 (name_of (kind_name kind)))

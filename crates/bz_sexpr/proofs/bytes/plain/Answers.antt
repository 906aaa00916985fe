use Rattle.std.proofs.Common.{sym, ◌∙◌}
use Rattle.bz_sexpr.proofs.Texts.{plain_all}
use Rattle.bz_sexpr.proofs.bytes.plain.Goals as goal

pub returns : goal.returns
returns c = sym (plain_all c.args.raw.now (sym c.has_backslash.ensures ∙ c.if-has_backslash.false))

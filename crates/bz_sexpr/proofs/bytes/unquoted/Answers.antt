use Rattle.std.proofs.Common.{sym, ◌∙◌, rules}
use Rattle.bz_sexpr.proofs.Texts.{plain_all}
use Rattle.bz_sexpr.proofs.bytes.unquoted.Goals as goal

pub returns-then-not-contains : goal.returns-then-not-contains
returns-then-not-contains c =
    let plain = plain_all c.args.raw.now (sym c.contains.ensures.value ∙ c.if-not-contains.true) in
    rw plain (search rules)

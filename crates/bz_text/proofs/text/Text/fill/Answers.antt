use Rattle.std.proofs.Common.{◌≡◌, ◌∙◌, ap, arith}
use Rattle.bz_text.specs.Saying.{width}
use Rattle.bz_text.proofs.Said.{filled}
use Rattle.bz_text.proofs.text.Text.fill.Goals as goal

pub returns : goal.returns
returns c =
    let text = c.self.inside.bytes.items in
    let wide : c.width.result ≡ width text = c.width.ensures ∙ ap width c.deref.ensures.value in
    filled c.args.column c.min-count.result c.self.inside.is_short text _ _ c.self.view_is (omega (arith, wide)) c.put_bytes.ensures

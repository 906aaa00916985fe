use Rattle.std.proofs.Common.{refl, sym, subst, ◌∙◌, arith}
use Rattle.std.specs.Option.{option_copied}
use Rattle.std.specs.Prelude.{length, vec_len}
use Rattle.bz_locked.specs.Terms.{Terms}
use Rattle.bz_past.specs.Moments.{moment}
use Rattle.bz_pool.specs.Pooled.{ArePlayed}
use Rattle.bz_cli.proofs.PoolOutcomes.{closed_so, no_close, same_terms}
use Rattle.bz_cli.proofs.pooling.pool_text.Goals as goal

pub returns-in-Err : goal.returns-in-Err
returns-in-Err g c =
    let opened = c.in_ok-net.ensures.ok in
    let options = c.args.options in
    no_close c.args.text.now (option_copied c.args.asked) options.fuel options.journal c.args.sessions.items options.workers opened.0 opened.1 (g.W.Write.contents c.args.output.now) c.of_pool.result c.in-Err.error c.in-Err.ensures.refused c.of_pool.ensures

pub returns : goal.returns
returns g c =
    let opened = c.in_ok-net.ensures.ok in
    let closed = c.in-Ok.ensures in
    let lists = c.args.sessions in
    let options = c.args.options in
    let net = c.in_ok-net.net in
    let ends = c.in-Ok.pooled.1 in
    let left = c.in-Ok.pooled.0.net in
    let last = moment left c.in-Ok.pooled.0.stopped closed.played.0 in
    let mine = same_terms net.wiring left.wiring net.limit left.limit options.fuel (vec_len lists) (length lists.items) (sym closed.pooled.opened) (sym closed.pooled.limited) lists.ok.0 in
    let played = subst (λ (t : Terms). ArePlayed t lists.items options.workers last ends.items) mine closed.played.1 in
    let writes = c.write_closed.ensures lists.items options.workers c.in-Ok.pooled.0.stopped closed.played.0 (sym lists.ok.0 ∙ sym c.len-count.ensures) (omega (arith, closed.ends, lists.ok.0, ends.ok.0)) played in
    let same = same_terms left.wiring opened.0 left.limit options.journal options.fuel (length lists.items) (length lists.items) (closed.pooled.opened ∙ opened.2.wiring) (closed.pooled.limited ∙ opened.2.limit_is) refl in
    closed_so c.args.text.now (option_copied c.args.asked) options.fuel options.journal lists.items options.workers opened.0 _ _ _ c.write_closed.result opened.1 same writes

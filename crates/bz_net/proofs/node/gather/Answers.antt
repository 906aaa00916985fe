use Rattle.std.proofs.Common.{◌≡◌, ◌∙◌, ◌<◌, ◌++◌, ◌∷◌, [], get_or, length, map, take, sym, ap, add-one, arith}
use Rattle.std.proofs.lemmas.List.{map-append}
use Rattle.std.proofs.Math.Seq.{take-suc}
use Rattle.bz_model.specs.Nets.{chan_in}
use Rattle.bz_net.proofs.Hosts.{chan_at}
use Rattle.bz_net.proofs.node.gather.Goals as goal

pub loop-number-preserved : goal.loop-number-preserved
loop-number-preserved c =
    let l = c.loop-number in let chans = c.args.names.now.chans in let all = c.args.site.now.chans.items in let x = c.in-Some.chan in
    let i = l.number-index in
    let lt : i < length all = omega (arith, c.loop-number-test.true) in
    let found : chan_in chans (get_or all i 0) ≡ x = chan_at chans (get_or all i 0) x (sym (rw c.deref-number-items.ensures.value at c.chan.ensures) ∙ c.in-Some.is) in
    rw add-one (c.in-Ok.ensures.items ∙ ap (λ own. own ++ x ∷ []) l.invariant ∙ ap (λ y. map (chan_in chans) (take i all) ++ y ∷ []) (sym found)
    ∙ sym (ap (map (chan_in chans)) (take-suc all i 0 lt) ∙ map-append (chan_in chans) (take i all) (get_or all i 0 ∷ [])))

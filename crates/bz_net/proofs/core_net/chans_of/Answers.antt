use Rattle.std.proofs.Common.{◌≡◌, ◌∙◌, ◌<◌, Some, [], ◌∷◌, ◌++◌, take, length, sym, ap, add-one, arith}
use Rattle.std.specs.Prelude.{slice_get}
use Rattle.std.proofs.lemmas.Option.{get_or_from_slice_get}
use Rattle.std.proofs.Math.Seq.{take-suc}
use Rattle.bz_net.proofs.core_net.chans_of.Goals as goal

pub loop-place-preserved : goal.loop-place-preserved
loop-place-preserved c =
    let l = c.loop-place in let all = c.args.names.now.chans in let x = c.in-Some.chan in
    let found : slice_get all l.place ≡ Some x = sym (rw add-one at c.chan.ensures) ∙ c.in-Some.is in
    let lt : l.place < length all = omega (arith, c.loop-place-test.true, c.requires) in
    rw add-one (c.in-Ok.ensures.appended ∙ ap (λ chans. chans ++ x ∷ []) l.invariant ∙ ap (λ y. take l.place all ++ y ∷ []) (sym (get_or_from_slice_get all l.place x x found)) ∙ sym (take-suc all l.place x lt))

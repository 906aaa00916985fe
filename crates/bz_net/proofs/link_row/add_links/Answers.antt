use Rattle.std.proofs.Common.{◌≡◌, ◌+◌, ◌++◌, ◌<◌, ℕ, List, [], ◌∷◌, suc, length, take, get_or, sym, ap, ◌∙◌, arith}
use Rattle.std.proofs.Math.Seq.{take-suc}
use Rattle.std.proofs.lemmas.List.{append_assoc, length-take-le}
use Rattle.bz_flat.specs.Wires.{ends_in}
use Rattle.bz_net.specs.declared.link_row.Link.{Link}
use Rattle.bz_net.specs.LinkRow.{link_of, links_of}
use Rattle.bz_net.proofs.LinkRows.{links_push}
use Rattle.bz_net.proofs.link_row.add_links.Goals as goal

pub loop-place-preserved : goal.loop-place-preserved
loop-place-preserved c =
    let ends = c.args.ends.now in let chans = c.args.chans.now in let comp = c.args.comp in let place = c.loop-place.place in let k = get_or chans place 0 in
    let here : place < length chans = omega (arith, c.loop-place-test.true) in
    let nth : place + 1 ≡ 1 + length (take place chans) = omega (arith, here, length-take-le place chans (omega (arith, here))) in
    let more : suc place ≡ place + 1 = omega arith in
    let is : c.link_of.result ≡ link_of (ends_in ends k) comp (1 + length (take place chans)) k =
    c.link_of.ensures ∙ ap (λ (p : ℕ). link_of (ends_in ends k) comp p k) nth in
    c.in_ok-push.ensures.items
    ∙ rw (c.loop-place.invariant, is) (append_assoc c.args.row.now.items (links_of ends comp 1 (take place chans)) (link_of (ends_in ends k) comp (1 + length (take place chans)) k ∷ []))
    ∙ ap (λ (l : List Link). c.args.row.now.items ++ l) (sym (links_push ends comp 1 (take place chans) k) ∙ ap (links_of ends comp 1) (sym (take-suc chans place 0 here) ∙ ap (λ (n : ℕ). take n chans) more))

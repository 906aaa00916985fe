use Rattle.std.proofs.Common.{◌≡◌, ◌∙◌, Bool, true, false, not, IsTrue, length, refl, sym}
use Rattle.bz_bench.specs.Dues.{is_done}
use Rattle.bz_bench.specs.Streams.{begun, ended}
use Rattle.bz_cli_bench.proofs.judging.is_short_at.Goals as goal

is_none : (b : Bool) → IsTrue (not b) → b ≡ false
is_none true e = cc
is_none false e = refl

pub returns : goal.returns
returns c = λ yes.
    let n = c.args.net.now in
    let stream = c.in-Some-Some.stream.now in let tally = c.in-Some-Some.tally.now in
    let told = c.requires c.args.port tally (sym c.in-Some-Some.ensures') in
    let same : is_done stream c.args.group (length tally.begun.items) (length tally.ended.items) ≡ is_done stream c.args.group (length (begun c.args.port n.journal)) (length (ended c.args.port n.journal))
    = λ i. is_done stream c.args.group (length (told.begun_is i)) (length (told.ended_is i)) in
    (c.args.port, stream, sym c.in-Some-Some.ensures, sym same ∙ sym c.is_done.ensures ∙ is_none c.is_done.result yes)

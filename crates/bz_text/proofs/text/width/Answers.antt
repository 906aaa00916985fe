use Rattle.std.proofs.Common.{rules, ◌≡◌, ◌==◌, ◌∙◌, true, false}
use borrow.Author.Tests.{tests}
use Rattle.std.proofs.lemmas.Iterator.{IsFirst-from_position}
use Rattle.std.proofs.lemmas.Iterator.Adapters.{YieldsList-from_rev_slice}
use Rattle.bz_text.proofs.Said.{width_is}
use Rattle.bz_text.proofs.text.width.Goals as goal

pub returns : goal.returns
returns c =
    let first = IsFirst-from_position _ _ c.position-last.result (λ y. true ≡ (y == 10)) (λ y. false ≡ (y == 10)) c.position-last.ensures.ran (YieldsList-from_rev_slice c.args.bytes.now cc) (λ x q k. search (rules, tests)) (λ x q k. search (rules, tests)) in
    c.unwrap_or.ensures ∙ width_is c.args.bytes.now c.position-last.result first

use Rattle.std.proofs.Common.{rules, of_calls}
use Rattle.std.specs.Prelude.{nat_lt, nat_le, ◌&&◌}
use Rattle.std.proofs.lemmas.Fn.{always_returns_same}
use Rattle.bz_model.specs.declared.spans.Span.{Span}
use Rattle.bz_model.proofs.Halves.{ascends_by}
use Rattle.bz_model.proofs.spans.ascend.Goals as goal

pub returns : goal.returns
returns c =
    let below = λ (span next : Span). nat_lt span.to next.from && nat_le next.from next.to in
    ascends_by c.args.spans.now c.is_sorted_by.result (c.is_sorted_by.ensures.cases below (always_returns_same _ _ _ (λ a r f k. search (rules, of_calls))))

use Rattle.bz_model.proofs.Halves.{same}
use Rattle.bz_model.proofs.spans.ascending.Goals as goal

pub returns-then-ascend : goal.returns-then-ascend
returns-then-ascend c =
    let up = rw c.as_slice.ensures.value at c.ascend.ensures c.if-ascend.true in
    let moved = rw c.in_ok-spans.ensures.items at c.sort_unstable_by_key.ensures.permutation in
    record { ascends = up; finds = λ some none v. same none v c.args.list.now c.sort_unstable_by_key.new.self.items up moved }

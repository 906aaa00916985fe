use Rattle.std.proofs.Common.{[]}
use Rattle.bz_kind_rows.proofs.Tables.{carry-first, carry-short, carry-other}
use Rattle.bz_kind_rows.proofs.table.+carry.Goals as goal
use Rattle.bz_kind_rows.proofs.table.+carry.Goals.{then-chans-count-via-then-chans-count, then-chans-count-via-else-chans-count+then-not-all_carry}

pub returns-then-chans-count : goal.returns-then-chans-count
returns-then-chans-count t c = elim c.then-chans-count.branch [
  | then-chans-count-via-then-chans-count w ↦ carry-short _ _ c.in-len1-up.len_at_least _ [] _ c.ports_here-count.ensures.count _ w.if-chans-count.true
  | then-chans-count-via-else-chans-count+then-not-all_carry w ↦ carry-other _ _ c.in-len1-up.len_at_least _ [] _ c.ports_here-count.ensures.count _ (λ all. rw (← w.if-not-all_carry.true) (w.all_carry.ensures.1 all))
]

pub returns : goal.returns
returns t c = carry-first _ _ c.in-len1-up.len_at_least _ _ _ c.ports_here-count.ensures.count _ _ c.ports_here-count.ensures.others c.if-chans-count.false (c.all_carry.ensures.0 c.if-not-all_carry.false) c.carry.ensures

use Rattle.std.proofs.Common.{codes, refl}
use Rattle.bz_view.proofs.Lines.{within, within_then}
use Rattle.bz_view.proofs.Typed.{typed_clear}
use Rattle.bz_view.proofs.naming.put_name.Goals as goal

pub returns-then-name-gt-MOST_SHOWN : goal.returns-then-name-gt-MOST_SHOWN
returns-then-name-gt-MOST_SHOWN c = within_then _ _ _ (within _ _ _ (typed_clear c.unwrap_or.result.now) c.put_typed.ensures) (within _ _ (codes "..") refl c.put.ensures)

pub returns-else-name-gt-MOST_SHOWN : goal.returns-else-name-gt-MOST_SHOWN
returns-else-name-gt-MOST_SHOWN c = within _ _ _ (typed_clear c.unwrap_or.result.now) c.put_typed.ensures

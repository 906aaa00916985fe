use Rattle.std.proofs.Common.{◌≡◌, false, [], ap, ℕ, List, rules}
use Rattle.bz_past.specs.Moments.{moment}
use Rattle.bz_past.specs.Seen.{nobody}
use Rattle.bz_past.specs.declared.view.View.{View}
use Rattle.bz_past.proofs.Steps.{opens, splits_stopper}
use Rattle.bz_past.proofs.past.Past.open.Goals as goal

pub of_words-requires : goal.of_words-requires
of_words-requires c = opens c.args.net.now c.requires.unused

pub split_seat-stopper-requires : goal.split_seat-stopper-requires
split_seat-stopper-requires c = (search rules, search rules, splits_stopper c.in-Ok.table.shared.key _ _ (nobody (moment c.args.net.now false [])) false (ap (λ (me : View × List (ℕ × Unit {0})). me.0) c.in-Ok.ensures.4))

-- What a move takes of what rides on its channel is what its phase says.
use Rattle.std.proofs.Common.{◌≡◌, ◌∙◌, ℕ, Option, refl, ap, IsTrue}
use Rattle.std.proofs.lemmas.Bool.{false≢true}
use Rattle.bz_model.specs.declared.channel.Move.{Move}
use Rattle.bz_model.specs.declared.channel.Move.TheVariants.{Ask, Take, Reply, Got}
use Rattle.bz_model.specs.declared.channel.Phase.{Phase}
use Rattle.bz_model.specs.declared.channel.Phase.TheVariants.{Idle, Asked, Taken, Replied, Broken}
use Rattle.bz_model.specs.Phases.{allows, incoming}
use Rattle.bz_kinds.specs.Riding.{riding, taken}

came-in : (phase : Phase) (mv : Move) → IsTrue (allows phase mv) → taken mv (riding phase) ≡ incoming phase mv
came-in Idle Ask may = refl
came-in (Asked v) Ask may = refl
came-in Taken Ask may = refl
came-in (Replied v) Ask may = refl
came-in Broken Ask may = refl
came-in Idle Take may = refl
came-in (Asked v) Take may = refl
came-in Taken Take may = refl
came-in (Replied v) Take may = absurd (false≢true may)
came-in Broken Take may = refl
came-in Idle Reply may = refl
came-in (Asked v) Reply may = refl
came-in Taken Reply may = refl
came-in (Replied v) Reply may = refl
came-in Broken Reply may = refl
came-in Idle Got may = refl
came-in (Asked v) Got may = absurd (false≢true may)
came-in Taken Got may = refl
came-in (Replied v) Got may = refl
came-in Broken Got may = refl

pub came : (phase : Phase) (v : Option ℕ) (mv : Move) → v ≡ riding phase → IsTrue (allows phase mv) → taken mv v ≡ incoming phase mv
came phase v mv rides may = ap (taken mv) rides ∙ came-in phase mv may

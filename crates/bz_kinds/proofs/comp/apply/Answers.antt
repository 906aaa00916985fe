use Rattle.std.proofs.Common.{◌≡◌, ◌∙◌, ℕ, IsTrue, Option, subst}
use Rattle.bz_model.specs.declared.channel.Move.{Move}
use Rattle.bz_model.specs.declared.channel.Move.TheVariants.{Take, Got}
use Rattle.bz_model.specs.Phases.{allows}
use Rattle.bz_model.specs.Widths.{FitsAt, Fitted}
use Rattle.bz_model.proofs.Fitting.{fits-move}
use Rattle.bz_kinds.proofs.SureLaws.{gets_in, takes_in}
use Rattle.bz_kinds.proofs.comp.apply.Goals as goal

pub returns-in-Some-Ask-clause-fits : goal.returns-in-Some-Ask-clause-fits
returns-in-Some-Ask-clause-fits c fitted holds = fits-move _ _ c.args.port c.args.phase _ _ c.ask.ensures.chans (c.ask.ensures.moves c.args.phase) holds fitted

pub returns-in-Some-Take-clause-fits : goal.returns-in-Some-Take-clause-fits
returns-in-Some-Take-clause-fits c fitted holds =
    let (h, on, ok) = c.requires in
    let told = c.next.ensures.only h on in
    let is : h.move ≡ Take = let due = c.in-Some-Take.is in cc in
    subst (λ (v : Option ℕ). FitsAt c.args.comp.now.chans c.args.port Take v × Fitted c.take.new.comp) c.parts-rides.ensures
    (fits-move _ _ c.args.port c.args.phase _ _ c.take.ensures.chans (takes_in _ _ _ c.args.phase _ (c.parts-rides.ensures ∙ c.riding-incoming.ensures) (subst (λ (m : Move). IsTrue (allows c.args.phase m)) is ok) c.take.ensures.moves) holds fitted)

pub returns-in-Some-Reply-clause-fits : goal.returns-in-Some-Reply-clause-fits
returns-in-Some-Reply-clause-fits c fitted holds = fits-move _ _ c.args.port c.args.phase _ _ c.reply.ensures.chans (c.reply.ensures.moves c.args.phase) holds fitted

pub returns-in-Some-Got-clause-fits : goal.returns-in-Some-Got-clause-fits
returns-in-Some-Got-clause-fits c fitted holds =
    let (h, on, ok) = c.requires in
    let told = c.next.ensures.only h on in
    let is : h.move ≡ Got = let due = c.in-Some-Got.is in cc in
    subst (λ (v : Option ℕ). FitsAt c.args.comp.now.chans c.args.port Got v × Fitted c.got.new.comp) c.parts-rides.ensures
    (fits-move _ _ c.args.port c.args.phase _ _ c.got.ensures.chans (gets_in _ _ _ c.args.phase _ (c.parts-rides.ensures ∙ c.riding-incoming.ensures) (subst (λ (m : Move). IsTrue (allows c.args.phase m)) is ok) c.got.ensures.moves) holds fitted)

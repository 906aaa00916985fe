use Rattle.std.proofs.Common.{refl}
use Rattle.bz_model.specs.declared.channel.Move.TheVariants.{Ask, Take, Reply, Got}
use Rattle.bz_cover.proofs.Tallies.{adds_ask, adds_got, adds_reply, adds_take, as_entry}
use Rattle.bz_cover.proofs.coverage.Coverage.add.Goals as goal

pub returns-in-Ask : goal.returns-in-Ask
returns-in-Ask c =
    let e = c.in-Fired in
    as_entry _ e.who e.comp e.port e.chan e.mv Ask e.value _ _ _ e.is c.in-Ask.is c.self.view_is (adds_ask e.who e.comp e.port e.chan e.value _ _ c.raise.ensures c.raise-in-Ask.ensures refl)

pub returns-in-Take : goal.returns-in-Take
returns-in-Take c =
    let e = c.in-Fired in
    as_entry _ e.who e.comp e.port e.chan e.mv Take e.value _ _ _ e.is c.in-Take.is c.self.view_is (adds_take e.who e.comp e.port e.chan e.value _ _ c.raise.ensures c.raise-in-Take.ensures refl)

pub returns-in-Reply : goal.returns-in-Reply
returns-in-Reply c =
    let e = c.in-Fired in
    as_entry _ e.who e.comp e.port e.chan e.mv Reply e.value _ _ _ e.is c.in-Reply.is c.self.view_is (adds_reply e.who e.comp e.port e.chan e.value _ _ c.raise.ensures refl refl)

pub returns-in-Got : goal.returns-in-Got
returns-in-Got c =
    let e = c.in-Fired in
    as_entry _ e.who e.comp e.port e.chan e.mv Got e.value _ _ _ e.is c.in-Got.is c.self.view_is (adds_got e.who e.comp e.port e.chan e.value _ _ c.raise.ensures refl refl)

use Rattle.std.proofs.Common.{◌∙◌, [], ◌∷◌, None, ap, get_or, sym, take}
use Rattle.std.proofs.lemmas.List.{take_more}
use Rattle.bz_model.specs.declared.channel.Move.TheVariants.{Ask}
use Rattle.bz_model.specs.declared.event.Entry.{Entry}
use Rattle.bz_model.specs.declared.event.Entry.TheVariants.{Fired}
use Rattle.bz_model.specs.declared.event.Who.TheVariants as who
use Rattle.bz_explore_net.specs.Stepping.{goes_on}
use Rattle.bz_explore_net.proofs.Going.{goes_on_more}
use Rattle.bz_explore_net.proofs.stepping.goes_on.Goals as goal

pub loop-entry-preserved : goal.loop-entry-preserved
loop-entry-preserved c =
    let entries = c.args.entries.now in let i = c.loop-entry.entry-index in
    let d : Entry = Fired (who.Host 0) 0 0 0 Ask None in
    let e = get_or entries i d in
    c.after_entry-next.ensures ∙ ap (λ n. goes_on n (e ∷ [])) c.loop-entry.invariant
    ∙ sym (goes_on_more c.args.from (take i entries) e) ∙ ap (goes_on c.args.from) (sym (take_more entries i d c.loop-entry-test.true))

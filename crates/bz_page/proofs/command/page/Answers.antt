use Rattle.bz_page.proofs.command.page.Goals as goal

pub returns : goal.returns
returns g c = rw c.template.ensures at c.page_by.ensures

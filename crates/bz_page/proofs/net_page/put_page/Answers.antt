use Rattle.bz_page.proofs.net_page.put_page.Goals as goal

pub returns : goal.returns
returns g c = rw c.template.ensures at c.put_net_page.ensures

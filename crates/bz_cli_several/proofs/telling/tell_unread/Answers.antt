use Rattle.bz_cli_several.proofs.telling.tell_unread.Goals as goal

pub returns-clause-plainly : goal.returns-clause-plainly
returns-clause-plainly g c = λ plain. rw c.as_bytes.ensures.value at c.put_out.ensures

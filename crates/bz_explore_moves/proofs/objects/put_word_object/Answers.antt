use Rattle.bz_model.specs.Hosts.{wants_value}
use Rattle.bz_view.specs.Outside.{kind_at}
use Rattle.bz_explore_moves.proofs.Members.{object_grows}
use Rattle.bz_explore_moves.proofs.objects.put_word_object.Goals as goal

pub returns : goal.returns
returns c =
    let needs = wants_value c.args.word.verb (kind_at c.args.net.now.wiring.chans c.args.word.port) in
    object_grows _ _ needs _ _ _ _ _ _ c.put.ensures c.put_word_members.ensures c.put-2.ensures c.put_flag.ensures c.put-3.ensures (cc)

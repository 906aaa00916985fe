use Rattle.std.proofs.Common.{◌∙◌}
use Rattle.bz_explore_moves.proofs.Members.{word_grows}
use Rattle.bz_explore_moves.proofs.objects.put_word_members.Goals as goal

pub returns : goal.returns
returns c = word_grows c.args.word.verb _ _ _ _ _ _ c.put_pieces.ensures c.put_typed_json.ensures (c.as_bytes.ensures.value ∙ c.word.ensures) c.port_name.ensures

use Rattle.std.proofs.Common.{sym, ◌∙◌, ap, map}
use Rattle.std.proofs.lemmas.List.{map_push}
use Rattle.bz_source.specs.Found.{located, with_find}
use Rattle.bz_source.specs.Views.{find_of}
use Rattle.bz_source.proofs.Walking.{located_more}
use Rattle.bz_source.proofs.places.sort.Goals as goal

pub loop-find-preserved : goal.loop-find-preserved
loop-find-preserved c =
    c.in_ok-add.ensures ∙ ap (λ l. with_find l (find_of c.in-Some.find)) c.loop-find.invariant ∙ sym (located_more (map find_of c.loop-find.yielded) (find_of c.in-Some.find))
    ∙ ap located (sym (map_push find_of c.loop-find.yielded c.in-Some.find))

use Rattle.std.proofs.Common.{is_some, sym, subst}
use Rattle.std.proofs.lemmas.List.{length-map}
use Rattle.bz_cli_bench.specs.Cases.{Tests}
use Rattle.bz_cli_commands.specs.Endings.{seeds_asked}
use Rattle.bz_cli_commands.proofs.benching.test.Goals as goal

pub returns-clause-tests : goal.returns-clause-tests
returns-clause-tests g c =
    subst (λ n. Tests (seeds_asked c.args.options.seeds) n (is_some c.args.options.cover) c.test_cmd.result) (sym (length-map c.args.given.now.words.now (λ word. word.now)))
    (rw c.seeds_of.ensures at c.test_cmd.ensures.tests)

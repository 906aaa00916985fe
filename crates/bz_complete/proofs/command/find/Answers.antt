use Rattle.std.specs.Option.{option_copied}
use Rattle.bz_complete.proofs.Completed.{found}
use Rattle.bz_complete.proofs.command.find.Goals as goal

pub returns-in-Ok-names : goal.returns-in-Ok-names
returns-in-Ok-names c =
    found c.args.netlist.now c.args.short.now (option_copied c.args.part) _ _ c.find_in.result c.in-Ok.ensures.net
    (c.in-Ok-names.ensures c.args.netlist.now (option_copied c.args.part) (rw c.as_slice.ensures.value c.in-Ok.ensures.read)) c.find_in.ensures

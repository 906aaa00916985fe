use Rattle.std.proofs.Common.{map}
use Rattle.std.proofs.lemmas.List.{length-map}
use Rattle.bz_model.specs.Names.{external}
use Rattle.bz_elab.proofs.Ending.{faults_told}
use Rattle.bz_elab.proofs.ends.end_faults.Goals as goal

pub doubled-requires-clause-stand : goal.doubled-requires-clause-stand
doubled-requires-clause-stand c k d side from at =
    let (p, port, seen, is) = c.in_ok-ends.ensures.ok.1.stands k d side from (rw c.as_slice.ensures.value at at) in
    (p, rw c.as_slice.ensures.value port, is)

pub returns-clause-ok : goal.returns-clause-ok
returns-clause-ok c =
    faults_told c.args.comps.now (map external c.args.ports.now) c.args.chans _ _ _ _ _ _ _ _ c.requires.fit c.in_ok-ends.ensures.ok.1 (length-map c.args.ports.now external)
    c.in_ok-doubled.ensures.doubled.1 (rw c.as_slice.ensures.value at c.in_ok-doubled.ensures.all) c.new-faults.ensures.items
    (rw c.as_slice-2.ensures.value at c.in_ok-add_doubled.ensures) (rw c.as_slice-3.ensures.value at c.in_ok-add_loose.ensures) (rw c.as_slice-4.ensures.value at c.in_ok-add_misused.ensures)

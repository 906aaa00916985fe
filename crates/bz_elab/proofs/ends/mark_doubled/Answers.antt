use Rattle.std.proofs.Common.{◌≡◌, ◌+◌, ◌-◌, ◌≤◌, ◌∙◌, arith, add-one, get_or, length, sym}
use Rattle.std.proofs.lemmas.List.{length-set}
use Rattle.bz_flat.specs.Flats.{site_of}
use Rattle.bz_elab.proofs.Seating.{end_here}
use Rattle.bz_elab.proofs.Ending.{doubled_more, marked_not, marked_set, two_there}
use Rattle.bz_elab.proofs.ends.mark_doubled.Goals as goal
use Rattle.bz_elab.proofs.ends.mark_doubled.Goals.{then-is_other, else-is_other}

pub loop-i-preserved : goal.loop-i-preserved
loop-i-preserved c =
    let items = c.args.comp.now.chans.items in
    let chan = get_or items c.loop-i.i 0 in
    let at = c.requires.within c.loop-i.i (omega arith) in
    let told = rw (c.deref-chan-items.ensures.value, c.is_passive-passive.ensures) at c.is_other.ensures in
    let before = c.loop-i.invariant in elim c.if-is_other.branch [
      | then-is_other w ↦
          rw (w.marks-is, c.deref-chan-items.ensures.value) (record {
            same = length-set c.loop-i.marks _ _ ∙ before.same;
            doubled = λ sites here are old.
                let end = end_here sites c.args.number (site_of c.args.comp.now) c.loop-i.i here c.requires.number_from (omega arith) in
                let two = two_there sites c.args.ends.now chan c.args.number _ _ _ (add-one c.loop-i.i) are at.0 end (told.0 w.if-is_other.true) in
                let z : chan - 1 + 1 ≡ chan = omega (arith, at.0) in
                doubled_more sites c.loop-i.marks (chan - 1) (before.doubled sites here are old) (rw z two);
            all = λ sites here old.
                let end = end_here sites c.args.number (site_of c.args.comp.now) c.loop-i.i here c.requires.number_from (omega arith) in
                let to : chan ≤ length c.loop-i.marks = omega (arith, at.1, before.same, c.requires.same) in
                marked_set sites c.args.ends.now c.loop-i.marks chan c.args.number c.loop-i.i _ (before.all sites here old) end at.0 to;
          })
      | else-is_other w ↦
          rw w.marks-is (record {
            same = before.same;
            doubled = before.doubled;
            all = λ sites here old.
                let end = end_here sites c.args.number (site_of c.args.comp.now) c.loop-i.i here c.requires.number_from (omega arith) in
                marked_not sites c.args.ends.now c.loop-i.marks chan c.args.number c.loop-i.i _ (before.all sites here old) end
                (λ other. let yes = told.1 other in let no = w.if-is_other.false in cc);
          })
    ]

pub returns-clause-all : goal.returns-clause-all
returns-clause-all c sites here old =
    let all : c.loop-i.i ≡ length c.args.comp.now.chans.items = omega arith in
    rw (sym all) (c.loop-i.invariant.all sites here old)

use Rattle.bz_cover.proofs.counted.CountedWatch.see.Goals as goal

pub returns-in-Some : goal.returns-in-Some
returns-in-Some c = λ w past along has.
    let had = rw c.in-Some.is at has in
    (c.add.ensures.places w had.0, c.add.ensures.counts past had.1)

use Rattle.std.proofs.Common.{◌≡◌, ℕ, List, [], ◌∷◌, ◌++◌, ◌∙◌, length, take, drop, suc, Ok, refl, sym, ap, subst}
use Rattle.std.proofs.lemmas.List.{length-map, take_all}
use Rattle.std.specs.Io.KnownBytes.{Appends}
use Rattle.bz_cli_input.specs.Stopping.{AppendsSome}
use Rattle.bz_cli_input.specs.declared.fault.Fault.TheVariants.{Write}
use Rattle.bz_words.specs.Words.{texts}
use Rattle.bz_words.proofs.Sessions.{texts_more}
use Rattle.bz_cli_several.specs.Fates.{added, tally_text}
use Rattle.bz_cli_several.specs.Each.{ChecksEach}
use Rattle.bz_cli_several.specs.Holding.{asked_of}
use Rattle.bz_cli_several.proofs.Lines.{ToldSo, named_at, stops_at, stops_last, told_all, told_apart, told_more, told_none}
use Rattle.bz_cli_several.proofs.Tallies.{tally_more}
use Rattle.bz_cli_several.proofs.several.check_all.Goals as goal

pub loop-name-init : goal.loop-name-init
loop-name-init g c = record { holds = c.requires; told = ([], refl, told_none _ _ _ _ _) }

pub returns-in-Err : goal.returns-in-Err
returns-in-Err g c =
    let i = c.loop-name.name-index in let names = c.args.names.now in
    let (fates, tallied, so) = c.loop-name.invariant.told in
    stops_at (asked_of c.args.judge.now) (g.X.Traces.text c.args.traces.now) (texts names) (texts (take i names)) _ (texts (drop (suc i) names)) c.args.judge.now.json _ _ _ fates c.in-Err.fault (named_at names i _ c.loop-name-test.true) so (rw c.in-Err.is at c.check_one.ensures.checks)

pub loop-name-preserved : goal.loop-name-preserved
loop-name-preserved g c =
    let asked = asked_of c.args.judge.now in let read = g.X.Traces.text c.args.traces.now in
    let i = c.loop-name.name-index in let names = c.args.names.now in
    let (fates, tallied, so) = c.loop-name.invariant.told in record {
      holds = c.check_one.ensures.holds;
      told = (
        fates ++ c.in-Ok.fate ∷ [],
        c.add.ensures ∙ (ap (λ tally. added tally c.in-Ok.fate) tallied ∙ tally_more fates c.in-Ok.fate),
        subst (λ (ns : List (List ℕ)). ToldSo asked read (texts names) ns c.args.judge.now.json (g.W.Write.contents c.args.output.now) (g.W.Write.contents c.check_one.new.output) (fates ++ c.in-Ok.fate ∷ [])) (sym (texts_more names i _ c.loop-name-test.true))
            (told_more asked read (texts names) (texts (take i names)) c.args.judge.now.json _ _ _ fates _ c.in-Ok.fate so (rw c.in-Ok.is at c.check_one.ensures.checks)),
      );
    }

pub returns-then-judge : goal.returns-then-judge
returns-then-judge g c =
    let i = c.loop-name.name-index in let names = c.args.names.now in
    let asked = asked_of c.args.judge.now in let read = g.X.Traces.text c.args.traces.now in
    let old = g.W.Write.contents c.args.output.now in let mid = g.W.Write.contents c.loop-name.output in
    let (fates, tallied, so) = c.loop-name.invariant.told in
    subst (λ status. ChecksEach asked read (texts names) c.args.judge.now.json old mid (Ok status)) (sym (ap (λ tally. tally.status) tallied))
    (told_apart asked read (texts names) c.args.judge.now.json old mid mid fates (subst (λ ns. ToldSo asked read (texts names) (texts ns) c.args.judge.now.json old mid fates) (take_all i names c.loop-name-test.false) so) c.if-judge.true)

pub returns-in-Ok-put_tally : goal.returns-in-Ok-put_tally
returns-in-Ok-put_tally g c =
    let i = c.loop-name.name-index in let names = c.args.names.now in
    let asked = asked_of c.args.judge.now in let read = g.X.Traces.text c.args.traces.now in
    let old = g.W.Write.contents c.args.output.now in let mid = g.W.Write.contents c.loop-name.output in let new = g.W.Write.contents c.put_tally.new.output in
    let (fates, tallied, so) = c.loop-name.invariant.told in
    subst (λ status. ChecksEach asked read (texts names) c.args.judge.now.json old new (Ok status)) (sym (ap (λ tally. tally.status) tallied))
    (told_all asked read (texts names) c.args.judge.now.json old mid new fates (length names) (subst (λ ns. ToldSo asked read (texts names) (texts ns) c.args.judge.now.json old mid fates) (take_all i names c.loop-name-test.false) so) (sym (length-map names (λ name. name.now)))
    (subst (λ tally. Appends mid new (tally_text (length names) tally)) tallied (rw c.in-Ok-put_tally.is at c.put_tally.ensures)))

pub returns-in-Err-put_tally : goal.returns-in-Err-put_tally
returns-in-Err-put_tally g c =
    let i = c.loop-name.name-index in let names = c.args.names.now in
    let asked = asked_of c.args.judge.now in let read = g.X.Traces.text c.args.traces.now in
    let old = g.W.Write.contents c.args.output.now in let mid = g.W.Write.contents c.loop-name.output in let new = g.W.Write.contents c.put_tally.new.output in
    let (fates, tallied, so) = c.loop-name.invariant.told in
    stops_last asked read (texts names) c.args.judge.now.json old mid new fates (length names) c.in-Err-put_tally.fault (subst (λ ns. ToldSo asked read (texts names) (texts ns) c.args.judge.now.json old mid fates) (take_all i names c.loop-name-test.false) so) (sym (length-map names (λ name. name.now)))
    (subst (λ tally. (c.in-Err-put_tally.fault ≡ Write) × AppendsSome mid new (tally_text (length names) tally)) tallied (rw c.in-Err-put_tally.is at c.put_tally.ensures))

use Rattle.std.proofs.Common.{◌≡◌, ◌<◌, inl, inr, refl, sym, subst, arith}
use Rattle.bz_net.specs.Progress.{Progress}
use Rattle.bz_trace_text.proofs.Texts.{line_shorter}
use Rattle.bz_trace_text.specs.declared.text.TheConstants.{MAX_ENTRIES}
use Rattle.bz_trace.specs.Following.{FollowsFront}
use Rattle.bz_trace.specs.Watching.{Shows}
use Rattle.bz_trace.specs.declared.lines.Followed.{Followed}
use Rattle.bz_trace.proofs.Along.{follows_one, gets_on_more, within}
use Rattle.bz_trace.proofs.Showing.{shows_one}
use Rattle.bz_trace.proofs.foretelling.play_foretold.Goals as goal

pub loop-followed-init : goal.loop-followed-init
loop-followed-init g c =
    let (w, past, before, f) = c.requires in
    record { follows = λ w past before f. f; gets_on = inl (refl, refl); within = within c.args.names.now w past c.args.net.now before c.args.text.now c.args.from f; shows = λ w past before s. s }

pub follow_foretold-requires-clause-is : goal.follow_foretold-requires-clause-is
follow_foretold-requires-clause-is g c =
    let l = c.loop-followed in
    let (w, past, before, f) = c.requires in
    (w, past, before, l.invariant.follows w past before f)

pub loop-followed-smaller : goal.loop-followed-smaller
loop-followed-smaller g c =
    let l = c.loop-followed in
    let front : FollowsFront c.args.names.now l.net c.follow_foretold.new.net l.rest.now c.in-Some.after.now l.followed c.follow_foretold.new.followed = rw c.in-Some.is at c.follow_foretold.ensures.some in
    line_shorter c.args.names.now l.rest.now front.0 c.in-Some.after.now front.1

pub loop-followed-preserved : goal.loop-followed-preserved
loop-followed-preserved g c =
    let l = c.loop-followed in let fewer : l.followed.count < MAX_ENTRIES = c.loop-followed-test.true in
    let front : FollowsFront c.args.names.now l.net c.follow_foretold.new.net l.rest.now c.in-Some.after.now l.followed c.follow_foretold.new.followed = rw c.in-Some.is at c.follow_foretold.ensures.some in
    let one = front.2 in let is = one.count_is in
    let on = gets_on_more c.args.from l.followed.count c.args.text.now l.rest.now c.in-Some.after.now l.invariant.gets_on (line_shorter c.args.names.now l.rest.now front.0 c.in-Some.after.now front.1) in
    record {
      follows = λ w past before f. follows_one c.args.names.now w past l.net c.follow_foretold.new.net before l.rest.now c.in-Some.after.now l.followed c.follow_foretold.new.followed (l.invariant.follows w past before f) fewer front;
      gets_on = inr (let more = on.0 in omega (arith, more, is), on.1);
      within = omega (arith, fewer, is);
      shows = λ w past before s. shows_one g.S.Watch.behind c.args.names.now w past l.net c.follow_foretold.new.net before l.rest.now c.in-Some.after.now l.followed c.follow_foretold.new.followed l.watch c.follow_foretold.new.watch (l.invariant.shows w past before s) fewer front (rw c.in-Some.is at c.follow_foretold.ensures.shows);
    }

pub returns-in_default-clause-shows : goal.returns-in_default-clause-shows
returns-in_default-clause-shows g c w past before s =
    let l = c.loop-followed in
    let same : c.follow_foretold.new.watch ≡ l.watch = rw c.in_default.is at c.follow_foretold.ensures.shows in
    let none = rw c.in_default.is at c.follow_foretold.ensures.none in
    let net = none.0 in
    let followed = none.1 in
    subst (λ (n : Progress). Shows g.S.Watch.behind c.args.names.now w past n before l.rest.now c.follow_foretold.new.followed c.follow_foretold.new.watch) (sym net)
    (subst (λ (f : Followed). Shows g.S.Watch.behind c.args.names.now w past l.net before l.rest.now f c.follow_foretold.new.watch) (sym followed)
    (subst (λ n. Shows g.S.Watch.behind c.args.names.now w past l.net before l.rest.now l.followed n) (sym same) (l.invariant.shows w past before s)))

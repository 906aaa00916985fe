use Rattle.std.proofs.Common.{◌≡◌, ◌<◌, ◌≢◌, inl, inr, refl, sym, subst, arith}
use Rattle.bz_trace_text.proofs.Texts.{line_shorter}
use Rattle.bz_trace_text.specs.declared.text.TheConstants.{MAX_ENTRIES}
use Rattle.bz_net.specs.Progress.{Progress}
use Rattle.bz_trace.specs.Following.{FollowsFront}
use Rattle.bz_trace.specs.Watching.{Shows}
use Rattle.bz_trace.specs.declared.lines.Followed.{Followed}
use Rattle.bz_trace.proofs.Along.{below, follows_one, gets_on_more, gets_on_then, no_longer, within}
use Rattle.bz_trace.proofs.Showing.{shows_one}
use Rattle.bz_trace.proofs.lines.play_lines.Goals as goal

pub loop-followed-init : goal.loop-followed-init
loop-followed-init g c =
    let (w, past, before, f) = c.requires in
    record { follows = λ w past before f. f; gets_on = inl (refl, refl); within = within c.args.names.now w past c.args.net.now before c.args.text.now c.args.from f; shows = λ w past before s. s }

pub play_asked-behind-requires : goal.play_asked-behind-requires
play_asked-behind-requires g c =
    let l = c.loop-followed in
    let (w, past, before, f) = c.requires in
    (w, past, before, l.invariant.follows w past before f)

pub follow_front-requires-clause-is : goal.follow_front-requires-clause-is
follow_front-requires-clause-is g c =
    let l = c.loop-followed in
    let (w, past, before, f) = c.requires in
    (w, past, before, c.play_asked-behind.ensures.follows w past before (l.invariant.follows w past before f))

pub follow_front-requires-clause-fewer : goal.follow_front-requires-clause-fewer
follow_front-requires-clause-fewer g c =
    let l = c.loop-followed in
    let (w, past, before, f) = c.requires in
    let most = within c.args.names.now w past c.play_asked-behind.new.net before c.play_asked-behind.result.now c.play_asked-behind.new.followed (c.play_asked-behind.ensures.follows w past before (l.invariant.follows w past before f)) in
    let fewer : c.play_asked-behind.new.followed.count ≢ MAX_ENTRIES = c.if-followed-eq-MAX_ENTRIES.false in
    below c.play_asked-behind.new.followed.count MAX_ENTRIES most fewer

pub loop-followed-smaller : goal.loop-followed-smaller
loop-followed-smaller g c =
    let l = c.loop-followed in let asked = c.play_asked-behind in
    let front : FollowsFront c.args.names.now asked.new.net c.follow_front.new.net asked.result.now c.in-Some.after.now asked.new.followed c.follow_front.new.followed = rw c.in-Some.is at c.follow_front.ensures.some in
    let shorter = line_shorter c.args.names.now asked.result.now front.0 c.in-Some.after.now front.1 in
    let no_more = no_longer l.followed asked.new.followed l.rest.now asked.result.now asked.ensures.gets_on in
    omega (arith, shorter, no_more)

pub loop-followed-preserved : goal.loop-followed-preserved
loop-followed-preserved g c =
    let l = c.loop-followed in let asked = c.play_asked-behind in let now = asked.new.followed in let behind = asked.result.now in
    let (w0, past0, before0, f0) = c.requires in
    let most = within c.args.names.now w0 past0 asked.new.net before0 behind now (asked.ensures.follows w0 past0 before0 (l.invariant.follows w0 past0 before0 f0)) in
    let fewer : now.count < MAX_ENTRIES = below now.count MAX_ENTRIES most c.if-followed-eq-MAX_ENTRIES.false in
    let front : FollowsFront c.args.names.now asked.new.net c.follow_front.new.net behind c.in-Some.after.now now c.follow_front.new.followed = rw c.in-Some.is at c.follow_front.ensures.some in
    let one = front.2 in let is = one.count_is in
    let before_it = gets_on_then c.args.from l.followed now c.args.text.now l.rest.now behind l.invariant.gets_on asked.ensures.gets_on in
    let on = gets_on_more c.args.from now.count c.args.text.now behind c.in-Some.after.now before_it (line_shorter c.args.names.now behind front.0 c.in-Some.after.now front.1) in
    record {
      follows = λ w past before f. follows_one c.args.names.now w past asked.new.net c.follow_front.new.net before behind c.in-Some.after.now now c.follow_front.new.followed (asked.ensures.follows w past before (l.invariant.follows w past before f)) fewer front;
      gets_on = inr (let more = on.0 in omega (arith, more, is), on.1);
      within = omega (arith, fewer, is);
      shows = λ w past before s. shows_one g.S.Watch.behind c.args.names.now w past asked.new.net c.follow_front.new.net before behind c.in-Some.after.now now c.follow_front.new.followed asked.new.watch c.follow_front.new.watch (asked.ensures.shows w past before (l.invariant.shows w past before s)) fewer front (rw c.in-Some.is at c.follow_front.ensures.shows);
    }

pub returns-then-followed-eq-MAX_ENTRIES-clause-shows : goal.returns-then-followed-eq-MAX_ENTRIES-clause-shows
returns-then-followed-eq-MAX_ENTRIES-clause-shows g c w past before s =
    c.play_asked-behind.ensures.shows w past before (c.loop-followed.invariant.shows w past before s)

pub returns-in_default-clause-shows : goal.returns-in_default-clause-shows
returns-in_default-clause-shows g c w past before s =
    let asked = c.play_asked-behind in
    let same : c.follow_front.new.watch ≡ asked.new.watch = rw c.in_default.is at c.follow_front.ensures.shows in
    let none = rw c.in_default.is at c.follow_front.ensures.none in
    let net = none.1 in
    let followed = none.2 in
    let shows = asked.ensures.shows w past before (c.loop-followed.invariant.shows w past before s) in
    subst (λ (n : Progress). Shows g.S.Watch.behind c.args.names.now w past n before asked.result.now c.follow_front.new.followed c.follow_front.new.watch) (sym net)
    (subst (λ (f : Followed). Shows g.S.Watch.behind c.args.names.now w past asked.new.net before asked.result.now f c.follow_front.new.watch) (sym followed)
    (subst (λ n. Shows g.S.Watch.behind c.args.names.now w past asked.new.net before asked.result.now asked.new.followed n) (sym same) shows))

use Rattle.std.proofs.Common.{◌≡◌, ℕ, List, length, inl, inr, ap, subst, sym, ◌∙◌, arith}
use Rattle.bz_trace.specs.Following.{GetsOn}
use Rattle.bz_trace.specs.Watching.{Shows}
use Rattle.bz_trace.specs.declared.lines.Followed.{Followed}
use Rattle.bz_trace.proofs.reading.follow_held.Goals as goal

-- what is no shorter is the same
rest_same : (from now : Followed) (text rest held : List ℕ) → GetsOn from now text rest → text ≡ held → length rest ≡ length held → rest ≡ held
rest_same from now text rest held (inl one) is long = one.1 ∙ is
rest_same from now text rest held (inr more) is long =
    let less = more.1 in
    let same = ap length is in
    absurd (omega (arith, less, same, long))

pub returns-then-rest-len-clause-shows : goal.returns-then-rest-len-clause-shows
returns-then-rest-len-clause-shows g c w past text s =
    let long : length c.play_lines.result.1.now ≡ length c.args.held.now.items = omega (arith, c.if-rest-len.true, c.len.ensures) in
    subst (λ rest. Shows g.S.Watch.behind c.args.names.now w past c.play_lines.new.net text rest c.play_lines.result.0 c.play_lines.new.watch)
    (rest_same c.args.from c.play_lines.result.0 _ _ _ c.play_lines.ensures.gets_on c.as_slice.ensures.value long)
    (c.play_lines.ensures.shows w past text (subst (λ held. Shows g.S.Watch.behind c.args.names.now w past c.args.net.now text held c.args.from c.args.watch.now) (sym c.as_slice.ensures.value) s))

pub returns-clause-shows : goal.returns-clause-shows
returns-clause-shows g c w past text s =
    subst (λ rest. Shows g.S.Watch.behind c.args.names.now w past c.play_lines.new.net text rest c.play_lines.result.0 c.play_lines.new.watch) (sym c.in_ok-kept.ensures.items)
    (c.play_lines.ensures.shows w past text (subst (λ held. Shows g.S.Watch.behind c.args.names.now w past c.args.net.now text held c.args.from c.args.watch.now) (sym c.as_slice.ensures.value) s))

use Rattle.std.proofs.Common.{◌≡◌, ◌++◌, ◌∙◌, ℕ, true, false, List, refl, rules, sym, subst, arith}
use Rattle.bz_trace.specs.Following.{FollowsText, NoneToFollow}
use Rattle.bz_trace.proofs.Along.{somewhere, wiring_is, within}
use Rattle.bz_trace.proofs.Streams.{falls, none_came, some_came, too_long}
use Rattle.bz_trace.proofs.Showing.{never_shown, shown_at_end, shown_on, shown_start}
use Rattle.bz_trace.proofs.Early.{bad_to, end_to, stop_to}
use Rattle.bz_trace.proofs.reading.check_lines_of.Goals as goal

pub following-init : goal.following-init
following-init g c = shown_start g.S.Watch.behind _ c.args.names.now c.args.net.now.wiring c.args.net.now c.args.front.items c.args.watch.now c.requires.names c.requires.wired c.requires.room

pub overflow_add-followed : goal.overflow_add-followed
overflow_add-followed g c =
    let l = c.following in
    let text = c.args.front.items ++ l.invariant.so.got in
    let (past, behind) = c.requires.stands in
    let most = within c.args.names.now c.args.net.now.wiring past c.follow_held.new.net text c.follow_held.new.held.items c.in_ok-followed.followed (c.in_ok-followed.ensures.follows c.args.net.now.wiring past text (l.invariant.so.follows past behind)) in
    omega (arith, most)

pub overflow_add-result : goal.overflow_add-result
overflow_add-result g c =
    let l = c.following in
    let text = c.args.front.items ++ l.invariant.so.got in
    let (past, behind) = c.requires.stands in
    let most = within c.args.names.now c.args.net.now.wiring past c.follow_held.new.net text c.follow_held.new.held.items c.in_ok-followed.followed (c.in_ok-followed.ensures.follows c.args.net.now.wiring past text (l.invariant.so.follows past behind)) in
    omega (arith, most)

pub returns-then-is_other-clause-concludes : goal.returns-then-is_other-clause-concludes
returns-then-is_other-clause-concludes g c past behind =
    let l = c.following in
    let text = c.args.front.items ++ l.invariant.so.got in
    let other = rw c.as_slice.ensures.value at (c.if-is_other.ensures.other refl) in
    bad_to c.args.to_first c.args.is_last _ _ c.args.names.now c.args.net.now.wiring past c.follow_held.new.net c.args.version c.args.front.items l.invariant.so.got c.follow_held.new.held.items c.in_ok-followed.followed l.invariant.so.taken (c.in_ok-followed.ensures.follows c.args.net.now.wiring past text (l.invariant.so.follows past behind)) c.in_ok-followed.ensures.no_more other c.in_default.ensures

pub returns-then-is_other-clause-wiring : goal.returns-then-is_other-clause-wiring
returns-then-is_other-clause-wiring g c =
    let l = c.following in
    let text = c.args.front.items ++ l.invariant.so.got in
    let (past, behind) = c.requires.stands in
    wiring_is c.args.names.now c.args.net.now.wiring past c.follow_held.new.net text c.follow_held.new.held.items c.in_ok-followed.followed (c.in_ok-followed.ensures.follows c.args.net.now.wiring past text (l.invariant.so.follows past behind))

pub returns-then-not-branch-clause-wiring : goal.returns-then-not-branch-clause-wiring
returns-then-not-branch-clause-wiring g c =
    let l = c.following in
    let text = c.args.front.items ++ l.invariant.so.got in
    let (past, behind) = c.requires.stands in
    let never : c.in_ok-read_lines.field-0 ≡ false = search rules in
    let none = none_came _ _ _ _ _ c.in_ok-read_lines.field-0 never c.in_ok-read_lines.ensures.more in
    let follows = c.in_ok-followed.ensures.follows c.args.net.now.wiring past text (l.invariant.so.follows past behind) in
    let here = subst (λ (r : List ℕ). FollowsText c.args.names.now c.args.net.now.wiring past c.follow_held.new.net text r c.in_ok-followed.followed) (sym (c.as_slice-then-not-branch.ensures.value ∙ none.1)) follows in
    wiring_is c.args.names.now c.args.net.now.wiring past c.verdict_behind-verdict.new.net text _ c.in_ok-followed.followed (c.verdict_behind-verdict.ensures.follows c.args.net.now.wiring past text here)

pub verdict_behind-verdict-requires-clause-followed : goal.verdict_behind-verdict-requires-clause-followed
verdict_behind-verdict-requires-clause-followed g c =
    let l = c.following in
    let text = c.args.front.items ++ l.invariant.so.got in
    let (past, behind) = c.requires.stands in
    let never : c.in_ok-read_lines.field-0 ≡ false = search rules in
    let none = none_came _ _ _ _ _ c.in_ok-read_lines.field-0 never c.in_ok-read_lines.ensures.more in
    let follows = c.in_ok-followed.ensures.follows c.args.net.now.wiring past text (l.invariant.so.follows past behind) in
    (c.args.net.now.wiring, past, text, subst (λ (r : List ℕ). FollowsText c.args.names.now c.args.net.now.wiring past c.follow_held.new.net text r c.in_ok-followed.followed) (sym (c.as_slice-then-not-branch.ensures.value ∙ none.1)) follows)

pub returns-then-not-branch-clause-concludes : goal.returns-then-not-branch-clause-concludes
returns-then-not-branch-clause-concludes g c past behind =
    let l = c.following in
    let text = c.args.front.items ++ l.invariant.so.got in
    let never : c.in_ok-read_lines.field-0 ≡ false = search rules in
    let none = none_came _ _ _ _ _ c.in_ok-read_lines.field-0 never c.in_ok-read_lines.ensures.more in
    let follows = c.in_ok-followed.ensures.follows c.args.net.now.wiring past text (l.invariant.so.follows past behind) in
    let here = subst (λ (r : List ℕ). FollowsText c.args.names.now c.args.net.now.wiring past c.follow_held.new.net text r c.in_ok-followed.followed) (sym (c.as_slice-then-not-branch.ensures.value ∙ none.1)) follows in
    let no_more = subst (λ (r : List ℕ). NoneToFollow c.args.names.now r c.in_ok-followed.followed) (sym (c.as_slice-then-not-branch.ensures.value ∙ none.1)) c.in_ok-followed.ensures.no_more in
    end_to c.args.to_first c.args.is_last _ _ _ c.args.names.now c.args.net.now.wiring past c.verdict_behind-verdict.new.net c.args.version c.args.front.items l.invariant.so.got _ c.in_ok-followed.followed l.invariant.so.taken none.0 none.2 (c.verdict_behind-verdict.ensures.follows c.args.net.now.wiring past text here) no_more c.in_default.ensures c.verdict_behind-verdict.result (c.verdict_behind-verdict.ensures.verdict c.args.net.now.wiring past text here)

pub following-smaller : goal.following-smaller
following-smaller g c =
    let l = c.following in
    let text = c.args.front.items ++ l.invariant.so.got in
    let (past, behind) = c.requires.stands in
    let so : c.in_ok-read_lines.field-0 ≡ true = search rules in
    let came = some_came _ _ _ _ _ c.in_ok-read_lines.field-0 so c.in_ok-read_lines.ensures.more in
    let most = within c.args.names.now c.args.net.now.wiring past c.follow_held.new.net text c.follow_held.new.held.items c.in_ok-followed.followed (c.in_ok-followed.ensures.follows c.args.net.now.wiring past text (l.invariant.so.follows past behind)) in
    falls l.followed c.in_ok-followed.followed l.held.items c.follow_held.new.held.items came.0 c.read_lines.new.held.items c.in_ok-followed.ensures.gets_on came.2 came.3 (omega (arith, c.if-len-gt-MOST_HELD.false, c.len.ensures)) most

pub following-preserved : goal.following-preserved
following-preserved g c =
    let l = c.following in
    let text = c.args.front.items ++ l.invariant.so.got in
    let so : c.in_ok-read_lines.field-0 ≡ true = search rules in
    shown_on g.S.Watch.behind _ _ _ c.args.names.now c.args.net.now.wiring c.args.net.now c.follow_held.new.net c.args.front.items l.invariant.so.got l.held.items c.follow_held.new.held.items c.read_lines.new.held.items _ c.in_ok-read_lines.field-0 c.in_ok-followed.followed c.args.watch.now c.follow_held.new.watch so c.in_ok-read_lines.ensures.more l.invariant.so.taken (λ past behind. c.in_ok-followed.ensures.follows c.args.net.now.wiring past text (l.invariant.so.follows past behind)) (λ past behind has. c.in_ok-followed.ensures.shows c.args.net.now.wiring past text (l.invariant.shows past behind has))

pub returns-then-len-gt-MOST_HELD-clause-long : goal.returns-then-len-gt-MOST_HELD-clause-long
returns-then-len-gt-MOST_HELD-clause-long g c is =
    let l = c.following in
    let text = c.args.front.items ++ l.invariant.so.got in
    let (past, behind) = c.requires.stands in
    let awaits = rw c.as_slice.ensures.value at (c.if-is_other.ensures.none refl) in
    too_long _ _ c.args.names.now c.args.net.now.wiring past c.follow_held.new.net c.args.version c.args.front.items l.invariant.so.got c.follow_held.new.held.items c.in_ok-followed.followed l.invariant.so.taken (c.in_ok-followed.ensures.follows c.args.net.now.wiring past text (l.invariant.so.follows past behind)) (omega (arith, c.if-len-gt-MOST_HELD.true, c.len.ensures)) awaits

pub returns-in-Some-clause-concludes : goal.returns-in-Some-clause-concludes
returns-in-Some-clause-concludes g c past behind =
    let l = c.following in
    let text = c.args.front.items ++ l.invariant.so.got in
    stop_to c.args.to_first c.args.is_last _ _ c.args.names.now c.args.net.now.wiring past c.follow_held.new.net c.args.version c.args.front.items l.invariant.so.got c.follow_held.new.held.items c.in_ok-followed.followed l.invariant.so.taken (c.in_ok-followed.ensures.follows c.args.net.now.wiring past text (l.invariant.so.follows past behind)) c.in-Some.line c.in-Some.ensures.1

pub returns-in-Some-clause-wiring : goal.returns-in-Some-clause-wiring
returns-in-Some-clause-wiring g c =
    let l = c.following in
    let text = c.args.front.items ++ l.invariant.so.got in
    let (past, behind) = c.requires.stands in
    wiring_is c.args.names.now c.args.net.now.wiring past c.follow_held.new.net text c.follow_held.new.held.items c.in_ok-followed.followed (c.in_ok-followed.ensures.follows c.args.net.now.wiring past text (l.invariant.so.follows past behind))

pub follow_held-requires : goal.follow_held-requires
follow_held-requires g c =
    let l = c.following in
    let text = c.args.front.items ++ l.invariant.so.got in
    let (past, behind) = c.requires.stands in
    (c.args.net.now.wiring, past, text, l.invariant.so.follows past behind)

pub returns-in-Some-clause-stands : goal.returns-in-Some-clause-stands
returns-in-Some-clause-stands g c =
    let l = c.following in
    let text = c.args.front.items ++ l.invariant.so.got in
    let (past, behind) = c.requires.stands in
    somewhere c.args.names.now c.args.net.now.wiring past c.follow_held.new.net text c.follow_held.new.held.items c.in_ok-followed.followed (c.in_ok-followed.ensures.follows c.args.net.now.wiring past text (l.invariant.so.follows past behind))

pub returns-then-is_other-clause-stands : goal.returns-then-is_other-clause-stands
returns-then-is_other-clause-stands g c =
    let l = c.following in
    let text = c.args.front.items ++ l.invariant.so.got in
    let (past, behind) = c.requires.stands in
    somewhere c.args.names.now c.args.net.now.wiring past c.follow_held.new.net text c.follow_held.new.held.items c.in_ok-followed.followed (c.in_ok-followed.ensures.follows c.args.net.now.wiring past text (l.invariant.so.follows past behind))

pub returns-then-not-branch-clause-stands : goal.returns-then-not-branch-clause-stands
returns-then-not-branch-clause-stands g c =
    let l = c.following in
    let text = c.args.front.items ++ l.invariant.so.got in
    let (past, behind) = c.requires.stands in
    let never : c.in_ok-read_lines.field-0 ≡ false = search rules in
    let none = none_came _ _ _ _ _ c.in_ok-read_lines.field-0 never c.in_ok-read_lines.ensures.more in
    let follows = c.in_ok-followed.ensures.follows c.args.net.now.wiring past text (l.invariant.so.follows past behind) in
    let here = subst (λ (r : List ℕ). FollowsText c.args.names.now c.args.net.now.wiring past c.follow_held.new.net text r c.in_ok-followed.followed) (sym (c.as_slice-then-not-branch.ensures.value ∙ none.1)) follows in
    somewhere c.args.names.now c.args.net.now.wiring past c.verdict_behind-verdict.new.net text _ c.in_ok-followed.followed (c.verdict_behind-verdict.ensures.follows c.args.net.now.wiring past text here)

pub returns-then-not-branch-clause-shows : goal.returns-then-not-branch-clause-shows
returns-then-not-branch-clause-shows g c past behind has =
    let l = c.following in
    let text = c.args.front.items ++ l.invariant.so.got in
    let never : c.in_ok-read_lines.field-0 ≡ false = search rules in
    let none = none_came _ _ _ _ _ c.in_ok-read_lines.field-0 never c.in_ok-read_lines.ensures.more in
    shown_at_end g.S.Watch.behind _ _ _ c.args.names.now c.args.net.now.wiring past c.follow_held.new.net c.args.front.items l.invariant.so.got c.follow_held.new.held.items c.in_ok-followed.followed c.follow_held.new.watch c.verdict_behind-verdict.result l.invariant.so.taken none.0 none.2 (c.in_ok-followed.ensures.shows c.args.net.now.wiring past text (l.invariant.shows past behind has)) c.in_ok-followed.ensures.no_more c.verdict_behind-verdict.ensures.runs

pub returns-then-is_other-clause-shows : goal.returns-then-is_other-clause-shows
returns-then-is_other-clause-shows g c past behind has = never_shown _ _ (λ is. let e = is in cc)

pub returns-in-Some-clause-shows : goal.returns-in-Some-clause-shows
returns-in-Some-clause-shows g c past behind has = never_shown _ _ (λ is. let e = is in cc)

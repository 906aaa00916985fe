use Rattle.std.proofs.Common.{ap, subst, sym}
use Rattle.bz_net.specs.Progress.{Progress}
use Rattle.bz_trace.specs.Following.{FollowsText}
use Rattle.bz_trace.proofs.Listing.{follows_listed}
use Rattle.bz_trace.proofs.checking.verdict_behind.Goals as goal

pub verdict_listed-requires-clause-listed : goal.verdict_listed-requires-clause-listed
verdict_listed-requires-clause-listed c = ap (λ (p : Progress). p.listed) c.list_clashes.ensures

pub verdict_listed-requires-clause-followed : goal.verdict_listed-requires-clause-followed
verdict_listed-requires-clause-followed c =
    let (w, past, text, f) = c.requires.followed in (
      w,
      past,
      text,
      subst (λ (p : Progress). FollowsText c.args.names.now w past p text c.args.rest.now c.args.followed) (sym c.list_clashes.ensures)
          (follows_listed c.args.names.now w past c.args.net.now text c.args.rest.now c.args.followed f),
    )

pub returns-clause-follows : goal.returns-clause-follows
returns-clause-follows c w past text f =
    subst (λ (p : Progress). FollowsText c.args.names.now w past p text c.args.rest.now c.args.followed) (sym c.list_clashes.ensures)
    (follows_listed c.args.names.now w past c.args.net.now text c.args.rest.now c.args.followed f)

pub returns-clause-verdict : goal.returns-clause-verdict
returns-clause-verdict c w past text f =
    c.verdict_listed.ensures.verdict w past text (subst (λ (p : Progress). FollowsText c.args.names.now w past p text c.args.rest.now c.args.followed) (sym c.list_clashes.ensures)
    (follows_listed c.args.names.now w past c.args.net.now text c.args.rest.now c.args.followed f))

use Rattle.std.proofs.Common.{false, ◌≡◌, List, ◌+◌, map, length, vec_len, refl, sym, ap, subst, ◌∙◌, arith}
use Rattle.std.specs.declared.alloc.Global.{Global}
use Rattle.std.specs.declared.vec.Vec.{Vec}
use Rattle.bz_model.specs.declared.event.Who.TheVariants.{Host, Worker}
use Rattle.bz_locked.specs.Closing.{Agrees, Gathers}
use Rattle.bz_locked.specs.Journal.{part_of, firings}
use Rattle.bz_locked.specs.Parts.{SessionView, WorkerView}
use Rattle.bz_past.specs.Moments.{moment}
use Rattle.bz_past.specs.Owners.{AreNamed}
use Rattle.bz_past.specs.Stopping.{HasCause}
use Rattle.bz_past.specs.declared.standing.Turn.{Turn}
use Rattle.bz_past.specs.declared.view.Moment.{Moment}
use Rattle.bz_locked.specs.declared.closing.Closed.{Closed}
use Rattle.bz_pool.specs.declared.playing.End.{End}
use Rattle.bz_pool.specs.Crews.{HavePlayed}
use Rattle.bz_pool.specs.Pooled.{ArePlayed, IsPooled, RefusesPool}
use Rattle.bz_pool.proofs.Played.{all_played, ends_count, of_never, of_ok, unused}
use Rattle.bz_pool.proofs.Pooling.{named, told}
use Rattle.bz_pool.proofs.pool.pool.Goals as goal

pub returns-in-Ok-in_scope-clause-pooled : goal.returns-in-Ok-in_scope-clause-pooled
returns-in-Ok-in_scope-clause-pooled g c =
    let crew = c.in-Ok-in_scope.crew in
    let whos = c.in-Ok-in_scope.ensures.who in
    let made = c.in-Ok.ensures in
    let t = g.L.NetLedger.terms in
    let count : c.len.result ≡ t.sessions = c.len.ensures ∙ c.requires.opening.3 in
    of_ok
    (λ (r : Closed × Vec End Global). Gathers t false crew.sessions.items crew.workers.items r.0)
    (λ (r : Closed × Vec End Global). Agrees crew.sessions.items crew.workers.items r.0)
    (λ (r : Closed × Vec End Global). IsPooled t c.args.workers r.0)
    c.close.result
    (λ r gathers agrees. let journal = r.0.net.journal in record {
      opened = gathers.opened;
      limited = gathers.limited;
      run = gathers.run;
      records =
          gathers.records
          ∙ told (λ (s : SessionView). s.who) (λ s. s.own) (λ who. part_of who journal) crew.sessions.items agrees.records
          ∙ ap (map (λ who. part_of who journal)) (whos.0 ∙ named (λ (s : SessionView). s.who) Host _ 0 t.sessions (omega (arith, made.sessions.0, count)) (λ k d lt. let e : k + 1 ≡ 0 + (k + 1) = omega arith in ap (λ (s : SessionView). s.who) (made.sessions.1 k d (omega (arith, lt, count))) ∙ ap Host e));
      shares =
          gathers.shares
          ∙ told (λ (v : WorkerView). v.who) (λ v. v.fired) (λ who. firings who journal) crew.workers.items agrees.shares
          ∙ ap (map (λ who. firings who journal)) (whos.1 ∙ named (λ (v : WorkerView). v.who) Worker _ 0 c.args.workers (omega (arith, made.workers.0)) (λ k d lt. let e : k + 1 ≡ 0 + (k + 1) = omega arith in ap (λ (v : WorkerView). v.who) (made.workers.1 k d lt) ∙ ap Worker e));
      front = agrees.front;
      ledger = gathers.ledger;
      within = gathers.within;
    })
    c.close.ensures.gathers
    c.close.ensures.agrees

pub returns-in-Ok-in_scope-clause-played : goal.returns-in-Ok-in_scope-clause-played
returns-in-Ok-in_scope-clause-played g c =
    let crew = c.in-Ok-in_scope.crew in
    let made = c.in-Ok.ensures in
    let count : c.len.result ≡ vec_len c.args.lists = c.len.ensures in
    let whos = c.in-Ok-in_scope.ensures.who.0 ∙ named (λ (s : SessionView). s.who) Host _ 0 (length c.args.lists.items) (omega (arith, made.sessions.0, count, c.args.lists.ok.0)) (λ k d lt. let e : k + 1 ≡ 0 + (k + 1) = omega arith in ap (λ (s : SessionView). s.who) (made.sessions.1 k d (omega (arith, lt, count, c.args.lists.ok.0))) ∙ ap Host e) in
    let hosts : length crew.sessions.items ≡ length c.args.lists.items = omega (arith, crew.sessions.ok.0, c.in-Ok-in_scope.ensures.sessions.0, made.sessions.0, count, c.args.lists.ok.0) in
    let hands : length crew.workers.items ≡ c.args.workers = omega (arith, crew.workers.ok.0, c.in-Ok-in_scope.ensures.workers.0, made.workers.0) in
    let t = g.L.NetLedger.terms in
    let have = subst (λ n. HavePlayed t c.args.lists.items crew.sessions.items crew.workers.items n crew.ends.items) made.workers.0 c.in-Ok-in_scope.ensures.played in
    let last : Closed → List Turn → Moment = λ closed turns. moment closed.net closed.stopped turns in
    let Has : Closed × Vec End Global → Type 0 = λ r. Gathers t false crew.sessions.items crew.workers.items r.0 × Agrees crew.sessions.items crew.workers.items r.0 in
    of_ok
    Has
    (λ (r : Closed × Vec End Global). r.1 ≡ crew.ends)
    (λ (r : Closed × Vec End Global). (turns : List Turn) × ArePlayed t c.args.lists.items c.args.workers (last r.0 turns) r.1.items)
    c.close.result
    (λ r has same. (
      has.0.turns,
      subst (λ (es : Vec End Global). ArePlayed t c.args.lists.items c.args.workers (last r.0 has.0.turns) es.items) (sym same)
          (all_played t (last r.0 has.0.turns) c.args.lists.items crew.sessions.items crew.workers.items c.args.workers crew.ends.items whos has.1.records has.0.sessions_saw has.0.workers_saw has.0.stood
          (subst (λ n. AreNamed n c.args.workers r.0.net.journal) hosts (subst (λ n. AreNamed (length crew.sessions.items) n r.0.net.journal) hands has.0.named))
          (λ s. subst (λ n. HasCause n (last r.0 has.0.turns)) hands (unused false _ (last r.0 has.0.turns) refl has.0.why s)) have),
    ))
    (of_ok
    (λ (r : Closed × Vec End Global). Gathers t false crew.sessions.items crew.workers.items r.0)
    (λ (r : Closed × Vec End Global). Agrees crew.sessions.items crew.workers.items r.0)
    Has
    c.close.result
    (λ r gathers agrees. (gathers, agrees))
    c.close.ensures.gathers
    c.close.ensures.agrees)
    c.close.ensures.ends

pub returns-in-Ok-in_scope-clause-ends : goal.returns-in-Ok-in_scope-clause-ends
returns-in-Ok-in_scope-clause-ends g c =
    let crew = c.in-Ok-in_scope.crew in
    let made = c.in-Ok.ensures in
    let count = ends_count g.L.NetLedger.terms c.args.lists.items crew.sessions.items crew.workers.items (vec_len c.in-Ok.made.2) crew.ends.items c.in-Ok-in_scope.ensures.played in
    let number : vec_len crew.ends ≡ vec_len c.args.lists + c.args.workers = omega (arith, count, made.workers.0, c.args.lists.ok.0, crew.ends.ok.0) in
    of_ok
    (λ (r : Closed × Vec End Global). r.1 ≡ crew.ends)
    (λ (r : Closed × Vec End Global). r.1 ≡ crew.ends)
    (λ (r : Closed × Vec End Global). vec_len r.1 ≡ vec_len c.args.lists + c.args.workers)
    c.close.result
    (λ r same again. ap (λ (es : Vec End Global). vec_len es) same ∙ number)
    c.close.ensures.ends
    c.close.ensures.ends

pub in_scope-requires-clause-sessions : goal.in_scope-requires-clause-sessions
in_scope-requires-clause-sessions g c _ _ k d lt =
    let made = c.in-Ok.ensures in
    let is = made.sessions.1 k d (omega (arith, made.sessions.0, lt)) in
    (ap (λ (s : SessionView). s.seat.table) is, ap (λ (s : SessionView). s.own) is, ap (λ (s : SessionView). s.seat.saw.turns) is)

pub in_scope-requires-clause-workers : goal.in_scope-requires-clause-workers
in_scope-requires-clause-workers g c _ _ k d lt =
    let made = c.in-Ok.ensures in
    ap (λ (w : WorkerView). w.seat.table) (made.workers.1 k d (omega (arith, made.workers.0, lt)))

pub returns-in-Ok-in_scope-clause-refused : goal.returns-in-Ok-in_scope-clause-refused
returns-in-Ok-in_scope-clause-refused g c = of_never RefusesPool c.close.result c.close.ensures.never

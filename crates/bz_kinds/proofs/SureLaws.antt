-- A move made by its name.
use Rattle.std.proofs.Common.{◌≡◌, ◌∙◌, ℕ, Option, None, refl, sym, ap, subst, true, IsTrue}
use Rattle.std.proofs.lemmas.Bool.{false≢true}
use Rattle.bz_model.specs.declared.channel.Move.{Move}
use Rattle.bz_model.specs.declared.channel.Move.TheVariants.{Ask, Take, Reply, Got}
use Rattle.bz_model.specs.declared.channel.Phase.{Phase}
use Rattle.bz_model.specs.declared.channel.Phase.TheVariants.{Idle, Asked, Taken, Replied, Broken}
use Rattle.bz_model.specs.declared.expr.Expr.{Expr}
use Rattle.bz_model.specs.Phases.{allows, incoming}
use Rattle.bz_model.specs.Terms.{Store}
use Rattle.bz_model.specs.Heads.{CanMove, Moves, Proc, after_head, carried}
use Rattle.bz_kinds.specs.Riding.{riding}
use Rattle.bz_kinds.specs.Sure.{HasMove}

pub can : (c : Proc) (p : ℕ) (mv : Move) (phase : Phase) → HasMove c p mv → IsTrue (allows phase mv) → CanMove c p phase
can c p mv phase next may = (next.0, next.1, subst (λ (m : Move). IsTrue (allows phase m)) (sym next.2) may)

-- what came in is what rode
came_asked : (mv : Move) (e : Expr) (s : Store) (r : Option ℕ) → mv ≡ Take → carried mv e s (incoming (Asked r) mv) ≡ r
came_asked mv e s r is = subst (λ (m : Move). carried m e s (incoming (Asked r) m) ≡ r) (sym is) refl

came_replied : (mv : Move) (e : Expr) (s : Store) (r : Option ℕ) → mv ≡ Got → carried mv e s (incoming (Replied r) mv) ≡ r
came_replied mv e s r is = subst (λ (m : Move). carried m e s (incoming (Replied r) m) ≡ r) (sym is) refl

pub takes : (c c' : Proc) (p : ℕ) (r v : Option ℕ) → Moves c p (Asked r) Take v c' → Moves c p (Asked r) Take r c'
takes c c' p r v moves = subst (λ (v : Option ℕ). Moves c p (Asked r) Take v c') (moves.value_is ∙ came_asked _ _ _ r (sym moves.move_is)) moves

pub gets : (c c' : Proc) (p : ℕ) (r v : Option ℕ) → Moves c p (Replied r) Got v c' → Moves c p (Replied r) Got r c'
gets c c' p r v moves = subst (λ (v : Option ℕ). Moves c p (Replied r) Got v c') (moves.value_is ∙ came_replied _ _ _ r (sym moves.move_is)) moves

-- nothing comes in with a request or a reply, whatever the phase
none_asked : (phase : Phase) → incoming phase Ask ≡ None
none_asked Idle = refl
none_asked (Asked v) = refl
none_asked Taken = refl
none_asked (Replied v) = refl
none_asked Broken = refl

none_replied : (phase : Phase) → incoming phase Reply ≡ None
none_replied Idle = refl
none_replied (Asked v) = refl
none_replied Taken = refl
none_replied (Replied v) = refl
none_replied Broken = refl

allowed_asked : (phase : Phase) → allows phase Ask ≡ true
allowed_asked Idle = refl
allowed_asked (Asked v) = refl
allowed_asked Taken = refl
allowed_asked (Replied v) = refl
allowed_asked Broken = refl

allowed_replied : (phase : Phase) → allows phase Reply ≡ true
allowed_replied Idle = refl
allowed_replied (Asked v) = refl
allowed_replied Taken = refl
allowed_replied (Replied v) = refl
allowed_replied Broken = refl

-- so such a move is the same in each phase
moves_in : (c c' : Proc) (p : ℕ) (phase other : Phase) (mv : Move) (v : Option ℕ) → incoming other mv ≡ incoming phase mv → IsTrue (allows other mv) → Moves c p phase mv v c' → Moves c p other mv v c'
moves_in c c' p phase other mv v same may moves =
    let at : incoming other moves.head.move ≡ incoming phase moves.head.move = subst (λ (m : Move). incoming other m ≡ incoming phase m) moves.move_is same in
    record {
      head = moves.head;
      on = moves.on;
      move_is = moves.move_is;
      allowed = may;
      value_is = moves.value_is ∙ ap (carried moves.head.move moves.head.gives c.store) (sym at);
      leaves = moves.leaves ∙ ap (after_head c moves.head) (sym at);
    }

pub asks : (c c' : Proc) (p : ℕ) (phase other : Phase) (v : Option ℕ) → Moves c p phase Ask v c' → Moves c p other Ask v c'
asks c c' p phase other v moves = moves_in c c' p phase other Ask v (none_asked other ∙ sym (none_asked phase)) (allowed_asked other) moves

pub replies : (c c' : Proc) (p : ℕ) (phase other : Phase) (v : Option ℕ) → Moves c p phase Reply v c' → Moves c p other Reply v c'
replies c c' p phase other v moves = moves_in c c' p phase other Reply v (none_replied other ∙ sym (none_replied phase)) (allowed_replied other) moves

-- and what comes in is what rides, by the phase
pub takes_in : (c c' : Proc) (p : ℕ) (phase : Phase) (r : Option ℕ) → r ≡ riding phase → IsTrue (allows phase Take) → Moves c p (Asked r) Take r c' → Moves c p phase Take r c'
takes_in c c' p Idle r rides may moves = absurd (false≢true may)
takes_in c c' p (Asked v) r rides may moves = subst (λ (w : Option ℕ). Moves c p (Asked w) Take r c') rides moves
takes_in c c' p Taken r rides may moves = absurd (false≢true may)
takes_in c c' p (Replied v) r rides may moves = absurd (false≢true may)
takes_in c c' p Broken r rides may moves = absurd (false≢true may)

pub gets_in : (c c' : Proc) (p : ℕ) (phase : Phase) (r : Option ℕ) → r ≡ riding phase → IsTrue (allows phase Got) → Moves c p (Replied r) Got r c' → Moves c p phase Got r c'
gets_in c c' p Idle r rides may moves = absurd (false≢true may)
gets_in c c' p (Asked v) r rides may moves = absurd (false≢true may)
gets_in c c' p Taken r rides may moves = absurd (false≢true may)
gets_in c c' p (Replied v) r rides may moves = subst (λ (w : Option ℕ). Moves c p (Replied w) Got r c') rides moves
gets_in c c' p Broken r rides may moves = absurd (false≢true may)

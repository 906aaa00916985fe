-- A component of which each port goes on in turn: it does at its start, and after every move.
use Rattle.std.proofs.Common.{◌≡◌, ◌≢◌, ◌⊎◌, inl, inr, ℕ, zero, suc, ◌<◌, Bool, true, false, Option, Some, List, length, get_or, set, replicate, refl, sym, ap, subst, ◌∙◌}
use Rattle.std.specs.Prelude.{not, ◌==◌}
use Rattle.std.proofs.lemmas.Bool.{cases_eq}
use Rattle.std.proofs.lemmas.List.{get_or-set_same, get_or-set_other}
use Rattle.bz_model.specs.declared.channel.Chan.{Chan}
use Rattle.bz_model.specs.declared.channel.Move.{Move}
use Rattle.bz_model.specs.declared.channel.Phase.{Phase}
use Rattle.bz_model.specs.declared.spans.Span.{Span}
use Rattle.bz_model.specs.declared.kind.Kind.{Kind}
use Rattle.bz_model.specs.declared.kind.Kind.TheVariants.{CaseFetch}
use Rattle.bz_model.specs.Phases.{incoming}
use Rattle.bz_model.specs.Terms.{Store, stored}
use Rattle.bz_model.specs.Heads.{Component, HasOneHead, Moves, Proc, Turns, open_at, opens}
use Rattle.bz_model.specs.Rows.{MeetsRow}
use Rattle.bz_model.specs.Processes.{process, size, slots, start_of}
use Rattle.bz_kinds.proofs.StartLaws.{bounded-sizes}
use Rattle.bz_run_laws.proofs.Alternating.{Port, Runs, after, elsewhere, here, heads, one, tidies}
use Rattle.bz_run_laws.proofs.Steering.{Comes, Steers, comes}
use Rattle.bz_run_laws.proofs.Steering as steering
use Rattle.bz_run_laws.proofs.Starting.{Any, starts}
use Rattle.bz_run_laws.proofs.Indexed as indexed

abbrev pub NoMore : Store → Port → Type 0
NoMore s a = Unit {0}

-- from where port p is, open or not, the process goes on in turn there
abbrev pub Turning : ℕ → Proc → Bool → Type 0
Turning p c is_open = Runs p c.todo Any (Some is_open) ⊎ Steers p c.todo NoMore c.store (Some is_open)

abbrev pub Lively : Component → Type 0
Lively c = (p : ℕ) → Turning p c.proc (open_at c p)

-- ---- at the start

fetching : (kind : Kind) → ((spans : List Span) × (kind ≡ CaseFetch spans)) ⊎ ((spans : List Span) → kind ≡ CaseFetch spans → ⊥)
fetching (CaseFetch spans) = inl (spans, refl)
fetching kind = inr (λ spans e. cc)

pub begins : (kind : Kind) (sizes : List ℕ) (chans : List Chan) → MeetsRow kind sizes chans → (p : ℕ) → Turning p (start_of kind sizes chans).proc false
begins kind sizes chans meets p =
    let s : Store = replicate (slots kind sizes) 0 in
    let freely : ((spans : List Span) → kind ≡ CaseFetch spans → 1 ≢ p) → Turning p (start_of kind sizes chans).proc false =
    λ other. inl (tidies p s (process kind sizes chans) Any (Some false) (starts p kind sizes chans other)) in
    elim (fetching kind) [
      | inr off ↦ freely (λ spans e. absurd (off spans e))
      | inl (spans, e) ↦ elim (cases_eq 1 p) [
        | inr ne ↦ freely (λ _ _. ne)
        | inl is ↦
            let begun : Steers 1 (process (CaseFetch spans) sizes chans) NoMore s (Some false) = indexed.fetches spans (size sizes) (bounded-sizes kind spans sizes e meets.sizes_fit) s in
            let here : Steers 1 (process kind sizes chans) NoMore s (Some false) = subst (λ (k : Kind). Steers 1 (process k sizes chans) NoMore s (Some false)) (sym e) begun in
            subst (λ q. Turning q (start_of kind sizes chans).proc false) is (inr (steering.tidies 1 s (process kind sizes chans) NoMore (Some false) here))
      ]
    ]

none-open : (n p : ℕ) → get_or (replicate n false) p false ≡ false
none-open zero p = refl
none-open (suc n) zero = refl
none-open (suc n) (suc p) = none-open n p

pub lively-start : (kind : Kind) (sizes : List ℕ) (chans : List Chan) → MeetsRow kind sizes chans → Lively (start_of kind sizes chans)
lively-start kind sizes chans meets p = subst (Turning p (start_of kind sizes chans).proc) (sym (none-open (suc (length chans)) p)) (begins kind sizes chans meets p)

-- ---- a move

swapped : (a b : Bool) → Some a ≡ Some (not b) → b ≡ not a
swapped true true e = absurd (cc)
swapped true false e = refl
swapped false true e = refl
swapped false false e = absurd (cc)

module _ (c c' : Proc) (q : ℕ) (phase : Phase) (mv : Move) (value : Option ℕ) (m : Moves c q phase mv value c') where
  -- it opens its port where that is closed, and closes it where it is open
  pub in-turn : (is_open : Bool) → Turning q c is_open → opens mv ≡ not is_open
  in-turn is_open (inl x) = ap opens m.move_is ∙ swapped is_open (opens m.head.move) ((heads q c.todo m.head m.on.0 Any (Some is_open) x).0 m.on.1)
  in-turn is_open (inr x) = ap opens m.move_is ∙ swapped is_open (opens m.head.move) ((steering.heads q c.todo m.head m.on.0 NoMore c.store (Some is_open) x).0 m.on.1)

  -- and goes on so at every port
  module _ (p : ℕ) (was is_open : Bool) (same : q ≡ p → is_open ≡ opens mv) (other : q ≢ p → is_open ≡ was) where
    left : after (m.head.port == p) m.head.move (Some was) ≡ Some is_open
    left = elim (cases_eq m.head.port p) [
      | inl e ↦ here p m.head.port m.head.move (Some was) e ∙ ap (λ b. Some b) (sym (same (sym m.on.1 ∙ e) ∙ ap opens m.move_is))
      | inr ne ↦ elsewhere p m.head.port m.head.move (Some was) ne ∙ ap (λ b. Some b) (sym (other (λ e. ne (m.on.1 ∙ e))))
    ]

    store : Store
    store = stored m.head.into (incoming phase m.head.move) c.store

    pub goes-on : Turning p c was → Turning p c' is_open
    unfolding store
    goes-on (inl x) =
        let rest = subst (Runs p m.head.rest Any) left (heads p c.todo m.head m.on.0 Any (Some was) x).1 in
        subst (λ (d : Proc). Turning p d is_open) (sym m.leaves) (inl (tidies p store m.head.rest Any (Some is_open) rest))
    goes-on (inr x) =
        let rest = subst (Steers p m.head.rest NoMore store) left ((steering.heads p c.todo m.head m.on.0 NoMore c.store (Some was) x).1 (incoming phase m.head.move) (comes phase m.head.move)) in
        subst (λ (d : Proc). Turning p d is_open) (sym m.leaves) (inr (steering.tidies p store m.head.rest NoMore (Some is_open) rest))

-- of the moves that it can make next there is one at a port
pub one-head : (c : Component) → Lively c → HasOneHead c.proc.todo
one-head c lively h k at on same = elim (lively k.port) [
  | inl x ↦ one k.port c.proc.todo h k at on Any (Some (open_at c k.port)) x same refl
  | inr x ↦ steering.one k.port c.proc.todo h k at on NoMore c.proc.store (Some (open_at c k.port)) x
]

-- ---- the component after it

abbrev pub turned : Component → ℕ → Move → Proc → Component
turned c p mv rest = record { proc = rest; chans = c.chans; open_ports = set c.open_ports p (opens mv) }

module _ (c : Component) (p : ℕ) (phase : Phase) (mv : Move) (value : Option ℕ) (rest : Proc) (lively : Lively c) (within : p < length c.open_ports) (m : Moves c.proc p phase mv value rest) where
  here-then : open_at (turned c p mv rest) p ≡ opens mv
  here-then = get_or-set_same c.open_ports p (opens mv) false within

  there-then : (q : ℕ) → q ≢ p → open_at (turned c p mv rest) q ≡ open_at c q
  there-then q ne = get_or-set_other c.open_ports p q (opens mv) false ne

  pub turns : Turns c p mv (turned c p mv rest)
  turns = record { before = in-turn c.proc rest p phase mv value m (open_at c p) (lively p); here = here-then; others = there-then }

  pub lively-then : Lively (turned c p mv rest)
  lively-then q =
      goes-on c.proc rest p phase mv value m q (open_at c q) (open_at (turned c p mv rest) q)
      (λ e. subst (λ r. open_at (turned c p mv rest) r ≡ opens mv) e here-then) (λ ne. there-then q (λ e. ne (sym e))) (lively q)

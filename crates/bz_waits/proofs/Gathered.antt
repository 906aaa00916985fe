-- Waits that are gathered component by component, and port by port.
use Rattle.std.proofs.Common.{◌≡◌, ◌⊎◌, ℕ, ◌+◌, ◌<◌, ◌≤◌, List, [], ◌∷◌, ◌++◌, length, take, get_or, inl, inr, refl, sym, ap, subst, ◌∙◌, arith}
use Rattle.std.specs.List.{All, Contains}
use Rattle.std.proofs.lemmas.Bool.{cases_lt}
use Rattle.std.proofs.lemmas.List.{take_more}
use Rattle.std.proofs.lemmas.List.Elements.{All-nil, All-push, Contains-append_left, Contains-push, Contains-push_cases}
use Rattle.bz_model.specs.declared.channel.Move.{Move}
use Rattle.bz_model.specs.declared.channel.Move.TheVariants.{Take, Reply, Got}
use Rattle.bz_model.specs.Nets.{Site, State, chan_at, site_at}
use Rattle.bz_model.specs.Runs.{CanStep}
use Rattle.bz_waits.specs.declared.wait.Wait.{Wait}
use Rattle.bz_waits.specs.declared.wait.Whom.TheVariants.{Nobody}
use Rattle.bz_waits.specs.declared.wait.Place.TheVariants.{Each}
use Rattle.bz_waits.specs.Adding.{AddsAll, AddsComp, AddsUpTo, WaitsBefore}
use Rattle.bz_waits.specs.Waiting.{AreWaits, AreWaitsOf, GetsNone, HasWait, IsDue, IsStuck, IsWait, Owes, WaitsOn}

waits_on_more : (waits more : List Wait) (c k : ℕ) → ((w : Wait) → Contains waits w → Contains more w) → WaitsOn waits c k → WaitsOn more c k
waits_on_more waits more c k kept (w, has, comp, chan) = (w, kept w has, comp, chan)

has_more : (waits more : List Wait) (c : ℕ) → ((w : Wait) → Contains waits w → Contains more w) → HasWait waits c → HasWait more c
has_more waits more c kept (k, on) = (k, waits_on_more waits more c k kept on)

below_or_last : (a n : ℕ) → a < n + 1 → (a < n) ⊎ (a ≡ n)
below_or_last a n lt = elim (cases_lt a n) [
  | inl less ↦ inl less
  | inr least ↦ inr (omega (arith, lt, least))
]

module _ (sites : List Site) (s : State) (c : ℕ) where
  module _ (mv : Move) where
    pub adds_start : (old : List Wait) → All (IsWait sites s) old → AddsUpTo sites s c mv 0 old old
    adds_start old each = record {
      each = each;
      kept = λ w has. has;
      added = λ p le due. absurd (let from = due.0.port_from in omega (arith, le, from));
    }

    module _ (n : ℕ) (old new : List Wait) (so : AddsUpTo sites s c mv n old new) where
      up_to_or_last : (p : ℕ) → p ≤ n + 1 → (p ≤ n) ⊎ (p ≡ n + 1)
      up_to_or_last p le = elim (cases_lt n p) [
        | inl less ↦ inr (omega (arith, le, less))
        | inr least ↦ inl least
      ]

      pub adds_none : (IsDue sites s c mv (n + 1) → ⊥) → AddsUpTo sites s c mv (n + 1) old new
      adds_none none = record {
        each = so.each;
        kept = so.kept;
        added = λ p le due. elim (up_to_or_last p le) [
          | inl less ↦ so.added p less due
          | inr last ↦ absurd (none (subst (IsDue sites s c mv) last due))
        ];
      }

      pub adds_one : (w : Wait) → IsWait sites s w → w.comp ≡ c → w.chan ≡ chan_at sites c (n + 1) → AddsUpTo sites s c mv (n + 1) old (new ++ w ∷ [])
      adds_one w is comp chan = record {
        each = All-push (IsWait sites s) new w so.each is;
        kept = λ x has. Contains-append_left new (w ∷ []) x (so.kept x has);
        added = λ p le due. elim (up_to_or_last p le) [
          | inl less ↦ waits_on_more new (new ++ w ∷ []) c (chan_at sites c p) (Contains-append_left new (w ∷ [])) (so.added p less due)
          | inr last ↦ (w, Contains-push new w, comp, chan ∙ sym (ap (λ q. chan_at sites c q) last))
        ];
      }

      pub adds_all : n ≡ length (site_at sites c).chans → AddsAll sites s c mv old new
      adds_all is = record {
        each = so.each;
        kept = so.kept;
        added = λ p due. so.added p (let to = due.0.port_to in omega (arith, is, to)) due;
      }

  -- what is added of a component goes behind those before it
  pub before_more : (old new : List Wait) → WaitsBefore sites s c old → AddsComp sites s c old new → WaitsBefore sites s (c + 1) new
  before_more old new so adds = record {
    each = adds.each;
    gets = λ d p lt stuck due. elim (below_or_last d c lt) [
      | inl less ↦ waits_on_more old new d (chan_at sites d p) adds.kept (so.gets d p less stuck due)
      | inr last ↦
          subst (λ e. WaitsOn new e (chan_at sites e p)) (sym last) (adds.gets p (subst (IsStuck sites s) last stuck) (subst (λ e. IsDue sites s e Got p) last due))
    ];
    owes = λ d k lt stuck owed. elim (below_or_last d c lt) [
      | inl less ↦ has_more old new d adds.kept (so.owes d k less stuck owed)
      | inr last ↦ subst (HasWait new) (sym last) (adds.owes k (subst (IsStuck sites s) last stuck) (subst (λ e. Owes sites s e k) last owed))
    ];
    takes = λ d p k lt stuck none owed due. elim (below_or_last d c lt) [
      | inl less ↦ waits_on_more old new d (chan_at sites d p) adds.kept (so.takes d p k less stuck none owed due)
      | inr last ↦
          subst (λ e. WaitsOn new e (chan_at sites e p)) (sym last)
          (adds.takes p k (subst (IsStuck sites s) last stuck) (subst (GetsNone sites s) last none) (subst (λ e. Owes sites s e k) last owed) (subst (λ e. IsDue sites s e Take p) last due))
    ];
  }

  -- and behind those of some others
  pub among_more : (comps : List ℕ) (old new : List Wait) → AreWaitsOf sites s comps old → AddsComp sites s c old new → AreWaitsOf sites s (comps ++ c ∷ []) new
  among_more comps old new so adds = record {
    each = adds.each;
    gets = λ d p has stuck due. elim (Contains-push_cases comps c d has) [
      | inl before ↦ waits_on_more old new d (chan_at sites d p) adds.kept (so.gets d p before stuck due)
      | inr same ↦
          subst (λ e. WaitsOn new e (chan_at sites e p)) same
          (adds.gets p (subst (IsStuck sites s) (sym same) stuck) (subst (λ e. IsDue sites s e Got p) (sym same) due))
    ];
    owes = λ d k has stuck owed. elim (Contains-push_cases comps c d has) [
      | inl before ↦ has_more old new d adds.kept (so.owes d k before stuck owed)
      | inr same ↦ subst (HasWait new) same (adds.owes k (subst (IsStuck sites s) (sym same) stuck) (subst (λ e. Owes sites s e k) (sym same) owed))
    ];
    takes = λ d p k has stuck none owed due. elim (Contains-push_cases comps c d has) [
      | inl before ↦ waits_on_more old new d (chan_at sites d p) adds.kept (so.takes d p k before stuck none owed due)
      | inr same ↦
          subst (λ e. WaitsOn new e (chan_at sites e p)) same
          (adds.takes p k (subst (IsStuck sites s) (sym same) stuck) (subst (GetsNone sites s) (sym same) none) (subst (λ e. Owes sites s e k) (sym same) owed) (subst (λ e. IsDue sites s e Take p) (sym same) due))
    ];
  }

  module _ (old : List Wait) (each : All (IsWait sites s) old) where
    pub adds_ready : CanStep sites s c → AddsComp sites s c old old
    adds_ready can = record {
      each = each;
      kept = λ w has. has;
      gets = λ p stuck due. absurd (stuck can);
      owes = λ k stuck owed. absurd (stuck can);
      takes = λ p k stuck none owed due. absurd (stuck can);
    }

    pub adds_idle : ((p : ℕ) → IsDue sites s c Got p → ⊥) → ((k : ℕ) → Owes sites s c k → ⊥) → AddsComp sites s c old old
    adds_idle gets owes = record {
      each = each;
      kept = λ w has. has;
      gets = λ p stuck due. absurd (gets p due);
      owes = λ k stuck owed. absurd (owes k owed);
      takes = λ p k stuck none owed due. absurd (owes k owed);
    }

    -- where there is no such component
    pub adds_absent : (0 < c → c ≤ length sites → ⊥) → AddsComp sites s c old old
    adds_absent none = record {
      each = each;
      kept = λ w has. has;
      gets = λ p stuck due. absurd (none due.0.comp_from due.0.comp_to);
      owes = λ k stuck owed. absurd (none owed.0.1.is_port.comp_from owed.0.1.is_port.comp_to);
      takes = λ p k stuck no_reply owed due. absurd (none due.0.comp_from due.0.comp_to);
    }

    pub adds_halted : (w : Wait) → IsWait sites s w → w.comp ≡ c → ((q : ℕ) → IsDue sites s c Got q → ⊥) → ((q : ℕ) → IsDue sites s c Take q → ⊥) → AddsComp sites s c old (old ++ w ∷ [])
    adds_halted w is comp gets takes = record {
      each = All-push (IsWait sites s) old w each is;
      kept = Contains-append_left old (w ∷ []);
      gets = λ q stuck due. absurd (gets q due);
      owes = λ k stuck owed. (w.chan, (w, Contains-push old w, comp, refl));
      takes = λ q k stuck none owed due. absurd (takes q due);
    }

  pub adds_gets : (old new : List Wait) (p : ℕ) → IsDue sites s c Got p → AddsAll sites s c Got old new → AddsComp sites s c old new
  adds_gets old new p due adds = record {
    each = adds.each;
    kept = adds.kept;
    gets = λ q stuck due'. adds.added q due';
    owes = λ k stuck owed. (chan_at sites c p, adds.added p due);
    takes = λ q k stuck none owed due'. absurd (none p due);
  }

  pub adds_takes : (old new : List Wait) (p : ℕ) → ((q : ℕ) → IsDue sites s c Got q → ⊥) → IsDue sites s c Take p → AddsAll sites s c Take old new → AddsComp sites s c old new
  adds_takes old new p gets due adds = record {
    each = adds.each;
    kept = adds.kept;
    gets = λ q stuck due'. absurd (gets q due');
    owes = λ k stuck owed. (chan_at sites c p, adds.added p due);
    takes = λ q k stuck none owed due'. adds.added q due';
  }

-- the wait of a component that has halted
pub halted_wait : (sites : List Site) (s : State) (c k : ℕ) → IsStuck sites s c → ((p : ℕ) → IsDue sites s c Got p → ⊥) → ((p : ℕ) → IsDue sites s c Take p → ⊥) → Owes sites s c k
    → IsWait sites s (record { comp = c; chan = k; whom = Nobody; other = 0; mv = Reply; place = Each })
halted_wait sites s c k stuck gets takes owes = record {
  stuck = stuck;
  waits = inr (record { gets = gets; takes = takes; owes = owes; other = refl; whom = refl; first = refl; place = refl });
}

module _ (sites : List Site) (s : State) where
  pub before_start : WaitsBefore sites s 1 []
  before_start = record {
    each = All-nil (IsWait sites s);
    gets = λ d p lt stuck due. absurd (let from = due.0.comp_from in omega (arith, lt, from));
    owes = λ d k lt stuck owed. absurd (let from = owed.0.1.is_port.comp_from in omega (arith, lt, from));
    takes = λ d p k lt stuck none owed due. absurd (let from = due.0.comp_from in omega (arith, lt, from));
  }

  pub before_all : (n : ℕ) (waits : List Wait) → n ≡ length sites → WaitsBefore sites s (n + 1) waits → AreWaits sites s waits
  before_all n waits is so = record {
    each = so.each;
    gets = λ c p stuck due. so.gets c p (let to = due.0.comp_to in omega (arith, is, to)) stuck due;
    owes = λ c k stuck owed. so.owes c k (let to = owed.0.1.is_port.comp_to in omega (arith, is, to)) stuck owed;
    takes = λ c p k stuck none owed due. so.takes c p k (let to = due.0.comp_to in omega (arith, is, to)) stuck none owed due;
  }

  pub among_none : AreWaitsOf sites s [] []
  among_none = record {
    each = All-nil (IsWait sites s);
    gets = λ c p has. absurd (let within = has.1 in omega (arith, within));
    owes = λ c k has. absurd (let within = has.1 in omega (arith, within));
    takes = λ c p k has. absurd (let within = has.1 in omega (arith, within));
  }

  -- the next of a list
  pub listed_more : (all : List ℕ) (place d : ℕ) (old new : List Wait) → place < length all → AreWaitsOf sites s (take place all) old → AddsComp sites s (get_or all place d) old new → AreWaitsOf sites s (take (place + 1) all) new
  listed_more all place d old new within so adds =
      subst (λ (comps : List ℕ). AreWaitsOf sites s comps new) (sym (take_more all place d within))
      (among_more sites s (get_or all place d) (take place all) old new so adds)

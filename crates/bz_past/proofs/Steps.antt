-- Each step keeps the rule.
use Rattle.std.proofs.Common.{zero, suc, true, false, Bool, inl, inr, ⊎_elim, ◌⊎◌, ◌≡◌, ℕ, ◌+◌, ◌-◌, ◌<◌, ◌≤◌, max, List, [], ◌∷◌, ◌++◌, set, sym, refl, ap, ◌∙◌, subst, arith, length, get_or, true≢false}
use mathlib.Core.Option.{some, some-injective, some-ne-none}
use lib.ListN.{get_elem?}
use Rattle.std.specs.List.{All, sum_by}
use Rattle.std.proofs.lemmas.List.Elements.{All-set, All-push, All-nil, All-cons, All-head, All-tail}
use Rattle.std.proofs.lemmas.List.Sums.{sum_by_push, sum_by-cons, sum_by-set, get_or-le-sum_by}
use Rattle.atomic_table.specs.Table.{opening, State, Me, Act, keeps as stays, step, stepped, Valid, carried_after, Allows, Splits, Joins}
use Rattle.atomic_table.proofs.Lists.{set_here, set_else}
use Rattle.bz_model.specs.declared.event.Who.{Who}
use Rattle.bz_model.specs.declared.event.Who.TheVariants.{Host, Worker}
use Rattle.bz_model.specs.declared.event.Entry.{Entry}
use Rattle.bz_net.specs.Simulation.{Simulation}
use Rattle.bz_past.specs.Moments.{moment, Leads}
use Rattle.bz_past.specs.Owners.{same_who, AreOf, AreOthers, AreTurnsOf, AreTurnsOfOthers, AreNamed, IsNamed, LeadsBy, LeadsWithout, last_of}
use Rattle.bz_past.specs.Rules.{Acted, Fits, Halted, Holds, IsKept, IsOwner, TakenBack, TakenIn, Told, at_moment, first, gone, halted, halts, host_more, joined, keeper_again, keeper_of, keeps, mine, nothing_of, one_if, one_less, one_more, other_again, owns, host_of, with_host, with_worker, worker_more, worker_of}
use Rattle.bz_past.specs.Seen.{nobody, roll_of, saw_of, used_of, whose}
use Rattle.bz_past.specs.Stopping.{HasCause, IsRefused, IsStoppedFor}
use Rattle.bz_past.specs.declared.standing.Turn.{Turn}
use Rattle.bz_past.specs.declared.view.Moment.{Moment}
use Rattle.bz_past.specs.declared.view.Roll.{Roll}
use Rattle.bz_past.specs.declared.view.View.{View}
use Rattle.bz_past.specs.declared.view.View.TheVariants.{Knows, Acts, Halts, Owns, Stops, Spent}
use Rattle.bz_past.proofs.Leading.{here, onward}
use Rattle.bz_past.proofs.Causes.{caused, cause_on, cause_up}
use Rattle.bz_past.proofs.Owning.{all_within, apart_sym, last_others, named_append, named_more, named_of, named_up, others_of, same_is, same_self, turns_of_others, without_here, without_on}

get_at : {A : Type 0} (xs : List A) (i : ℕ) (a d : A) → get_elem? xs i ≡ some a → (i < length xs) × (get_or xs i d ≡ a)
get_at [] i a d e = absurd (some-ne-none a (sym e))
get_at (x ∷ xs) zero a d e = (omega arith, some-injective x a e)
get_at (x ∷ xs) (suc i) a d e = let r = get_at xs i a d e in (omega (arith, r.0), r.1)

-- what holds of all holds of the one at i
all_at : {A : Type 0} (P : A → Type 0) (xs : List A) (i : ℕ) (a : A) → All P xs → get_elem? xs i ≡ some a → P a
all_at P xs i a all at = let r = get_at xs i a a at in subst P r.1 (all i a r.0)

sum_at : (f : View → ℕ) (xs : List View) (i : ℕ) (v w : View) → get_elem? xs i ≡ some v → sum_by f (set xs i w) + f v ≡ sum_by f xs + f w
sum_at f xs i v w at = let r = get_at xs i v v at in
    ap (λ (u : View). sum_by f (set xs i w) + f u) (sym r.1) ∙ sum_by-set f xs i w v r.0

part_at : (f : View → ℕ) (xs : List View) (i : ℕ) (v : View) → get_elem? xs i ≡ some v → f v ≤ sum_by f xs
part_at f xs i v at = let r = get_at xs i v v at in subst (λ (u : View). f u ≤ sum_by f xs) r.1 (get_or-le-sum_by f xs i v r.0)

-- none of these entries and turns is of the owner that this token is, where it is one and does not act
abbrev Apart : List Entry → List Turn → View → Type 0
Apart es us (Knows r) = Unit {0}
Apart es us (Acts r w a) = Unit {0}
Apart es us (Halts r u) = Unit {0}
Apart es us (Owns w a) = AreOthers w es × AreTurnsOfOthers w us
Apart es us (Stops u) = Unit {0}
Apart es us Spent = Unit {0}

apart_none : (t : View) → Apart [] [] t
apart_none (Knows r) = tt
apart_none (Acts r w a) = tt
apart_none (Halts r u) = tt
apart_none (Owns w a) = (tt, tt)
apart_none (Stops u) = tt
apart_none Spent = tt

all_none : (ts : List View) → All (Apart [] []) ts
all_none [] = All-nil (Apart [] [])
all_none (t ∷ ts) = All-cons (Apart [] []) t ts (apart_none t) (all_none ts)

is_other : (w v : Who) → one_if (same_who w v) ≡ 0 → same_who w v ≡ false
is_other w v none = elim (same_who w v) as (λ b. one_if b ≡ 0 → b ≡ false) [
  | true ↦ λ h. absurd (omega (arith, h))
  | false ↦ λ h. refl
] none

-- entries and turns of w
module _ (w : Who) (es : List Entry) (us : List Turn) (by : AreOf w es) (turns : AreTurnsOf w us) where
  apart_other : (t : View) → mine w t ≡ 0 → Apart es us t
  apart_other (Knows r) other = tt
  apart_other (Acts r v a) other = tt
  apart_other (Halts r u) other = tt
  apart_other (Stops u) other = tt
  apart_other (Owns v a) other = let not = is_other w v other in (others_of w v es not by, turns_of_others w v us not turns)
  apart_other Spent other = tt

  apart_keeper : (t : View) → keeps t ≡ 1 → Apart es us t
  apart_keeper (Knows r) is = tt
  apart_keeper (Acts r v a) is = tt
  apart_keeper (Halts r u) is = tt
  apart_keeper (Stops u) is = absurd (omega (arith, is))
  apart_keeper (Owns v a) is = absurd (omega (arith, is))
  apart_keeper Spent is = tt

  all_other : (ts : List View) → sum_by (mine w) ts ≡ 0 → All (Apart es us) ts
  all_other [] none = All-nil (Apart es us)
  all_other (t ∷ ts) none =
      let cons = sum_by-cons (mine w) t ts in
      All-cons (Apart es us) t ts (apart_other t (omega (arith, cons, none))) (all_other ts (omega (arith, cons, none)))

  -- where the keeper has the one token of w, these are of no other
  all_apart : (ts : List View) (i : ℕ) (u : View) → sum_by (mine w) ts ≤ 1 → get_elem? ts i ≡ some u → mine w u ≡ 1 → keeps u ≡ 1 → All (Apart es us) ts
  all_apart [] i u one at own keeper = absurd (some-ne-none u (sym at))
  all_apart (x ∷ xs) zero u one at own keeper =
      let is : x ≡ u = some-injective x u at in
      let its : mine w x ≡ 1 = ap (mine w) is ∙ own in
      let cons = sum_by-cons (mine w) x xs in
      All-cons (Apart es us) x xs (apart_keeper x (ap keeps is ∙ keeper)) (all_other xs (omega (arith, cons, one, its)))
  all_apart (x ∷ xs) (suc i) u one at own keeper =
      let cons = sum_by-cons (mine w) x xs in
      let more = part_at (mine w) xs i u at in
      All-cons (Apart es us) x xs (apart_other x (omega (arith, cons, one, more, own))) (all_apart xs i u (omega (arith, cons, one)) at own keeper)

-- What a token knows that is not the keeper's is so later too, where its owner has added nothing, and where the stopper is as it
-- was, or it is none.
module _ (old new : Roll) (leads : Leads old.now new.now) (hosts : old.hosts ≤ new.hosts) (workers : old.workers ≤ new.workers) where
  abbrev Calm : ℕ → Type 0
  Calm count = (count ≡ 0) ⊎ (new.used ≡ old.used)

  still : (t : View) → keeps t ≡ 0 → Calm (halts t) → Apart leads.rest leads.later t → Fits old t → Fits new t
  still (Knows r) idle calm apart fits = absurd (omega (arith, idle))
  still (Acts r w a) idle calm apart fits = absurd (omega (arith, idle))
  still (Halts r u) idle calm apart fits = absurd (omega (arith, idle))
  still (Owns w a) idle calm apart fits = (without_on w a old.now new.now fits.0 leads apart.0 apart.1, named_up old.hosts old.workers new.hosts new.workers w hosts workers fits.1)
  still (Stops u) idle calm apart fits = ⊎_elim (λ (none : 1 ≡ 0). absurd (omega (arith, none))) (λ (same : new.used ≡ old.used). fits ∙ sym same) calm
  still Spent idle calm apart fits = tt

  all_still : (ts : List View) → sum_by keeps ts ≡ 0 → Calm (sum_by halts ts) → All (Apart leads.rest leads.later) ts → All (Fits old) ts → All (Fits new) ts
  all_still [] idle calm apart fits = All-nil (Fits new)
  all_still (t ∷ ts) idle calm apart fits =
      let cons = sum_by-cons keeps t ts in
      let stops = sum_by-cons halts t ts in
      let here : Calm (halts t) = ⊎_elim (λ none. inl (omega (arith, stops, none))) inr calm in
      let rest : Calm (sum_by halts ts) = ⊎_elim (λ none. inl (omega (arith, stops, none))) inr calm in
      All-cons (Fits new) t ts (still t (omega (arith, cons, idle)) here (All-head (Apart leads.rest leads.later) t ts apart) (All-head (Fits old) t ts fits)) (all_still ts (omega (arith, cons, idle)) rest (All-tail (Apart leads.rest leads.later) t ts apart) (All-tail (Fits old) t ts fits))

  -- the keeper knows of something new
  all_fit : (ts : List View) (i : ℕ) (u t : View) → sum_by keeps ts ≤ 1 → ((sum_by halts ts ≤ 1) × (halts u ≡ 1)) ⊎ (new.used ≡ old.used) → get_elem? ts i ≡ some u → keeps u ≡ 1 → Fits new t → All (Apart leads.rest leads.later) ts → All (Fits old) ts → All (Fits new) (set ts i t)
  all_fit [] i u t few calm at keeper fit apart fits = absurd (some-ne-none u (sym at))
  all_fit (x ∷ xs) zero u t few calm at keeper fit apart fits =
      let is : x ≡ u = some-injective x u at in
      let one : keeps x ≡ 1 = ap keeps is ∙ keeper in
      let cons = sum_by-cons keeps x xs in
      let stops = sum_by-cons halts x xs in
      let same = ap halts is in
      let rest : Calm (sum_by halts xs) = ⊎_elim (λ one. inl (omega (arith, stops, same, one.0, one.1))) inr calm in
      All-cons (Fits new) t xs fit (all_still xs (omega (arith, cons, few, one)) rest (All-tail (Apart leads.rest leads.later) x xs apart) (All-tail (Fits old) x xs fits))
  all_fit (x ∷ xs) (suc i) u t few calm at keeper fit apart fits =
      let cons = sum_by-cons keeps x xs in
      let stops = sum_by-cons halts x xs in
      let more = part_at keeps xs i u at in
      let halt = part_at halts xs i u at in
      let here : Calm (halts x) = ⊎_elim (λ one. inl (omega (arith, stops, halt, one.0, one.1))) inr calm in
      let rest : ((sum_by halts xs ≤ 1) × (halts u ≡ 1)) ⊎ (new.used ≡ old.used) = ⊎_elim (λ one. inl (omega (arith, stops, one.0), one.1)) inr calm in
      All-cons (Fits new) x (set xs i t) (still x (omega (arith, cons, few, more, keeper)) here (All-head (Apart leads.rest leads.later) x xs apart) (All-head (Fits old) x xs fits))
      (all_fit xs i u t (omega (arith, cons, few)) rest at keeper fit (All-tail (Apart leads.rest leads.later) x xs apart) (All-tail (Fits old) x xs fits))

-- what the keeper knows is so
knows_so : (now r : Roll) (ts : List View) (i : ℕ) → get_elem? ts i ≡ some (Knows r) → IsKept now ts → IsKept r ts
knows_so now r ts i at h =
    let same : r ≡ now = all_at (Fits now) ts i (Knows r) h.fit at in
    subst (λ x. IsKept x ts) (sym same) h

acts_so : (now r : Roll) (w : Who) (a : Moment) (ts : List View) (i : ℕ) → get_elem? ts i ≡ some (Acts r w a) → IsKept now ts → IsKept r ts
acts_so now r w a ts i at h =
    let fits : (r ≡ now) × IsOwner now w a = all_at (Fits now) ts i (Acts r w a) h.fit at in
    subst (λ x. IsKept x ts) (sym fits.0) h

halts_so : (now r : Roll) (u : Bool) (ts : List View) (i : ℕ) → get_elem? ts i ≡ some (Halts r u) → IsKept now ts → IsKept r ts
halts_so now r u ts i at h =
    let fits : (r ≡ now) × (u ≡ now.used) = all_at (Fits now) ts i (Halts r u) h.fit at in
    subst (λ x. IsKept x ts) (sym fits.0) h

-- the owner that acts has added entries
acted : (r : Roll) (w : Who) (a n : Moment) (ts : List View) (i : ℕ) → get_elem? ts i ≡ some (Acts r w a) → IsKept r ts → LeadsBy w r.now n → (n.stopped ≡ true → (r.now.stopped ≡ true) ⊎ IsRefused w r.now.net) → IsKept (at_moment r n) (set ts i (Acts (at_moment r n) w n))
acted r w a n ts i at h by why =
    let u = Acts r w a in
    let new = at_moment r n in
    let t = Acts new w n in
    let was : (r ≡ r) × IsOwner r w a = all_at (Fits r) ts i u h.fit at in
    let leads = by.0 in
    let keeping = sum_at keeps ts i u t at in
    let owning = sum_at owns ts i u t at in
    let stopping = sum_at halts ts i u t at in
    let apart = all_apart w leads.rest leads.later by.1 by.2 ts i u (h.once w) at (ap one_if (same_self w)) refl in
    let fit : Fits new t = (refl, (without_here w n, was.1.1)) in
    record {
      fit = all_fit r new leads (omega arith) (omega arith) ts i u t h.keeper (inr refl) at refl fit apart h.fit;
      keeper = omega (arith, keeping, h.keeper);
      stopper = omega (arith, stopping, h.stopper);
      once = λ v. let mines = sum_at (mine v) ts i u t at in omega (arith, mines, h.once v);
      count = omega (arith, owning, h.count);
      named = subst (AreNamed r.hosts r.workers) (sym leads.journal) (named_append r.hosts r.workers r.now.net.journal leads.rest h.named (named_of r.hosts r.workers w leads.rest was.1.1 by.1));
      last = λ v none.
          let mines = sum_at (mine v) ts i u t at in
          let before : sum_by (mine v) ts ≡ 0 = omega (arith, mines, none) in
          let here = part_at (mine v) ts i u at in
          let other : one_if (same_who v w) ≡ 0 = omega (arith, here, before) in
          let others = others_of w v leads.rest (apart_sym v w (is_other v w other)) by.1 in
          let same : last_of v n.net.journal ≡ last_of v r.now.net.journal = ap (last_of v) leads.journal ∙ last_others v r.now.net.journal leads.rest others in
          subst (λ k. k ≤ r.last) (sym same) (h.last v before);
      why = λ s. ⊎_elim (λ before. ⊎_elim inl (λ cause. inr (cause_on r.workers r.now n leads cause)) (h.why before)) (λ refused. inr (caused r.hosts r.workers w r.now n was.1.1 refused leads)) (why s);
    }

-- something else lies there, with no entry more, and the stopper was used
halting : (r : Roll) (x : Bool) (n : Moment) (ts : List View) (i : ℕ) → get_elem? ts i ≡ some (Halts r x) → IsKept r ts → (leads : Leads r.now n) → leads.rest ≡ [] → leads.later ≡ [] → IsKept (halted r n) (set ts i (Halts (halted r n) true))
halting r x n ts i at h leads none still_so =
    let u = Halts r x in
    let new = halted r n in
    let t = Halts new true in
    let keeping = sum_at keeps ts i u t at in
    let owning = sum_at owns ts i u t at in
    let stopping = sum_at halts ts i u t at in
    let apart : All (Apart leads.rest leads.later) ts = subst (λ es. All (Apart es leads.later) ts) (sym none) (subst (λ us. All (Apart [] us) ts) (sym still_so) (all_none ts)) in
    let others : (v : Who) → AreOthers v leads.rest = λ v. subst (AreOthers v) (sym none) tt in
    record {
      fit = all_fit r new leads (omega arith) (omega arith) ts i u t h.keeper (inl (h.stopper, refl)) at refl (refl, refl) apart h.fit;
      keeper = omega (arith, keeping, h.keeper);
      stopper = omega (arith, stopping, h.stopper);
      once = λ v. let mines = sum_at (mine v) ts i u t at in omega (arith, mines, h.once v);
      count = omega (arith, owning, h.count);
      named = subst (AreNamed r.hosts r.workers) (sym leads.journal) (named_append r.hosts r.workers r.now.net.journal leads.rest h.named (subst (AreNamed r.hosts r.workers) (sym none) tt));
      last = λ v free.
          let mines = sum_at (mine v) ts i u t at in
          let before : sum_by (mine v) ts ≡ 0 = omega (arith, mines, free) in
          let same : last_of v n.net.journal ≡ last_of v r.now.net.journal = ap (last_of v) leads.journal ∙ last_others v r.now.net.journal leads.rest (others v) in
          subst (λ k. k ≤ r.last) (sym same) (h.last v before);
      why = λ s. inl refl;
    }

-- the keeper, or the keeper with the stopper, is the keeper again
again : (r : Roll) (u : View) (ts : List View) (i : ℕ) → get_elem? ts i ≡ some u → keeps u ≡ 1 → ((v : Who) → mine v u ≡ 0) → IsKept r ts → IsKept r (set ts i (Knows r))
again r u ts i at keeper none h =
    let t = Knows r in
    let keeping = sum_at keeps ts i u t at in
    let owning = sum_at owns ts i u t at in
    let stopping = sum_at halts ts i u t at in
    record {
      fit = All-set (Fits r) ts i t refl h.fit;
      keeper = omega (arith, keeping, h.keeper, keeper);
      stopper = omega (arith, stopping, h.stopper);
      once = λ v. let mines = sum_at (mine v) ts i u t at in omega (arith, mines, h.once v);
      count = omega (arith, owning, h.count);
      named = h.named;
      last = λ v taken. let mines = sum_at (mine v) ts i u t at in let own = none v in h.last v (omega (arith, mines, own, taken));
      why = h.why;
    }

-- who has not been named has no token
not_mine : (r : Roll) (v : Who) → (IsNamed r.hosts r.workers v → ⊥) → (w : Who) → IsNamed r.hosts r.workers w → one_if (same_who v w) ≡ 0
not_mine r v unnamed w named = elim (same_who v w) as (λ b. (b ≡ true → v ≡ w) → one_if b ≡ 0) [
  | true ↦ λ f. absurd (unnamed (subst (IsNamed r.hosts r.workers) (sym (f refl)) named))
  | false ↦ λ f. refl
] (same_is v w)

none_of : (r : Roll) (v : Who) → (IsNamed r.hosts r.workers v → ⊥) → (t : View) → Fits r t → mine v t ≡ 0
none_of r v unnamed (Knows x) fits = refl
none_of r v unnamed (Acts x w a) fits = not_mine r v unnamed w fits.1.1
none_of r v unnamed (Halts x u) fits = refl
none_of r v unnamed (Owns w a) fits = not_mine r v unnamed w fits.1
none_of r v unnamed (Stops u) fits = refl
none_of r v unnamed Spent fits = refl

none_of_all : (r : Roll) (v : Who) → (IsNamed r.hosts r.workers v → ⊥) → (ts : List View) → All (Fits r) ts → sum_by (mine v) ts ≡ 0
none_of_all r v unnamed [] fits = refl
none_of_all r v unnamed (t ∷ ts) fits =
    let cons = sum_by-cons (mine v) t ts in
    let first = none_of r v unnamed t (All-head (Fits r) t ts fits) in
    let rest = none_of_all r v unnamed ts (All-tail (Fits r) t ts fits) in
    omega (arith, cons, first, rest)

one_at_most : (v u : Who) (n : ℕ) → n ≤ 1 → (same_who v u ≡ true → n ≡ 0) → n + one_if (same_who v u) ≤ 1
one_at_most v u n few free = elim (same_who v u) as (λ b. (b ≡ true → n ≡ 0) → n + one_if b ≤ 1) [
  | true ↦ λ f. let none = f refl in omega (arith, none)
  | false ↦ λ f. omega (arith, few)
] free

-- an owner is given to one who had none
given : (r : Roll) (hosts workers : ℕ) (w : Who) (ts : List View) (i : ℕ) → r.hosts ≤ hosts → r.workers ≤ workers → IsNamed hosts workers w → (IsNamed r.hosts r.workers w → ⊥) → get_elem? ts i ≡ some (Knows r) → IsKept r ts
    → IsKept (one_more r hosts workers) (set ts i (Knows (one_more r hosts workers)) ++ Owns w r.now ∷ [])
unfolding here
given r hosts workers w ts i more_hosts more_workers named unnamed at h =
    let u = Knows r in
    let new = one_more r hosts workers in
    let t = Knows new in
    let its = Owns w r.now in
    let keeping = sum_at keeps ts i u t at in
    let owning = sum_at owns ts i u t at in
    let stopping = sum_at halts ts i u t at in
    let stop_push = sum_by_push halts (set ts i t) its in
    let keep_push = sum_by_push keeps (set ts i t) its in
    let own_push = sum_by_push owns (set ts i t) its in
    let fit : Fits new its = (without_here w r.now, named) in
    let none : sum_by (mine w) ts ≡ 0 = none_of_all r w unnamed ts h.fit in
    record {
      fit = All-push (Fits new) (set ts i t) its (all_fit r new (here r.now) more_hosts more_workers ts i u t h.keeper (inr refl) at refl refl (all_none ts) h.fit) fit;
      keeper = omega (arith, keeping, keep_push, h.keeper);
      stopper = omega (arith, stopping, stop_push, h.stopper);
      once = λ v.
          let mines = sum_at (mine v) ts i u t at in
          let push = sum_by_push (mine v) (set ts i t) its in
          let free : same_who v w ≡ true → sum_by (mine v) ts ≡ 0 = λ same. subst (λ x. sum_by (mine x) ts ≡ 0) (sym (same_is v w same)) none in
          let few = one_at_most v w (sum_by (mine v) ts) (h.once v) free in
          omega (arith, mines, push, few);
      count = omega (arith, owning, own_push, h.count);
      named = named_more r.hosts r.workers hosts workers r.now.net.journal more_hosts more_workers h.named;
      last = λ v free.
          let mines = sum_at (mine v) ts i u t at in
          let push = sum_by_push (mine v) (set ts i t) its in
          h.last v (omega (arith, mines, push, free));
      why = λ s. ⊎_elim inl (λ cause. inr (cause_up r.workers workers r.now more_workers cause)) (h.why s);
    }

-- a token of nothing more
placed : (r : Roll) (ts : List View) (i : ℕ) → get_elem? ts i ≡ some (Knows r) → IsKept r ts → IsKept r (set ts i (Knows r) ++ Spent ∷ [])
placed r ts i at h =
    let u = Knows r in
    let keeping = sum_at keeps ts i u u at in
    let owning = sum_at owns ts i u u at in
    let stopping = sum_at halts ts i u u at in
    let stop_push = sum_by_push halts (set ts i u) Spent in
    let keep_push = sum_by_push keeps (set ts i u) Spent in
    let own_push = sum_by_push owns (set ts i u) Spent in
    record {
      fit = All-push (Fits r) (set ts i u) Spent (All-set (Fits r) ts i u refl h.fit) tt;
      keeper = omega (arith, keeping, keep_push, h.keeper);
      stopper = omega (arith, stopping, stop_push, h.stopper);
      once = λ v.
          let mines = sum_at (mine v) ts i u u at in
          let push = sum_by_push (mine v) (set ts i u) Spent in
          omega (arith, mines, push, h.once v);
      count = omega (arith, owning, own_push, h.count);
      named = h.named;
      last = λ v free.
          let mines = sum_at (mine v) ts i u u at in
          let push = sum_by_push (mine v) (set ts i u) Spent in
          h.last v (omega (arith, mines, push, free));
      why = h.why;
    }

-- the owner and the keeper again
parted : (r : Roll) (w : Who) (a : Moment) (ts : List View) (i : ℕ) → get_elem? ts i ≡ some (Acts r w a) → IsKept r ts → IsKept r (set ts i (Knows r) ++ Owns w a ∷ [])
parted r w a ts i at h =
    let u = Acts r w a in
    let t = Knows r in
    let its = Owns w a in
    let was : (r ≡ r) × IsOwner r w a = all_at (Fits r) ts i u h.fit at in
    let keeping = sum_at keeps ts i u t at in
    let owning = sum_at owns ts i u t at in
    let stopping = sum_at halts ts i u t at in
    let stop_push = sum_by_push halts (set ts i t) its in
    let keep_push = sum_by_push keeps (set ts i t) its in
    let own_push = sum_by_push owns (set ts i t) its in
    record {
      fit = All-push (Fits r) (set ts i t) its (All-set (Fits r) ts i t refl h.fit) was.1;
      keeper = omega (arith, keeping, keep_push, h.keeper);
      stopper = omega (arith, stopping, stop_push, h.stopper);
      once = λ v.
          let mines = sum_at (mine v) ts i u t at in
          let push = sum_by_push (mine v) (set ts i t) its in
          omega (arith, mines, push, h.once v);
      count = omega (arith, owning, own_push, h.count);
      named = h.named;
      last = λ v free.
          let mines = sum_at (mine v) ts i u t at in
          let push = sum_by_push (mine v) (set ts i t) its in
          h.last v (omega (arith, mines, push, free));
      why = h.why;
    }

-- the stopper and the keeper again
unstopped : (r : Roll) (x : Bool) (ts : List View) (i : ℕ) → get_elem? ts i ≡ some (Halts r x) → IsKept r ts → IsKept r (set ts i (Knows r) ++ Stops x ∷ [])
unstopped r x ts i at h =
    let u = Halts r x in
    let t = Knows r in
    let its = Stops x in
    let was : (r ≡ r) × (x ≡ r.used) = all_at (Fits r) ts i u h.fit at in
    let keeping = sum_at keeps ts i u t at in
    let owning = sum_at owns ts i u t at in
    let stopping = sum_at halts ts i u t at in
    let stop_push = sum_by_push halts (set ts i t) its in
    let keep_push = sum_by_push keeps (set ts i t) its in
    let own_push = sum_by_push owns (set ts i t) its in
    record {
      fit = All-push (Fits r) (set ts i t) its (All-set (Fits r) ts i t refl h.fit) was.1;
      keeper = omega (arith, keeping, keep_push, h.keeper);
      stopper = omega (arith, stopping, stop_push, h.stopper);
      once = λ v.
          let mines = sum_at (mine v) ts i u t at in
          let push = sum_by_push (mine v) (set ts i t) its in
          omega (arith, mines, push, h.once v);
      count = omega (arith, owning, own_push, h.count);
      named = h.named;
      last = λ v free.
          let mines = sum_at (mine v) ts i u t at in
          let push = sum_by_push (mine v) (set ts i t) its in
          h.last v (omega (arith, mines, push, free));
      why = h.why;
    }

-- the keeper takes up an owner
taken_up : (r : Roll) (w : Who) (a : Moment) (ts : List View) (i j : ℕ) → get_elem? ts i ≡ some (Knows r) → ¬ (j ≡ i) → get_elem? (set ts i (Acts r w a)) j ≡ some (Owns w a) → IsKept r ts → IsKept r (set (set ts i (Acts r w a)) j Spent)
taken_up r w a ts i j at apart there h =
    let u = Knows r in
    let t = Acts r w a in
    let its = Owns w a in
    let was : get_elem? ts j ≡ some its = sym (set_else ts i j t apart) ∙ there in
    let owner : IsOwner r w a = all_at (Fits r) ts j its h.fit was in
    let keeping = sum_at keeps ts i u t at in
    let owning = sum_at owns ts i u t at in
    let keep_then = sum_at keeps (set ts i t) j its Spent there in
    let stopping = sum_at halts ts i u t at in
    let stop_then = sum_at halts (set ts i t) j its Spent there in
    let own_then = sum_at owns (set ts i t) j its Spent there in
    record {
      fit = All-set (Fits r) (set ts i t) j Spent tt (All-set (Fits r) ts i t (refl, owner) h.fit);
      keeper = omega (arith, keeping, keep_then, h.keeper);
      stopper = omega (arith, stopping, stop_then, h.stopper);
      once = λ v.
          let mines = sum_at (mine v) ts i u t at in
          let then = sum_at (mine v) (set ts i t) j its Spent there in
          omega (arith, mines, then, h.once v);
      count = omega (arith, owning, own_then, h.count);
      named = h.named;
      last = λ v free.
          let mines = sum_at (mine v) ts i u t at in
          let then = sum_at (mine v) (set ts i t) j its Spent there in
          h.last v (omega (arith, mines, then, free));
      why = h.why;
    }

-- the keeper takes up the stopper
stopper_up : (r : Roll) (x : Bool) (ts : List View) (i j : ℕ) → get_elem? ts i ≡ some (Knows r) → ¬ (j ≡ i) → get_elem? (set ts i (Halts r x)) j ≡ some (Stops x) → IsKept r ts → IsKept r (set (set ts i (Halts r x)) j Spent)
stopper_up r x ts i j at apart there h =
    let u = Knows r in
    let t = Halts r x in
    let its = Stops x in
    let was : get_elem? ts j ≡ some its = sym (set_else ts i j t apart) ∙ there in
    let owner : x ≡ r.used = all_at (Fits r) ts j its h.fit was in
    let keeping = sum_at keeps ts i u t at in
    let owning = sum_at owns ts i u t at in
    let keep_then = sum_at keeps (set ts i t) j its Spent there in
    let stopping = sum_at halts ts i u t at in
    let stop_then = sum_at halts (set ts i t) j its Spent there in
    let own_then = sum_at owns (set ts i t) j its Spent there in
    record {
      fit = All-set (Fits r) (set ts i t) j Spent tt (All-set (Fits r) ts i t (refl, owner) h.fit);
      keeper = omega (arith, keeping, keep_then, h.keeper);
      stopper = omega (arith, stopping, stop_then, h.stopper);
      once = λ v.
          let mines = sum_at (mine v) ts i u t at in
          let then = sum_at (mine v) (set ts i t) j its Spent there in
          omega (arith, mines, then, h.once v);
      count = omega (arith, owning, own_then, h.count);
      named = h.named;
      last = λ v free.
          let mines = sum_at (mine v) ts i u t at in
          let then = sum_at (mine v) (set ts i t) j its Spent there in
          h.last v (omega (arith, mines, then, free));
      why = h.why;
    }

-- where it is not told otherwise, an owner that is gone is the one that was taken in
last_so : (r : Roll) (w v : Who) (a : Moment) (left was : ℕ) → LeadsWithout w a r.now → left + one_if (same_who v w) ≡ was → (was ≡ 0 → last_of v r.now.net.journal ≤ r.last) → left ≡ 0 → last_of v r.now.net.journal ≤ max r.last (last_of w a.net.journal)
last_so r w v a left was led count before none = elim (same_who v w) as (λ b. (b ≡ true → v ≡ w) → left + one_if b ≡ was → last_of v r.now.net.journal ≤ max r.last (last_of w a.net.journal)) [
  | true ↦ λ f c.
      let same : last_of w r.now.net.journal ≡ last_of w a.net.journal = ap (last_of w) led.0.journal ∙ last_others w a.net.journal led.0.rest led.1 in
      let here : last_of v r.now.net.journal ≡ last_of w r.now.net.journal = ap (λ x. last_of x r.now.net.journal) (f refl) in
      omega (arith, same, here)
  | false ↦ λ f c. let within = before (omega (arith, c, none)) in omega (arith, within)
] (same_is v w) count

-- the owner is taken in
taken_in : (r : Roll) (w : Who) (a : Moment) (ts : List View) (i : ℕ) → get_elem? ts i ≡ some (Acts r w a) → IsKept r ts → IsKept (one_less r (last_of w a.net.journal)) (set ts i (Knows (one_less r (last_of w a.net.journal))))
unfolding here
taken_in r w a ts i at h =
    let u = Acts r w a in
    let new = one_less r (last_of w a.net.journal) in
    let t = Knows new in
    let was : (r ≡ r) × IsOwner r w a = all_at (Fits r) ts i u h.fit at in
    let keeping = sum_at keeps ts i u t at in
    let owning = sum_at owns ts i u t at in
    let stopping = sum_at halts ts i u t at in
    record {
      fit = all_fit r new (here r.now) (omega arith) (omega arith) ts i u t h.keeper (inr refl) at refl refl (all_none ts) h.fit;
      keeper = omega (arith, keeping, h.keeper);
      stopper = omega (arith, stopping, h.stopper);
      once = λ v. let mines = sum_at (mine v) ts i u t at in omega (arith, mines, h.once v);
      count = omega (arith, owning, h.count);
      named = h.named;
      last = λ v free.
          let mines = sum_at (mine v) ts i u t at in
          last_so r w v a (sum_by (mine v) (set ts i t)) (sum_by (mine v) ts) was.1.0 (omega (arith, mines)) (h.last v) free;
      why = h.why;
    }

-- an owner of v is an owner
mine_owns : (v : Who) (t : View) → mine v t ≤ owns t
mine_owns v (Knows r) = omega arith
mine_owns v (Acts r w a) = elim (same_who v w) as (λ b. one_if b ≤ 1) [ true ↦ omega arith | false ↦ omega arith ]
mine_owns v (Halts r u) = omega arith
mine_owns v (Stops u) = omega arith
mine_owns v (Owns w a) = elim (same_who v w) as (λ b. one_if b ≤ 1) [ true ↦ omega arith | false ↦ omega arith ]
mine_owns v Spent = omega arith

mine_all : (v : Who) (ts : List View) → sum_by (mine v) ts ≤ sum_by owns ts
mine_all v [] = omega arith
mine_all v (t ∷ ts) =
    let one = sum_by-cons (mine v) t ts in
    let two = sum_by-cons owns t ts in
    let first = mine_owns v t in
    let rest = mine_all v ts in
    omega (arith, one, two, first, rest)

-- no owner is left, so the last entry is of one that was taken in
all_taken : (r : Roll) (ts : List View) → IsKept r ts → r.out ≡ 0 → length r.now.net.journal ≤ r.last
all_taken r ts h none = all_within r.last r.now.net.journal (λ v. let few = mine_all v ts in h.last v (omega (arith, few, h.count, none)))

pub by_owner : (net : Simulation) (slots id : ℕ) (me : Me (Unit {0}) View) (r : Roll) (w : Who) (a n : Moment) → me.0 ≡ Acts r w a → LeadsBy w r.now n → (n.stopped ≡ true → (r.now.stopped ≡ true) ⊎ IsRefused w r.now.net) → Allows (Holds net) slots id me 0 (λ k. k) (λ found x. Acted n me x)
by_owner net slots id me r w a n is by why s h homes at fits =
    let there : get_elem? s.views id ≡ some (Acts r w a) = at ∙ ap some is in
    let kept = acts_so h.0 r w a s.views id there h.1 in
    let was : (r ≡ r) × IsOwner r w a = all_at (Fits r) s.views id (Acts r w a) kept.fit there in (
      Acts (at_moment r n) w n,
      stays,
      tt,
      (at_moment r n, acted r w a n s.views id there kept by why),
      (r, w, a, is, was.1.0, was.1.1, refl),
    )

pub by_stopper : (net : Simulation) (slots id : ℕ) (me : Me (Unit {0}) View) (r : Roll) (u : Bool) (n : Moment) → me.0 ≡ Halts r u → (leads : Leads r.now n) → leads.rest ≡ [] → leads.later ≡ [] → Allows (Holds net) slots id me 0 (λ k. k) (λ found x. Halted n me x)
by_stopper net slots id me r u n is leads none still_so s h homes at fits =
    let there : get_elem? s.views id ≡ some (Halts r u) = at ∙ ap some is in
    let kept = halts_so h.0 r u s.views id there h.1 in (
      Halts (halted r n) true,
      stays,
      tt,
      (halted r n, halting r u n s.views id there kept leads none still_so),
      (r, u, is, refl),
    )

pub takes_back : (net : Simulation) (slots id : ℕ) (me : Me (Unit {0}) View) (r : Roll) (u : Bool) → me.0 ≡ Halts r u → Allows (Holds net) slots id me 0 (λ k. k) (λ found x. TakenBack me x)
takes_back net slots id me r u is s h homes at fits =
    let there : get_elem? s.views id ≡ some (Halts r u) = at ∙ ap some is in
    let kept = halts_so h.0 r u s.views id there h.1 in
    let was : (r ≡ r) × (u ≡ r.used) = all_at (Fits r) s.views id (Halts r u) kept.fit there in (
      Knows r,
      stays,
      tt,
      (r, again r (Halts r u) s.views id there refl (λ v. refl) kept),
      (r, u, is, sym was.1, refl),
    )

pub takes_in : (net : Simulation) (slots id : ℕ) (me : Me (Unit {0}) View) (r : Roll) (w : Who) (a : Moment) → me.0 ≡ Acts r w a → Allows (Holds net) slots id me 0 (λ k. k) (λ found x. TakenIn me x)
takes_in net slots id me r w a is s h homes at fits =
    let there : get_elem? s.views id ≡ some (Acts r w a) = at ∙ ap some is in
    let kept = acts_so h.0 r w a s.views id there h.1 in
    let was : (r ≡ r) × IsOwner r w a = all_at (Fits r) s.views id (Acts r w a) kept.fit there in
    let some_out = part_at owns s.views id (Acts r w a) there in (
      Knows (one_less r (last_of w a.net.journal)),
      stays,
      tt,
      (one_less r (last_of w a.net.journal), taken_in r w a s.views id there kept),
      (r, w, a, is, was.1.0, omega (arith, some_out, kept.count), refl),
    )

pub tells : (net : Simulation) (slots id : ℕ) (me : Me (Unit {0}) View) (r : Roll) → me.0 ≡ Knows r → Allows (Holds net) slots id me 0 (λ k. k) (λ found x. Told me x)
tells net slots id me r is s h homes at fits =
    let there : get_elem? s.views id ≡ some (Knows r) = at ∙ ap some is in
    let kept = knows_so h.0 r s.views id there h.1 in (
      Knows r,
      stays,
      tt,
      (r, again r (Knows r) s.views id there refl (λ v. refl) kept),
      (r, is, kept.named, all_taken r s.views kept, kept.why, refl),
    )

pub splits_nothing : (net : Simulation) (id : ℕ) (v : View) (r : Roll) → v ≡ Knows r → Splits (Holds net) id v (keeper_of v) (nothing_of v)
splits_nothing net id v r is = subst (λ x. Splits (Holds net) id x (keeper_of x) (nothing_of x)) (sym is) (λ s h at. (r, placed r s.views id at (knows_so h.0 r s.views id at h.1)))

pub splits_host : (net : Simulation) (id : ℕ) (v : View) (r : Roll) → v ≡ Knows r → Splits (Holds net) id v (with_host v) (host_of v)
splits_host net id v r is = subst (λ x. Splits (Holds net) id x (with_host x) (host_of x)) (sym is) (λ s h at. (
  host_more r,
  given r (r.hosts + 1) r.workers (Host (r.hosts + 1)) s.views id (omega arith) (omega arith) (omega arith, omega arith) (λ named. absurd (omega (arith, named.1))) at (knows_so h.0 r s.views id at h.1),
))

pub splits_worker : (net : Simulation) (id : ℕ) (v : View) (r : Roll) → v ≡ Knows r → Splits (Holds net) id v (with_worker v) (worker_of v)
splits_worker net id v r is = subst (λ x. Splits (Holds net) id x (with_worker x) (worker_of x)) (sym is) (λ s h at. (
  worker_more r,
  given r r.hosts (r.workers + 1) (Worker (r.workers + 1)) s.views id (omega arith) (omega arith) (omega arith, omega arith) (λ named. absurd (omega (arith, named.1))) at (knows_so h.0 r s.views id at h.1),
))

pub splits_parts : (net : Simulation) (id : ℕ) (v : View) (r : Roll) (w : Who) (a : Moment) → v ≡ Acts r w a → Splits (Holds net) id v (keeper_again v) (other_again v)
splits_parts net id v r w a is = subst (λ x. Splits (Holds net) id x (keeper_again x) (other_again x)) (sym is) (λ s h at. (r, parted r w a s.views id at (acts_so h.0 r w a s.views id at h.1)))

pub splits_stopper : (net : Simulation) (id : ℕ) (v : View) (r : Roll) (u : Bool) → v ≡ Halts r u → Splits (Holds net) id v (keeper_again v) (other_again v)
splits_stopper net id v r u is = subst (λ x. Splits (Holds net) id x (keeper_again x) (other_again x)) (sym is) (λ s h at. (r, unstopped r u s.views id at (halts_so h.0 r u s.views id at h.1)))

joins_at : (net : Simulation) (id other : ℕ) (r : Roll) (w : Who) (a : Moment) → Joins (Holds net) id (Knows r) other (Owns w a) (Acts r w a) Spent
joins_at net id other r w a s h at apart there = (r, taken_up r w a s.views id other at apart there (knows_so h.0 r s.views id at h.1))

pub joins : (net : Simulation) (id other : ℕ) (v u : View) (r : Roll) (w : Who) (a : Moment) → v ≡ Knows r → u ≡ Owns w a → Joins (Holds net) id v other u (joined v u) Spent
joins net id other v u r w a is owns =
    subst (λ x. Joins (Holds net) id x other u (joined x u) Spent) (sym is) (subst (λ y. Joins (Holds net) id (Knows r) other y (joined (Knows r) y) Spent) (sym owns) (joins_at net id other r w a))

stopper_at : (net : Simulation) (id other : ℕ) (r : Roll) (x : Bool) → Joins (Holds net) id (Knows r) other (Stops x) (Halts r x) Spent
stopper_at net id other r x s h at apart there = (r, stopper_up r x s.views id other at apart there (knows_so h.0 r s.views id at h.1))

pub joins_stopper : (net : Simulation) (id other : ℕ) (v u : View) (r : Roll) (x : Bool) → v ≡ Knows r → u ≡ Stops x → Joins (Holds net) id v other u (joined v u) Spent
joins_stopper net id other v u r x is stops =
    subst (λ y. Joins (Holds net) id y other u (joined y u) Spent) (sym is) (subst (λ y. Joins (Holds net) id (Knows r) other y (joined (Knows r) y) Spent) (sym stops) (stopper_at net id other r x))

-- what the two know together
pub joined_is : (v u : View) (r : Roll) (w : Who) (a : Moment) → v ≡ Knows r → u ≡ Owns w a → joined v u ≡ Acts r w a
joined_is v u r w a is owns = subst (λ x. joined x u ≡ Acts r w a) (sym is) (subst (λ y. joined (Knows r) y ≡ Acts r w a) (sym owns) refl)

pub halts_is : (v u : View) (r : Roll) (x : Bool) → v ≡ Knows r → u ≡ Stops x → joined v u ≡ Halts r x
halts_is v u r x is stops = subst (λ y. joined y u ≡ Halts r x) (sym is) (subst (λ y. joined (Knows r) y ≡ Halts r x) (sym stops) refl)

-- the stopper knows whether it was used
pub used_so : (v : View) (r x : Roll) (u y : Bool) → v ≡ Halts x y → v ≡ Halts r u → x.used ≡ y → r.used ≡ u
used_so v r x u y is told same = subst (λ (t : View). (roll_of t).used ≡ used_of t) (sym is ∙ told) same

-- what the owner that acts saw has led to what lay there
pub before_so : (v : View) (r x : Roll) (w u : Who) (a b : Moment) → v ≡ Acts x u b → v ≡ Acts r w a → LeadsWithout w a r.now → LeadsWithout u b x.now
before_so v r x w u a b is told led = subst (λ (t : View). LeadsWithout (whose t) (saw_of t) (roll_of t).now) (sym told ∙ is) led

-- the owner that acts is one of those who were named
pub named_so : (v : View) (r x : Roll) (w u : Who) (a b : Moment) → v ≡ Acts x u b → v ≡ Acts r w a → IsNamed r.hosts r.workers w → IsNamed x.hosts x.workers u
named_so v r x w u a b is told named = subst (λ (t : View). IsNamed (roll_of t).hosts (roll_of t).workers (whose t)) (sym told ∙ is) named

-- the first keeper knows what lies there, which has no entry yet
pub opens : (net : Simulation) → net.journal ≡ [] → Holds net (opening (0 ∷ []) [] (first net))
opens net unused =
    let now = nobody (moment net false []) in
    let keeping = sum_by-cons keeps (first net) [] in
    let owning = sum_by-cons owns (first net) [] in
    let stopping = sum_by-cons halts (first net) [] in (
      now,
      record {
        fit = All-cons (Fits now) (first net) [] (refl, refl) (All-nil (Fits now));
        keeper = omega (arith, keeping);
        stopper = omega (arith, stopping);
        once = λ v. let mines = sum_by-cons (mine v) (first net) [] in omega (arith, mines);
        count = omega (arith, owning);
        named = subst (AreNamed 0 0) (sym unused) tt;
        last = λ v none. let e : last_of v net.journal ≡ 0 = ap (last_of v) unused in omega (arith, e);
        why = λ s. absurd (true≢false (sym s));
      },
    )

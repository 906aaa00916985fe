-- What was added between two moments, by whom.
use Rattle.std.proofs.Common.{true≢false, Bool, Result, Ok, Err, Some, slice_get, inl, inr, cond, ◌≡◌, ℕ, ◌+◌, ◌≤◌, ◌&&◌, true, false, List, [], ◌∷◌, ◌++◌, length, refl, sym, ap, ◌∙◌, subst, arith, length-append}
use Rattle.std.proofs.lemmas.List.{append-nil}
use Rattle.std.proofs.lemmas.List.Elements.{filter-append}
use Rattle.std.proofs.lemmas.List.Sums.{sum_by-cons, sum_by_push}
use Rattle.std.specs.List.{All, count_by, sum_by}
use Rattle.std.specs.Prelude.{MatchResult}
use Rattle.std.proofs.lemmas.Option.{slice_get_within, get_or_from_slice_get}
use Rattle.bz_model.specs.declared.event.Who.{Who}
use Rattle.bz_model.specs.declared.event.Entry.{Entry}
use Rattle.bz_model.specs.declared.event.Entry.TheVariants.{Fired, Host, Rested}
use Rattle.bz_model.specs.declared.event.NetError.{NetError}
use Rattle.bz_past.specs.Owners.{who_of, same_who, part_of, AreNamed, AreOthers, LeadsWithout, last_of}
use Rattle.bz_past.specs.Stopping.{IsStoppedFor}
use Rattle.bz_past.specs.declared.view.Moment.{Moment}
use Rattle.bz_past.proofs.Owning.{last_others, last_push, last_within, same_self}
use Rattle.bz_locked.specs.Journal.{firings, is_fired}
use Rattle.bz_locked.specs.Closing.{PartFault, RecordAgrees, ShareAgrees}
use Rattle.bz_locked.specs.Making.{MadeNone, MadeOne, MadeTold}
use Rattle.bz_locked.specs.Parts.{SessionView, WorkerView}
use Rattle.bz_locked.specs.Waking.{FiresFor}
use Rattle.bz_locked.specs.Working.{is_wait}
use Rattle.bz_locked.specs.declared.locked.Polled.{Polled}
use Rattle.bz_locked.specs.declared.locked.Polled.TheVariants as told

-- entries of others are in no part of one's own
part_none : (w : Who) (es : List Entry) → AreOthers w es → part_of w es ≡ []
part_none w [] others = refl
part_none w (e ∷ es) others = ap (λ b. cond b (e ∷ part_of w es) (part_of w es)) others.0 ∙ part_none w es others.1

part_others : (w : Who) (xs ys : List Entry) → AreOthers w ys → part_of w (xs ++ ys) ≡ part_of w xs
part_others w xs ys others = filter-append (λ e. same_who (who_of e) w) xs ys ∙ ap (λ l. part_of w xs ++ l) (part_none w ys others) ∙ append-nil (part_of w xs)

part_push : (w : Who) (xs : List Entry) (e : Entry) → same_who (who_of e) w ≡ true → part_of w (xs ++ e ∷ []) ≡ part_of w xs ++ e ∷ []
part_push w xs e is = filter-append (λ x. same_who (who_of x) w) xs (e ∷ []) ∙ ap (λ b. part_of w xs ++ cond b (e ∷ []) []) is

-- of what lies there now its part is that of what it saw
pub part_led : (w : Who) (a b : Moment) → LeadsWithout w a b → part_of w b.net.journal ≡ part_of w a.net.journal
part_led w a b led = ap (part_of w) led.0.journal ∙ part_others w a.net.journal led.0.rest led.1

pub last_led : (w : Who) (a b : Moment) → LeadsWithout w a b → last_of w b.net.journal ≡ last_of w a.net.journal
last_led w a b led = ap (last_of w) led.0.journal ∙ last_others w a.net.journal led.0.rest led.1

pub made_none : (w : Who) (a m b : Moment) → LeadsWithout w a m → b.net.journal ≡ m.net.journal → MadeNone w a b
made_none w a m b led same = record { own = ap (part_of w) same ∙ part_led w a m led; last = ap (last_of w) same ∙ last_led w a m led }

pub made_one : (w : Who) (e : Entry) (len : ℕ) (a m b : Moment) → LeadsWithout w a m → b.net.journal ≡ m.net.journal ++ e ∷ [] → who_of e ≡ w → len ≡ length b.net.journal → MadeOne w e len a b
made_one w e len a m b led grown of is =
    let mine : same_who (who_of e) w ≡ true = ap (λ u. same_who u w) of ∙ same_self w in
    let long : length b.net.journal ≡ length m.net.journal + 1 = ap length grown ∙ length-append m.net.journal (e ∷ []) in
    let at = ap (last_of w) grown ∙ last_push w m.net.journal e mine in
    let within = last_within w m.net.journal in
    let before = last_led w a m led in
    record {
      own = ap (part_of w) grown ∙ part_push w m.net.journal e mine ∙ ap (λ l. l ++ e ∷ []) (part_led w a m led);
      last = omega (arith, at, is, long);
      before = omega (arith, within, before, is, long);
    }

-- nothing, and then something
pub none_none : (w : Who) (a b c : Moment) → MadeNone w a b → MadeNone w b c → MadeNone w a c
none_none w a b c one two = record { own = two.own ∙ one.own; last = two.last ∙ one.last }

pub none_one : (w : Who) (e : Entry) (len : ℕ) (a b c : Moment) → MadeNone w a b → MadeOne w e len b c → MadeOne w e len a c
none_one w e len a b c one two = record { own = two.own ∙ ap (λ l. l ++ e ∷ []) one.own; last = two.last; before = subst (λ n. n ≤ len) one.last two.before }

-- how many firings are in its part
firings_of : (w : Who) (es : List Entry) → firings w es ≡ count_by is_fired (part_of w es)
firings_of w [] = refl
firings_of w (e ∷ es) =
    let f : Entry → ℕ = λ x. cond (same_who (who_of x) w && is_fired x) 1 0 in
    let first = sum_by-cons f e es in
    let rest = firings_of w es in
    elim (same_who (who_of e) w) as (λ b. sum_by f (e ∷ es) ≡ cond (b && is_fired e) 1 0 + sum_by f es → sum_by f (e ∷ es) ≡ count_by is_fired (cond b (e ∷ part_of w es) (part_of w es))) [
      | true ↦ λ h. let then = sum_by-cons (λ x. cond (is_fired x) 1 0) e (part_of w es) in omega (arith, h, then, rest)
      | false ↦ λ h. omega (arith, h, rest)
    ] first

pub fired_same : (w : Who) (xs ys : List Entry) → part_of w ys ≡ part_of w xs → firings w ys ≡ firings w xs
fired_same w xs ys same = firings_of w ys ∙ ap (count_by is_fired) same ∙ sym (firings_of w xs)

pub fired_push : (w : Who) (xs ys : List Entry) (e : Entry) → part_of w ys ≡ part_of w xs ++ e ∷ [] → firings w ys ≡ firings w xs + cond (is_fired e) 1 0
fired_push w xs ys e more =
    let before = firings_of w xs in
    let after = firings_of w ys ∙ ap (count_by is_fired) more in
    let push = sum_by_push (λ x. cond (is_fired x) 1 0) (part_of w xs) e in
    omega (arith, before, after, push)

-- none, and then what a waiting session made
told_later : (w : Who) (p : Polled) (a b c : Moment) → MadeNone w a b → MadeTold w p b c → MadeTold w p a c
told_later w (told.Answered entry reply len) a b c one two = none_one w entry len a b c one two
told_later w told.Resting a b c one two = none_none w a b c one two
told_later w told.Spent a b c one two = none_none w a b c one two
told_later w told.Stopped a b c one two = none_none w a b c one two
told_later w told.Wait a b c one two = none_none w a b c one two

pub told_after : (w : Who) (r : Result Polled NetError) (a b c : Moment) → MadeNone w a b → MatchResult r (λ p. MadeTold w p b c) (λ e. MadeNone w b c) → MatchResult r (λ p. MadeTold w p a c) (λ e. MadeNone w a c)
told_after w (Ok p) a b c one two = told_later w p a b c one two
told_after w (Err e) a b c one two = none_none w a b c one two

-- who has to wait on has made none
pub waited : (w : Who) (r : Result Polled NetError) (b c : Moment) → is_wait r ≡ true → MatchResult r (λ p. MadeTold w p b c) (λ e. MadeNone w b c) → MadeNone w b c
waited w (Ok told.Wait) b c is made = made
waited w (Ok (told.Answered entry reply len)) b c is made = absurd (true≢false (sym is))
waited w (Ok told.Resting) b c is made = made
waited w (Ok told.Spent) b c is made = made
waited w (Ok told.Stopped) b c is made = made
waited w (Err e) b c is made = made

-- the same of a whole list: where all tell the truth nothing differs
here_of : {X : Type 0} (P : X → Type 0) (xs : List X) (k : ℕ) (x : X) → All P xs → slice_get xs k ≡ Some x → P x
here_of P xs k x all is = subst P (get_or_from_slice_get xs k x x is) (all k x (slice_get_within xs k x is))

pub no_fault : (journal : List Entry) (sessions : List SessionView) (workers : List WorkerView) (who : Who) (at : ℕ) → All (RecordAgrees journal) sessions → All (ShareAgrees journal) workers → PartFault journal sessions workers who at → ⊥
no_fault journal sessions workers who at records shares fault = elim fault [
  | inl f ↦
      let agrees : RecordAgrees journal f.1 = here_of (RecordAgrees journal) sessions f.0 f.1 records f.2 in
      let same : f.1.own ≡ part_of who journal = agrees ∙ ap (λ w. part_of w journal) f.3 in
      f.5.3 (ap (λ l. slice_get l f.5.0) same)
  | inr f ↦
      let agrees : ShareAgrees journal f.1.1 = here_of (ShareAgrees journal) workers f.1.0 f.1.1 shares f.1.2 in
      f.1.5 (agrees ∙ ap (λ w. firings w journal) f.1.3)
]

pub stopped_there : (used u : Bool) (few n : ℕ) (now m : Moment) → used ≡ u → few ≡ n → now ≡ m → IsStoppedFor used few now → IsStoppedFor u n m
stopped_there used u few n now m one two three why = subst (IsStoppedFor u n) three (subst (λ k. IsStoppedFor u k now) two (subst (λ x. IsStoppedFor x few now) one why))

pub named_there : (h m j k : ℕ) (xs ys : List Entry) → h ≡ j → m ≡ k → xs ≡ ys → AreNamed h m xs → AreNamed j k ys
named_there h m j k xs ys hosts workers same named = subst (AreNamed j k) same (subst (λ n. AreNamed n k xs) hosts (subst (λ n. AreNamed h n xs) workers named))

-- a firing is one
pub fires_fired : (w : Who) (c : ℕ) (e : Entry) → FiresFor w c e → is_fired e ≡ true
fires_fired w c (Fired v d p k mv value) is = refl
fires_fired w c (Host v verb port value reply) is = absurd is
fires_fired w c (Rested v) is = absurd is

-- What is read of marks and values, and written to them, as the phases that they tell show it.
use Rattle.std.proofs.Common.{◌≡◌, ◌≢◌, ◌<◌, ℕ, zero, suc, List, [], ◌∷◌, length, replicate, get_or, set, Some, None, refl, sym, ap, subst, ◌∙◌, arith}
use Rattle.std.proofs.lemmas.List.{get_or_default}
use Rattle.bz_model.specs.declared.channel.Move.{Move}
use Rattle.bz_model.specs.declared.channel.Phase.{Phase}
use Rattle.bz_model.specs.declared.channel.Phase.TheVariants.{Idle, Broken}
use Rattle.bz_net.specs.declared.kept_phases.Mark.{Mark}
use Rattle.bz_net.specs.declared.kept_phases.Mark.TheVariants as mark
use Rattle.bz_kinds.specs.Riding.{riding}
use Rattle.bz_net.specs.Due.{next_of}
use Rattle.bz_net.specs.KeptPhases.{phase_of, phases_of}

pub length_phases : (ms : List Mark) (vs : List ℕ) → length vs ≡ length ms → length (phases_of ms vs) ≡ length ms
length_phases [] vs same = refl
length_phases (m ∷ ms) [] same = absurd (omega arith)
length_phases (m ∷ ms) (v ∷ vs) same = ap suc (length_phases ms vs (omega arith))

pub idle_phases : (n : ℕ) (vs : List ℕ) → length vs ≡ n → phases_of (replicate n mark.Idle) vs ≡ replicate n Idle
idle_phases zero vs same = refl
idle_phases (suc n) [] same = absurd (omega arith)
idle_phases (suc n) (v ∷ vs) same = ap (λ l. Idle ∷ l) (idle_phases n vs (omega arith))

-- a mark and the value beside it were read
pub phase_read : (ms : List Mark) (vs : List ℕ) (i : ℕ) (m : Mark) (v : ℕ) → length vs ≡ length ms → i < length ms → m ≡ get_or ms i m → v ≡ get_or vs i v
    → phase_of m v ≡ get_or (phases_of ms vs) i Idle
phase_read [] vs i m v same lt is on = absurd (omega arith)
phase_read (a ∷ ms) [] i m v same lt is on = absurd (omega arith)
phase_read (a ∷ ms) (b ∷ vs) zero m v same lt is on = ap (λ (x : Mark). phase_of x v) is ∙ ap (phase_of a) on
phase_read (a ∷ ms) (b ∷ vs) (suc i) m v same lt is on = phase_read ms vs i m v (omega arith) (omega arith) is on

-- a mark was put, whose phase has no value
pub mark_put : (ms : List Mark) (vs : List ℕ) (i : ℕ) (m : Mark) (f : Phase) → length vs ≡ length ms → ((v : ℕ) → phase_of m v ≡ f)
    → phases_of (set ms i m) vs ≡ set (phases_of ms vs) i f
mark_put [] vs i m f same tells = refl
mark_put (a ∷ ms) [] i m f same tells = absurd (omega arith)
mark_put (a ∷ ms) (b ∷ vs) zero m f same tells = ap (λ (x : Phase). x ∷ phases_of ms vs) (tells b)
mark_put (a ∷ ms) (b ∷ vs) (suc i) m f same tells = ap (λ l. phase_of a b ∷ l) (mark_put ms vs i m f (omega arith) tells)

-- a mark was put, and its value
pub both_put : (ms : List Mark) (vs : List ℕ) (i : ℕ) (m : Mark) (v : ℕ) (f : Phase) → length vs ≡ length ms → phase_of m v ≡ f
    → phases_of (set ms i m) (set vs i v) ≡ set (phases_of ms vs) i f
both_put [] vs i m v f same tells = refl
both_put (a ∷ ms) [] i m v f same tells = absurd (omega arith)
both_put (a ∷ ms) (b ∷ vs) zero m v f same tells = ap (λ (x : Phase). x ∷ phases_of ms vs) tells
both_put (a ∷ ms) (b ∷ vs) (suc i) m v f same tells = ap (λ l. phase_of a b ∷ l) (both_put ms vs i m v f (omega arith) tells)

-- what rides where a mark and the value beside it were read
pub riding_read : (ms : List Mark) (vs : List ℕ) (i : ℕ) (m : Mark) (v : ℕ) → length vs ≡ length ms → i < length ms → m ≡ get_or ms i m → v ≡ get_or vs i v
    → riding (phase_of m v) ≡ riding (get_or (phases_of ms vs) i Idle)
riding_read ms vs i m v same lt is on = ap riding (phase_read ms vs i m v same lt is on)

pub request_rides : (ms : List Mark) (vs : List ℕ) (i : ℕ) (m : Mark) (v : ℕ) → length vs ≡ length ms → i < length ms → m ≡ get_or ms i m → v ≡ get_or vs i v → m ≡ mark.AskedWith
    → Some v ≡ riding (get_or (phases_of ms vs) i Idle)
request_rides ms vs i m v same lt is on with_it = sym (ap (λ (m : Mark). riding (phase_of m v)) with_it) ∙ riding_read ms vs i m v same lt is on

pub reply_rides : (ms : List Mark) (vs : List ℕ) (i : ℕ) (m : Mark) (v : ℕ) → length vs ≡ length ms → i < length ms → m ≡ get_or ms i m → v ≡ get_or vs i v → m ≡ mark.RepliedWith
    → Some v ≡ riding (get_or (phases_of ms vs) i Idle)
reply_rides ms vs i m v same lt is on with_it = sym (ap (λ (m : Mark). riding (phase_of m v)) with_it) ∙ riding_read ms vs i m v same lt is on

without : (m : Mark) (v : ℕ) → m ≢ mark.AskedWith → m ≢ mark.RepliedWith → None ≡ riding (phase_of m v)
without mark.Idle v not_asked not_replied = refl
without mark.Asked v not_asked not_replied = refl
without mark.AskedWith v not_asked not_replied = absurd (not_asked refl)
without mark.Taken v not_asked not_replied = refl
without mark.Replied v not_asked not_replied = refl
without mark.RepliedWith v not_asked not_replied = absurd (not_replied refl)
without mark.Broken v not_asked not_replied = refl

pub none_rides : (ms : List Mark) (vs : List ℕ) (i : ℕ) (m : Mark) → length vs ≡ length ms → i < length ms → m ≡ get_or ms i m → m ≢ mark.AskedWith → m ≢ mark.RepliedWith
    → None ≡ riding (get_or (phases_of ms vs) i Idle)
none_rides ms vs i m same lt is not_asked not_replied =
    let v = get_or vs i 0 in
    without m v not_asked not_replied ∙ riding_read ms vs i m v same lt is (get_or_default vs i 0 v (omega (arith, same, lt)))

-- the move that comes next, where a mark was read
pub next_read : (ms : List Mark) (vs : List ℕ) (i : ℕ) (m : Mark) (mv : Move) → length vs ≡ length ms → i < length ms → m ≡ get_or ms i m → ((v : ℕ) → phase_of m v ≢ Broken → next_of (phase_of m v) ≡ Some mv)
    → get_or (phases_of ms vs) i Idle ≢ Broken → next_of (get_or (phases_of ms vs) i Idle) ≡ Some mv
next_read ms vs i m mv same lt is tells whole =
    let v = get_or vs i 0 in
    let read = phase_read ms vs i m v same lt is (get_or_default vs i 0 v (omega (arith, same, lt))) in
    subst (λ (f : Phase). f ≢ Broken → next_of f ≡ Some mv) read (tells v) whole

-- How sessions stand as they turn.
use Rattle.std.proofs.Common.{true, false, Bool, cond, ◌≡◌, ℕ, zero, suc, ◌+◌, ◌-◌, ◌≤◌, Option, Some, None, Result, Ok, Err, List, [], ◌∷◌, ◌++◌, map, replicate, slice_set, refl, sym, ap, ◌∙◌, subst, arith, append_assoc, true≢false}
use Rattle.std.specs.List.{filter}
use Rattle.std.specs.Prelude.{MatchResult}
use Rattle.std.proofs.lemmas.Bool.{eq-eqb, ne_eqb}
use Rattle.std.proofs.lemmas.List.{append-nil, map-append}
use Rattle.std.proofs.lemmas.List.Elements.{filter-append}
use Rattle.bz_model.specs.declared.event.Who.{Who}
use Rattle.bz_model.specs.declared.event.Who.TheVariants as who
use Rattle.bz_model.specs.declared.event.HostCmd.{HostCmd}
use Rattle.bz_model.specs.declared.event.NetError.{NetError}
use Rattle.bz_model.specs.Nets.{Wiring}
use Rattle.bz_past.specs.Moments.{AreWithin}
use Rattle.bz_past.specs.Owners.{same_who, is_host, AreTurnsOf, AreTurnsOfOthers, IsNamed, LeadsWithout}
use Rattle.bz_past.specs.Standings.{HasTurned, last_or, listed, standing_of, standings_behind, standings_of, turned, turned_by}
use Rattle.bz_past.specs.declared.standing.Standing.{Standing}
use Rattle.bz_past.specs.declared.standing.Standing.TheVariants.{Running}
use Rattle.bz_past.specs.declared.standing.Turn.{Turn}
use Rattle.bz_past.specs.declared.view.Moment.{Moment}
use Rattle.bz_past.proofs.Owning.{same_self}
use Rattle.bz_locked.specs.Quiet.{AwaitsIn, told_standings, told_turn, with_standing, with_turn}
use Rattle.bz_locked.specs.Working.{HasBegun, HasWaited, is_wait}
use Rattle.bz_locked.specs.declared.locked.Polled.{Polled}
use Rattle.bz_locked.specs.declared.locked.Polled.TheVariants as told

-- the turn as a list
abbrev pub later_of : Who → ℕ → Option Standing → List Turn
later_of w at None = []
later_of w at (Some s) = record { who = w; at = at; standing = s } ∷ []

-- only a host turns
abbrev pub MayTurn : Who → Option Standing → Type 0
MayTurn w None = Unit {0}
MayTurn w (Some s) = is_host w ≡ true

pub turned_is : (us : List Turn) (w : Who) (at : ℕ) (turn : Option Standing) → turned us w at turn ≡ us ++ later_of w at turn
turned_is us w at None = sym (append-nil us)
turned_is us w at (Some s) = refl

pub later_by : (w : Who) (at : ℕ) (turn : Option Standing) → MayTurn w turn → AreTurnsOf w (later_of w at turn)
later_by w at None may = tt
later_by w at (Some s) may = (refl, may, tt)

pub later_within : (w : Who) (from at to : ℕ) (turn : Option Standing) → from ≤ at → at ≤ to → AreWithin from to (later_of w at turn)
later_within w from at to None low high = tt
later_within w from at to (Some s) low high = (low, high, tt)

turned_append : (w : Who) (xs ys : List Turn) → turned_by w (xs ++ ys) ≡ turned_by w xs ++ turned_by w ys
turned_append w xs ys =
    let p : Turn → Bool = λ t. same_who t.who w in
    ap (map (λ (t : Turn). t.standing)) (filter-append p xs ys) ∙ map-append (λ (t : Turn). t.standing) (filter p xs) (filter p ys)

turned_none : (w : Who) (ts : List Turn) → AreTurnsOfOthers w ts → turned_by w ts ≡ []
turned_none w [] others = refl
turned_none w (t ∷ ts) others =
    let p : Turn → Bool = λ t. same_who t.who w in
    ap (λ b. map (λ (t : Turn). t.standing) (cond b (t ∷ filter p ts) (filter p ts))) others.0 ∙ turned_none w ts others.1

turned_push : (w : Who) (ts : List Turn) (t : Turn) (b : Bool) → same_who t.who w ≡ b → turned_by w (ts ++ t ∷ []) ≡ turned_by w ts ++ map (λ (t : Turn). t.standing) (cond b (t ∷ []) [])
turned_push w ts t b is = turned_append w ts (t ∷ []) ∙ ap (λ x. turned_by w ts ++ map (λ (t : Turn). t.standing) (cond x (t ∷ []) [])) is

-- of what lies there now its turns are those that it saw
pub turned_led : (w : Who) (a b : Moment) → LeadsWithout w a b → turned_by w b.turns ≡ turned_by w a.turns
turned_led w a b led = ap (turned_by w) led.0.turns ∙ turned_append w a.turns led.0.later ∙ ap (λ l. turned_by w a.turns ++ l) (turned_none w led.0.later led.2) ∙ append-nil (turned_by w a.turns)

pub standing_led : (w : Who) (a b : Moment) → LeadsWithout w a b → standing_of w b.turns ≡ standing_of w a.turns
standing_led w a b led = ap (last_or Running) (turned_led w a b led)

pub has_turned : (w : Who) (a m b : Moment) (at : ℕ) (turn : Option Standing) → LeadsWithout w a m → b.turns ≡ turned m.turns w at turn → HasTurned w (listed turn) a b
has_turned w a m b at None led is = ap (turned_by w) is ∙ turned_led w a m led ∙ sym (append-nil (turned_by w a.turns))
has_turned w a m b at (Some s) led is =
    ap (turned_by w) is ∙ turned_push w m.turns (record { who = w; at = at; standing = s }) true (same_self w) ∙ ap (λ l. l ++ s ∷ []) (turned_led w a m led)

-- once, and then again
pub turned_then : (w : Who) (xs ys : List Standing) (a b c : Moment) → HasTurned w xs a b → HasTurned w ys b c → HasTurned w (xs ++ ys) a c
turned_then w xs ys a b c one two = two ∙ ap (λ l. l ++ ys) one ∙ append_assoc (turned_by w a.turns) xs ys

last_push : (d s : Standing) (xs : List Standing) → last_or d (xs ++ s ∷ []) ≡ s
last_push d s [] = refl
last_push d s (x ∷ xs) = last_push x s xs

pub stands_so : (w : Who) (s : Standing) (a b : Moment) → HasTurned w (s ∷ []) a b → standing_of w b.turns ≡ s
stands_so w s a b is = ap (last_or Running) is ∙ last_push Running s (turned_by w a.turns)

-- who has begun to wait stands so
pub begun : (w : Wiring) (who : Who) (cmd : HostCmd) (a b : Moment) → HasBegun w who cmd a b → AwaitsIn w cmd (standing_of who b.turns)
begun w who cmd a b is = subst (AwaitsIn w cmd) (sym (stands_so who is.0 a b is.2)) is.1

pub begun_on : (w : Wiring) (who : Who) (cmd : HostCmd) (a b c : Moment) → HasBegun w who cmd a b → HasTurned who [] b c → HasBegun w who cmd a c
begun_on w who cmd a b c is on = (is.0, is.1, turned_then who (is.0 ∷ []) [] a b c is.2 on)

-- who is not told to wait on runs on
pub waited_so : (w : Wiring) (who : Who) (cmd : HostCmd) (a b c : Moment) (r : Result Polled NetError) → is_wait r ≡ false → HasBegun w who cmd a b → HasTurned who (listed (told_turn r)) b c → HasWaited w who cmd a c
waited_so w who cmd a b c (Ok told.Wait) goes is on = absurd (true≢false goes)
waited_so w who cmd a b c (Ok (told.Answered entry reply len)) goes is on = (is.0, is.1, turned_then who (is.0 ∷ []) (Running ∷ []) a b c is.2 on)
waited_so w who cmd a b c (Ok told.Resting) goes is on = (is.0, is.1, turned_then who (is.0 ∷ []) (Running ∷ []) a b c is.2 on)
waited_so w who cmd a b c (Ok told.Spent) goes is on = (is.0, is.1, turned_then who (is.0 ∷ []) (Running ∷ []) a b c is.2 on)
waited_so w who cmd a b c (Ok told.Stopped) goes is on = (is.0, is.1, turned_then who (is.0 ∷ []) (Running ∷ []) a b c is.2 on)
waited_so w who cmd a b c (Err e) goes is on = (is.0, is.1, turned_then who (is.0 ∷ []) (Running ∷ []) a b c is.2 on)

-- who is told to wait on has not turned
pub waits_still : (who : Who) (b c : Moment) (r : Result Polled NetError) → is_wait r ≡ true → HasTurned who (listed (told_turn r)) b c → HasTurned who [] b c
waits_still who b c (Ok told.Wait) is on = on
waits_still who b c (Ok (told.Answered entry reply len)) is on = absurd (true≢false (sym is))
waits_still who b c (Ok told.Resting) is on = absurd (true≢false (sym is))
waits_still who b c (Ok told.Spent) is on = absurd (true≢false (sym is))
waits_still who b c (Ok told.Stopped) is on = absurd (true≢false (sym is))
waits_still who b c (Err e) is on = absurd (true≢false (sym is))

-- A turn changes the standing at its place.
other_turn : (w : Who) (ts : List Turn) (t : Turn) → same_who t.who w ≡ false → standing_of w (ts ++ t ∷ []) ≡ standing_of w ts
other_turn w ts t apart = ap (last_or Running) (turned_push w ts t false apart ∙ append-nil (turned_by w ts))

own_turn : (w : Who) (ts : List Turn) (t : Turn) → same_who t.who w ≡ true → standing_of w (ts ++ t ∷ []) ≡ t.standing
own_turn w ts t same = ap (last_or Running) (turned_push w ts t true same) ∙ last_push Running t.standing (turned_by w ts)

host_apart : (j k : ℕ) (v : Who) → v ≡ who.Host j → (j ≡ k → ⊥) → same_who v (who.Host k) ≡ false
host_apart j k v is apart = ap (λ u. same_who u (who.Host k)) is ∙ ne_eqb j k apart

host_same : (j k : ℕ) (v : Who) → v ≡ who.Host j → j ≡ k → same_who v (who.Host k) ≡ true
host_same j k v is same = ap (λ u. same_who u (who.Host k)) is ∙ eq-eqb j k same

before_all : (first count j : ℕ) (ts : List Turn) (t : Turn) → t.who ≡ who.Host j → j ≤ first → standings_behind first count (ts ++ t ∷ []) ≡ standings_behind first count ts
before_all first zero j ts t is low = refl
before_all first (suc count) j ts t is low =
    let head = other_turn (who.Host (suc first)) ts t (host_apart j (suc first) t.who is (λ e. absurd (omega (arith, e, low)))) in
    let tail = before_all (suc first) count j ts t is (omega (arith, low)) in
    ap (λ s. s ∷ standings_behind (suc first) count (ts ++ t ∷ [])) head ∙ ap (λ l. standing_of (who.Host (suc first)) ts ∷ l) tail

at_place : (first count i j : ℕ) (ts : List Turn) (t : Turn) → t.who ≡ who.Host j → j ≡ suc (first + i) → standings_behind first count (ts ++ t ∷ []) ≡ slice_set (standings_behind first count ts) i t.standing
at_place first zero i j ts t is place = refl
at_place first (suc count) zero j ts t is place =
    let head = own_turn (who.Host (suc first)) ts t (host_same j (suc first) t.who is (omega (arith, place))) in
    let tail = before_all (suc first) count j ts t is (omega (arith, place)) in
    ap (λ s. s ∷ standings_behind (suc first) count (ts ++ t ∷ [])) head ∙ ap (λ l. t.standing ∷ l) tail
at_place first (suc count) (suc i) j ts t is place =
    let head = other_turn (who.Host (suc first)) ts t (host_apart j (suc first) t.who is (λ e. absurd (omega (arith, e, place)))) in
    let tail = at_place (suc first) count i j ts t is (omega (arith, place)) in
    ap (λ s. s ∷ standings_behind (suc first) count (ts ++ t ∷ [])) head ∙ ap (λ l. standing_of (who.Host (suc first)) ts ∷ l) tail

-- of one who was named
placed : (n hosts workers at : ℕ) (w : Who) (s : Standing) (ts : List Turn) → IsNamed hosts workers w → is_host w ≡ true → standings_of n (ts ++ record { who = w; at = at; standing = s } ∷ []) ≡ with_standing (standings_of n ts) w s
placed n hosts workers at (who.Host k) s ts named host = at_place 0 n (k - 1) k ts (record { who = who.Host k; at = at; standing = s }) refl (omega (arith, named.0))
placed n hosts workers at (who.Worker k) s ts named host = absurd (true≢false (sym host))

turn_placed : (n hosts workers at : ℕ) (w : Who) (turn : Option Standing) (ts : List Turn) → IsNamed hosts workers w → MayTurn w turn → with_turn (standings_of n ts) w turn ≡ standings_of n (turned ts w at turn)
turn_placed n hosts workers at w None ts named may = refl
turn_placed n hosts workers at w (Some s) ts named may = sym (placed n hosts workers at w s ts named may)

-- the standings under the lock are as the keeper knows
pub stands_on : (n hosts workers at : ℕ) (v w : Who) (turn : Option Standing) (ts us : List Turn) (old new : List Standing) → old ≡ standings_of n ts → new ≡ with_turn old w turn → IsNamed hosts workers v → v ≡ w → MayTurn w turn → us ≡ turned ts v at turn → new ≡ standings_of n us
stands_on n hosts workers at v w turn ts us old new was is named same may then =
    is ∙ ap (λ l. with_turn l w turn) was
    ∙ turn_placed n hosts workers at w turn ts (subst (IsNamed hosts workers) same named) may
    ∙ ap (λ u. standings_of n (turned ts u at turn)) (sym same)
    ∙ ap (standings_of n) (sym then)

pub told_on : (old new : List Standing) (w : Who) (r : Result Polled NetError) → MatchResult r (λ p. new ≡ told_standings old w p) (λ e. new ≡ with_standing old w Running) → new ≡ with_turn old w (told_turn r)
told_on old new w (Ok told.Wait) is = is
told_on old new w (Ok (told.Answered entry reply len)) is = is
told_on old new w (Ok told.Resting) is = is
told_on old new w (Ok told.Spent) is = is
told_on old new w (Ok told.Stopped) is = is
told_on old new w (Err e) is = is

may_so : (w : Who) (r : Result Polled NetError) → is_host w ≡ true → MayTurn w (told_turn r)
may_so w (Ok told.Wait) host = tt
may_so w (Ok (told.Answered entry reply len)) host = host
may_so w (Ok told.Resting) host = host
may_so w (Ok told.Spent) host = host
may_so w (Ok told.Stopped) host = host
may_so w (Err e) host = host

pub may_told : (w : Who) (r : Result Polled NetError) (turn : Option Standing) → turn ≡ told_turn r → is_host w ≡ true → MayTurn w turn
may_told w r turn is host = subst (MayTurn w) (sym is) (may_so w r host)

-- until the first turn all run
pub all_run : (first count : ℕ) → standings_behind first count [] ≡ replicate count Running
all_run first zero = refl
all_run first (suc count) = ap (λ l. Running ∷ l) (all_run (suc first) count)

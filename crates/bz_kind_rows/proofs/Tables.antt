-- The ports of a row of a table, one row after the other.
use Rattle.std.proofs.Common.{◌≡◌, ◌≢◌, ℕ, zero, suc, ◌-◌, ◌≤◌, ◌↔◌, Bool, true, false, IsTrue, List, [], ◌∷◌, ◌++◌, length, map, take, drop, All, replicate, slice_index_or, ◌<◌, ◌+◌, None, Some, if◌then◌else◌, refl, ap, arith}
use Rattle.std.proofs.Math.Seq.{take-length}
use Rattle.std.proofs.lemmas.List.{length-drop}
use Rattle.std.specs.Prelude.{◌==◌, flat_map, nat_le, sum}
use Rattle.std.proofs.lemmas.Bool.{leb-true, leb-false}
use Rattle.std.proofs.lemmas.List.Sums.{sum_by-append, sum_by-cons}
use Rattle.bz_model.specs.declared.channel.Chan.{Chan}
use Rattle.bz_model.specs.declared.channel.ChanKind.{ChanKind}
use Rattle.bz_model.specs.declared.channel.ChanKind.TheVariants.{Sync}
use Rattle.bz_model.specs.declared.kind.Kind.{Kind}
use Rattle.bz_model.specs.Rows.{PortRow, row_of, ports_of, count_of, others_of, is_passive, active_port, chans_at, widths, whole_width}
use Rattle.std.proofs.lemmas.List.Elements.{All-cons}
use Rattle.bz_kind_rows.specs.declared.ports.PortRow as table
use Rattle.bz_kind_rows.specs.Table.{seen, port_in, numbered_port, left_of}

pub is_passive-port : (kind : Kind) (sizes : List ℕ) (p : ℕ) → p ≢ 0 → is_passive kind sizes p ≡ (slice_index_or (ports_of (row_of kind) sizes) (p - 1) (active_port [] Sync)).passive
unfolding is_passive
is_passive-port kind sizes zero some = absurd (some refl)
is_passive-port kind sizes (suc i) some = let e : suc i - 1 ≡ i = omega arith in rw e refl

pub is_passive-none : (kind : Kind) (sizes : List ℕ) → is_passive kind sizes 0 ≡ false
unfolding is_passive
is_passive-none kind sizes = refl

-- the ports of the first row, and those after it
pub ports_of-row : (row : PortRow) (rows : List PortRow) (sizes : List ℕ) → ports_of (row ∷ rows) sizes ≡ replicate (count_of row sizes) row ++ ports_of rows (others_of row sizes)
ports_of-row row rows sizes = cases row.array refl
  where
    cases : (b : Bool) → row.array ≡ b → ports_of (row ∷ rows) sizes ≡ replicate (count_of row sizes) row ++ ports_of rows (others_of row sizes)
    cases true e = rw e refl
    cases false e = rw e refl

abbrev pub Carry : List Chan → List PortRow → Type 0
Carry chans rows = map (λ c. c.kind) chans ≡ map (λ r. r.kind) rows

abbrev carried : Chan → ChanKind
carried c = c.kind

head_or : List ChanKind → ChanKind
head_or ks = slice_index_or ks 0 Sync

cons-head : (a b : ChanKind) (ks ls : List ChanKind) → a ∷ ks ≡ b ∷ ls → a ≡ b
unfolding head_or
cons-head a b ks ls e = ap head_or e

cons-tail : (a b : ChanKind) (ks ls : List ChanKind) → a ∷ ks ≡ b ∷ ls → ks ≡ ls
cons-tail a b ks ls e = ap (drop 1) e

pub record Begins (chans : List Chan) (n : ℕ) (kind : ChanKind) (rows : List PortRow) : Type 0 where
  pub enough : n ≤ length chans
  pub all_carry : All (λ c. c.kind ≡ kind) (take n chans)
  pub rest : Carry (drop n chans) rows

pub carry-split : (n : ℕ) (chans : List Chan) (row : PortRow) (rows : List PortRow) → Carry chans (replicate n row ++ rows) → Begins chans n row.kind rows
carry-split zero chans row rows same = record { enough = omega arith; all_carry = λ k d below. absurd (let no : k < 0 → ⊥ = λ b. omega arith in no below); rest = same }
carry-split (suc n) [] row rows same = absurd (cc)
carry-split (suc n) (c ∷ cs) row rows same =
    let first = cons-head c.kind row.kind (map carried cs) (map (λ r. r.kind) (replicate n row ++ rows)) same in
    let others = carry-split n cs row rows (cons-tail c.kind row.kind (map carried cs) (map (λ r. r.kind) (replicate n row ++ rows)) same) in
    record { enough = (let e = others.enough in omega arith); all_carry = All-cons (λ c'. c'.kind ≡ row.kind) c (take n cs) first others.all_carry; rest = others.rest }

pub carry-join : (n : ℕ) (chans : List Chan) (row : PortRow) (rows : List PortRow) → Begins chans n row.kind rows → Carry chans (replicate n row ++ rows)
carry-join zero chans row rows b = b.rest
carry-join (suc n) [] row rows b = absurd (let e = b.enough in omega arith)
carry-join (suc n) (c ∷ cs) row rows b =
    let first = b.all_carry 0 c (omega arith) in
    let others = carry-join n cs row rows (record { enough = (let e = b.enough in omega arith); all_carry = λ k d below. b.all_carry (suc k) d (omega arith); rest = b.rest }) in
    λ i. first i ∷ others i

-- the first row of a table, and the rows after it
ports_of-table : (rows : List table.PortRow) (d : table.PortRow) (sizes : List ℕ) → 1 ≤ length rows → ports_of (map seen rows) sizes ≡ replicate (count_of (seen (slice_index_or rows 0 d)) sizes) (seen (slice_index_or rows 0 d)) ++ ports_of (map seen (take (length rows - 1) (drop 1 rows))) (others_of (seen (slice_index_or rows 0 d)) sizes)
ports_of-table [] d sizes some = absurd (omega arith)
ports_of-table (r ∷ rs) d sizes some =
    let all : suc (length rs) - 1 ≡ length rs = omega arith in
    rw (all, take-length rs) (ports_of-row (seen r) (map seen rs) sizes)

take-rest : (n : ℕ) (chans : List Chan) → take (length chans - n) (drop n chans) ≡ drop n chans
take-rest n chans = rw (← length-drop n chans, take-length (drop n chans)) refl

module _ (rows : List table.PortRow) (d : table.PortRow) (some : 1 ≤ length rows) (sizes others : List ℕ) (count : ℕ) (count_is : count ≡ count_of (seen (slice_index_or rows 0 d)) sizes) where
  row : PortRow
  row = seen (slice_index_or rows 0 d)

  rest : List PortRow
  rest = map seen (take (length rows - 1) (drop 1 rows))

  -- the ports of the first row stand in front
  split : (chans : List Chan) → Carry chans (ports_of (map seen rows) sizes) → Begins chans count row.kind (ports_of rest (others_of row sizes))
  unfolding row rest
  split chans same = carry-split count chans row (ports_of rest (others_of row sizes)) (let same' : Carry chans (replicate count row ++ ports_of rest (others_of row sizes)) = rw (count_is, ← ports_of-table rows d sizes some) same in same')

  pub carry-short : (chans : List Chan) → length chans < count → IsTrue false ↔ Carry chans (ports_of (map seen rows) sizes)
  carry-short chans short = (λ t. cc, λ same. absurd (let e = (split chans same).enough in omega arith))

  pub carry-other : (chans : List Chan) → (All (λ c. c.kind ≡ (seen (slice_index_or rows 0 d)).kind) (take count chans) → IsTrue false) → IsTrue false ↔ Carry chans (ports_of (map seen rows) sizes)
  unfolding row
  carry-other chans other = (λ t. cc, λ same. other (split chans same).all_carry)

  pub carry-first : (r : Bool) (chans : List Chan) → others ≡ others_of (seen (slice_index_or rows 0 d)) sizes → count ≤ length chans → All (λ c. c.kind ≡ (seen (slice_index_or rows 0 d)).kind) (take count chans) → (IsTrue r ↔ Carry (take (length chans - count) (drop count chans)) (ports_of (map seen (take (length rows - 1) (drop 1 rows))) others)) → IsTrue r ↔ Carry chans (ports_of (map seen rows) sizes)
  unfolding row rest
  carry-first r chans others_is enough same follows = (
    λ t. rw (ports_of-table rows d sizes some, ← count_is, ← others_is) (carry-join count chans row (ports_of rest others) (record { enough = enough; all_carry = same; rest = rw (← take-rest count chans) (follows.0 t) })),
    λ all. follows.1 (rw (take-rest count chans, others_is) (split chans all).rest),
  )

pub numbered-behind : (rows : List PortRow) (sizes : List ℕ) (p : ℕ) → p ≢ 0 → port_in rows sizes (p - 1) ≡ numbered_port rows sizes p
numbered-behind rows sizes zero some = absurd (some refl)
numbered-behind rows sizes (suc i) some = let e : suc i - 1 ≡ i = omega arith in rw e refl

-- the channels at a place, one row after the other
pub chans_at-first : (rows : List table.PortRow) (d : table.PortRow) (sizes : List ℕ) (chans : List Chan) → 1 ≤ length rows → chans_at (map seen rows) sizes chans 0 ≡ take (count_of (seen (slice_index_or rows 0 d)) sizes) chans
chans_at-first [] d sizes chans some = absurd (omega arith)
chans_at-first (r ∷ rs) d sizes chans some = refl

pub chans_at-next : (rows : List table.PortRow) (d : table.PortRow) (sizes : List ℕ) (chans : List Chan) (place : ℕ) → 1 ≤ length rows → place ≢ 0
    → chans_at (map seen rows) sizes chans place ≡ chans_at (map seen (take (length rows - 1) (drop 1 rows))) (others_of (seen (slice_index_or rows 0 d)) sizes) (drop (count_of (seen (slice_index_or rows 0 d)) sizes) chans) (place - 1)
chans_at-next [] d sizes chans place some behind = absurd (omega arith)
chans_at-next (r ∷ rs) d sizes chans zero some behind = absurd (behind refl)
chans_at-next (r ∷ rs) d sizes chans (suc place) some behind =
    let all : suc (length rs) - 1 ≡ length rs = omega arith in
    let one : suc place - 1 ≡ place = omega arith in
    rw (all, one, take-length rs) refl

-- what is left of a width, and a sum
pub left-sum : (whole : ℕ) (ws : List ℕ) (left : ℕ) → left_of whole ws ≡ Some left → whole ≡ sum ws + left
left-sum whole [] left e = let is : whole ≡ left = cc in omega (arith, is)
left-sum whole (w ∷ ws) left e = elim (nat_le w whole) as (λ b. nat_le w whole ≡ b → (if b then left_of (whole - w) ws else None) ≡ Some left → whole ≡ sum (w ∷ ws) + left) [
  | true ↦ λ le e. let rest = left-sum (whole - w) ws left e in let is = sum_by-cons (λ x. x) w ws in let fits = leb-true w whole le in omega (arith, rest, is, fits)
  | false ↦ λ le e. absurd (cc)
] refl e

pub none-sum : (whole : ℕ) (ws : List ℕ) → left_of whole ws ≡ None → whole < sum ws
none-sum whole [] e = absurd (cc)
none-sum whole (w ∷ ws) e = elim (nat_le w whole) as (λ b. nat_le w whole ≡ b → (if b then left_of (whole - w) ws else None) ≡ None → whole < sum (w ∷ ws)) [
  | true ↦ λ le e. let rest = none-sum (whole - w) ws e in let is = sum_by-cons (λ x. x) w ws in let fits = leb-true w whole le in omega (arith, rest, is, fits)
  | false ↦ λ le e. let is = sum_by-cons (λ x. x) w ws in let more = leb-false w whole le in omega (arith, is, more)
] refl e

-- equal numbers stay so, and others don't become so, where one is added to both
eq-added : (n a b : ℕ) → (a == b) ≡ (n + a == n + b)
eq-added n a b = grind (arith)

eq-less : (a b : ℕ) → a < b → false ≡ (a == b)
eq-less a b lt = grind (arith)

-- the widths at the first place, and those at the others
pub whole-first : (here : ℕ → List Chan) (places : List ℕ) (d whole left : ℕ) → 1 ≤ length places → left_of whole (widths (here (slice_index_or places 0 d))) ≡ Some left
    → (left == whole_width here (take (length places - 1) (drop 1 places))) ≡ (whole == whole_width here places)
whole-first here [] d whole left some e = absurd (omega arith)
whole-first here (p ∷ ps) d whole left some e =
    let all : suc (length ps) - 1 ≡ length ps = omega arith in
    let own = widths (here p) in
    let rest = flat_map (λ q. widths (here q)) ps in
    rw (all, take-length ps, left-sum whole own left e, sum_by-append (λ x. x) own rest) (eq-added (sum own) left (sum rest))

pub whole-none : (here : ℕ → List Chan) (places : List ℕ) (d whole : ℕ) → 1 ≤ length places → left_of whole (widths (here (slice_index_or places 0 d))) ≡ None → false ≡ (whole == whole_width here places)
whole-none here [] d whole some e = absurd (omega arith)
whole-none here (p ∷ ps) d whole some e =
    let own = widths (here p) in
    let rest = flat_map (λ q. widths (here q)) ps in
    let short = none-sum whole own e in
    let both = sum_by-append (λ x. x) own rest in
    eq-less whole (sum (own ++ rest)) (omega (arith, short, both))

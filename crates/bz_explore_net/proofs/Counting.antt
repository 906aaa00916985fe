-- The tree over a row of bits: what its sums count, and how one bit more keeps them.
use Rattle.std.proofs.Common.{◌≡◌, ◌≢◌, ℕ, zero, suc, ◌+◌, ◌-◌, ◌*◌, ◌/◌, ◌^◌, ◌<◌, ◌≤◌, Bool, true, false, List, length, replicate, inl, inr, rules, refl, sym, ap, subst, ◌∙◌, arith}
use Rattle.std.specs.Prelude.{slice_index_or, slice_set}
use Rattle.std.specs.Int.{from_bool}
use Rattle.std.proofs.lemmas.Bool.{cases_lt, cases_eq, false≢true}
use Rattle.std.proofs.lemmas.List.{length-replicate, get_or-replicate, get_or-set_same, get_or-set_other, get_or_past}
use Rattle.bz_net.specs.Keeping.{IsMarked}
use Rattle.bz_explore_net.specs.Counted.{IsCounted, IsSum, leaf_of, sum_at}
use Rattle.bz_explore_net.specs.Picking.{Below, HasMembers, IsPlace}

pub leaf_mono : (levels a b : ℕ) → a ≤ b → leaf_of a levels ≤ leaf_of b levels
leaf_mono zero a b le = le
leaf_mono (suc l) a b le = leaf_mono l (2 * a) (2 * b) (omega (arith, le))

pub leaf_from : (levels a : ℕ) → a ≤ leaf_of a levels
leaf_from zero a = omega arith
leaf_from (suc l) a = let below = leaf_from l (2 * a) in omega (arith, below)

pub leaf_twice : (levels a : ℕ) → leaf_of (2 * a) levels ≡ 2 * leaf_of a levels
leaf_twice zero a = refl
leaf_twice (suc l) a = leaf_twice l (2 * a)

-- one level more
pub leaf_more : (levels a : ℕ) → leaf_of a levels ≤ leaf_of a (suc levels)
leaf_more l a = leaf_mono l a (2 * a) (omega arith)

-- a node has its leaves further on where they are more levels down
pub leaf_deep : (more levels a : ℕ) → leaf_of a levels ≤ leaf_of a (levels + more)
leaf_deep zero levels a = let same : levels ≡ levels + zero = omega arith in let is : leaf_of a levels ≡ leaf_of a (levels + zero) = ap (leaf_of a) same in omega (arith, is)
leaf_deep (suc more) levels a =
    let same : suc (levels + more) ≡ levels + suc more = omega arith in
    let le = leaf_more (levels + more) a in
    let so = leaf_deep more levels a in
    subst (λ h. leaf_of a levels ≤ leaf_of a h) same (omega (arith, le, so))

-- so many levels below one that is so many below a node
pub leaf_under : (up down a : ℕ) → leaf_of (leaf_of a up) down ≡ leaf_of a (up + down)
leaf_under zero down a = let same : down ≡ zero + down = omega arith in ap (leaf_of a) same
leaf_under (suc up) down a = let same : suc (up + down) ≡ suc up + down = omega arith in leaf_under up down (2 * a) ∙ ap (leaf_of a) same

module _ (row : List Bool) (sums : List ℕ) (levels : ℕ) (nodes : length sums ≡ leaf_of 2 levels) (leaves : (k : ℕ) → k < leaf_of 1 levels → sum_at sums (leaf_of 1 levels + k) ≡ from_bool (slice_index_or row k false)) where
  half : ℕ
  half = leaf_of 1 levels

  twice : leaf_of 2 levels ≡ leaf_of 1 levels + leaf_of 1 levels
  twice = let is = leaf_twice levels 1 in omega (arith, is)

  -- a node above a leaf is an inner one
  pub is_inner : (h n : ℕ) → leaf_of (n + 1) (suc h) ≤ leaf_of 2 levels → n < leaf_of 1 levels
  is_inner h n to =
      let double = leaf_twice h (n + 1) in let from = leaf_from h (n + 1) in let is = twice in
      omega (arith, to, double, from, is)

  -- no sum is above the number of leaves below its node, where all nodes behind one are as they should be
  pub weight : (last h n : ℕ) → ((k : ℕ) → last < k → k < leaf_of 1 levels → IsSum sums k) → last < n → leaf_of 1 levels ≤ leaf_of n h → leaf_of (n + 1) h ≤ leaf_of 2 levels → leaf_of n h + sum_at sums n ≤ leaf_of (n + 1) h
  weight last zero n inner behind from to =
      let is = leaves (n - leaf_of 1 levels) (let t = twice in omega (arith, from, to, t)) in
      let here : sum_at sums n ≡ from_bool (slice_index_or row (n - leaf_of 1 levels) false) = subst (λ m. sum_at sums m ≡ from_bool (slice_index_or row (n - leaf_of 1 levels) false)) (omega (arith, from)) is in
      let small = one_least (slice_index_or row (n - leaf_of 1 levels) false) in
      omega (arith, here, small)
    where
      one_least : (b : Bool) → from_bool b ≤ 1
      one_least true = omega arith
      one_least false = omega arith
  weight last (suc h) n inner behind from to =
      let next : 2 * (n + 1) ≡ 2 * n + 1 + 1 = omega arith in
      let mid = leaf_mono h (2 * n) (2 * n + 1) (omega arith) in
      let mid' = leaf_mono h (2 * n + 1) (2 * n + 1 + 1) (omega arith) in
      let end : leaf_of (2 * n + 1 + 1) h ≤ leaf_of 2 levels = subst (λ m. leaf_of m h ≤ leaf_of 2 levels) next to in
      let left = weight last h (2 * n) inner (omega (arith, behind)) from (omega (arith, mid', end)) in
      let right = weight last h (2 * n + 1) inner (omega (arith, behind)) (omega (arith, from, mid)) end in
      let is : IsSum sums n = inner n behind (is_inner h n to) in
      let same : leaf_of (2 * (n + 1)) h ≡ leaf_of (2 * n + 1 + 1) h = ap (λ m. leaf_of m h) next in
      omega (arith, left, right, is, same)

  module _ (inner : (n : ℕ) → 0 < n → n < leaf_of 1 levels → IsSum sums n) where
    -- so many are set before the first leaf of a node; those below it are as many as its sum
    pub counts : (h n lo hi a : ℕ) → 0 < n → leaf_of n h ≡ leaf_of 1 levels + lo → leaf_of (n + 1) h ≡ leaf_of 1 levels + hi → hi ≤ leaf_of 1 levels → Below (IsMarked row) lo a → Below (IsMarked row) hi (a + sum_at sums n)
    counts zero n lo hi a pos from to most below =
        let last : hi ≡ suc lo = omega (arith, from, to) in
        let is : sum_at sums n ≡ from_bool (slice_index_or row lo false) = subst (λ m. sum_at sums m ≡ from_bool (slice_index_or row lo false)) (sym from) (leaves lo (omega (arith, last, most))) in
        subst (λ m. Below (IsMarked row) m (a + sum_at sums n)) (sym last) (by_bit (slice_index_or row lo false) refl is)
      where
        by_bit : (b : Bool) → slice_index_or row lo false ≡ b → sum_at sums n ≡ from_bool (slice_index_or row lo false) → Below (IsMarked row) (suc lo) (a + sum_at sums n)
        by_bit true set is = inl (set, (a, (let one = is ∙ ap from_bool set in omega (arith, one)), below))
        by_bit false set is = inr ((λ here. false≢true (sym set ∙ here)), (let none = is ∙ ap from_bool set in subst (Below (IsMarked row) lo) (omega (arith, none)) below))
    counts (suc h) n lo hi a pos from to most below =
        let next : 2 * (n + 1) ≡ 2 * n + 1 + 1 = omega arith in
        let low = leaf_mono h (2 * n) (2 * n + 1) (omega arith) in
        let high = leaf_mono h (2 * n + 1) (2 * n + 1 + 1) (omega arith) in
        let to' : leaf_of (2 * n + 1 + 1) h ≡ leaf_of 1 levels + hi = subst (λ m. leaf_of m h ≡ leaf_of 1 levels + hi) next to in
        let mid = leaf_of (2 * n + 1) h - leaf_of 1 levels in
        let middle : leaf_of (2 * n + 1) h ≡ leaf_of 1 levels + mid = omega (arith, from, low) in
        let left = counts h (2 * n) lo mid a (omega (arith, pos)) from middle (omega (arith, middle, to', high, most)) below in
        let right = counts h (2 * n + 1) mid hi (a + sum_at sums (2 * n)) (omega arith) middle to' most left in
        let t = twice in
        let is : IsSum sums n = inner n pos (is_inner h n (omega (arith, to, most, t))) in
        subst (Below (IsMarked row) hi) (omega (arith, is)) right

    -- all of them
    pub counts_all : length row ≤ leaf_of 1 levels → HasMembers (IsMarked row) (sum_at sums 1)
    counts_all room = (leaf_of 1 levels, within, all)
      where
        within : (k : ℕ) → IsMarked row k → k < leaf_of 1 levels
        within k is = elim (cases_lt k (leaf_of 1 levels)) [
          | inl less ↦ less
          | inr past ↦ absurd (false≢true (sym (get_or_past row k false (omega (arith, past, room))) ∙ is))
        ]

        all : Below (IsMarked row) (leaf_of 1 levels) (sum_at sums 1)
        all = let t = twice in subst (Below (IsMarked row) (leaf_of 1 levels)) (omega arith) (counts levels 1 0 (leaf_of 1 levels) 0 (omega arith) (omega arith) t (omega arith) refl)

-- the bits that are set are as many as the top node says
pub count_is : (row : List Bool) (sums : List ℕ) (levels : ℕ) → IsCounted row sums levels → HasMembers (IsMarked row) (sum_at sums 1)
count_is row sums levels is = counts_all row sums levels is.nodes is.leaves is.inner is.room

-- there is a top node
pub has_top : (levels : ℕ) → 1 < leaf_of 2 levels
has_top levels = let from = leaf_from levels 2 in omega (arith, from)

-- How far a search is, so many levels above the leaves: so many are set before the first leaf of its node, and more than are left to
-- pass stand below it.
pub record Searches (row : List Bool) (sums : List ℕ) (levels before h node left : ℕ) : Type 0 where
  pub pos : 0 < node
  pub lo : ℕ
  pub passed : ℕ
  pub from : leaf_of node h ≡ leaf_of 1 levels + lo
  pub to : leaf_of (node + 1) h ≤ leaf_of 2 levels
  pub sum : passed + left ≡ before
  pub below : Below (IsMarked row) lo passed
  pub more : left < sum_at sums node

module _ (row : List Bool) (sums : List ℕ) (levels before : ℕ) (is : IsCounted row sums levels) where
  pub begins : before < sum_at sums 1 → Searches row sums levels before levels 1 before
  begins lt = record { pos = omega arith; lo = 0; passed = 0; from = omega arith; to = omega arith; sum = omega arith; below = refl; more = lt }

  module _ (h node left : ℕ) (at : Searches row sums levels before (suc h) node left) where
    next : 2 * (node + 1) ≡ 2 * node + 1 + 1
    next = omega arith

    low : leaf_of (2 * node) h ≤ leaf_of (2 * node + 1) h
    low = leaf_mono h (2 * node) (2 * node + 1) (omega arith)

    high : leaf_of (2 * node + 1) h ≤ leaf_of (2 * node + 1 + 1) h
    high = leaf_mono h (2 * node + 1) (2 * node + 1 + 1) (omega arith)

    end : leaf_of (2 * node + 1 + 1) h ≤ leaf_of 2 levels
    end = subst (λ m. leaf_of m h ≤ leaf_of 2 levels) next at.to

    -- both nodes below are in the tree
    pub in_tree : 2 * node + 1 < leaf_of 2 levels
    in_tree = let from = leaf_from h (2 * node + 1 + 1) in let e = end in omega (arith, from, e)

    pub goes_left : left < sum_at sums (2 * node) → Searches row sums levels before h (2 * node) left
    goes_left more = record {
      pos = let pos = at.pos in omega (arith, pos);
      lo = at.lo;
      passed = at.passed;
      from = at.from;
      to = let e = end in let m = high in omega (arith, e, m);
      sum = at.sum;
      below = at.below;
      more = more;
    }

    pub goes_right : sum_at sums (2 * node) ≤ left → Searches row sums levels before h (2 * node + 1) (left - sum_at sums (2 * node))
    goes_right le =
        let from = at.from in let low' = low in let high' = high in let end' = end in
        let twice : leaf_of 2 levels ≡ 2 * leaf_of 1 levels = leaf_twice levels 1 in
        let mid = leaf_of (2 * node + 1) h - leaf_of 1 levels in
        let middle : leaf_of (2 * node + 1) h ≡ leaf_of 1 levels + mid = omega (arith, from, low') in
        let parent : IsSum sums node = is.inner node at.pos (is_inner row sums levels is.nodes is.leaves h node at.to) in
        record {
          pos = omega arith;
          lo = mid;
          passed = at.passed + sum_at sums (2 * node);
          from = middle;
          to = end';
          sum = let sum = at.sum in omega (arith, sum, le);
          below = counts row sums levels is.nodes is.leaves is.inner h (2 * node) at.lo mid at.passed (let pos = at.pos in omega (arith, pos)) from middle (omega (arith, middle, high', end', twice)) at.below;
          more = let more = at.more in omega (arith, more, parent, le);
        }

  pub found : (node left : ℕ) → Searches row sums levels before 0 node left → IsPlace (IsMarked row) before (node - leaf_of 1 levels)
  found node left at =
      let from = at.from in let to = at.to in let sum = at.sum in let more = at.more in
      let twice : leaf_of 2 levels ≡ 2 * leaf_of 1 levels = leaf_twice levels 1 in
      let here : sum_at sums node ≡ from_bool (slice_index_or row at.lo false) = subst (λ m. sum_at sums m ≡ from_bool (slice_index_or row at.lo false)) (sym from) (is.leaves at.lo (omega (arith, from, to, twice))) in
      subst (λ k. IsPlace (IsMarked row) before k) (omega (arith, from)) (by_bit (slice_index_or row at.lo false) refl here)
    where
      by_bit : (b : Bool) → slice_index_or row at.lo false ≡ b → sum_at sums node ≡ from_bool (slice_index_or row at.lo false) → IsPlace (IsMarked row) before at.lo
      by_bit true set here =
          let one = here ∙ ap from_bool set in let more = at.more in let sum = at.sum in
          (set, subst (Below (IsMarked row) at.lo) (omega (arith, sum, more, one)) at.below)
      by_bit false set here = let none = here ∙ ap from_bool set in let more = at.more in absurd (omega (arith, more, none))

-- How far the sums are brought up to date behind a change at a leaf: all but that above this node are as they should be. So many
-- levels are done, and so many left.
pub record Mends (row : List Bool) (sums : List ℕ) (levels done left node : ℕ) : Type 0 where
  pub all : levels ≡ left + done
  pub nodes : length sums ≡ leaf_of 2 levels
  pub leaves : (k : ℕ) → k < leaf_of 1 levels → sum_at sums (leaf_of 1 levels + k) ≡ from_bool (slice_index_or row k false)
  pub from : leaf_of 1 left ≤ node
  pub to : node < leaf_of 2 left
  pub inner : (n : ℕ) → 0 < n → n < leaf_of 1 levels → n ≢ node / 2 → IsSum sums n

module _ (row : List Bool) (sums : List ℕ) (levels place : ℕ) (bit : Bool) (is : IsCounted row sums levels) (lt : place < length row) where
  top : leaf_of 2 levels ≡ 2 * leaf_of 1 levels
  top = leaf_twice levels 1

  within : place < leaf_of 1 levels
  within = let room = is.room in omega (arith, lt, room)

  pub is_leaf : leaf_of 1 levels + place < length sums
  is_leaf = let w = within in let t = top in let n = is.nodes in omega (arith, w, t, n)

  pub leaf_changed : Mends (slice_set row place bit) (slice_set sums (leaf_of 1 levels + place) (from_bool bit)) levels 0 levels (leaf_of 1 levels + place)
  leaf_changed = record {
    all = omega arith;
    nodes = let nodes = is.nodes in search rules;
    leaves = leaves;
    from = omega arith;
    to = let w = within in let t = top in omega (arith, w, t);
    inner = inner;
  }
    where
      leaves : (k : ℕ) → k < leaf_of 1 levels → sum_at (slice_set sums (leaf_of 1 levels + place) (from_bool bit)) (leaf_of 1 levels + k) ≡ from_bool (slice_index_or (slice_set row place bit) k false)
      leaves k below = elim (cases_eq k place) [
        | inl same ↦ subst (λ j. sum_at (slice_set sums (leaf_of 1 levels + place) (from_bool bit)) (leaf_of 1 levels + j) ≡ from_bool (slice_index_or (slice_set row place bit) j false)) (sym same)
            (get_or-set_same sums (leaf_of 1 levels + place) (from_bool bit) 0 is_leaf ∙ sym (ap from_bool (get_or-set_same row place bit false lt)))
        | inr differ ↦ get_or-set_other sums (leaf_of 1 levels + place) (leaf_of 1 levels + k) (from_bool bit) 0 (λ e. differ (omega (arith, e))) ∙ is.leaves k below ∙ sym (ap from_bool (get_or-set_other row place k bit false differ))
      ]

      inner : (n : ℕ) → 0 < n → n < leaf_of 1 levels → n ≢ (leaf_of 1 levels + place) / 2 → IsSum (slice_set sums (leaf_of 1 levels + place) (from_bool bit)) n
      inner n pos below apart =
          let own = get_or-set_other sums (leaf_of 1 levels + place) n (from_bool bit) 0 (λ e. omega (arith, e, below)) in
          let low = get_or-set_other sums (leaf_of 1 levels + place) (2 * n) (from_bool bit) 0 (λ e. apart (omega (arith, e))) in
          let high = get_or-set_other sums (leaf_of 1 levels + place) (2 * n + 1) (from_bool bit) 0 (λ e. apart (omega (arith, e))) in
          let sum = is.inner n pos below in
          omega (arith, own, low, high, sum)

module _ (row : List Bool) (sums : List ℕ) (levels done left node : ℕ) (few : leaf_of 1 levels ≤ 2 ^ 30) (at : Mends row sums levels done (suc left) node) where
  pub up_from : leaf_of 1 left ≤ node / 2
  up_from = let from = at.from in let twice = leaf_twice left 1 in omega (arith, from, twice)

  pub up_to : node / 2 < leaf_of 2 left
  up_to = let to = at.to in let twice = leaf_twice left 2 in omega (arith, to, twice)

  some : 0 < node / 2
  some = let from = up_from in let one = leaf_from left 1 in omega (arith, from, one)

  levels_is : left + suc done ≡ levels
  levels_is = let all = at.all in omega (arith, all)

  last_in : leaf_of (node / 2 + 1) (suc done) ≤ leaf_of 2 levels
  last_in =
      let to = up_to in
      let mono = leaf_mono (suc done) (node / 2 + 1) (leaf_of 2 left) (omega (arith, to)) in
      let under : leaf_of (leaf_of 2 left) (suc done) ≡ leaf_of 2 levels = leaf_under left (suc done) 2 ∙ ap (leaf_of 2) levels_is in
      omega (arith, mono, under)

  first_in : leaf_of 1 levels ≤ leaf_of (node / 2) (suc done)
  first_in =
      let mono = leaf_mono (suc done) (leaf_of 1 left) (node / 2) up_from in
      let under : leaf_of (leaf_of 1 left) (suc done) ≡ leaf_of 1 levels = leaf_under left (suc done) 1 ∙ ap (leaf_of 1) levels_is in
      omega (arith, mono, under)

  inner_up : node / 2 < leaf_of 1 levels
  inner_up = is_inner row sums levels at.nodes at.leaves done (node / 2) last_in

  pub below_in : 2 * (node / 2) + 1 < length sums
  below_in = let inner = inner_up in let t : leaf_of 2 levels ≡ 2 * leaf_of 1 levels = leaf_twice levels 1 in let n = at.nodes in omega (arith, inner, t, n)

  behind : (k : ℕ) → node / 2 < k → k < leaf_of 1 levels → IsSum sums k
  behind k lt to = at.inner k (omega (arith, lt)) to (λ e. omega (arith, e, lt))

  pub fits : sum_at sums (2 * (node / 2)) + sum_at sums (2 * (node / 2) + 1) < 2 ^ 32
  fits =
      let next : 2 * (node / 2 + 1) ≡ 2 * (node / 2) + 1 + 1 = omega arith in
      let pos = some in
      let end : leaf_of (2 * (node / 2) + 1 + 1) done ≤ leaf_of 2 levels = subst (λ m. leaf_of m done ≤ leaf_of 2 levels) next last_in in
      let low = leaf_mono done (2 * (node / 2)) (2 * (node / 2) + 1) (omega arith) in
      let high = leaf_mono done (2 * (node / 2) + 1) (2 * (node / 2) + 1 + 1) (omega arith) in
      let first = first_in in
      let l = weight row sums levels at.nodes at.leaves (node / 2) done (2 * (node / 2)) behind (omega (arith, pos)) first (omega (arith, high, end)) in
      let r = weight row sums levels at.nodes at.leaves (node / 2) done (2 * (node / 2) + 1) behind (omega (arith, pos)) (omega (arith, first, low)) end in
      let t : leaf_of 2 levels ≡ 2 * leaf_of 1 levels = leaf_twice levels 1 in
      let small : leaf_of 1 levels ≤ 1073741824 = few in
      let fit : sum_at sums (2 * (node / 2)) + sum_at sums (2 * (node / 2) + 1) < 4294967296 = omega (arith, l, r, end, t, small) in
      fit

  pub mended : (sum : ℕ) → sum ≡ sum_at sums (2 * (node / 2)) + sum_at sums (2 * (node / 2) + 1) → Mends row (slice_set sums (node / 2) sum) levels (suc done) left (node / 2)
  mended sum sum_is = record {
    all = let all = at.all in omega (arith, all);
    nodes = let nodes = at.nodes in search rules;
    leaves = λ k below. get_or-set_other sums (node / 2) (leaf_of 1 levels + k) sum 0 (λ e. let inner = inner_up in omega (arith, e, inner)) ∙ at.leaves k below;
    from = up_from;
    to = up_to;
    inner = inner;
  }
    where
      inner : (n : ℕ) → 0 < n → n < leaf_of 1 levels → n ≢ node / 2 / 2 → IsSum (slice_set sums (node / 2) sum) n
      inner n pos below apart =
          let low = get_or-set_other sums (node / 2) (2 * n) sum 0 (λ e. apart (omega (arith, e))) in
          let high = get_or-set_other sums (node / 2) (2 * n + 1) sum 0 (λ e. apart (omega (arith, e))) in
          elim (cases_eq n (node / 2)) [
            | inl same ↦
                let there : node / 2 < length sums = let b = below_in in omega (arith, b) in
                let own : sum_at (slice_set sums (node / 2) sum) n ≡ sum = subst (λ m. sum_at (slice_set sums (node / 2) sum) m ≡ sum) (sym same) (get_or-set_same sums (node / 2) sum 0 there) in
                let here : sum ≡ sum_at sums (2 * n) + sum_at sums (2 * n + 1) = subst (λ m. sum ≡ sum_at sums (2 * m) + sum_at sums (2 * m + 1)) (sym same) sum_is in
                omega (arith, own, here, low, high)
            | inr differ ↦
                let own = get_or-set_other sums (node / 2) n sum 0 differ in
                let was = at.inner n pos below differ in
                omega (arith, own, was, low, high)
          ]

-- on top all sums are as they should be
pub mended_all : (row : List Bool) (sums : List ℕ) (levels node : ℕ) → leaf_of 1 levels ≤ 2 ^ 30 → length row ≤ leaf_of 1 levels → Mends row sums levels levels 0 node → IsCounted row sums levels
mended_all row sums levels node few room at = record {
  nodes = at.nodes;
  few = few;
  room = room;
  leaves = at.leaves;
  inner = λ n pos below. at.inner n pos below (λ e. let to = at.to in omega (arith, e, to, pos));
}

-- nothing is set yet
pub none_counted : (len levels : ℕ) → len ≤ leaf_of 1 levels → leaf_of 1 levels ≤ 2 ^ 30 → IsCounted (replicate len false) (replicate (2 * leaf_of 1 levels) 0) levels
none_counted len levels room few = record {
  nodes = length-replicate {A = ℕ} (2 * leaf_of 1 levels) 0 ∙ sym (leaf_twice levels 1);
  few = few;
  room = let is = length-replicate len false in omega (arith, is, room);
  leaves = λ k lt. none (leaf_of 1 levels + k) ∙ sym (clear k);
  inner = λ n pos lt. let at = none n in let low = none (2 * n) in let high = none (2 * n + 1) in omega (arith, at, low, high);
}
  where
    none : (n : ℕ) → sum_at (replicate (2 * leaf_of 1 levels) 0) n ≡ 0
    none n = elim (cases_lt n (2 * leaf_of 1 levels)) [
      | inl less ↦ get_or-replicate (2 * leaf_of 1 levels) n 0 0 less
      | inr past ↦ get_or_past (replicate (2 * leaf_of 1 levels) 0) n 0 (let is = length-replicate {A = ℕ} (2 * leaf_of 1 levels) 0 in omega (arith, is, past))
    ]

    clear : (k : ℕ) → from_bool (slice_index_or (replicate len false) k false) ≡ 0
    clear k = elim (cases_lt k len) [
      | inl less ↦ ap from_bool (get_or-replicate len k false false less)
      | inr past ↦ ap from_bool (get_or_past (replicate len false) k false (let is = length-replicate len false in omega (arith, is, past)))
    ]

-- a tree has no more leaves than one of 30 levels
pub few_leaves : (levels : ℕ) → levels ≤ 30 → leaf_of 1 levels ≤ 2 ^ 30
few_leaves levels le =
    let same : levels + (30 - levels) ≡ 30 = omega (arith, le) in
    subst (λ h. leaf_of 1 levels ≤ leaf_of 1 h) same (leaf_deep (30 - levels) levels 1)

-- the leaves are twice as many one level further down
pub leaf_next : (levels : ℕ) → leaf_of 1 (levels + 1) ≡ leaf_of 1 levels * 2
leaf_next levels = let next : levels + 1 ≡ suc levels = omega arith in let is = ap (leaf_of 1) next in let twice = leaf_twice levels 1 in omega (arith, is, twice)

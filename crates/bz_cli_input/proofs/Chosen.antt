-- The parts that no other part uses, one after another.
use Rattle.std.proofs.Common.{◌≡◌, ◌≢◌, ℕ, ◌+◌, ◌<◌, ◌≤◌, ◌||◌, Bool, true, false, not, List, [], ◌∷◌, ◌++◌, length, map, get_or, take, replicate, refl, sym, ap, ◌∙◌, arith, append-nil}
use Rattle.std.specs.declared.alloc.Global.{Global}
use Rattle.std.specs.declared.vec.Vec.{Vec}
use Rattle.std.proofs.lemmas.List.{take_more, take_all, length-map, length-replicate, map-append, get_or-replicate}
use Rattle.std.proofs.lemmas.List.Elements.{filter-append}
use Rattle.std.proofs.lemmas.List.FromFn.{get_or-enumerate_from, length-enumerate_from}
use Rattle.std.specs.List.{enumerate_from, filter}
use Rattle.bz_breeze_records.specs.declared.part.Part.{Part}
use Rattle.bz_cli_input.specs.Choosing.{tops}
use Rattle.bz_cli_input.specs.Marking.{Marks}
use Rattle.bz_cli_input.specs.Uses.{is_used_by_other}

-- the names of those that no other part uses, of some of the parts by their numbers
abbrev pub tops_in : List Part → List (ℕ × Part) → List (List ℕ)
tops_in listed numbered = map (λ part. part.1.name.items) (filter (λ part. not (is_used_by_other listed part.0)) numbered)

tops_append : (listed : List Part) (xs ys : List (ℕ × Part)) → tops_in listed (xs ++ ys) ≡ tops_in listed xs ++ tops_in listed ys
tops_append listed xs ys =
    ap (map (λ part. part.1.name.items)) (filter-append (λ part. not (is_used_by_other listed part.0)) xs ys)
    ∙ map-append (λ part. part.1.name.items) (filter (λ part. not (is_used_by_other listed part.0)) xs) (filter (λ part. not (is_used_by_other listed part.0)) ys)

-- what a mark tells of its part
marked : (listed : List Part) (used : List Bool) (i : ℕ) → i < length listed → Marks (replicate (length listed) false) used (is_used_by_other listed) → get_or used i false ≡ is_used_by_other listed i
marked listed used i lt marks =
    let long = length-replicate (length listed) false in
    marks.each i (omega (arith, lt, long)) ∙ ap (λ b. b || is_used_by_other listed i) (get_or-replicate (length listed) i false false lt)

module _ (listed : List Part) (i : ℕ) (p : Part) (lt : i < length listed) (is : p ≡ get_or listed i p) where
  abbrev before : List (ℕ × Part)
  before = take i (enumerate_from 0 listed)

  front : take (i + 1) (enumerate_from 0 listed) ≡ before ++ (i, p) ∷ []
  front =
      let from : 0 + i ≡ i = omega arith in
      let same : (0 + i, get_or listed i p) ≡ (i, p) = rw (from, sym is) refl in
      take_more (enumerate_from 0 listed) i (i, p) (rw (length-enumerate_from 0 listed) lt)
      ∙ ap (λ y. before ++ y ∷ []) (get_or-enumerate_from 0 listed i (i, p) lt ∙ same)

  with_next : tops_in listed (take (i + 1) (enumerate_from 0 listed)) ≡ tops_in listed before ++ tops_in listed ((i, p) ∷ [])
  with_next = ap (tops_in listed) front ∙ tops_append listed before ((i, p) ∷ [])

  -- the next part is used by no other
  pub top_more : (names grown : List (List ℕ)) (used : List Bool) → get_or used i false ≡ false → Marks (replicate (length listed) false) used (is_used_by_other listed) → names ≡ tops_in listed before → grown ≡ names ++ p.name.items ∷ []
      → grown ≡ tops_in listed (take (i + 1) (enumerate_from 0 listed))
  top_more names grown used free marks so_far push =
      let unused : is_used_by_other listed i ≡ false = sym (marked listed used i lt marks) ∙ free in
      let one : tops_in listed ((i, p) ∷ []) ≡ p.name.items ∷ [] = rw unused refl in
      push ∙ ap (λ xs. xs ++ p.name.items ∷ []) so_far ∙ ap (λ xs. tops_in listed before ++ xs) (sym one) ∙ sym with_next

  -- it is used
  pub used_more : (names : List (List ℕ)) (used : List Bool) → get_or used i false ≡ true → Marks (replicate (length listed) false) used (is_used_by_other listed) → names ≡ tops_in listed before
      → names ≡ tops_in listed (take (i + 1) (enumerate_from 0 listed))
  used_more names used taken marks so_far =
      let used_one : is_used_by_other listed i ≡ true = sym (marked listed used i lt marks) ∙ taken in
      let none : tops_in listed ((i, p) ∷ []) ≡ [] = rw used_one refl in
      so_far ∙ sym (append-nil (tops_in listed before)) ∙ ap (λ xs. tops_in listed before ++ xs) (sym none) ∙ sym with_next

-- all parts were looked at
pub tops_all : (listed : List Part) (i : ℕ) (names : List (List ℕ)) → length listed ≤ i → names ≡ tops_in listed (take i (enumerate_from 0 listed)) → names ≡ tops listed
tops_all listed i names past so_far = so_far ∙ ap (tops_in listed) (take_all i (enumerate_from 0 listed) (rw (length-enumerate_from 0 listed) past))

-- there is one
pub only_top : (listed : List Part) (names : List (Vec ℕ Global)) (name : Vec ℕ Global) → map (λ (n : Vec ℕ Global). n.items) names ≡ tops listed → length names ≡ 1 → name ≡ get_or names 0 name → tops listed ≡ name.items ∷ []
only_top listed [] name are one is = absurd (omega (arith, one))
only_top listed (n ∷ []) name are one is = sym are ∙ ap (λ (v : Vec ℕ Global). v.items ∷ []) (sym is)
only_top listed (n ∷ m ∷ names) name are one is = absurd (omega (arith, one))

-- there is not just one
pub not_one : (listed : List Part) (names : List (Vec ℕ Global)) → map (λ (n : Vec ℕ Global). n.items) names ≡ tops listed → length names ≢ 1 → length (tops listed) ≢ 1
not_one listed names are other one = other (sym (length-map names (λ (n : Vec ℕ Global). n.items)) ∙ ap length are ∙ one)

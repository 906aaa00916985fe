-- Components are taken out that are in no stuck set, so that every one that is in such a set is left.
use Rattle.std.proofs.Common.{◌≡◌, ℕ, ◌<◌, ◌≤◌, ◌⊎◌, inl, inr, Bool, true, false, List, [], ◌∷◌, ◌++◌, length, get_or, set, sym, ap, subst, ◌∙◌, arith}
use Rattle.std.proofs.lemmas.List.{length-set, get_or-set_other, get_or_past}
use Rattle.std.specs.List.{sum_by}
use Rattle.std.proofs.lemmas.Bool.{cases_lt, false≢true}
use Rattle.std.proofs.lemmas.List.Elements.{All-push}
use Rattle.std.proofs.lemmas.List.Sums.{sum_by-set}
use Rattle.bz_model.specs.Nets.{Wiring, State, IsPort, chan_at}
use Rattle.bz_model.specs.Runs.{CanStep}
use Rattle.bz_waits.specs.Freeing.{Covers, Frees, HasDueOn, IsFree, IsOpen}
use Rattle.bz_waits.specs.Holding.{IsLoose}
use Rattle.bz_waits.specs.Stuck.{is_member}

same_or_not : (a b : ℕ) → (a ≡ b) ⊎ (a ≡ b → ⊥)
same_or_not a b = elim (cases_lt a b) [
  | inl less ↦ inr (λ e. omega (arith, e, less))
  | inr least ↦ elim (cases_lt b a) [
    | inl less ↦ inr (λ e. omega (arith, e, less))
    | inr most ↦ inl (omega (arith, least, most))
  ]
]

-- a number for each bit, and how many are members
abbrev one_of : Bool → ℕ
one_of true = 1
one_of false = 0

abbrev pub member_count : List Bool → ℕ
member_count row = sum_by one_of row

-- where there is a member the row doesn't end before
pub member_within : (row : List Bool) (c : ℕ) → is_member row c ≡ true → c < length row
member_within row c is = elim (cases_lt c (length row)) [
  | inl less ↦ less
  | inr past ↦ absurd (false≢true (sym (get_or_past row c false past) ∙ is))
]

-- with one member fewer there are fewer
pub fewer : (row : List Bool) (c : ℕ) → is_member row c ≡ true → member_count (set row c false) < member_count row
fewer row c is =
    let sum = sum_by-set one_of row c false false (member_within row c is) in
    let one : one_of (get_or row c false) ≡ 1 = ap one_of is in
    omega (arith, sum, one)

module _ (w : Wiring) (s : State) where
  -- what can move is in no stuck set
  pub free_ready : (c : ℕ) → 0 < c → c ≤ length w.sites → CanStep w.sites s c → IsFree w s c
  free_ready c from to (p, steps) = record {
    from = from;
    to = to;
    none = λ other stuck is. (stuck c is).still p steps;
  }

  -- nor is what waits for the host, or for one that is in none
  pub free_waiting : (c k : ℕ) → IsOpen w s k → HasDueOn w s c k → IsFree w s c
  free_waiting c k (inl outer) (p, mv, port, on, has) = record {
    from = port.comp_from;
    to = port.comp_to;
    none = λ other stuck is. let inner = (stuck c is).inner p mv port has in omega (arith, inner, on, outer);
  }
  free_waiting c k (inr (d, q, free, there, chan)) (p, mv, port, on, has) = record {
    from = port.comp_from;
    to = port.comp_to;
    none = λ other stuck is. free.none other stuck ((stuck c is).among p mv port has d q there (chan ∙ sym on));
  }

  module _ (row : List Bool) (covers : Covers w s row) where
    -- nor is what a row that has all of them doesn't hold
    pub free_loose : (c : ℕ) → IsLoose w s row c → IsFree w s c
    free_loose c (from, to, is, loose) = record {
      from = from;
      to = to;
      none = λ other stuck is_in. loose (record {
        still = (stuck c is_in).still;
        inner = (stuck c is_in).inner;
        among = λ p mv port has d q there on.
            covers.greatest other stuck d there.comp_from there.comp_to ((stuck c is_in).among p mv port has d q there on);
      });
    }

    pub covers_less : (c : ℕ) → IsFree w s c → Covers w s (set row c false)
    covers_less c free = record {
      len = length-set row c false ∙ covers.len;
      first = let from = free.from in get_or-set_other row c 0 false false (λ e. omega (arith, e, from)) ∙ covers.first;
      greatest = λ other stuck d from to is. elim (same_or_not d c) [
        | inl same ↦ absurd (free.none other stuck (subst (λ e. other e ≡ true) same is))
        | inr differ ↦ get_or-set_other row c d false false differ ∙ covers.greatest other stuck d from to is
      ];
    }

  pub frees_more : (row : List Bool) (freed : List ℕ) (c : ℕ) → Frees w s row freed → IsFree w s c → Frees w s (set row c false) (freed ++ c ∷ [])
  frees_more row freed c frees free = record {
    covers = covers_less row frees.covers c free;
    each = All-push (IsFree w s) freed c frees.each free;
  }

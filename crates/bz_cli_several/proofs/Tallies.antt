-- What becomes of one trace more.
use Rattle.std.proofs.Common.{◌≡◌, ℕ, ◌+◌, Bool, true, false, cond, List, [], ◌∷◌, ◌++◌, max, min, refl, sym, ap, ◌∙◌, arith}
use Rattle.std.specs.List.{count_by}
use Rattle.std.proofs.lemmas.List.Sums.{sum_by-append}
use Rattle.bz_cli_several.specs.declared.judging.Fate.{Fate}
use Rattle.bz_cli_several.specs.declared.judging.Fate.TheVariants.{Failed, Passed, Unread}
use Rattle.bz_cli_several.specs.Fates.{added, has_failed, has_passed, is_unread, most, status_of, status_one, tally_of}

status_more : (fates : List Fate) (fate : Fate) → status_of (fates ++ fate ∷ []) ≡ max (status_of fates) (status_one fate)
status_more [] fate = omega arith
status_more (f ∷ fates) fate = let more = status_more fates fate in omega (arith, more)

counted_more : (p : Fate → Bool) (fates : List Fate) (fate : Fate) → p fate ≡ true → count_by p (fates ++ fate ∷ []) ≡ count_by p fates + 1
counted_more p fates fate is =
    let one : count_by p (fate ∷ []) ≡ 1 = rw is refl in
    sum_by-append (λ x. cond (p x) 1 0) fates (fate ∷ []) ∙ ap (λ n. count_by p fates + n) one

counted_same : (p : Fate → Bool) (fates : List Fate) (fate : Fate) → p fate ≡ false → count_by p (fates ++ fate ∷ []) ≡ count_by p fates
counted_same p fates fate is =
    let none : count_by p (fate ∷ []) ≡ 0 = rw is refl in
    sum_by-append (λ x. cond (p x) 1 0) fates (fate ∷ []) ∙ (ap (λ n. count_by p fates + n) none ∙ omega arith)

up : (a b : ℕ) → b ≡ a + 1 → min (min a most + 1) most ≡ min b most
up a b is = omega (arith, is)

same : (a b : ℕ) → b ≡ a → min a most ≡ min b most
same a b is = ap (λ n. min n most) (sym is)

pub tally_more : (fates : List Fate) (fate : Fate) → added (tally_of fates) fate ≡ tally_of (fates ++ fate ∷ [])
tally_more fates Passed = λ i. record {
  passed = up _ _ (counted_more has_passed fates Passed refl) i;
  failed = same _ _ (counted_same has_failed fates Passed refl) i;
  unread = same _ _ (counted_same is_unread fates Passed refl) i;
  status = sym (status_more fates Passed) i;
}
tally_more fates Failed = λ i. record {
  passed = same _ _ (counted_same has_passed fates Failed refl) i;
  failed = up _ _ (counted_more has_failed fates Failed refl) i;
  unread = same _ _ (counted_same is_unread fates Failed refl) i;
  status = sym (status_more fates Failed) i;
}
tally_more fates Unread = λ i. record {
  passed = same _ _ (counted_same has_passed fates Unread refl) i;
  failed = same _ _ (counted_same has_failed fates Unread refl) i;
  unread = up _ _ (counted_more is_unread fates Unread refl) i;
  status = sym (status_more fates Unread) i;
}

-- What passed at a port, by its tally, and compared with what is wanted there.
use Rattle.std.proofs.Common.{◌≡◌, ℕ, ◌+◌, ◌<◌, ◌≤◌, true, false, Option, Some, None, List, length, get_or, inl, inr, sym, subst, ◌∙◌, ap, arith}
use Rattle.std.specs.Prelude.{slice_get}
use Rattle.std.proofs.lemmas.Bool.{cases_lt, false≢true}
use Rattle.std.proofs.lemmas.Option.{get_or_from_slice_get, slice_get-get_or, slice_get_past, slice_get_within}
use Rattle.bz_model.specs.declared.channel.Chan.{Chan}
use Rattle.bz_model.specs.declared.event.Entry.{Entry}
use Rattle.bz_model.specs.Names.{channel}
use Rattle.bz_model.specs.Nets.{Wiring}
use Rattle.bz_bench.specs.Dues.{fits}
use Rattle.bz_bench.specs.Streams.{passed, passed_on}
use Rattle.bz_bench.specs.Tallies.{IsTally}
use Rattle.bz_bench.specs.declared.tally.Tally.{Tally}
use Rattle.bz_bench.specs.declared.stream.Item.{Item}
use Rattle.bz_explore_moves.specs.Passing.{AreWanted, DiffersFirst, IsAsWanted}

pub passed_is : (w : Wiring) (port : ℕ) (entries : List Entry) (t : Tally) (chan : Option Chan) (xs : List (Option ℕ)) → IsTally port entries t → chan ≡ channel w.chans port
    → xs ≡ passed_on chan t.begun.items t.ended.items → xs ≡ passed w port entries
passed_is w port entries t chan xs tally on is = λ i. (is ∙ (λ j. passed_on (on j) (tally.begun_is j) (tally.ended_is j))) i

module _ (items : List Item) (came : List (Option ℕ)) where
  pub wanted_none : AreWanted items came 0
  wanted_none place it lt is = absurd (omega (arith, lt))

  pub wanted_more : (n : ℕ) (x : Option ℕ) → x ≡ get_or came n x → fits (slice_get items n) x ≡ true → AreWanted items came n → AreWanted items came (n + 1)
  wanted_more n x was fit before place it lt is = elim (cases_lt place n) [
    | inl less ↦ before place it less is
    | inr least ↦
        let e : n ≡ place = omega (arith, lt, least) in
        let same : x ≡ it = was ∙ ap (λ k. get_or came k x) e ∙ get_or_from_slice_get came place it x is in
        subst (λ y. fits (slice_get items place) y ≡ true) same (subst (λ k. fits (slice_get items k) x ≡ true) e fit)
  ]

  -- no more came than there are items, since each that came has its item
  no_more : (n : ℕ) → length came ≤ n → AreWanted items came n → length came ≤ length items
  no_more n all wanted = elim (cases_lt (length items) (length came)) [
    | inl more ↦
        let last = slice_get-get_or came (length items) None more in
        let fit = wanted (length items) (get_or came (length items) None) (omega (arith, more, all)) last in
        absurd (false≢true (ap (λ o. fits o (get_or came (length items) None)) (sym (slice_get_past items (length items) (omega arith))) ∙ fit))
    | inr least ↦ least
  ]

  pub wanted_all : (n : ℕ) → n ≡ length came → length items ≤ n → AreWanted items came n → IsAsWanted items came
  wanted_all n is all wanted = record {
    count = (let le = no_more n (omega (arith, is)) wanted in omega (arith, le, is, all));
    all = subst (AreWanted items came) is wanted;
  }

  pub another_came : (n : ℕ) (x : Option ℕ) → n < length came → x ≡ get_or came n x → fits (slice_get items n) x ≡ false → AreWanted items came n → DiffersFirst items came n
  another_came n x lt was unfit before = record {
    before = before;
    another = λ it is. subst (λ y. fits (slice_get items n) y ≡ false) (was ∙ get_or_from_slice_get came n it x is) unfit;
    none = λ is. absurd (let within = slice_get-get_or came n x lt in cc);
  }

  pub none_came : (n : ℕ) → n ≡ length came → n < length items → AreWanted items came n → DiffersFirst items came n
  none_came n is lt before = record {
    before = before;
    another = λ it some. absurd (let within = slice_get_within came n it some in omega (arith, within, is));
    none = λ nothing. lt;
  }

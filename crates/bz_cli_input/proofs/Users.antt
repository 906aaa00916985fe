-- Marks of the parts that others use.
use Rattle.std.proofs.Common.{◌≡◌, ℕ, ◌+◌, ◌<◌, ◌==◌, Bool, true, false, List, length, get_or, take, set, refl, sym, ◌∙◌, arith, inl, inr, ◌≤◌, subst}
use Rattle.std.proofs.lemmas.Bool.{cases_eq, eq-eqb, ne_eqb}
use Rattle.std.proofs.lemmas.List.{length-set, get_or-set_same, get_or-set_other, take_all}
use Rattle.std.proofs.lemmas.List.FromFn.{get_or-enumerate_from, length-enumerate_from}
use Rattle.std.specs.List.{enumerate_from, list_any}
use Rattle.bz_breeze_records.specs.declared.part.Part.{Part}
use Rattle.bz_cli_input.specs.Marking.{Marks}
use Rattle.bz_cli_input.specs.Uses.{has_instance_of, is_used_by_other, uses_other}
use Rattle.bz_cli_input.proofs.Marked.{marks_more, or_false}

-- what a part uses is marked, and its own mark is put back
pub marks_others : (listed : List Part) (user : ℕ) (p : Part) (a b : List Bool) (own : Bool) → user < length a → own ≡ get_or a user false → Marks a b (λ n. has_instance_of listed n p)
    → Marks a (set b user own) (λ n. uses_other listed n (user, p))
marks_others listed user p a b own lt is marked = record {
  count = length-set b user own ∙ marked.count;
  each = λ n within. elim (cases_eq n user) [
    | inl e ↦
        let same : (user == n) ≡ true = eq-eqb user n (sym e) in
        let here : get_or (set b user own) user false ≡ own = get_or-set_same b user own false (omega (arith, lt, marked.count)) in
        rw (same, e) (here ∙ is ∙ sym (or_false (get_or a user false)))
    | inr other ↦
        let differs : (user == n) ≡ false = ne_eqb user n (λ e. other (sym e)) in
        rw differs (get_or-set_other b user n own false other ∙ marked.each n within)
  ];
}

-- of the parts so far, and then of the next
pub marks_next : (listed : List Part) (i : ℕ) (p : Part) (a b c : List Bool) → i < length listed → p ≡ get_or listed i p → Marks a b (λ n. list_any (uses_other listed n) (take i (enumerate_from 0 listed))) → Marks b c (λ n. uses_other listed n (i, p))
    → Marks a c (λ n. list_any (uses_other listed n) (take (i + 1) (enumerate_from 0 listed)))
marks_next listed i p a b c lt is first next =
    let from : 0 + i ≡ i = omega arith in
    let same : (0 + i, get_or listed i p) ≡ (i, p) = rw (from, sym is) refl in
    marks_more (uses_other listed) (enumerate_from 0 listed) i (i, p) a b c (rw (length-enumerate_from 0 listed) lt)
    (sym (get_or-enumerate_from 0 listed i (i, p) lt ∙ same)) first next

-- of all parts
pub marks_all : (listed : List Part) (i : ℕ) (a b : List Bool) → length listed ≤ i → Marks a b (λ n. list_any (uses_other listed n) (take i (enumerate_from 0 listed))) → Marks a b (is_used_by_other listed)
marks_all listed i a b past marked =
    let all : take i (enumerate_from 0 listed) ≡ enumerate_from 0 listed = take_all i (enumerate_from 0 listed) (rw (length-enumerate_from 0 listed) past) in
    subst (λ users. Marks a b (λ n. list_any (uses_other listed n) users)) all marked

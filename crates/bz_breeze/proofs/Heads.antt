-- What is read of a list goes by its head.
use Rattle.std.proofs.Common.{◌≡◌, ℕ, ◌<◌, ◌^◌, List, ◌∷◌, true, false, cond, nat_le, Some, Ok, Err, refl, sym, ap, ap₂, ◌∙◌, bytes_eq, codes, rules}
use Rattle.std.proofs.lemmas.Bool.Decides.{nat_tests}
use Rattle.bz_sexpr.specs.Data.{Datum, leaf, symbol, items}
use Rattle.bz_sexpr.specs.declared.datum.Span.{Span}
use Rattle.bz_sexpr.specs.Forms.{items_in, number_at, symbol_at}
use Rattle.bz_breeze.specs.Turns.{head_and_rest, inside}
use Rattle.bz_breeze.specs.Forms.{listed_channel, listed_component, component_of, fields_of, number}
use Rattle.bz_breeze.specs.declared.error.Code.TheVariants.{BadForm}
use Rattle.bz_model.specs.declared.channel.ChanKind.TheVariants.{Sync}
use Rattle.bz_breeze.specs.Parts.{Lists, headed_form, components_form}

pub inside_is : (d : Datum) → items_in d ≡ inside d
inside_is (items ds span) = refl
inside_is (leaf l span) = refl

pub headed_by_word : (d : Datum) (s : List ℕ) (span : Span) (rest ds : List Datum) → d ≡ symbol_at s span → d ∷ rest ≡ ds → Some (s, rest) ≡ head_and_rest ds
headed_by_word d s span rest ds e is = ap (λ x. head_and_rest (x ∷ rest)) (sym e) ∙ ap head_and_rest is

pub number_is : (d : Datum) (n : ℕ) (span : Span) → n < 2 ^ 32 → d ≡ number_at n span → Ok n ≡ number d
number_is d n span h e =
    let fits : nat_le n 4294967295 ≡ true = search (nat_tests, rules) in
    sym (ap number e ∙ ap (λ b. cond b (Ok n) (Err BadForm)) fits)

head_is : (ds : List Datum) (h : List ℕ) (rest : List Datum) → head_and_rest ds ≡ Some (h, rest) → (span : Span) × (ds ≡ leaf (symbol h) span ∷ rest)
head_is (leaf (symbol s) span ∷ xs) h rest e =
    let both : (s, xs) ≡ (h, rest) = same e in
    (span, ap₂ (λ a b. leaf (symbol a) span ∷ b) (ap (λ (p : List ℕ × List Datum). p.0) both) (ap (λ (p : List ℕ × List Datum). p.1) both))
  where
    same : {p q : List ℕ × List Datum} → Some p ≡ Some q → p ≡ q
    same f = cc
head_is ds h rest e = absurd cc

pub component_headed : (ds : List Datum) (h : List ℕ) (rest : List Datum) → head_and_rest ds ≡ Some (h, rest) → bytes_eq h (codes "component") ≡ true → listed_component ds ≡ component_of (fields_of rest)
component_headed ds h rest e is = let d = head_is ds h rest e in rw (d.1, is) refl

pub components_headed : (lists : Lists) (at : ℕ) (ds : List Datum) (h : List ℕ) (rest : List Datum) → head_and_rest ds ≡ Some (h, rest) → bytes_eq h (codes "ports") ≡ false → bytes_eq h (codes "channels") ≡ false
    → bytes_eq h (codes "components") ≡ true → headed_form lists at ds ≡ components_form lists at rest
components_headed lists at ds h rest e ports channels is = let d = head_is ds h rest e in rw (d.1, ports, channels, is) refl

pub sync_by_word : (d : Datum) (s : List ℕ) (span : Span) (rest ds : List Datum) → d ≡ symbol_at s span → d ∷ rest ≡ ds → bytes_eq s (codes "sync") ≡ true → listed_channel ds ≡ Ok (record { kind = Sync; width = 0 })
sync_by_word d s span rest ds e is sync =
    let whole : ds ≡ leaf (symbol s) span ∷ rest = sym is ∙ ap (λ x. x ∷ rest) e in
    rw (whole, sync) refl

-- Lines that are told one after another.
use Rattle.std.proofs.Common.{◌≡◌, ℕ, suc, ◌<◌, true, false, Bool, Bor, length, List, [], ◌∷◌, ◌++◌, Option, Ok, Err, inl, inr, refl, sym, ap, subst, ◌∙◌, append_assoc, drop, get_or, take}
use Rattle.std.proofs.Math.Seq.{drop-cons}
use Rattle.std.proofs.lemmas.List.{append-nil, map-append, take-append-drop}
use Rattle.std.proofs.KnownBytes.{Appends-nil, Appends-trans}
use Rattle.std.specs.Io.KnownBytes.{Appends}
use Rattle.bz_cli_input.specs.Stopping.{AppendsSome}
use Rattle.bz_cli_input.proofs.Written.{all_kept}
use Rattle.bz_cli_input.specs.declared.fault.Fault.{Fault}
use Rattle.bz_cli_input.specs.declared.fault.Fault.TheVariants.{Write}
use Rattle.bz_words.specs.Words.{texts}
use Rattle.bz_cli_several.specs.declared.judging.Fate.{Fate}
use Rattle.bz_cli_several.specs.Each.{ChecksEach, ChecksOne, StopsAmong, TellsEach, TellsOne, ending}
use Rattle.bz_cli_several.specs.Fates.{status_of, tally_of, tally_text}
use Rattle.bz_cli_several.specs.Holding.{Asked}

pub both : (b : Bool) → b ≡ true → b ≡ false → ⊥
both b is isnt = let clash : true ≡ false = sym is ∙ isnt in cc

-- the names in front of one, that one, and those behind it
pub named_at : (names : List (Bor (List ℕ))) (i : ℕ) (d : Bor (List ℕ)) → i < length names → texts names ≡ texts (take i names) ++ (get_or names i d).now ∷ texts (drop (suc i) names)
named_at names i d lt =
    ap texts (sym (take-append-drop i names)) ∙ (map-append (λ name. name.now) (take i names) (drop i names) ∙ ap (λ ns. texts (take i names) ++ texts ns) (drop-cons names i d lt))

module _ (asked : Asked) (read : List ℕ → Option (List ℕ)) where
  each_more : (names : List (List ℕ)) (fates : List Fate) (lines : List ℕ) (name : List ℕ) (fate : Fate) (line : List ℕ) → TellsEach asked read names fates lines → TellsOne asked (read name) name fate line
      → TellsEach asked read (names ++ name ∷ []) (fates ++ fate ∷ []) (lines ++ line)
  each_more [] [] lines name fate line none one = (line, [], one, refl, ap (λ ls. ls ++ line) none ∙ sym (append-nil line))
  each_more [] (f ∷ fates) lines name fate line none one = absurd none
  each_more (n ∷ names) [] lines name fate line none one = absurd none
  each_more (n ∷ names) (f ∷ fates) lines name fate line (front, rest, first, more, is) one =
      (front, rest ++ line, first, each_more names fates rest name fate line more one, ap (λ ls. ls ++ line) is ∙ append_assoc front rest line)

  -- the first traces were told, and these are left
  pub record ToldSo (names done : List (List ℕ)) (json : Bool) (old new : Option (List ℕ)) (fates : List Fate) : Type 0 where
    pub lines : List ℕ
    pub each : TellsEach asked read done fates lines
    pub sent : json ≡ false → Appends old new lines

  pub told_none : (names : List (List ℕ)) (json : Bool) (old : Option (List ℕ)) → ToldSo names [] json old old []
  told_none names json old = record { lines = []; each = refl; sent = λ plain. Appends-nil old }

  pub told_more : (names done : List (List ℕ)) (json : Bool) (old mid new : Option (List ℕ)) (fates : List Fate) (name : List ℕ) (fate : Fate) → ToldSo names done json old mid fates → ChecksOne asked (read name) name json mid new (Ok fate)
      → ToldSo names (done ++ name ∷ []) json old new (fates ++ fate ∷ [])
  told_more names done json old mid new fates name fate so (line, one, sent) = record {
    lines = so.lines ++ line;
    each = each_more done fates so.lines name fate line so.each one;
    sent = λ plain. Appends-trans old mid new so.lines line (so.sent plain) (sent plain);
  }

  each_long : (names : List (List ℕ)) (fates : List Fate) (lines : List ℕ) → TellsEach asked read names fates lines → length fates ≡ length names
  each_long [] [] lines each = refl
  each_long [] (f ∷ fates) lines each = absurd each
  each_long (n ∷ names) [] lines each = absurd each
  each_long (n ∷ names) (f ∷ fates) lines (line, rest, one, more, is) = ap suc (each_long names fates rest more)

  -- a front of what comes behind went out
  some_behind : (old mid new : Option (List ℕ)) (lines line rest : List ℕ) → Appends old mid lines → AppendsSome mid new line → AppendsSome old new ((lines ++ line) ++ rest)
  some_behind old mid new lines line rest all (front, left, is, sent) = (
    lines ++ front,
    left ++ rest,
    append_assoc lines line rest ∙ ap (λ l. lines ++ (l ++ rest)) is ∙ ap (λ l. lines ++ l) (append_assoc front left rest) ∙ sym (append_assoc lines front (left ++ rest)),
    Appends-trans old mid new lines front all sent,
  )

  -- nothing was told
  pub stops_before : (names : List (List ℕ)) (old : Option (List ℕ)) → StopsAmong asked read names old old
  stops_before names old = record {
    front = [];
    rest = names;
    names_are = refl;
    fates = [];
    lines = [];
    each = refl;
    sent = ([], ending names [], refl, Appends-nil old);
  }

  -- the next one comes to no end
  pub stops_at : (names done : List (List ℕ)) (name : List ℕ) (rest : List (List ℕ)) (json : Bool) (old mid new : Option (List ℕ)) (fates : List Fate) (fault : Fault) → names ≡ done ++ name ∷ rest → ToldSo names done json old mid fates
      → ChecksOne asked (read name) name json mid new (Err fault) → ChecksEach asked read names json old new (Err fault)
  stops_at names done name rest json old mid new fates fault are so (cause, sends) = (
    cause,
    λ plain. elim (sends plain) [
      | inl kept ↦ record {
        front = done;
        rest = name ∷ rest;
        names_are = are;
        fates = fates;
        lines = so.lines;
        each = so.each;
        sent = subst (λ (l : List ℕ). AppendsSome old new l) (sym (append-nil so.lines)) (all_kept old mid new so.lines (so.sent plain) kept);
      }
      | inr (fate, line, one, some) ↦ record {
        front = done ++ name ∷ [];
        rest = rest;
        names_are = are ∙ sym (append_assoc done (name ∷ []) rest);
        fates = fates ++ fate ∷ [];
        lines = so.lines ++ line;
        each = each_more done fates so.lines name fate line so.each one;
        sent = some_behind old mid new so.lines line (ending rest (fates ++ fate ∷ [])) (so.sent plain) some;
      }
    ],
  )

  -- all of them were told, and so is how many passed
  pub told_all : (names : List (List ℕ)) (json : Bool) (old mid new : Option (List ℕ)) (fates : List Fate) (count : ℕ) → ToldSo names names json old mid fates → count ≡ length names
      → Appends mid new (tally_text count (tally_of fates)) → ChecksEach asked read names json old new (Ok (status_of fates))
  told_all names json old mid new fates count so long sent = (
    fates,
    so.lines,
    so.each,
    refl,
    λ plain. Appends-trans old mid new so.lines (ending [] fates) (so.sent plain)
        (subst (λ (n : ℕ). Appends mid new (tally_text n (tally_of fates))) (long ∙ sym (each_long names fates so.lines so.each)) sent),
  )

  -- all of them were told as objects
  pub told_apart : (names : List (List ℕ)) (json : Bool) (old mid new : Option (List ℕ)) (fates : List Fate) → ToldSo names names json old mid fates → json ≡ true → ChecksEach asked read names json old new (Ok (status_of fates))
  told_apart names json old mid new fates so apart = (
    fates,
    so.lines,
    so.each,
    refl,
    λ plain. absurd (both json apart plain),
  )

  -- that is not
  pub stops_last : (names : List (List ℕ)) (json : Bool) (old mid new : Option (List ℕ)) (fates : List Fate) (count : ℕ) (fault : Fault) → ToldSo names names json old mid fates → count ≡ length names
      → (fault ≡ Write) × AppendsSome mid new (tally_text count (tally_of fates)) → ChecksEach asked read names json old new (Err fault)
  stops_last names json old mid new fates count fault so long (is, (front, rest, all, sent)) = (
    inl is,
    λ plain. record {
      front = names;
      rest = [];
      names_are = sym (append-nil names);
      fates = fates;
      lines = so.lines;
      each = so.each;
      sent = (
        so.lines ++ front,
        rest,
        ap (λ (n : ℕ). so.lines ++ tally_text n (tally_of fates)) (each_long names fates so.lines so.each ∙ sym long) ∙ ap (λ l. so.lines ++ l) all ∙ sym (append_assoc so.lines front rest),
        Appends-trans old mid new so.lines front (so.sent plain) sent,
      );
    },
  )

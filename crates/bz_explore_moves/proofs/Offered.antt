-- What `moves` writes, as lines and as JSON.
use Rattle.std.proofs.Common.{◌≡◌, ◌≢◌, ℕ, zero, suc, Option, Some, None, Result, Ok, Err, List, [], ◌++◌, codes, length, refl, sym, ◌∙◌, subst, append_assoc, ◌⊎◌, inl, inr}
use Rattle.std.specs.Prelude.{IfErr, IfOk, IfSome}
use Rattle.std.specs.Fmt.{decimal}
use Rattle.std.proofs.lemmas.List.{append-nil}
use Rattle.bz_model.specs.Nets.{State, Wiring}
use Rattle.bz_model.specs.Traces.{move_text, value_text}
use Rattle.bz_text.specs.Growing.{Grows, GrowsBy}
use Rattle.bz_text.specs.Saying.{count_text}
use Rattle.bz_text.proofs.Said.{grows_then}
use Rattle.bz_explore_net.specs.declared.host_offers.HostOffer.{HostOffer}
use Rattle.bz_explore_net.specs.declared.offers.Offer.{Offer}
use Rattle.bz_explore_net.specs.HostOffers.{HostOffers}
use Rattle.bz_explore_net.specs.Offers.{Offers}
use Rattle.bz_view.specs.Lines.{AreBlanks, InLine, InTurn}
use Rattle.bz_explore_moves.specs.Moves.{IsMove, IsMoveLine, IsMoves, IsWordLine, end_line}
use Rattle.bz_explore_moves.specs.Objects.{IsNext, next_members}
use Rattle.bz_view.proofs.Lines.{line_grows}

-- the words of a move, blanks, and the move
pub move_grows : (o : Offer) (comp port chan : ℕ) (word : List ℕ) (a b c d : Option (List ℕ)) → comp ≡ o.comp → port ≡ o.port → chan ≡ o.chan → word ≡ move_text o.mv
    → Grows a b (codes "fire " ++ (decimal comp ++ (codes " " ++ (decimal port ++ [])))) → GrowsBy AreBlanks b c
    → Grows c d (word ++ ((codes " " ++ decimal chan) ++ (value_text o.value ++ []))) → GrowsBy (IsMove o) a d
move_grows o comp port chan word a b c d p q r w g (blanks, are, h) k = (
  (codes "fire " ++ (decimal comp ++ (codes " " ++ (decimal port ++ [])))) ++ (blanks ++ (word ++ ((codes " " ++ decimal chan) ++ (value_text o.value ++ [])))),
  (
    blanks,
    are,
    simp (append_assoc, append-nil) ((λ i. codes "fire " ++ (decimal (p i) ++ (codes " " ++ (decimal (q i) ++ (blanks ++ (w i ++ (codes " " ++ (decimal (r i) ++ value_text o.value))))))))),
  ),
  grows_then a b d _ _ g (grows_then b c d blanks _ h k),
)

pub move_line_grows : (o : Offer) (a b c d e : Option (List ℕ)) → GrowsBy (IsMove o) a b → GrowsBy AreBlanks b c → GrowsBy InLine c d → Grows d e (codes "\n") → GrowsBy (IsMoveLine o) a e
move_line_grows o a b c d e (front, is, g) h k m =
    let (line, whole, all) = line_grows front a b c d e g h k m in
    (line, (front, is, whole), all)

pub end_some : (n : ℕ) → n ≢ 0 → end_line n ≡ count_text n (codes "move") ++ codes "\n"
end_some zero some = absurd (some refl)
end_some (suc n) some = refl

-- a list that was gathered, or a text that is lost
pub gathered_is : {A E : Type 0} (r : Result A E) (got : A) (P : A → Type 0) (old new : Option (List ℕ)) → IfOk r P → IfOk r (λ x. (got ≡ x) × (new ≡ old)) → IfErr r (λ e. new ≡ None)
    → (new ≡ None) ⊎ ((new ≡ old) × P got)
gathered_is (Ok x) got P old new p ok err = inr (ok.1, subst P (sym ok.0) p)
gathered_is (Err e) got P old new p ok err = inl err

-- where nothing was lost, all was gathered
all_there : (a b c : Option (List ℕ)) (zs t : List ℕ) (P Q : Type 0) → (b ≡ None) ⊎ ((b ≡ a) × P) → (c ≡ None) ⊎ ((c ≡ b) × Q) → Grows c (Some zs) t → P × Q × Grows a (Some zs) t
all_there a b c zs t P Q first (inl lost) g = absurd (subst (λ x. Grows x (Some zs) t) lost g)
all_there a b c zs t P Q (inl lost) (inr (same, q)) g = absurd (subst (λ x. Grows x (Some zs) t) (same ∙ lost) g)
all_there a b c zs t P Q (inr (was, p)) (inr (same, q)) g = (p, q, subst (λ x. Grows x (Some zs) t) (same ∙ was) g)

pub moves_grow : (w : Wiring) (s : State) (offers : List Offer) (words : List HostOffer) (a b c d e f : Option (List ℕ))
    → (b ≡ None) ⊎ ((b ≡ a) × Offers w.sites s offers) → (c ≡ None) ⊎ ((c ≡ b) × HostOffers w s words)
    → GrowsBy (InTurn IsMoveLine offers) c d → GrowsBy (InTurn (IsWordLine w) words) d e → Grows e f (end_line (length offers)) → IfSome f (λ _. GrowsBy (IsMoves w s) a f)
moves_grow w s offers words a b c d e None first second moves answers last = tt
moves_grow w s offers words a b c d e (Some zs) first second (moves, are_moves, g) (answers, are_answers, h) last =
    let all = grows_then c d (Some zs) moves (answers ++ end_line (length offers)) g (grows_then d e (Some zs) answers (end_line (length offers)) h last) in
    let (listed, told, grown) = all_there a b c zs _ _ _ first second all in (
      moves ++ (answers ++ end_line (length offers)),
      record {
        offers = offers;
        words = words;
        can_be_made = listed;
        are_answered = told;
        moves = moves;
        answers = answers;
        are_moves = are_moves;
        are_answers = are_answers;
        whole = refl;
      },
      grown,
    )

pub next_grows : (w : Wiring) (s : State) (offers : List Offer) (words : List HostOffer) (a b c d : Option (List ℕ))
    → (b ≡ None) ⊎ ((b ≡ a) × Offers w.sites s offers) → (c ≡ None) ⊎ ((c ≡ b) × HostOffers w s words)
    → Grows c d (next_members w offers words) → IfSome d (λ _. GrowsBy (IsNext w s) a d)
next_grows w s offers words a b c None first second members = tt
next_grows w s offers words a b c (Some zs) first second members =
    let (listed, told, grown) = all_there a b c zs _ _ _ first second members in (
      next_members w offers words,
      record { offers = offers; words = words; can_be_made = listed; are_answered = told; whole = refl },
      grown,
    )

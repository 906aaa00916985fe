-- Members that were added one after the other.
use Rattle.std.proofs.Common.{◌≡◌, ℕ, Bool, Option, List, [], ◌++◌, codes, ◌∙◌, subst, append_assoc}
use Rattle.std.proofs.lemmas.List.{append-nil}
use Rattle.std.specs.Fmt.{decimal}
use Rattle.bz_model.specs.Nets.{Site}
use Rattle.bz_model.specs.declared.event.Verb.{Verb}
use Rattle.bz_model.specs.Traces.{move_text, verb_text}
use Rattle.bz_explore_net.specs.declared.offers.Offer.{Offer}
use Rattle.bz_explore_moves.specs.Objects.{flag_text, move_members, value_member}
use Rattle.bz_view.specs.Outside.{kind_of}
use Rattle.bz_text.specs.Growing.{Grows}
use Rattle.bz_text.specs.Json.{json_text}
use Rattle.bz_text.proofs.Said.{grows_then}
use Rattle.bz_view.specs.Naming.{typed_text}

four : (x y z t : List ℕ) → (x ++ (y ++ (z ++ []))) ++ t ≡ x ++ (y ++ (z ++ t))
four x y z t = simp (append_assoc, append-nil)

pub word_grows : (verb : Verb) (word name port : List ℕ) (a b c : Option (List ℕ)) → Grows a b (codes "\"word\": " ++ (json_text word ++ (codes ", \"port\": " ++ [])))
    → Grows b c (json_text (typed_text name)) → word ≡ verb_text verb → name ≡ port
    → Grows a c (codes "\"word\": " ++ (json_text (verb_text verb) ++ (codes ", \"port\": " ++ json_text (typed_text port))))
word_grows verb word name port a b c g h p q =
    subst (Grows a c)
    (four (codes "\"word\": ") (json_text word) (codes ", \"port\": ") (json_text (typed_text name)) ∙ (λ i. codes "\"word\": " ++ (json_text (p i) ++ (codes ", \"port\": " ++ json_text (typed_text (q i))))))
    (grows_then a b c _ _ g h)

ten : (q r s t u v w x y z e : List ℕ)
    → (q ++ (r ++ (s ++ (t ++ (u ++ (v ++ (w ++ (x ++ (y ++ (z ++ [])))))))))) ++ e ≡ q ++ (r ++ (s ++ (t ++ (u ++ (v ++ (w ++ (x ++ (y ++ (z ++ e)))))))))
ten q r s t u v w x y z e = simp (append_assoc, append-nil)

pub move_grows : (sites : List Site) (o : Offer) (kind word : List ℕ) (a b c : Option (List ℕ))
    → Grows a b
    (codes "\"component\": " ++ (decimal o.comp ++ (codes ", \"kind\": " ++ (json_text kind ++ (codes ", \"port\": " ++ (decimal o.port
    ++ (codes ", \"move\": " ++ (json_text word ++ (codes ", \"channel\": " ++ (decimal o.chan ++ []))))))))))
    → Grows b c (value_member o.value) → kind ≡ kind_of sites o.comp → word ≡ move_text o.mv → Grows a c (move_members sites o)
move_grows sites o kind word a b c g h p q =
    subst (Grows a c)
    (ten (codes "\"component\": ") (decimal o.comp) (codes ", \"kind\": ") (json_text kind) (codes ", \"port\": ") (decimal o.port) (codes ", \"move\": ") (json_text word)
    (codes ", \"channel\": ") (decimal o.chan) (value_member o.value)
    ∙ (λ i.
    codes "\"component\": " ++ (decimal o.comp ++ (codes ", \"kind\": " ++ (json_text (p i) ++ (codes ", \"port\": " ++ (decimal o.port
    ++ (codes ", \"move\": " ++ (json_text (q i) ++ (codes ", \"channel\": " ++ (decimal o.chan ++ value_member o.value)))))))))))
    (grows_then a b c _ _ g h)

pub object_grows : (members : List ℕ) (flag needs : Bool) (a b c d e f : Option (List ℕ)) → Grows a b (codes "{") → Grows b c members → Grows c d (codes ", \"needs_value\": ")
    → Grows d e (flag_text flag) → Grows e f (codes "}") → flag ≡ needs
    → Grows a f (codes "{" ++ (members ++ (codes ", \"needs_value\": " ++ (flag_text needs ++ codes "}"))))
object_grows members flag needs a b c d e f g h k m n same =
    grows_then a b f _ _ g (grows_then b c f _ _ h (grows_then c d f _ _ k (grows_then d e f _ _ (subst (λ x. Grows d e (flag_text x)) same m) n)))

-- Words spelt, one after another.
use Rattle.std.proofs.Common.{◌≡◌, ◌<◌, ◌+◌, ℕ, suc, Bor, List, [], ◌∷◌, ◌++◌, length, map, take, drop, get_or, sym, ap, ◌∙◌, arith}
use Rattle.std.proofs.Math.Seq.{drop-cons}
use Rattle.std.proofs.lemmas.List.{length-map, length-take-le, map-append, take-append-drop}
use Rattle.bz_model.specs.declared.event.Cmd.{Cmd}
use Rattle.bz_words.specs.Words.{Command, IsWord, command_of, texts}
use Rattle.bz_cli_core.specs.Running.{AreCommands, IsBadAt}
use Rattle.bz_words.proofs.Sessions.{texts_more}

pub AreCommands-push : (words : List (List ℕ)) (cs : List Command) (word : List ℕ) (c : Command) → AreCommands words cs → IsWord word c → AreCommands (words ++ word ∷ []) (cs ++ c ∷ [])
AreCommands-push [] [] word c are is = (is, tt)
AreCommands-push [] (d ∷ ds) word c are is = absurd are
AreCommands-push (w ∷ ws) [] word c are is = absurd are
AreCommands-push (w ∷ ws) (d ∷ ds) word c are is = (are.0, AreCommands-push ws ds word c are.1 is)

-- one more word is spelt, or is none
module _ (words : List (Bor (List ℕ))) (i : ℕ) (d : Bor (List ℕ)) (cmds : List Cmd) (lt : i < length words) (are : AreCommands (texts (take i words)) (map command_of cmds)) where
  pub spelt_more : (new : List Cmd) (c : Cmd) → IsWord (get_or words i d).now (command_of c) → new ≡ cmds ++ c ∷ [] → AreCommands (texts (take (i + 1) words)) (map command_of new)
  spelt_more new c spells grown =
      let more : map command_of new ≡ map command_of cmds ++ command_of c ∷ [] = ap (map command_of) grown ∙ map-append command_of cmds (c ∷ []) in
      rw (texts_more words i d lt, more) (AreCommands-push (texts (take i words)) (map command_of cmds) (get_or words i d).now (command_of c) are spells)

  pub bad_here : ((c : Command) → IsWord (get_or words i d).now c → ⊥) → IsBadAt (texts words) (i + 1)
  bad_here none = record {
    earlier = texts (take i words);
    word = (get_or words i d).now;
    later = texts (drop (suc i) words);
    words_are = ap texts (sym (take-append-drop i words)) ∙ (map-append (λ w. w.now) (take i words) (drop i words) ∙ ap (λ ws. texts (take i words) ++ texts ws) (drop-cons words i d lt));
    at_is = omega (arith, length-map (take i words) (λ w. w.now), length-take-le i words (omega arith));
    commands = map command_of cmds;
    spelt = are;
    none = none;
  }

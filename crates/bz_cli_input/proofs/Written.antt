-- Bytes written, one after another.
use Rattle.std.proofs.Common.{ℕ, Option, List, [], sym, append-nil}
use Rattle.std.proofs.KnownBytes.{Appends-kept}
use Rattle.std.specs.Io.KnownBytes.{Appends, Keeps}
use Rattle.bz_text.specs.Writing.{AppendsFront}
use Rattle.bz_cli_input.specs.Stopping.{AppendsSome}

pub some_front : (old new : Option (List ℕ)) (text : List ℕ) → AppendsFront old new text → AppendsSome old new text
some_front old new text (front, rest, is, left, went) = (front, rest, is, went)

pub all_of : (old new : Option (List ℕ)) (text : List ℕ) → Appends old new text → AppendsSome old new text
all_of old new text went = (text, [], sym (append-nil text), went)

-- all went out before a flush that failed
pub all_kept : (old mid new : Option (List ℕ)) (text : List ℕ) → Appends old mid text → Keeps mid new → AppendsSome old new text
all_kept old mid new text went kept = all_of old new text (Appends-kept old mid new text went kept)

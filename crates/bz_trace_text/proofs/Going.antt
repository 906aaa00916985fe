-- A text that goes out by pages, where the writer may have failed.
use Rattle.std.proofs.Common.{ℕ, Bool, true, false, Option, Result, Ok, Err, List, [], ◌++◌, sym, ap, ◌∙◌, append_assoc, append-nil}
use Rattle.std.specs.Result.{is_err}
use Rattle.bz_text.specs.Writing.{Writes}
use Rattle.bz_text.proofs.Sent.{appends_then}
use Rattle.bz_trace_text.specs.Writing.{GoneBut}

-- more waits behind what waited
pub gone_more : (start now : Option (List ℕ)) (failed : Bool) (waits text more : List ℕ) → GoneBut start now failed waits text → GoneBut start now failed (waits ++ more) (text ++ more)
gone_more start now false waits text more (sent, is, went) = (sent, ap (λ t. t ++ more) is ∙ append_assoc sent waits more, went)
gone_more start now true waits text more (front, rest, is, went) = (front, rest ++ more, ap (λ t. t ++ more) is ∙ append_assoc front rest more, went)

-- what waited went out, or the writer failed in it
pub gone_out : {A E : Type 0} (start now after : Option (List ℕ)) (r : Result A E) (waits text : List ℕ) → Writes now after r waits → GoneBut start now false waits text → GoneBut start after (is_err r) [] text
gone_out start now after (Ok u) waits text w (sent, is, went) = (sent ++ waits, is ∙ sym (append-nil (sent ++ waits)), appends_then start now after sent waits went w)
gone_out start now after (Err e) waits text (front, rest, cut, left, p) (sent, is, went) =
    (sent ++ front, rest, is ∙ ap (λ t. sent ++ t) cut ∙ sym (append_assoc sent front rest), appends_then start now after sent front went p)

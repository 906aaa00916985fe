use denote.Text.{Utf8}
use denote.Shadow.{shadow}
use Rattle.bz_explain_trace.proofs.object.put_old_names.Given as goal

abbrev pub invariant-loop-word : goal.invariant-loop-word
invariant-loop-word l =
    (goal.iterator-loop-word).can_next l.word-iterator ×
    (goal.iterator-loop-word).is_finite l.word-iterator ×
    shadow (Utf8 l.before)

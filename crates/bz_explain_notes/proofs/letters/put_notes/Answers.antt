use Rattle.std.proofs.Common.{arith, sym}
use Rattle.std.proofs.lemmas.Result.{err_from_is_err_and}
use Rattle.bz_explain_notes.proofs.Lines.{sent_at, stopped_at}
use Rattle.bz_explain_notes.specs.Notes.{letters_of, note_line}
use Rattle.bz_explain_notes.proofs.letters.put_notes.Goals as goal

pub returns-in_err-put_note : goal.returns-in_err-put_note
returns-in_err-put_note g c =
    let p = err_from_is_err_and c.from_residual.result c.from_residual.ensures.1 in
    rw p.1 (stopped_at _ _ _ (λ n. note_line (letters_of n)) c.args.notes.now c.loop-note.note-index c.note-item.result (omega arith) (sym c.note-item.is) c.loop-note.invariant c.in_err-put_note.ensures)

pub loop-note-preserved : goal.loop-note-preserved
loop-note-preserved g c =
    sent_at _ _ _ (λ n. note_line (letters_of n)) c.args.notes.now c.loop-note.note-index c.note-item.result (omega arith) (sym c.note-item.is) c.loop-note.invariant c.in_ok-put_note.ensures

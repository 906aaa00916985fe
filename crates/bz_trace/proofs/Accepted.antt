-- The trace of a run of hosts and workers in range is the text of a run.
use Rattle.std.proofs.Common.{ℕ, ◌≤◌, List, [], ◌++◌, length, refl, sym, ap, codes}
use Rattle.std.proofs.lemmas.List.{append-nil}
use Rattle.bz_model.specs.declared.event.Entry.{Entry}
use Rattle.bz_model.specs.Nets.{Wiring, State, opening}
use Rattle.bz_model.specs.Traces.{IsTrace, trace_text_1}
use Rattle.bz_net.proofs.Played.{IsBy}
use Rattle.bz_trace_text.specs.declared.text.TheConstants.{MAX_ENTRIES}
use Rattle.bz_trace_text.specs.declared.text.Version.TheVariants.{One, Two}
use Rattle.bz_trace_text.specs.Texts.{lines}
use Rattle.bz_trace.specs.Verdicts.{IsRunText}

pub accepted : (w : Wiring) (es : List Entry) (last : State) (text : List ℕ) → IsBy w (opening w) es last → length es ≤ MAX_ENTRIES → IsTrace w es text → IsRunText w text
accepted w es last text by few is = record {
  version = Two;
  entries = es;
  by = by.1;
  few = few;
  last = last;
  run = by.0;
  clashes = is.comps;
  due = is.clashed;
  text_is = is.text_is;
}

pub accepted_1 : (w : Wiring) (es : List Entry) (last : State) → IsBy w (opening w) es last → length es ≤ MAX_ENTRIES → IsRunText w (trace_text_1 w.ports es)
accepted_1 w es last by few = record {
  version = One;
  entries = es;
  by = by.1;
  few = few;
  last = last;
  run = by.0;
  clashes = [];
  due = refl;
  text_is = ap (λ s. codes "trace 1\n" ++ s) (sym (append-nil (lines w.ports es)));
}

-- What is found of a trace, as a line.
use Rattle.std.specs.Prelude.{◌≡◌, ◌≢◌, ℕ, Bool, true, false, List, [], ◌++◌, codes, decimal, Option, Result}
use Rattle.bz_trace_text.specs.declared.tally.Counts.{Counts}
use Rattle.bz_trace.specs.declared.checking.Verdict.{Verdict}
use Rattle.bz_trace.specs.declared.checking.Verdict.TheVariants as verdict
use Rattle.bz_cli_input.specs.declared.fault.Fault.{Fault}
use Rattle.bz_cli_input.specs.declared.fault.Fault.TheVariants.{Memory, Write}
use Rattle.bz_cli_input.specs.Answering.{Answers}
use Rattle.bz_cli_trace.specs.declared.finding.Finding.{Finding}

abbrev pub counts_text : Counts → List ℕ
counts_text counts = decimal counts.fired ++ (codes " fired, " ++ (decimal counts.host ++ (codes " host, " ++ (decimal counts.rests ++ codes " rest\n"))))

-- of a run that was to end at rest and doesn't, or of any
abbrev pub run_words_text : Bool → List ℕ
run_words_text true = codes "run, and not at rest: "
run_words_text false = codes "run: "

-- where no more was looked at, or where all was
abbrev pub line_end_text : Bool → List ℕ
line_end_text true = codes ", and the rest was not looked at\n"
line_end_text false = codes "\n"

abbrev pub found_text : Verdict → Counts → Bool → Bool → List ℕ
found_text verdict.Run counts early unrested = run_words_text unrested ++ counts_text counts
found_text (verdict.Not line) counts early unrested = codes "not a run: line " ++ (decimal line ++ line_end_text early)
found_text (verdict.Bad line) counts early unrested = codes "not a trace: line " ++ (decimal line ++ codes "\n")
found_text verdict.Memory counts early unrested = []

abbrev pub verdict_text : Finding → List ℕ
verdict_text found = found_text found.verdict found.counts found.early found.unrested

-- its text, behind what stands in front of it, where memory was not refused
abbrev pub SaysVerdict : List ℕ → Finding → List ℕ → Type 0
SaysVerdict front found text = (found.verdict ≢ verdict.Memory) × (text ≡ front ++ verdict_text found)

-- It goes out, or memory was refused.
abbrev pub TellsVerdict : {A : Type 0} → List ℕ → Finding → Option (List ℕ) → Option (List ℕ) → Result A Fault → Type 0
TellsVerdict front found old new answer = Answers Write (λ u text. SaysVerdict front found text) (λ fault. fault ≡ Memory) old new answer

-- What a fault of the command is: which it becomes of another one, and the exit status of a program that ends with it.
use Rattle.std.specs.Prelude.{ℕ}
use Rattle.bz_sexpr.specs.declared.error.SexprError.{SexprError}
use Rattle.bz_sexpr.specs.declared.error.SexprError.TheVariants as text
use Rattle.bz_breeze.specs.declared.error.BreezeError.{BreezeError}
use Rattle.bz_breeze.specs.declared.error.BreezeError.TheVariants as part
use Rattle.bz_words.specs.declared.words.SessionError.{SessionError}
use Rattle.bz_words.specs.declared.words.SessionError.TheVariants as session
use Rattle.bz_cli_input.specs.declared.fault.Fault.{Fault}
use Rattle.bz_cli_input.specs.declared.fault.Fault.TheVariants.{Word, Text, Part, Top, Net, Event, Ended, Discord, NoThread, Read, Write, Memory}
use Rattle.bz_cli_input.specs.declared.input.InputFault.{InputFault}
use Rattle.bz_cli_input.specs.declared.input.InputFault.TheVariants as input

abbrev pub status_of : Fault → ℕ
status_of (Text e) = 1
status_of (Part e) = 1
status_of (Net e part) = 1
status_of (Word at) = 2
status_of (Top names) = 2
status_of (Event e word) = 3
status_of (Ended e who) = 3
status_of (Discord who at) = 3
status_of NoThread = 3
status_of Read = 3
status_of Write = 3
status_of Memory = 3

-- A want of memory is the command's own, whichever layer met it.

abbrev pub of_input : InputFault → Fault
of_input input.Read = Read
of_input input.Memory = Memory

abbrev pub of_text : SexprError → Fault
of_text text.Memory = Memory
of_text e = Text e

abbrev pub of_part : BreezeError → Fault
of_part part.Memory = Memory
of_part e = Part e

abbrev pub of_words : SessionError → Fault
of_words (session.BadWord at) = Word at
of_words (session.Event e) = Event e 0
of_words session.Memory = Memory

-- What reading and writing answer, and what they leave.
-- Assumes nothing.
use Rattle.std.specs.Prelude.{◌≡◌, ℕ, ◌+◌, List, [], ◌∷◌, ◌++◌, length, take, drop, None, Ok, Err, Option, Result, nat_lt}
use Rattle.faults.specs.declared.fault.Fault.{Fault}
use Rattle.faults.specs.declared.refusal.Refusal.TheVariants.{BufferTooShort}
use Rattle.network.specs.Edits.{Edit, edit_refusal, edited}
use Rattle.network.specs.Net.{Net}
use Rattle.network.specs.Refusals.{answer, unless}
use Rattle.netfile.specs.Format.{file_of}
use Rattle.netfile.specs.Meaning.{meaning, refuse_at}

-- bare acceptance where a network was accepted
abbrev pub accepted : Result Net Fault → Result (Unit {0}) Fault
accepted (Ok net) = Ok tt
accepted (Err f) = Err f

-- the network that was accepted, or else the one from before
abbrev pub replaced : Result Net Fault → Net → Net
replaced (Ok new) old = new
replaced (Err f) old = old

abbrev pub read_answer : List ℕ → Result (Unit {0}) Fault
read_answer file = accepted (meaning file)

abbrev pub after_read : List ℕ → Net → Net
after_read file net = replaced (meaning file) net

-- the fault of a buffer of this length for the network's file, if there is one
abbrev pub buffer_fault : Net → ℕ → Option Fault
buffer_fault net room = refuse_at (nat_lt room (length (file_of net))) BufferTooShort 0 None

-- the file's length
abbrev pub write_answer : Net → ℕ → Result ℕ Fault
write_answer net room = answer (buffer_fault net room) (length (file_of net))

-- the buffer with these bytes in place of its own from this place on
abbrev pub overwritten : List ℕ → ℕ → List ℕ → List ℕ
overwritten out place bytes = take place out ++ (bytes ++ drop (place + length bytes) out)

-- the buffer with these bytes at its front, and behind them what it held there before
abbrev pub over : List ℕ → List ℕ → List ℕ
over bytes out = bytes ++ drop (length bytes) out

abbrev pub after_write : Net → List ℕ → List ℕ
after_write net out = unless (buffer_fault net (length out)) out (over (file_of net) out)

-- none of the edits is refused when its turn comes
abbrev pub AllAccepted : Net → List Edit → Type 0
AllAccepted net [] = Unit {0}
AllAccepted net (e ∷ es) = (edit_refusal net e ≡ None) × AllAccepted (edited net e) es

-- The steps of an exchange: a buffer is filled, the bytes of a reply are written.
use Rattle.std.specs.Prelude.{ℕ, ◌<◌, List, [], length, take, Option, Some, None, Result, Ok, Err}
use Rattle.std.specs.Int.{to_be_bytes, w32}
use Rattle.std.specs.Io.KnownBytes.{Consumes, Appends, IsAtEnd}
use Rattle.xa_output.specs.Output.{AppendsPart}
use Rattle.xa_desk.specs.declared.connection.Filled.{Filled}
use Rattle.xa_desk.specs.declared.connection.Filled.TheVariants as filled
use Rattle.xa_desk.specs.declared.served.Served.{Served}
use Rattle.xa_desk.specs.declared.served.Served.TheVariants.{Ended, ReadFault, WriteFault, Memory}

-- the end that a step came to, or None if it goes on
abbrev pub end_of : {X : Type 0} → Result X Served → Option Served
end_of (Ok x) = None
end_of (Err end) = Some end

-- a buffer is full, or has this many bytes when the input ended or a read failed
abbrev pub Fills : Filled → Option (List ℕ) → Option (List ℕ) → List ℕ → Type 0
Fills filled.Whole input input' buffer = Consumes input input' buffer
Fills (filled.Ended n) input input' buffer =
    (n < length buffer) × Consumes input input' (take n buffer) × IsAtEnd input'
Fills (filled.Fault n) input input' buffer = (n < length buffer) × Consumes input input' (take n buffer)

-- the length of a frame was read; or the input ended before it, or it is cut
abbrev pub ReadsLength : Result ℕ Served → Option (List ℕ) → Option (List ℕ) → Type 0
ReadsLength (Ok n) input input' = Consumes input input' (to_be_bytes w32 n)
ReadsLength (Err Ended) input input' = Consumes input input' [] × IsAtEnd input'
ReadsLength (Err ReadFault) input input' = (part : List ℕ) × (length part < 4) × Consumes input input' part
ReadsLength (Err end) input input' = ⊥

-- a content of this many bytes was not read: there was no memory, or it is cut
abbrev pub Lacks : Served → ℕ → Option (List ℕ) → Option (List ℕ) → Type 0
Lacks Memory count input input' = Consumes input input' []
Lacks ReadFault count input input' = (part : List ℕ) × (length part < count) × Consumes input input' part
Lacks _ count input input' = ⊥

-- all of a reply's bytes were written, or a part, or there was no memory for them
abbrev pub Sends : {X : Type 0} → Result X Served → List ℕ → Option (List ℕ) → Option (List ℕ) → Type 0
Sends (Ok x) bytes output output' = Appends output output' bytes
Sends (Err WriteFault) bytes output output' = AppendsPart bytes output output'
Sends (Err Memory) bytes output output' = Appends output output' []
Sends (Err end) bytes output output' = ⊥

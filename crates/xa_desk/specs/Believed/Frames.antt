-- Frames, and what is replied without memory.
use Rattle.std.specs.Prelude.{ℕ, List, ◌++◌, length}
use Rattle.std.specs.Int.{to_be_bytes, w32}
use Rattle.xa_codes.specs.declared.codes.TheConstants.{XAER_RMFAIL}
use Rattle.xa_codes.specs.declared.detail.Detail.TheVariants as detail
use Rattle.xa_frame.specs.declared.reply.Reply.{Reply}
use Rattle.xa_frame.specs.Made.{detailed}
use Rattle.xa_frame.specs.Spelling.{bytes_of_reply}

-- a content, after its length in four bytes
abbrev pub frame : List ℕ → List ℕ
frame content = to_be_bytes w32 (length content) ++ content

abbrev pub reply_frame : Reply → List ℕ
reply_frame r = frame (bytes_of_reply r)

-- XAER_RMFAIL: decoding found no memory
abbrev pub without_memory : Reply
without_memory = detailed XAER_RMFAIL detail.Memory

-- What one connection did.
use Rattle.std.specs.Prelude.{◌≡◌, ◌≢◌, ◌⊎◌, ℕ, ◌<◌, ◌≤◌, ◌^◌, List, [], ◌∷◌, ◌++◌, length, All, Option, Some, None}
use Rattle.std.specs.List.{flat_map}
use Rattle.std.specs.Int.{to_be_bytes, w32}
use Rattle.std.specs.Io.KnownBytes.{Consumes, Appends, IsAtEnd}
use Rattle.xa_frame.specs.declared.fault.FrameFault.{FrameFault}
use Rattle.xa_frame.specs.declared.fault.FrameFault.TheVariants as faults
use Rattle.xa_frame.specs.declared.question.Question.{Question}
use Rattle.xa_frame.specs.declared.question.Question.TheVariants.{Call, Status as AsksStatus}
use Rattle.xa_frame.specs.declared.request.Request.{Request}
use Rattle.xa_frame.specs.declared.reply.Reply.{Reply}
use Rattle.xa_frame.specs.declared.status.Status.{Status}
use Rattle.xa_limits.specs.declared.TheConstants.{MOST_CONTENT}
use Rattle.xa_frame.specs.Made.{bad_frame, doing}
use Rattle.xa_frame.specs.Questions.{status_content, fault_of_question}
use Rattle.xa_frame.specs.Spelling.{SpellsRequest}
use Rattle.xa_output.specs.Output.{IsPart}
use Rattle.xa_desk.specs.declared.served.Served.{Served}
use Rattle.xa_desk.specs.declared.served.Served.TheVariants.{Ended, ReadFault, WriteFault, TooLong, Memory}
use Rattle.xa_desk.specs.Believed.Frames.{frame, reply_frame, without_memory}

-- the door answered the request that the content spells
abbrev pub Called : {D : Type 0} → (D → Question → Reply → D → Type 0) → D → List ℕ → Reply → D → Type 0
Called called d content reply e = (q : Request) × SpellsRequest content q × called d (Call q) reply e

-- the content has a fault, and reached no door
abbrev pub Faulty : {D : Type 0} → D → List ℕ → Reply → D → Type 0
Faulty d content reply e =
    (f : FrameFault) × (f ≢ faults.Memory) × (fault_of_question content ≡ Some f) × (e ≡ d) × (reply ≡ bad_frame)

-- the content has no fault, but decoding found no memory, and no door was reached
abbrev pub Wanted : {D : Type 0} → D → List ℕ → Reply → D → Type 0
Wanted d content reply e = (fault_of_question content ≡ None) × (e ≡ d) × (reply ≡ without_memory)

-- the content asks for the status: the door told it, and stayed as it was
abbrev pub Told : {D : Type 0} → (D → Question → Reply → D → Type 0) → D → List ℕ → Reply → D → Type 0
Told called d content reply e =
    (s : Status) × (content ≡ status_content) × (e ≡ d) × (reply ≡ doing s) × called d AsksStatus (doing s) d

-- one content and its reply
abbrev pub Answers : {D : Type 0} → (D → Question → Reply → D → Type 0) → D → List ℕ → Reply → D → Type 0
Answers called d content reply e =
    Called called d content reply e ⊎ (Faulty d content reply e ⊎ (Wanted d content reply e ⊎ Told called d content reply e))

-- contents and their replies, in order
abbrev pub AnswersAll : {D : Type 0} → (D → Question → Reply → D → Type 0) → D → List (List ℕ) → List Reply → D → Type 0
AnswersAll called d [] [] e = d ≡ e
AnswersAll called d [] (r ∷ rs) e = ⊥
AnswersAll called d (c ∷ cs) [] e = ⊥
AnswersAll {D} called d (c ∷ cs) (r ∷ rs) e = (m : D) × Answers called d c r m × AnswersAll called m cs rs e

abbrev pub IsShort : List ℕ → Type 0
IsShort content = length content ≤ MOST_CONTENT

-- a frame's length alone, a length that is too great for a frame, and a frame that is cut
abbrev pub IsLength : List ℕ → Type 0
IsLength bytes = (n : ℕ) × (n ≤ MOST_CONTENT) × (bytes ≡ to_be_bytes w32 n)

abbrev pub IsTooLong : List ℕ → Type 0
IsTooLong bytes = (n : ℕ) × (MOST_CONTENT < n) × (n < 2 ^ 32) × (bytes ≡ to_be_bytes w32 n)

abbrev pub IsCut : List ℕ → Type 0
IsCut bytes =
    (length bytes < 4)
    ⊎ ((n : ℕ) × (part : List ℕ) × (n ≤ MOST_CONTENT) × (length part < n) × (bytes ≡ to_be_bytes w32 n ++ part))

abbrev pub frames_of : List Reply → List ℕ
frames_of replies = flat_map reply_frame replies

-- the replies that are owed: one to each content, and one to a length that is too great
abbrev pub Owes : List Reply → List ℕ → List Reply → Type 0
Owes replies read owed = ((read ≡ []) × (owed ≡ replies)) ⊎ (IsTooLong read × (owed ≡ replies ++ bad_frame ∷ []))

-- By the end, or None if it goes on: what was read after the whole frames, and what was written.
abbrev pub Ends : Option Served → List Reply → List ℕ → List ℕ → Type 0
Ends None replies read written = (read ≡ []) × (written ≡ frames_of replies)
Ends (Some Ended) replies read written = (read ≡ []) × (written ≡ frames_of replies)
Ends (Some ReadFault) replies read written = IsCut read × (written ≡ frames_of replies)
Ends (Some TooLong) replies read written = IsTooLong read × (written ≡ frames_of (replies ++ bad_frame ∷ []))
-- one reply is not written, or in part
Ends (Some WriteFault) replies read written =
    (sent : List Reply) × (reply : Reply) × (part : List ℕ)
    × Owes replies read (sent ++ reply ∷ []) × IsPart part (reply_frame reply) × (written ≡ frames_of sent ++ part)
-- a content is not read, or one reply is not written
Ends (Some Memory) replies read written =
    (sent : List Reply) × (written ≡ frames_of sent)
    × ((IsLength read × (sent ≡ replies)) ⊎ ((reply : Reply) × Owes replies read (sent ++ reply ∷ [])))

-- a conversation so far: its whole frames, no more than `most`, with their replies, what was read after them, and all
-- that was written
pub record Talks {D : Type 0} (called : D → Question → Reply → D → Type 0) (most : ℕ) (end : Option Served)
    (input input' output output' : Option (List ℕ)) (d e : D) : Type 0 where
  pub contents : List (List ℕ)
  pub replies : List Reply
  pub read : List ℕ
  pub written : List ℕ
  pub short : All IsShort contents
  pub few : length contents ≤ most
  pub consumed : Consumes input input' (flat_map frame contents ++ read)
  pub answered : AnswersAll called d contents replies e
  pub appended : Appends output output' written
  pub ends : Ends end replies read written
  -- after as many frames as it may have, nothing more is read, nor is the input's end seen
  pub beyond : (read ≡ []) ⊎ (length contents < most)
  pub at_end : end ≡ Some Ended → IsAtEnd input' × (length contents < most)

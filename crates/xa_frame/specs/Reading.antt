-- Reading a content from left to right. A field is a value and the bytes after it.
use Rattle.std.specs.Prelude.{ℕ, ℤ, zero, suc, List, [], ◌∷◌, length, Option, Some, None, Result, Ok, Err, nat_lt, ◌==◌, if◌then◌else◌}
use Rattle.std.specs.Int.{Width, w16, w32, w64, cast_signed}
use Rattle.std.specs.Option.{ok_or}
use Rattle.xa_bytes.specs.Numbers as numbers
use Rattle.xa_codes.specs.declared.call.Call.{Call}
use Rattle.xa_codes.specs.declared.call.Call.TheVariants as call
use Rattle.xa_codes.specs.declared.detail.Detail.{Detail}
use Rattle.xa_codes.specs.declared.direction.Direction.{Direction}
use Rattle.xa_xid.specs.Triple.{Triple}
use Rattle.xa_fields.specs.Reading as fields
use Rattle.xa_fields.specs.Reading.{◌>>=◌}
use Rattle.xa_frame.specs.declared.request.Request.{Request}
use Rattle.xa_frame.specs.declared.request.Request.TheVariants as request
use Rattle.xa_frame.specs.declared.known_branch.AssociationCounts.{AssociationCounts}
use Rattle.xa_frame.specs.declared.known_branch.BranchState.{BranchState}
use Rattle.xa_frame.specs.declared.known_branch.KnownBranch.{KnownBranch}
use Rattle.xa_frame.specs.declared.body.Body.{Body}
use Rattle.xa_frame.specs.declared.body.Body.TheVariants as body
use Rattle.xa_frame.specs.declared.reply.Reply.{Reply}
use Rattle.xa_frame.specs.declared.status.Status.{Status}
use Rattle.xa_frame.specs.declared.fault.FrameFault.{FrameFault}
use Rattle.xa_frame.specs.declared.fault.FrameFault.TheVariants.{Short, Long, Version, Operation, Field, Trailing}
use Rattle.xa_limits.specs.declared.TheConstants.{MOST_CONTENT, MOST_XIDS}
use Rattle.xa_frame.specs.Fields.{of_field}
use Rattle.xa_frame.specs.Spelling.{numbered, detail_numbered, state_numbered}

abbrev pub Reads : Type 0 → Type 0
Reads A = List ℕ → Result (A × List ℕ) FrameFault

-- what stands after a field, and the field's value
abbrev pub rest_of : {A : Type 0} → Result (A × List ℕ) FrameFault → Result (List ℕ) FrameFault
rest_of (Ok x) = Ok x.1
rest_of (Err e) = Err e

abbrev pub value_of_first : {A : Type 0} → Result (A × List ℕ) FrameFault → Result A FrameFault
value_of_first (Ok x) = Ok x.0
value_of_first (Err e) = Err e

-- nothing is left
abbrev pub ended : {A : Type 0} → A → List ℕ → Result A FrameFault
ended x bytes = if length bytes == 0 then Ok x else Err Trailing

-- one field and nothing after it, and two
abbrev pub one_of : {A : Type 0} → Reads A → List ℕ → Result A FrameFault
one_of f bytes = do
  x ← f bytes
  ended x.0 x.1

abbrev pub two_of : {A B : Type 0} → Reads A → Reads B → List ℕ → Result (A × B) FrameFault
two_of f g bytes = do
  x ← f bytes
  y ← g x.1
  ended (x.0, y.0) y.1

unfoldable pub number_at : Width → Reads ℕ
number_at w bytes = ok_or (numbers.number_at w bytes) Short

abbrev pub info_at : Reads (List ℕ)
info_at bytes = of_field (fields.short_at bytes)

abbrev pub key_at : Reads (List ℕ)
key_at bytes = of_field (fields.key_at bytes)

abbrev pub value_at : Reads (List ℕ)
value_at bytes = of_field (fields.value_at bytes)

abbrev pub direction_at : Reads Direction
direction_at bytes = of_field (fields.direction_at bytes)

abbrev pub name_at : Reads Triple
name_at bytes = of_field (fields.name_at bytes)

-- one field, and another
abbrev pub both_at : {A B : Type 0} → Reads A → Reads B → Reads (A × B)
both_at f g bytes = do
  x ← f bytes
  y ← g x.1
  Ok ((x.0, y.0), y.1)

-- a field, as what is made of it
abbrev pub field_as : {A B : Type 0} → (A → B) → Reads A → Reads B
field_as make f bytes = do
  x ← f bytes
  Ok (make x.0, x.1)

-- this many of them
unfoldable pub each_at : {A : Type 0} → Reads A → ℕ → Reads (List A)
each_at f zero bytes = Ok ([], bytes)
each_at f (suc n) bytes = do
  first ← f bytes
  others ← each_at f n first.1
  Ok (first.0 ∷ others.0, others.1)

-- at most MOST_XIDS of them, after how many they are
unfoldable pub counted_at : {A : Type 0} → Reads A → Reads (List A)
counted_at f bytes = do
  n ← number_at w16 bytes
  if nat_lt MOST_XIDS n.0 then Err Field else each_at f n.0 n.1

-- an XID, or none
unfoldable pub cursor_at : Reads (Option Triple)
cursor_at [] = Err Short
cursor_at (b ∷ rest) =
    if b == 0 then Ok (None, rest) else if b == 1 then field_as (λ xid. Some xid) name_at rest else Err Field

abbrev pub made : {A B : Type 0} → (A → B) → Result A FrameFault → Result B FrameFault
made f (Ok x) = Ok (f x)
made f (Err e) = Err e

-- the call on a branch with these flags
abbrev pub branch_request : Call → ℕ → Triple → Request
branch_request call.Start flags xid = request.Start flags xid
branch_request call.End flags xid = request.End flags xid
branch_request call.Prepare flags xid = request.Prepare flags xid
branch_request call.Commit flags xid = request.Commit flags xid
branch_request call.Rollback flags xid = request.Rollback flags xid
branch_request _ flags xid = request.Forget flags xid

-- the request of this call whose fields are all of the bytes
unfoldable pub fields_at : Call → List ℕ → Result Request FrameFault
fields_at call.Open bytes = made (λ x. request.Open x.0 x.1) (two_of (number_at w32) info_at bytes)
fields_at call.Close bytes = made (λ x. request.Close x) (one_of (number_at w32) bytes)
fields_at call.Start bytes = made (λ x. request.Start x.0 x.1) (two_of (number_at w32) name_at bytes)
fields_at call.End bytes = made (λ x. request.End x.0 x.1) (two_of (number_at w32) name_at bytes)
fields_at call.Prepare bytes = made (λ x. request.Prepare x.0 x.1) (two_of (number_at w32) name_at bytes)
fields_at call.Commit bytes = made (λ x. request.Commit x.0 x.1) (two_of (number_at w32) name_at bytes)
fields_at call.Rollback bytes = made (λ x. request.Rollback x.0 x.1) (two_of (number_at w32) name_at bytes)
fields_at call.Recover bytes = made (λ x. request.Recover x.0 x.1) (two_of (number_at w32) (number_at w32) bytes)
fields_at call.Forget bytes = made (λ x. request.Forget x.0 x.1) (two_of (number_at w32) name_at bytes)
fields_at call.Get bytes = made (λ x. request.Get x) (one_of key_at bytes)
fields_at call.Put bytes = made (λ x. request.Put x.0 x.1) (two_of key_at value_at bytes)
fields_at call.Delete bytes = made (λ x. request.Delete x) (one_of key_at bytes)
fields_at call.Decide bytes = made (λ x. request.Decide x.0 x.1) (two_of direction_at name_at bytes)
fields_at call.Doom bytes = made (λ x. request.Doom x) (one_of name_at bytes)
fields_at call.Restart bytes = ended request.Restart bytes
fields_at call.Timeout bytes = made (λ x. request.Timeout x) (one_of (number_at w32) bytes)
fields_at call.Tick bytes = made (λ x. request.Tick x) (one_of (number_at w64) bytes)
fields_at call.Trim bytes = ended request.Trim bytes
fields_at call.Branches bytes = made (λ x. request.Branches x.0 x.1) (two_of (number_at w32) cursor_at bytes)

abbrev pub fields_of : Option Call → List ℕ → Result Request FrameFault
fields_of None bytes = Err Operation
fields_of (Some c) bytes = fields_at c bytes

unfoldable pub operation_at : List ℕ → Result Request FrameFault
operation_at [] = Err Short
operation_at (n ∷ bytes) = fields_of (numbered n) bytes

abbrev pub behind_version : List ℕ → Result (List ℕ) FrameFault
behind_version [] = Err Short
behind_version (version ∷ rest) = if version == 1 then Ok rest else Err Version

-- what stands after the version of a content that isn't too long
unfoldable pub versioned_at : List ℕ → Result (List ℕ) FrameFault
versioned_at bytes = if nat_lt MOST_CONTENT (length bytes) then Err Long else behind_version bytes

-- all of a request's content
unfoldable pub request_at : List ℕ → Result Request FrameFault
request_at bytes = do
  rest ← versioned_at bytes
  operation_at rest

unfoldable pub code_at : Reads ℤ
code_at bytes = do
  n ← number_at w32 bytes
  Ok (cast_signed w32 n.0, n.1)

-- what a byte stands for, if anything, and the bytes after it
abbrev pub standing_for : {A : Type 0} → Option A → List ℕ → Result (A × List ℕ) FrameFault
standing_for None bytes = Err Field
standing_for (Some x) bytes = Ok (x, bytes)

-- one byte, a number that stands for something
abbrev pub numbered_at : {A : Type 0} → (ℕ → Option A) → Reads A
numbered_at numbered [] = Err Short
numbered_at numbered (b ∷ rest) = standing_for (numbered b) rest

unfoldable pub detail_at : Reads Detail
detail_at = numbered_at detail_numbered

-- Known branches

unfoldable pub state_at : Reads BranchState
state_at = numbered_at state_numbered

abbrev pub counts_of : ℕ × (ℕ × ℕ) → AssociationCounts
counts_of x = record { active = x.0; suspended = x.1.0; loose = x.1.1 }

unfoldable pub counts_at : Reads AssociationCounts
counts_at = field_as counts_of (both_at (number_at w16) (both_at (number_at w16) (number_at w16)))

abbrev pub branch_of : Triple × (BranchState × (ℤ × (ℕ × AssociationCounts))) → KnownBranch
branch_of x = record {
  xid = x.0;
  state = x.1.0;
  mark = x.1.1.0;
  timestamp = x.1.1.1.0;
  associations = x.1.1.1.1;
}

unfoldable pub branch_at : Reads KnownBranch
branch_at = field_as branch_of (both_at name_at (both_at state_at (both_at code_at (both_at (number_at w64) counts_at))))

-- The status: ten numbers

abbrev pub ten : Type 0 → Type 0
ten A = A × (A × (A × (A × (A × (A × (A × (A × (A × A))))))))

abbrev pub status_of : ten ℕ → Status
status_of x = record {
  boot = x.0;
  end = x.1.0;
  bytes = x.1.1.0;
  branches = x.1.1.1.0;
  prepared = x.1.1.1.1.0;
  completed = x.1.1.1.1.1.0;
  sessions = x.1.1.1.1.1.1.0;
  versions = x.1.1.1.1.1.1.1.0;
  calls = x.1.1.1.1.1.1.1.1.0;
  seconds = x.1.1.1.1.1.1.1.1.1;
}

-- a number, and what is read after it
abbrev pub and_number : {A : Type 0} → Reads A → Reads (ℕ × A)
and_number f = both_at (number_at w64) f

unfoldable pub status_at : Reads Status
status_at =
    field_as status_of
    (and_number (and_number (and_number (and_number (and_number (and_number (and_number (and_number
    (and_number (number_at w64))))))))))

-- the body that is all of the bytes
unfoldable pub body_at : List ℕ → Result Body FrameFault
body_at [] = Err Short
body_at (kind ∷ rest) =
    if kind == 0 then ended body.Nothing rest
    else if kind == 1 then made (λ x. body.Number x) (one_of (number_at w64) rest)
    else if kind == 2 then made (λ x. body.Value x) (one_of value_at rest)
    else if kind == 3 then ended body.Absent rest
    else if kind == 4 then made (λ x. body.Xids x) (one_of (counted_at name_at) rest)
    else if kind == 5 then made (λ x. body.Branches x) (one_of (counted_at branch_at) rest)
    else if kind == 6 then made (λ x. body.Status x) (one_of status_at rest)
    else Err Field

unfoldable pub answer_at : List ℕ → Result Reply FrameFault
answer_at bytes = do
  code ← code_at bytes
  detail ← detail_at code.1
  place ← number_at w64 detail.1
  body ← body_at place.1
  Ok (record { code = code.0; detail = detail.0; place = place.0; body = body })

-- all of a reply's content
unfoldable pub reply_at : List ℕ → Result Reply FrameFault
reply_at bytes = do
  rest ← versioned_at bytes
  answer_at rest

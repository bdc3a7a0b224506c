-- The line that shows a reply.
use Rattle.std.specs.Prelude.{ℕ, ℤ, Bool, true, false, List, [], ◌∷◌, ◌++◌, codes, flat_map}
use Rattle.std.specs.Fmt.{decimal, signed_decimal}
use Rattle.xa_codes.specs.Names as names
use Rattle.xa_codes.specs.declared.detail.Detail.{Detail}
use Rattle.xa_codes.specs.declared.detail.Detail.TheVariants as detail
use Rattle.xa_frame.specs.declared.body.Body.{Body}
use Rattle.xa_frame.specs.declared.body.Body.TheVariants.{Nothing, Number, Value, Absent, Xids, Branches, Status as Doing}
use Rattle.xa_frame.specs.declared.known_branch.AssociationCounts.{AssociationCounts}
use Rattle.xa_frame.specs.declared.known_branch.BranchState.{BranchState}
use Rattle.xa_frame.specs.declared.known_branch.BranchState.TheVariants as state
use Rattle.xa_frame.specs.declared.known_branch.KnownBranch.{KnownBranch}
use Rattle.xa_frame.specs.declared.reply.Reply.{Reply}
use Rattle.xa_frame.specs.declared.status.Status.{Status}
use Rattle.xa_script.specs.declared.style.Style.{Style}
use Rattle.xa_script.specs.Texts.{quoted}
use Rattle.xa_xid.specs.Triple.{Triple}
use Rattle.xa_xid.specs.Spelling.{hex, text_of}

abbrev pub name_of : Detail → List ℕ
name_of detail.Nothing = codes "Nothing"
name_of detail.Memory = codes "Memory"
name_of detail.Device = codes "Device"
name_of detail.Busy = codes "Busy"
name_of detail.Late = codes "Late"
name_of detail.Limit = codes "Limit"
name_of detail.Frame = codes "Frame"
name_of detail.LogFull = codes "LogFull"
name_of detail.Access = codes "Access"

-- bytes in lower case hexadecimal; the empty value is a dash
abbrev pub value_text : List ℕ → List ℕ
value_text [] = codes "-"
value_text (byte ∷ bytes) = hex (byte ∷ bytes)

-- the texts of XIDs, each after a blank
abbrev pub xids_text : List Triple → List ℕ
xids_text xids = flat_map (λ xid. 32 ∷ text_of xid) xids

abbrev pub state_name : BranchState → List ℕ
state_name state.Working = codes "working"
state_name state.Prepared = codes "prepared"
state_name state.Committed = codes "committed"
state_name state.RolledBack = codes "rolledback"

abbrev pub counts_text : AssociationCounts → List ℕ
counts_text counts = (32 ∷ decimal counts.active) ++ (32 ∷ decimal counts.suspended) ++ (32 ∷ decimal counts.loose)

-- the XID's text, the state's name, the mark, the timestamp and the counts, each after a blank
abbrev pub branch_text : KnownBranch → List ℕ
branch_text b =
    (32 ∷ text_of b.xid) ++ (32 ∷ state_name b.state) ++ (32 ∷ signed_decimal b.mark) ++ (32 ∷ decimal b.timestamp)
    ++ counts_text b.associations

abbrev pub branches_text : List KnownBranch → List ℕ
branches_text branches = flat_map branch_text branches

-- a name and its number, each after a blank
abbrev pub named_text : List ℕ → ℕ → List ℕ
named_text name n = 32 ∷ name ++ 32 ∷ decimal n

abbrev pub status_text : Status → List ℕ
status_text s =
    named_text (codes "boot") s.boot ++ named_text (codes "end") s.end ++ named_text (codes "bytes") s.bytes
    ++ named_text (codes "branches") s.branches ++ named_text (codes "prepared") s.prepared
    ++ named_text (codes "completed") s.completed ++ named_text (codes "sessions") s.sessions
    ++ named_text (codes "versions") s.versions ++ named_text (codes "calls") s.calls
    ++ named_text (codes "seconds") s.seconds

abbrev pub body_text : Body → List ℕ
body_text Nothing = []
body_text (Number n) = codes " number " ++ decimal n
body_text (Value value) = codes " value " ++ value_text value
body_text Absent = codes " absent"
body_text (Xids xids) = codes " xids" ++ xids_text xids
body_text (Branches branches) = codes " branches" ++ branches_text branches
body_text (Doing status) = codes " status" ++ status_text status

-- the code, and after it C193's name of it where there are names
abbrev pub code_text : Bool → ℤ → List ℕ
code_text false code = signed_decimal code
code_text true code = signed_decimal code ++ 32 ∷ names.name_of code

-- the body, with a value as text in quotes where there are texts
abbrev pub body_in : Bool → Body → List ℕ
body_in true (Value value) = codes " value " ++ quoted value
body_in _ body = body_text body

-- the code's text, a blank, the detail's name, the body and the line's end
abbrev pub line_in : Style → Reply → List ℕ
line_in style reply =
    code_text style.has_names reply.code ++ (32 ∷ name_of reply.detail) ++ body_in style.has_texts reply.body ++ 10 ∷ []

-- the same with the code's number alone, and a value in hexadecimal
abbrev pub line_of : Reply → List ℕ
line_of reply = signed_decimal reply.code ++ (32 ∷ name_of reply.detail) ++ body_text reply.body ++ 10 ∷ []
